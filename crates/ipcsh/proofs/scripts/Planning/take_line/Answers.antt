use Rattle.std.proofs.Common.{◌+◌, map, ap, subst, sym, ◌∙◌}
use Rattle.std.specs.Prelude.{string_bytes}
use Rattle.std.proofs.lemmas.Result.{on_ok_weaker}
use Rattle.ipc_words.specs.LineText.{content_of}
use Rattle.ipcsh.specs.Scripts.{IsReady, Planned, planned_by}
use Rattle.ipcsh.specs.Session.{Session}
use Rattle.ipcsh.proofs.ScriptLemmas.{at_line, plan_at, planned_told, ready_counted, ready_told}
use Rattle.ipcsh.proofs.scripts.Planning.take_line.Goals as goal

pub returns-in-Command-clause-takes : goal.returns-in-Command-clause-takes
returns-in-Command-clause-takes g c =
    let jobs = map (λ own. own.items) c.self.inside.jobs.items in
    let rows = string_bytes c.self.inside.rows in
    let step = at_line _ c.self.inside.session c.count_line.new.self jobs rows (content_of c.args.line.now) c.in_ok-reading.reading c.self.view_is c.count_line.ensures.value c.in_ok-reading.ensures.value in
    on_ok_weaker c.add_job.result (λ e. e ∙ ap (planned_by (plan_at c.count_line.new.self jobs rows)) (sym c.in-Command.is) ∙ step) c.add_job.ensures.value

pub returns-in-Client-clause-takes : goal.returns-in-Client-clause-takes
returns-in-Client-clause-takes g c =
    let jobs = map (λ own. own.items) c.self.inside.jobs.items in
    let rows = string_bytes c.self.inside.rows in
    let step = at_line _ c.self.inside.session c.count_line.new.self jobs rows (content_of c.args.line.now) c.in_ok-reading.reading c.self.view_is c.count_line.ensures.value c.in_ok-reading.ensures.value in
    on_ok_weaker c.add_client.result (λ e. e ∙ ap (planned_by (plan_at c.count_line.new.self jobs rows)) (sym c.in-Client.is) ∙ step) c.add_client.ensures.value

pub returns-in_default : goal.returns-in_default
returns-in_default g c =
    let jobs = map (λ own. own.items) c.self.inside.jobs.items in
    let rows = string_bytes c.self.inside.rows in
    let p = plan_at c.count_line.new.self jobs rows in
    let step = at_line _ c.self.inside.session c.count_line.new.self jobs rows (content_of c.args.line.now) c.in_ok-reading.reading c.self.view_is c.count_line.ensures.value c.in_ok-reading.ensures.value in
    let ready = ready_counted _ c.self.inside.session c.count_line.new.self jobs rows c.self.view_is c.count_line.ensures.value c.requires.ready in
    record {
      takes = on_ok_weaker c.carry_out.result (λ does. planned_told p c.in_ok-reading.reading c.carry_out.new.self (string_bytes c.carry_out.new.rows) c.in_default.not-Client c.in_default.not-Command does ∙ step) c.carry_out.ensures.does;
      lines = on_ok_weaker c.carry_out.result (λ same. same ∙ ap (λ (s : Session). s.lines) c.count_line.ensures.value ∙ ap (λ (q : Planned). q.session.lines + 1) c.self.view_is) c.carry_out.ensures.lines;
      ready = on_ok_weaker c.carry_out.result (λ does. subst IsReady (sym (planned_told p c.in_ok-reading.reading c.carry_out.new.self (string_bytes c.carry_out.new.rows) c.in_default.not-Client c.in_default.not-Command does)) (ready_told p c.in_ok-reading.reading c.in_default.not-Client c.in_default.not-Command ready)) c.carry_out.ensures.does;
    }
