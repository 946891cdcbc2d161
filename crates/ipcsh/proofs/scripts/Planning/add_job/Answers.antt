use Rattle.std.proofs.Common.{List, arith, length, ap, ◌<◌, ◌∙◌}
use Rattle.std.specs.Prelude.{string_bytes}
use Rattle.std.proofs.lemmas.List.{length-map}
use Rattle.ipc_commands.specs.declared.parts.Part.{Part}
use Rattle.ipcsh.specs.Scripts.{Planned, with_job}
use Rattle.ipcsh.proofs.ScriptLemmas.{job_added}
use Rattle.ipcsh.proofs.scripts.Planning.add_job.Goals as goal

pub returns-clause-value : goal.returns-clause-value
returns-clause-value c =
    let lists = c.self.inside.jobs.items in
    let alike = ap (λ (p : Planned). length p.jobs) c.self.view_is in
    let within : c.args.client < length lists = omega (arith, alike, c.requires.ready.lists, c.requires.client, length-map lists (λ own. own.items)) in
    job_added c.self.inside.session c.start.new.self lists c.index_mut.result.now c.push.new.self (string_bytes c.self.inside.rows) c.args.client c.time-now.result _ c.in_ok-start.ensures within c.index_mut.ensures.value c.time-now.ensures c.in_ok-push.ensures.items ∙ ap (λ (p : Planned). with_job p c.args.client c.in_ok-command.command) c.self.view_is ∙ ap (λ (parts : List Part). with_job c.args.self.now c.args.client parts) c.in_ok-command.ensures
