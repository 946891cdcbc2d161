use Rattle.std.proofs.Common.{◌∙◌, ap, List, sym}
use Rattle.std.specs.List.{list_any}
use Rattle.ipc_model.specs.State.{Thread, has_pid, runs}
use Rattle.ipc_model.specs.Tidy.{thread_in}
use Rattle.process_table.specs.Table.{Table}
use Rattle.process_table.proofs.Numbering.{runs-alike}
use Rattle.process_table.proofs.table.ProcessTable.end.Goals as goal

pub returns-clause-runs : goal.returns-clause-runs
returns-clause-runs c =
    let ts = c.self.inside.threads in
    let client = c.args.client in
    let live = ap (λ (t : Table). (thread_in t.threads client).has_ended) c.self.view_is ∙ c.requires.live in
    c.is_process.ensures
    ∙ ap (λ (t : Thread). list_any (has_pid t.pid) c.end.new.self) c.get-pid.ensures
    ∙ ap (λ (us : List Thread). list_any (has_pid (thread_in ts client).pid) us) c.end.ensures
    ∙ runs-alike ts c.self.inside.next client c.self.invariant.0 c.self.invariant.1 live
    ∙ ap (λ (us : List Thread). list_any (runs (thread_in ts client).process) us) (sym c.end.ensures)
    ∙ ap (λ (t : Table). list_any (runs (thread_in t.threads client).process) c.end.new.self) c.self.view_is
