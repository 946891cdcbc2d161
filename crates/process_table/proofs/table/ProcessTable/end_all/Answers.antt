use Rattle.std.proofs.Common.{◌≡◌, ◌∙◌, ap, List, subst, sym}
use Rattle.std.specs.Prelude.{map}
use Rattle.ipc_model.specs.State.{Thread, has_pid}
use Rattle.ipc_model.specs.Processes.{ends}
use Rattle.ipc_model.specs.Tidy.{AreNumbered, thread_in}
use Rattle.ipc_model.proofs.Threads.{numbered-ended}
use Rattle.process_table.specs.Index.{HaveOnePid, as_ended, changed_if}
use Rattle.process_table.specs.Table.{Table}
use Rattle.process_table.proofs.Numbering.{ends-all, one-ended}
use Rattle.process_table.proofs.table.ProcessTable.end_all.Goals as goal
use Rattle.process_table.proofs.table.ProcessTable.end_all.Goals.{After-end_all}

left : (c : After-end_all) → c.end_all.new.self ≡ map (ends (thread_in c.self.inside.threads c.args.client).process) c.self.inside.threads
left c =
    let ts = c.self.inside.threads in
    let live = ap (λ (t : Table). (thread_in t.threads c.args.client).has_ended) c.self.view_is ∙ c.requires.live in
    c.end_all.ensures
    ∙ ap (λ (t : Thread). map (changed_if (has_pid t.pid) as_ended) ts) c.get-pid.ensures
    ∙ ends-all ts c.self.inside.next c.args.client c.self.invariant.0 c.self.invariant.1 live

pub invariant_of-self : goal.invariant_of-self
invariant_of-self c =
    let before = (goal.at.invariant_of-self c).After-end_all in
    let ts = c.self.inside.threads in
    let process = (thread_in ts c.args.client).process in (
      subst (λ (us : List Thread). AreNumbered us c.self.inside.next) (sym (left before)) (numbered-ended ts process c.self.inside.next c.self.invariant.0),
      subst (λ (us : List Thread). HaveOnePid us) (sym (left before)) (one-ended ts process c.self.invariant.1),
    )

pub returns : goal.returns
returns c =
    let before = (goal.at.returns c).After-end_all in
    ap (λ (us : List Thread). record { threads = us; next = c.self.inside.next }) (left before)
    ∙ ap (λ (t : Table). record { threads = map (ends (thread_in t.threads c.args.client).process) t.threads; next = t.next }) c.self.view_is
