use Rattle.std.proofs.Common.{◌≡◌, ◌∙◌, ap, set, List, subst, sym}
use Rattle.std.specs.Prelude.{map}
use Rattle.ipc_model.specs.State.{Thread, has_pid}
use Rattle.ipc_model.specs.Processes.{ends}
use Rattle.ipc_model.specs.Tidy.{AreNumbered, IsLive, thread_in}
use Rattle.ipc_model.proofs.Threads.{numbered-alone}
use Rattle.process_table.specs.Index.{HaveOnePid, as_ended, changed_if}
use Rattle.process_table.specs.Table.{Table}
use Rattle.process_table.proofs.Numbering.{ends-all, one-alone}
use Rattle.process_table.proofs.table.ProcessTable.end_others.Goals as goal
use Rattle.process_table.proofs.table.ProcessTable.end_others.Goals.{After-put}

live : (c : After-put) → IsLive c.self.inside.threads c.args.client
live c = ap (λ (t : Table). (thread_in t.threads c.args.client).has_ended) c.self.view_is ∙ c.requires.live

left : (c : After-put)
    → c.put.new.self ≡ set (map (ends (thread_in c.self.inside.threads c.args.client).process) c.self.inside.threads) c.args.client (thread_in c.self.inside.threads c.args.client)
left c =
    let ts = c.self.inside.threads in
    let client = c.args.client in
    let own = thread_in ts client in
    c.put.ensures
    ∙ ap (λ (t : Thread). set c.end_all.new.self client t) c.get-thread.ensures
    ∙ ap (λ (us : List Thread). set us client own) (c.end_all.ensures ∙ ap (λ (t : Thread). map (changed_if (has_pid t.pid) as_ended) ts) c.get-thread.ensures
    ∙ ends-all ts c.self.inside.next client c.self.invariant.0 c.self.invariant.1 (live c))

pub invariant_of-self : goal.invariant_of-self
invariant_of-self c =
    let before = (goal.at.invariant_of-self c).After-put in
    let ts = c.self.inside.threads in (
      subst (λ (us : List Thread). AreNumbered us c.self.inside.next) (sym (left before)) (numbered-alone ts c.args.client (live before) c.self.inside.next c.self.invariant.0),
      subst (λ (us : List Thread). HaveOnePid us) (sym (left before)) (one-alone ts c.args.client (live before) c.self.invariant.1),
    )

pub returns : goal.returns
returns c =
    let before = (goal.at.returns c).After-put in
    ap (λ (us : List Thread). record { threads = us; next = c.self.inside.next }) (left before)
    ∙ ap (λ (t : Table). record { threads = set (map (ends (thread_in t.threads c.args.client).process) t.threads) c.args.client (thread_in t.threads c.args.client); next = t.next }) c.self.view_is
