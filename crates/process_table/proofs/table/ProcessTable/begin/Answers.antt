use Rattle.std.proofs.Common.{◌≡◌, ◌+◌, ◌<◌, ◌∙◌, false, true, ap, arith, length, List, subst, sym}
use Rattle.std.specs.List.{list_any}
use Rattle.ipc_model.specs.State.{Thread, has_pid}
use Rattle.ipc_model.specs.Tidy.{AreNumbered, thread_in}
use Rattle.ipc_model.proofs.Threads.{all-at, no-pid, numbered-begun}
use Rattle.process_table.specs.Index.{HaveOnePid}
use Rattle.process_table.specs.Table.{Table}
use Rattle.process_table.proofs.Numbering.{one-put}
use Rattle.process_table.proofs.table.ProcessTable.begin.Goals as goal

pub invariant_of-self : goal.invariant_of-self
invariant_of-self c =
    let ts = c.self.inside.threads in
    let next = c.self.inside.next in
    let client = c.args.client in
    let pid = c.args.pid in
    let known : client < length ts = subst (λ (t : Table). client < length t.threads) (sym c.self.view_is) c.requires.known in
    let ended : (thread_in ts client).has_ended ≡ true = ap (λ (t : Table). (thread_in t.threads client).has_ended) c.self.view_is ∙ c.requires.ended in
    let unused : list_any (has_pid pid) ts ≡ false = ap (λ (t : Table). list_any (has_pid pid) t.threads) c.self.view_is ∙ c.requires.unused in
    let numbered = c.self.invariant.0 in (
      subst (λ (us : List Thread). AreNumbered us (next + 1)) (sym c.put.ensures)
          (numbered-begun ts client known ended next pid next (next + 1) (omega arith) (omega arith) c.requires.some
          (λ d live is. absurd (no-pid ts pid d unused live is)) numbered),
      subst (λ (us : List Thread). HaveOnePid us) (sym c.put.ensures)
          (one-put ts client (record { process = next; pid = pid; has_ended = false }) known c.self.invariant.1
          (λ d live is. absurd (let lt = all-at next ts d numbered.below live in omega (arith, lt, is)))),
    )
