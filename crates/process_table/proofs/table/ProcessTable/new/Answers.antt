use Rattle.std.proofs.Common.{length, List, subst, sym}
use Rattle.ipc_model.specs.State.{Thread}
use Rattle.ipc_model.specs.Tidy.{AreNumbered}
use Rattle.process_table.specs.Index.{HaveOnePid}
use Rattle.process_table.proofs.Numbering.{numbered-first, one-first}
use Rattle.process_table.proofs.table.ProcessTable.new.Goals as goal

pub invariant_of-result : goal.invariant_of-result
invariant_of-result c = (
  subst (λ (ts : List Thread). AreNumbered ts (length c.args.clients.now)) (sym c.in_ok-new.ensures) (numbered-first c.args.clients.now),
  subst (λ (ts : List Thread). HaveOnePid ts) (sym c.in_ok-new.ensures) (one-first c.args.clients.now),
)
