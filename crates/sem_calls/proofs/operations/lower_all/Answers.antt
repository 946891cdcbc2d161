use Rattle.std.proofs.Common.{◌<◌, ◌+◌, ap, drop, pos, subst, sym, true, ◌≡◌, ◌∙◌}
use Rattle.std.specs.List.{AllByRecursion}
use Rattle.std.proofs.lemmas.List.{drop_more}
use Rattle.ipc_call.specs.declared.calls.SemOper.{SemOper}
use Rattle.ipc_model.specs.Semaphores.{lowered}
use Rattle.sem_set.specs.Trials.{undoes}
use Rattle.sem_undo.specs.Entries.{Entries, Undone, row_len}
use Rattle.sem_calls.specs.Operations.{StayInRange}
use Rattle.sem_calls.proofs.Lowering.{lowered-next}
use Rattle.sem_calls.proofs.operations.lower_all.Goals as goal

pub loop-oper-preserved : goal.loop-oper-preserved
loop-oper-preserved c =
    let client = c.args.process in
    let id = c.args.id in
    let ops = c.args.ops.now in
    let i = c.loop-oper.oper-index in
    let first : SemOper = record { num = 0; op = pos 0; flags = 0 } in
    let next = drop_more ops i first c.loop-oper-test.true in
    let entries = ap (λ (u : Undone). u.entries) c.lower.ensures in
    record {
      rows = ap (λ (u : Undone). u.rows) c.lower.ensures ∙ c.loop-oper.invariant.rows;
      left = ap (λ (m : Entries). lowered m client id (drop (i + 1) ops)) entries ∙ lowered-next client id c.args.undo.now.entries c.loop-oper.undo.entries ops i _ next c.loop-oper.invariant.left;
      range = subst (λ (m : Entries). StayInRange m client id (drop (i + 1) ops)) (sym entries) (subst (StayInRange c.loop-oper.undo.entries client id) next c.loop-oper.invariant.range).1;
      row = (subst (AllByRecursion (λ o. undoes o ≡ true → o.num < row_len c.args.undo.now client id)) next c.loop-oper.invariant.row).1;
    }
