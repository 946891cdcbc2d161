use Rattle.std.proofs.Common.{◌<◌, ◌≤◌, ◌^◌, length}
use Rattle.std.specs.Prelude.{IfSome}
use Rattle.std.specs.List.{AllByRecursion}
use Rattle.sem_undo.specs.Entries.{HasEntry}
use Rattle.ipc_namespace.specs.Touching.{IsOwedTo, is_listed}
use Rattle.ipc_namespace.proofs.Earliest.{left}
use Rattle.ipc_namespace.proofs.OnSets.{on_before, tally}
use Rattle.ipc_namespace.proofs.Owing.{Kept}
use Rattle.ipc_namespace.proofs.namespace.Namespace.list_owed.Given as goal

-- the sets before the next one are listed on which calls wait, and no others: so there are no more than calls on them
abbrev pub invariant-loop-next : goal.invariant-loop-next
invariant-loop-next l = record {
  kept : AllByRecursion (λ w. Kept l.self l.process l.next (is_listed l.owed) w) l.self.parked;
  only : AllByRecursion (λ id. IsOwedTo l.self l.process id) l.owed;
  few : length l.owed ≤ tally (on_before l.next) l.self.parked;
  there : IfSome l.next (λ next. HasEntry l.self.sems.undo l.process next);
  fits : IfSome l.next (λ next. next < 2 ^ 32);
}

abbrev pub decreases-loop-next : goal.decreases-loop-next
decreases-loop-next l = left 4294967296 l.next
