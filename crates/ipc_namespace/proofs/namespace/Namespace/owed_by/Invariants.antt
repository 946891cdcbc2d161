use Rattle.std.proofs.Common.{◌<◌, ◌^◌}
use Rattle.std.specs.Prelude.{IfSome}
use Rattle.std.specs.List.{AllByRecursion}
use Rattle.ipc_parked.specs.Touched.{is_touched}
use Rattle.ipc_namespace.proofs.Earliest.{left}
use Rattle.ipc_namespace.proofs.Owing.{Kept}
use Rattle.ipc_namespace.proofs.namespace.Namespace.owed_by.Given as goal

-- what the sets before the next one touch
abbrev pub invariant-loop-next : goal.invariant-loop-next
invariant-loop-next l = record {
  kept : AllByRecursion (λ w. Kept l.self l.process l.next (is_touched l.touched) w) l.self.parked;
  fits : IfSome l.next (λ next. next < 2 ^ 32);
}

abbrev pub decreases-loop-next : goal.decreases-loop-next
decreases-loop-next l = left 4294967296 l.next
