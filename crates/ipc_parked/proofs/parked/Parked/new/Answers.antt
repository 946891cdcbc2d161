use Rattle.std.proofs.Common.{ap, List, ℕ}
use Rattle.ipc_call.specs.declared.calls.Kind.TheVariants as kinds
use Rattle.ipc_parked.specs.declared.arrivals.Stay.{Stay}
use Rattle.ipc_parked.specs.Arrivals.{entries}
use Rattle.ipc_parked.proofs.Dues.{dues_none}
use Rattle.ipc_parked.proofs.Line.{line_none}
use Rattle.ipc_parked.proofs.Objects.{index-none}
use Rattle.ipc_parked.proofs.parked.Parked.new.Goals as goal

pub invariant_of-result : goal.invariant_of-result
invariant_of-result c = (
  line_none _ _ c.new.ensures,
  dues_none _ _ c.new-2.ensures c.new.ensures,
  index-none kinds.Queue _ _ c.new-3.ensures (ap (λ (es : List (ℕ × Stay)). entries es) c.new.ensures),
  index-none kinds.Sems _ _ c.new-4.ensures (ap (λ (es : List (ℕ × Stay)). entries es) c.new.ensures),
)
