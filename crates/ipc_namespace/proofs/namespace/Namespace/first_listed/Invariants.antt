use Rattle.std.proofs.Common.{◌≡◌, take}
use Rattle.std.specs.Prelude.{IfSome}
use Rattle.ipc_parked.specs.Parked.{AreApart}
use Rattle.ipc_namespace.specs.Touching.{first_on, is_listed}
use Rattle.ipc_namespace.proofs.namespace.Namespace.first_listed.Given as goal

-- nothing has changed, and the earliest on the sets before this one is known
abbrev pub invariant-loop-id : goal.invariant-loop-id
invariant-loop-id l = record {
  same : l.self ≡ l.initial.self;
  first : l.first ≡ first_on l.initial.self (is_listed (take l.id-index l.owed));
  apart : IfSome l.first (λ _. AreApart l.initial.self.parked);
}
