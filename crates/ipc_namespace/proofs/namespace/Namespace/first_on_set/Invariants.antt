use Rattle.std.proofs.Common.{◌≡◌}
use Rattle.std.specs.Prelude.{drop, filter}
use Rattle.std.specs.List.{find}
use Rattle.ipc_model.specs.Step.{is_ready}
use Rattle.ipc_namespace.proofs.Owing.{on}
use Rattle.ipc_namespace.proofs.namespace.Namespace.first_on_set.Given as goal

-- nothing has changed, and no call on the set before this one is ready
abbrev pub invariant-loop-index : goal.invariant-loop-index
invariant-loop-index l = record {
  same : l.self ≡ l.initial.self;
  first : find (is_ready l.initial.self) (filter (on l.id) l.initial.self.parked) ≡ find (is_ready l.initial.self) (drop l.index (filter (on l.id) l.initial.self.parked));
}
