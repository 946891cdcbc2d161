use Rattle.std.proofs.Common.{◌≡◌}
use Rattle.std.specs.Prelude.{drop, filter}
use Rattle.std.specs.List.{find}
use Rattle.ipc_model.specs.Step.{first_ready, is_ready}
use Rattle.ipc_parked.specs.Touched.{is_touched}
use Rattle.ipc_namespace.proofs.namespace.Namespace.complete_first.Given as goal

-- nothing has changed, and no call before this one is ready
abbrev pub invariant-loop-index : goal.invariant-loop-index
invariant-loop-index l = record {
  same : l.self ≡ l.initial.self;
  first : first_ready l.initial.self ≡ find (is_ready l.initial.self) (drop l.index (filter (is_touched l.touched) l.initial.self.parked));
}
