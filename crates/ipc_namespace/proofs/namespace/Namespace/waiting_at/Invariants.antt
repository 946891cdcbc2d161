use Rattle.std.proofs.Common.{◌≡◌, ◌≤◌}
use Rattle.std.specs.Prelude.{take}
use Rattle.std.specs.List.{count_by}
use Rattle.ipc_model.specs.State.{process_at}
use Rattle.ipc_model.specs.Decide.{waits_for}
use Rattle.ipc_namespace.specs.Namespace.{is_awaited}
use Rattle.ipc_namespace.proofs.namespace.Namespace.waiting_at.Given as goal

-- nothing has changed, and the calls before this one are counted
abbrev pub invariant-loop-index : goal.invariant-loop-index
invariant-loop-index l = record {
  same : l.self ≡ l.initial.self;
  count : l.count ≡ count_by (λ w. waits_for l.initial.self.sems l.id (is_awaited l.awaited l.num) (process_at l.initial.self w.client) w.call) (take l.index l.initial.self.parked);
  few : l.count ≤ l.index;
}
