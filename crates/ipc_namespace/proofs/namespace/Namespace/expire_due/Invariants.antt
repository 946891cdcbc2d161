use Rattle.std.proofs.Common.{◌≡◌, ◌+◌, ◌≤◌, ◌++◌, length, vec_len, vec_capacity}
use Rattle.ipc_model.specs.Step.{expired}
use Rattle.ipc_namespace.specs.Namespace.{ended_as, kept_by}
use Rattle.ipc_namespace.proofs.namespace.Namespace.expire_due.Given as goal

-- what is left to end completes what has ended
abbrev pub invariant-loop-client : goal.invariant-loop-client
invariant-loop-client l =
    let rule = expired l.initial.self in
    record {
      rest : l.self ≡ record l.initial.self { parked = l.self.parked };
      left : kept_by rule l.initial.self.parked ≡ kept_by rule l.self.parked;
      ended : l.initial.ended.items ++ ended_as rule l.initial.self.parked ≡ l.ended.items ++ ended_as rule l.self.parked;
      few : vec_len l.ended + length l.self.parked ≡ vec_len l.initial.ended + length l.initial.self.parked;
      space : vec_capacity l.initial.ended ≤ vec_capacity l.ended;
    }

abbrev pub decreases-loop-client : goal.decreases-loop-client
decreases-loop-client l = length l.self.parked
