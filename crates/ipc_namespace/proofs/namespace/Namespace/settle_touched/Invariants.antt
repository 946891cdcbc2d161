use Rattle.std.proofs.Common.{◌≡◌, ◌+◌, ◌≤◌, ◌++◌, length, vec_len, vec_capacity}
use Rattle.ipc_model.specs.Step.{settled}
use Rattle.ipc_parked.specs.Touched.{is_touched}
use Rattle.ipc_namespace.specs.Namespace.{AreQuietBut}
use Rattle.ipc_namespace.proofs.namespace.Namespace.settle_touched.Given as goal

-- what is left to end completes what has ended, and waits on what was touched
abbrev pub invariant-loop-completion : goal.invariant-loop-completion
invariant-loop-completion l = record {
  state : (settled l.initial.self).state ≡ (settled l.self).state;
  ended : l.initial.ended.items ++ (settled l.initial.self).ended ≡ l.ended.items ++ (settled l.self).ended;
  quiet : AreQuietBut (is_touched l.touched) l.self;
  room : vec_len l.ended + length l.self.parked ≤ vec_capacity l.ended;
  few : vec_len l.ended + length l.self.parked ≤ vec_len l.initial.ended + length l.initial.self.parked;
  capacity : vec_capacity l.initial.ended ≤ vec_capacity l.ended;
}

abbrev pub decreases-loop-completion : goal.decreases-loop-completion
decreases-loop-completion l = length l.self.parked
