-- The waiting calls that the grant of a call touches.
use Rattle.std.specs.Prelude.{◌≡◌, ℕ, Bool, true, false}
use Rattle.ipc_call.specs.declared.calls.Call.{Call}
use Rattle.ipc_call.specs.declared.calls.Call.TheVariants.{Exit, Kill}
use Rattle.ipc_call.specs.declared.replies.Waiting.{Waiting}
use Rattle.ipc_model.specs.State.{State}
use Rattle.ipc_model.specs.Cancelled.{waits_on}
use Rattle.ipc_model.specs.Step.{is_ready}
use Rattle.ipc_model.specs.Touched.{touches_place}
use Rattle.ipc_parked.specs.declared.touched.Touched.{Touched}
use Rattle.ipc_parked.specs.declared.touched.Touched.TheVariants.{Nothing, Object}

abbrev pub is_touched : Touched → Waiting → Bool
is_touched Nothing w = false
is_touched (Object kind id) w = waits_on kind id w.call

-- whatever the state in which a client's call is granted: each call that waits on an object that it touches is among them
abbrev pub Covers : Call → Touched → Type 0
Covers call touched = (s : State) (client : ℕ) (w : Waiting) → is_ready s w ≡ false → touches_place s client call w ≡ true → is_touched touched w ≡ true

-- a call that may end a process
abbrev pub may_end : Call → Bool
may_end Exit = true
may_end (Kill pid) = true
may_end call = false
