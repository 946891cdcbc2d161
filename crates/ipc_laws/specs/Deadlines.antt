-- An event in which a deadline that is reached makes a waiting call ready: what `step` would be if settling read the
-- deadlines of the calls that wait.
use Rattle.std.specs.Prelude.{ℕ, zero, suc, [], length, Option, Some, None}
use Rattle.std.specs.List.{find}
use Rattle.ipc_call.specs.declared.calls.Call.{Call}
use Rattle.ipc_call.specs.declared.replies.Waiting.{Waiting}
use Rattle.ipc_model.specs.State.{State}
use Rattle.ipc_model.specs.Decision.{Decision, outcome_of, proceeds}
use Rattle.ipc_model.specs.Decide.{decide, decide_call, is_reached, unless_late}
use Rattle.ipc_model.specs.Step.{Event, Moved, Stepped, after, and_then, at_time, begun, ended_by, expire, moved_by, stepped, without}

-- what is decided on a call that waits: it waits no longer where its deadline is reached
abbrev pub decide_waiting : State → Waiting → Decision State
decide_waiting s w = unless_late (is_reached s.clock w.deadline) (decide s w.client w.call)

abbrev pub first_due_or_ready : State → Option Waiting
first_due_or_ready s = find (λ w. proceeds (decide_waiting s w)) s.parked

abbrev pub end_due_or_ready : State → Waiting → Moved
end_due_or_ready s w = ended_by (without s w.client) w.client (decide_waiting (without s w.client) w)

abbrev pub settle_by_deadlines_from : (State → Moved) → State → Option Waiting → Moved
settle_by_deadlines_from go s None = record { state = s; ended = [] }
settle_by_deadlines_from go s (Some w) = and_then (end_due_or_ready s w) go

abbrev pub settle_by_deadlines : ℕ → State → Moved
settle_by_deadlines zero s = record { state = s; ended = [] }
settle_by_deadlines (suc turns) s = settle_by_deadlines_from (settle_by_deadlines turns) s (first_due_or_ready s)

abbrev pub settled_by_deadlines : State → Moved
settled_by_deadlines s = settle_by_deadlines (length s.parked) s

abbrev pub enter_by_deadlines : State → ℕ → Call → Stepped
enter_by_deadlines s client call = stepped (outcome_of (decide_call s client call)) (and_then (moved_by s client call) settled_by_deadlines)

abbrev pub step_by_deadlines : State → Event → Stepped
step_by_deadlines s e = after (expire (at_time s e.now)).ended (enter_by_deadlines (begun s e.now) e.client e.call)
