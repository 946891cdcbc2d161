-- The sorts of answers, and which calls have answers of one sort alone.
use Rattle.std.specs.Prelude.{◌≡◌, Bool, true, false}
use Rattle.ipc_call.specs.declared.calls.Call.{Call}
use Rattle.ipc_call.specs.declared.replies.Answer.{Answer}
use Rattle.ipc_call.specs.declared.replies.Answer.TheVariants.{Id, Done, Message, Status as StatusAnswer, Value, Values, Attached, Bytes, Rows}
use Rattle.ipc_call.specs.declared.replies.Status.TheVariants as statuses
use Rattle.ipc_space.specs.Answers.{can_give}

abbrev pub is_id : Answer → Bool
is_id (Id id) = true
is_id answer = false

abbrev pub is_done : Answer → Bool
is_done Done = true
is_done answer = false

abbrev pub is_message : Answer → Bool
is_message (Message mtype text) = true
is_message answer = false

abbrev pub is_value : Answer → Bool
is_value (Value value) = true
is_value answer = false

abbrev pub is_values : Answer → Bool
is_values (Values values) = true
is_values answer = false

abbrev pub is_attached : Answer → Bool
is_attached (Attached number) = true
is_attached answer = false

abbrev pub is_bytes : Answer → Bool
is_bytes (Bytes bytes) = true
is_bytes answer = false

abbrev pub is_rows : Answer → Bool
is_rows (Rows rows) = true
is_rows answer = false

abbrev pub is_status : Answer → Bool
is_status (StatusAnswer status) = true
is_status answer = false

abbrev pub is_queue_status : Answer → Bool
is_queue_status (StatusAnswer (statuses.Queue status)) = true
is_queue_status answer = false

abbrev pub is_set_status : Answer → Bool
is_set_status (StatusAnswer (statuses.Set status)) = true
is_set_status answer = false

abbrev pub is_segment_status : Answer → Bool
is_segment_status (StatusAnswer (statuses.Segment status)) = true
is_segment_status answer = false

-- every answer that the call can be granted with is of the sort
abbrev pub GivesOnly : Call → (Answer → Bool) → Type 0
GivesOnly call is_of_sort = (answer : Answer) → can_give call answer ≡ true → is_of_sort answer ≡ true
