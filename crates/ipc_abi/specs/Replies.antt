-- A reply in numbers, and its lists.
use Rattle.std.specs.Prelude.{ℕ, ◌≤◌, pos, List, [], ◌∷◌, ◌++◌, length, map, drop, Option, None, Some, Ok, Err}
use Rattle.ipc_call.specs.Rules.{number_of}
use Rattle.ipc_call.specs.declared.replies.Answer.{Answer}
use Rattle.ipc_call.specs.declared.replies.Answer.TheVariants.{Id, Done, Message, Status, Value, Values, Attached, Bytes, Rows}
use Rattle.ipc_call.specs.declared.replies.Reply.{Reply}
use Rattle.ipc_call.specs.declared.replies.Reply.TheVariants.{Entered, Memory}
use Rattle.ipc_call.specs.declared.rules.Rule.{Rule}
use Rattle.std.specs.Prelude.{Result}
use Rattle.ipc_abi.specs.Objects.{object_of_row, object_of_status}
use Rattle.ipc_abi.specs.Rules.{code_of_rule}
use Rattle.ipc_abi.specs.declared.objects.RawObject.{RawObject}
use Rattle.ipc_abi.specs.declared.replies.RawReply.{RawReply}

abbrev pub blank_reply : RawReply
blank_reply = record { place = 0; mtype = pos 0; len = 0; turn = 0; errno = 0; rule = 0; answer = 0; value = 0 }

-- an answer of this sort that is one number
abbrev pub value_in_numbers : ℕ → ℕ → RawReply
value_in_numbers answer value = record blank_reply { answer = answer; value = value }

-- one that is a list of this length
abbrev pub list_in_numbers : ℕ → ℕ → RawReply
list_in_numbers answer len = record blank_reply { answer = answer; len = len }

abbrev pub answer_in_numbers : Answer → RawReply
answer_in_numbers (Id id) = value_in_numbers 1 id
answer_in_numbers Done = value_in_numbers 2 0
answer_in_numbers (Message mtype text) = record (list_in_numbers 3 (length text)) { mtype = mtype }
answer_in_numbers (Status status) = list_in_numbers 4 1
answer_in_numbers (Value value) = value_in_numbers 5 value
answer_in_numbers (Values values) = list_in_numbers 6 (length values)
answer_in_numbers (Attached number) = value_in_numbers 7 number
answer_in_numbers (Bytes bytes) = list_in_numbers 8 (length bytes)
answer_in_numbers (Rows rows) = list_in_numbers 9 (length rows)

abbrev pub outcome_in_numbers : Result Answer Rule → RawReply
outcome_in_numbers (Ok answer) = answer_in_numbers answer
outcome_in_numbers (Err rule) = record blank_reply { errno = number_of rule; rule = code_of_rule rule }

-- ENOMEM is 12
abbrev pub reply_in_numbers : Reply → RawReply
reply_in_numbers (Entered place turn outcome) = record (outcome_in_numbers outcome) { place = place; turn = turn }
reply_in_numbers Memory = record blank_reply { errno = 12 }

-- what a granted call is answered
abbrev pub answer_in : Reply → Option Answer
answer_in (Entered place turn (Ok answer)) = Some answer
answer_in (Entered place turn (Err rule)) = None
answer_in Memory = None

abbrev pub text_of_answer : Option Answer → List ℕ
text_of_answer (Some (Message mtype text)) = text
text_of_answer (Some (Bytes bytes)) = bytes
text_of_answer _ = []

abbrev pub values_of_answer : Option Answer → List ℕ
values_of_answer (Some (Values values)) = values
values_of_answer _ = []

abbrev pub objects_of_answer : Option Answer → List RawObject
objects_of_answer (Some (Status status)) = object_of_status status ∷ []
objects_of_answer (Some (Rows rows)) = map object_of_row rows
objects_of_answer _ = []

-- the lists of a reply
abbrev pub text_in : Reply → List ℕ
text_in reply = text_of_answer (answer_in reply)

abbrev pub values_in : Reply → List ℕ
values_in reply = values_of_answer (answer_in reply)

abbrev pub objects_in : Reply → List RawObject
objects_in reply = objects_of_answer (answer_in reply)

-- they fit in slices of these lengths
abbrev pub FitsIn : Reply → ℕ → ℕ → ℕ → Type 0
FitsIn reply bytes values objects =
    (length (text_in reply) ≤ bytes) × (length (values_in reply) ≤ values) × (length (objects_in reply) ≤ objects)

-- a slice that begins with a list, and is otherwise as it was
abbrev pub put_in : {A : Type 0} → List A → List A → List A
put_in list slice = list ++ drop (length list) slice
