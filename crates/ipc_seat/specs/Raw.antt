-- What posting and going on do in numbers.
use Rattle.std.specs.Prelude.{◌≡◌, ℕ, ℤ, pos, List, length, None, Some, Result, Ok, Err}
use Rattle.ipc_call.specs.declared.calls.Call.{Call}
use Rattle.ipc_call.specs.declared.replies.Reply.{Reply}
use Rattle.ipc_abi.specs.Replies.{FitsIn, objects_in, put_in, reply_in_numbers, text_in, values_in}
use Rattle.ipc_abi.specs.Requests.{Given, call_in}
use Rattle.ipc_abi.specs.declared.objects.RawObject.{RawObject}
use Rattle.ipc_abi.specs.declared.replies.RawReply.{RawReply}
use Rattle.ipc_abi.specs.declared.requests.BadRequest.{BadRequest}
use Rattle.ipc_abi.specs.declared.requests.BadRequest.TheVariants.{Unknown}
use Rattle.ipc_abi.specs.declared.requests.RawRequest.{RawRequest}
use Rattle.ipc_seat.specs.Codes.{code_of_advance, code_of_error, code_of_post, error_of_request}
use Rattle.ipc_seat.specs.Seats.{Advances, Posts, State, Idle, InFlight, Answered, Left, state_of}
use Rattle.ipc_seat.specs.declared.calls.Progress.{Progress}
use Rattle.ipc_seat.specs.declared.calls.Progress.TheVariants as progress
use Rattle.ipc_seat.specs.declared.seat.Seat.{Seat}
use Rattle.ipc_seat.specs.declared.seat.SeatError.{SeatError}
use Rattle.ipc_seat.specs.declared.seat.SeatError.TheVariants as errors

-- a request is made a call; it isn't where it has the code of nothing, or where memory is short
abbrev pub IsMade : RawRequest → Given → Result Call BadRequest → Type 0
IsMade r g (Ok call) = call_in r g ≡ Some call
IsMade r g (Err bad) = bad ≡ Unknown → call_in r g ≡ None

-- a call is posted at the request's clock; a request that is no call leaves the client as it was
abbrev pub PostsMade : Result Call BadRequest → State → ℕ → State → Result (Unit {0}) SeatError → Type 0
PostsMade (Ok call) old clock new result = Posts old clock call new result
PostsMade (Err bad) old clock new result = (new ≡ old) × (result ≡ Err (error_of_request bad))

abbrev pub PostsRaw : State → RawRequest → Given → State → Result (Unit {0}) SeatError → Type 0
PostsRaw old r g new result = (made : Result Call BadRequest) × IsMade r g made × PostsMade made old r.clock new result

-- where a reply goes
pub record Room : Type 0 where
  pub reply : RawReply
  pub bytes : List ℕ
  pub values : List ℕ
  pub objects : List RawObject

abbrev pub room : RawReply → List ℕ → List ℕ → List RawObject → Room
room reply bytes values objects = record { reply = reply; bytes = bytes; values = values; objects = objects }

-- a reply's numbers are written, and then its lists
abbrev pub with_numbers : Reply → Room → Room
with_numbers reply r = record r { reply = reply_in_numbers reply }

abbrev pub with_lists : Reply → Room → Room
with_lists reply r = record r {
  bytes = put_in (text_in reply) r.bytes;
  values = put_in (values_in reply) r.values;
  objects = put_in (objects_in reply) r.objects;
}

abbrev pub FitsInRoom : Reply → Room → Type 0
FitsInRoom reply r = FitsIn reply (length r.bytes) (length r.values) (length r.objects)

-- a reply that fits is written and taken; of one that doesn't the numbers are written, and it stays
abbrev pub HandsOutReply : State → State → Reply → State → Room → Room → Result Progress SeatError → Type 0
HandsOutReply kept taken reply new before after (Ok p) = (p ≡ progress.Answered) × FitsInRoom reply before × (new ≡ taken)
    × (after ≡ with_lists reply (with_numbers reply before))
HandsOutReply kept taken reply new before after (Err e) = (e ≡ errors.NoRoom) × (¬ FitsInRoom reply before) × (new ≡ kept)
    × (after ≡ with_numbers reply before)

abbrev pub HandsOut : State → State → Room → Room → Result Progress SeatError → Type 0
HandsOut (Answered m reply) new before after result = HandsOutReply (Answered m reply) (Idle m) reply new before after result
HandsOut (Idle m) new before after result = ⊥
HandsOut (InFlight p) new before after result = ⊥
HandsOut Left new before after result = ⊥

-- what follows one try to combine, by what came of it
abbrev pub Follows : Result Progress SeatError → State → State → Room → Room → Result Progress SeatError → Type 0
Follows (Ok progress.Answered) mid new before after result = HandsOut mid new before after result
Follows (Ok progress.InFlight) mid new before after result = (new ≡ mid) × (after ≡ before) × (result ≡ Ok progress.InFlight)
Follows (Ok progress.Waiting) mid new before after result = (new ≡ mid) × (after ≡ before) × (result ≡ Ok progress.Waiting)
Follows (Err e) mid new before after result = (new ≡ mid) × (after ≡ before) × (result ≡ Err e)

abbrev pub GoesOnRaw : State → State → Room → Room → Result Progress SeatError → Type 0
GoesOnRaw old new before after result =
    (mid : State) × (r : Result Progress SeatError) × Advances old mid r × Follows r mid new before after result

-- The same as C has it: a seat is its state, and what came of it is a number
abbrev pub PostsInNumbers : Seat → RawRequest → Given → Seat → ℤ → Type 0
PostsInNumbers before r g after code =
    (result : Result (Unit {0}) SeatError) × PostsRaw (state_of before) r g (state_of after) result × (code ≡ code_of_post result)

abbrev pub AdvancesInNumbers : Seat → Seat → Room → Room → ℤ → Type 0
AdvancesInNumbers old new before after code =
    (result : Result Progress SeatError) × GoesOnRaw (state_of old) (state_of new) before after result × (code ≡ code_of_advance result)

-- how far a client was that is ended: it asked nothing, its call was in flight, or its reply wasn't taken
abbrev pub code_of_end : State → ℤ
code_of_end (Idle m) = pos 0
code_of_end (InFlight p) = pos 1
code_of_end (Answered m reply) = pos 2
code_of_end Left = code_of_error errors.Left
