-- What a desk is, which replies its clients have been given, and what a call and a taking do.
use Rattle.std.specs.Prelude.{◌≡◌, ℕ, ◌+◌, ◌-◌, ◌==◌, nat_le, List, [], ◌∷◌, ◌++◌, length, take, Option, Some, None, Result, Ok, Err, option_map, option_to_list, slice_get, if◌then◌else◌}
use Rattle.ipc_call.specs.declared.calls.Call.{Call}
use Rattle.ipc_call.specs.declared.replies.Answer.{Answer}
use Rattle.ipc_call.specs.declared.replies.Answer.TheVariants as answers
use Rattle.ipc_call.specs.declared.replies.Reply.{Reply}
use Rattle.ipc_call.specs.declared.replies.Reply.TheVariants as reply
use Rattle.ipc_model.specs.Decision.{Outcome}
use Rattle.ipc_model.specs.State.{is_waiting}
use Rattle.ipc_model.specs.Step.{Event}
use Rattle.ipc_history.specs.History.{History, next_step, replies, run, with_event}
use Rattle.ipc_space.specs.Spaces.{own_reply}
use Rattle.call_values.specs.declared.failure.Failure.{Failure}
use Rattle.call_values.specs.declared.failure.Failure.TheVariants.{Refused, Memory, NoClient, Waiting, Untaken}
use Rattle.call_values.specs.declared.values.Ended.{Ended}
use Rattle.call_values.specs.declared.values.Ended.TheVariants as ends
use Rattle.call_values.specs.declared.values.Progress.{Progress}
use Rattle.call_values.specs.declared.values.Progress.TheVariants as progress
use Rattle.ipc_desk.specs.Kept.{DeskState, kept_for}

-- the replies of the history that a client has been given: all but the last ones, which are kept
abbrev pub given_to : DeskState → ℕ → List Reply
given_to d client = take (length (replies d.history client) - length (kept_for d.kept client)) (replies d.history client)

abbrev pub untaken : List Reply → Option Failure
untaken [] = None
untaken (reply ∷ replies) = Some Untaken

-- why a client can't call now
abbrev pub hindrance_of : DeskState → ℕ → Option Failure
hindrance_of d client =
    if nat_le (length d.history.clients) client then Some NoClient
    else if is_waiting (run d.history) client then Some Waiting
    else untaken (kept_for d.kept client)

-- a client's call at the desk's time
abbrev pub event_of : DeskState → ℕ → Call → Event
event_of d client call = record { client = client; now = d.time; call = call }

-- the client is given a reply, where there is one, and no other client is given any
abbrev pub IsGiven : DeskState → DeskState → ℕ → Option Reply → Type 0
IsGiven old new client given = (r : ℕ) → given_to new r ≡ given_to old r ++ (if client == r then option_to_list given else [])

-- the call is made, as the next event of the history; it ends so at once, which its client is told, or waits
pub record IsMade (old new : DeskState) (client : ℕ) (call : Call) (outcome : Option Outcome) : Type 0 where
  pub free : hindrance_of old client ≡ None
  pub own : (next_step old.history (event_of old client call)).own ≡ outcome
  pub history : new.history ≡ with_event old.history (event_of old client call)
  pub time : new.time ≡ old.time
  pub given : IsGiven old new client (own_reply (length old.history.events + 1) outcome)

-- what a call comes to: an answer, None where it waits, or a failure; all failures but a refusal leave all as it was
abbrev pub Comes : DeskState → DeskState → ℕ → Call → Result (Option Answer) Failure → Type 0
Comes old new client call (Ok answer) = IsMade old new client call (option_map (λ a. Ok a) answer)
Comes old new client call (Err (Refused rule)) = IsMade old new client call (Some (Err rule))
Comes old new client call (Err Memory) = new ≡ old
Comes old new client call (Err NoClient) = (hindrance_of old client ≡ Some NoClient) × (new ≡ old)
Comes old new client call (Err Waiting) = (hindrance_of old client ≡ Some Waiting) × (new ≡ old)
Comes old new client call (Err Untaken) = (hindrance_of old client ≡ Some Untaken) × (new ≡ old)

-- what a call is given, as the answer that it stands for
abbrev pub told : {X : Type 0} → (X → Answer) → Result X Failure → Result (Option Answer) Failure
told answer (Ok x) = Ok (Some (answer x))
told answer (Err failure) = Err failure

-- the same of a call that may wait
abbrev pub told_progress : {X : Type 0} → (X → Answer) → Result (Progress X) Failure → Result (Option Answer) Failure
told_progress answer (Ok (progress.Done x)) = Ok (Some (answer x))
told_progress answer (Ok progress.Waits) = Ok None
told_progress answer (Err failure) = Err failure

-- what a reply tells
abbrev pub outcome_in : Reply → Result Answer Failure
outcome_in (reply.Entered place turn (Ok answer)) = Ok answer
outcome_in (reply.Entered place turn (Err rule)) = Err (Refused rule)
outcome_in reply.Memory = Err Memory

-- what the reply tells to a call that may wait
abbrev pub answer_told : Option Reply → Result (Option Answer) Failure
answer_told None = Ok None
answer_told (Some (reply.Entered place turn (Ok answer))) = Ok (Some answer)
answer_told (Some (reply.Entered place turn (Err rule))) = Err (Refused rule)
answer_told (Some reply.Memory) = Err Memory

abbrev pub answer_of : Ended → Answer
answer_of ends.Done = answers.Done
answer_of (ends.Received message) = answers.Message message.mtype message.text.items

-- what is taken, as what a reply tells
abbrev pub told_taken : Result (Option Ended) Failure → Option (Result Answer Failure)
told_taken (Ok None) = None
told_taken (Ok (Some ended)) = Some (Ok (answer_of ended))
told_taken (Err failure) = Some (Err failure)

-- the client is given the reply that is kept for it, if there is one, and no call is made
pub record IsTaken (old new : DeskState) (client : ℕ) (taken : Result (Option Ended) Failure) : Type 0 where
  pub told : told_taken taken ≡ option_map outcome_in (slice_get (kept_for old.kept client) 0)
  pub history : new.history ≡ old.history
  pub time : new.time ≡ old.time
  pub given : IsGiven old new client (slice_get (kept_for old.kept client) 0)
