-- Histories: lists of events from the opening of a namespace, what they lead to, and what each client is told.
use Rattle.std.specs.Prelude.{◌≡◌, ℕ, ◌+◌, ◌<◌, ◌==◌, false, List, [], ◌∷◌, ◌++◌, length, map, filter, Option, Some, None, Ok, Err}
use Rattle.ipc_call.specs.declared.calls.Call.{Call}
use Rattle.ipc_call.specs.declared.limits.Limits.{Limits}
use Rattle.ipc_call.specs.declared.replies.Completion.{Completion}
use Rattle.ipc_call.specs.declared.replies.JournalRow.{JournalRow}
use Rattle.ipc_call.specs.declared.replies.JournalRow.TheVariants as rows
use Rattle.ipc_call.specs.declared.replies.Reply.{Reply}
use Rattle.ipc_call.specs.declared.replies.Reply.TheVariants.{Entered}
use Rattle.ipc_call.specs.declared.rules.Rule.{Rule}
use Rattle.ipc_creds.specs.Credentials.{Credentials}
use Rattle.ipc_model.specs.State.{State, opening, is_waiting}
use Rattle.ipc_model.specs.Step.{Event, Stepped, step}
use Rattle.ipc_model.specs.Decision.{Outcome}

-- what a namespace was opened with, and its events; places are counted from 1
pub record History : Type 0 where
  pub limits : Limits
  pub clients : List Credentials
  pub events : List Event

abbrev pub run_from : State → List Event → State
run_from s [] = s
run_from s (e ∷ es) = run_from (step s e).state es

-- the state that a history leads to
abbrev pub run : History → State
run h = run_from (opening h.limits h.clients) h.events

-- the client is one of the namespace's, and none of its calls waits
pub record IsLegalAt (s : State) (e : Event) : Type 0 where
  pub known : e.client < length s.clients
  pub free : is_waiting s e.client ≡ false

abbrev pub AreLegalFrom : State → List Event → Type 0
AreLegalFrom s [] = Unit {0}
AreLegalFrom s (e ∷ es) = IsLegalAt s e × AreLegalFrom (step s e).state es

-- a legal history: each event's client may call at its place
abbrev pub IsLegal : History → Type 0
IsLegal h = AreLegalFrom (opening h.limits h.clients) h.events

-- one reply: to whom, by the event at which place, in which turn, and how the call ended
pub record ReplyTo : Type 0 where
  pub client : ℕ
  pub place : ℕ
  pub turn : ℕ
  pub outcome : Outcome

abbrev pub reply_to_own : ℕ → ℕ → Option Outcome → List ReplyTo
reply_to_own client place None = []
reply_to_own client place (Some outcome) = record { client = client; place = place; turn = 0; outcome = outcome } ∷ []

abbrev pub replies_to_ended : ℕ → ℕ → List Completion → List ReplyTo
replies_to_ended place turn [] = []
replies_to_ended place turn (e ∷ es) =
    record { client = e.client; place = place; turn = turn; outcome = e.outcome } ∷ replies_to_ended place (turn + 1) es

-- the replies of one event: the caller's has turn 0, the others count from 1
abbrev pub replies_by : ℕ → ℕ → Stepped → List ReplyTo
replies_by client place stepped = reply_to_own client place stepped.own ++ replies_to_ended place 1 stepped.ended

abbrev pub answers_from : ℕ → State → List Event → List ReplyTo
answers_from place s [] = []
answers_from place s (e ∷ es) = replies_by e.client place (step s e) ++ answers_from (place + 1) (step s e).state es

-- all replies of a history
abbrev pub answers : History → List ReplyTo
answers h = answers_from 1 (opening h.limits h.clients) h.events

abbrev pub rule_in : Outcome → Option Rule
rule_in (Ok answer) = None
rule_in (Err rule) = Some rule

abbrev pub answered_row : ReplyTo → JournalRow
answered_row reply = rows.Answered reply.client reply.place reply.turn (rule_in reply.outcome)

-- the journal's rows of one event: the call, then its replies by turn
abbrev pub rows_by : ℕ → Event → Stepped → List JournalRow
rows_by place e stepped = rows.Called e.client e.now e.call ∷ map answered_row (replies_by e.client place stepped)

abbrev pub rows_from : ℕ → State → List Event → List JournalRow
rows_from place s [] = []
rows_from place s (e ∷ es) = rows_by place e (step s e) ++ rows_from (place + 1) (step s e).state es

-- the journal of a history
abbrev pub rows_of : History → List JournalRow
rows_of h = rows_from 1 (opening h.limits h.clients) h.events

-- a client's own calls, each with its time, in order
abbrev pub own : History → ℕ → List (ℕ × Call)
own h client = map (λ e. (e.now, e.call)) (filter (λ e. e.client == client) h.events)

abbrev pub reply_of : ReplyTo → Reply
reply_of reply = Entered reply.place reply.turn reply.outcome

-- the replies that a client received, in order
abbrev pub replies : History → ℕ → List Reply
replies h client = map reply_of (filter (λ reply. reply.client == client) (answers h))

abbrev pub with_event : History → Event → History
with_event h e = record h { events = h.events ++ e ∷ [] }

-- the step that an event takes after a history
abbrev pub next_step : History → Event → Stepped
next_step h e = step (run h) e
