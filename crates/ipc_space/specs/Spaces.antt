-- The history that a state and a journal mean, and the replies of one event.
use Rattle.std.specs.Prelude.{◌≡◌, ℕ, ◌≤◌, List, [], ◌∷◌, length, map, Option, option_map, IsTrue}
use Rattle.ipc_call.specs.Limits.{are_in_range}
use Rattle.ipc_call.specs.declared.limits.Limits.{Limits}
use Rattle.ipc_call.specs.declared.replies.Completion.{Completion}
use Rattle.ipc_call.specs.declared.replies.JournalRow.{JournalRow}
use Rattle.ipc_call.specs.declared.replies.JournalRow.TheVariants.{Called, Answered}
use Rattle.ipc_call.specs.declared.replies.Reply.{Reply}
use Rattle.ipc_call.specs.declared.replies.Reply.TheVariants.{Entered}
use Rattle.ipc_creds.specs.Credentials.{Credentials}
use Rattle.ipc_model.specs.State.{State}
use Rattle.ipc_model.specs.Step.{Event}
use Rattle.ipc_model.specs.Decision.{Outcome}
use Rattle.ipc_history.specs.History.{History, IsLegal, run, rows_of, replies_to_ended, reply_of}

abbrev pub event_in : JournalRow → List Event → List Event
event_in (Called client now call) events = record { client = client; now = now; call = call } ∷ events
event_in (Answered client place turn rule) events = events

-- the events that a journal's rows tell of
abbrev pub events_in : List JournalRow → List Event
events_in [] = []
events_in (row ∷ rows) = event_in row (events_in rows)

-- a journal's history, from these limits and credentials on
abbrev pub history_in : Limits → List Credentials → List JournalRow → History
history_in limits clients rows = record { limits = limits; clients = clients; events = events_in rows }

-- the state, the journal and the count of events are those of a legal history that began with these credentials
pub record IsOfHistory (s : State) (clients : List Credentials) (journal : List JournalRow) (events : ℕ) : Type 0 where
  pub state : s ≡ run (history_in s.limits clients journal)
  pub rows : journal ≡ rows_of (history_in s.limits clients journal)
  pub legal : IsLegal (history_in s.limits clients journal)
  pub counted : events ≡ length (events_in journal)

-- a namespace can be opened with these limits for these clients
pub record CanOpen (limits : Limits) (clients : List Credentials) : Type 0 where
  pub limited : IsTrue (are_in_range limits)
  pub some : 1 ≤ length clients
  pub few : length clients ≤ 4096

-- the reply to an event's own call, where it didn't wait
abbrev pub own_reply : ℕ → Option Outcome → Option Reply
own_reply place own = option_map (λ outcome. Entered place 0 outcome) own

-- the replies to the waiting calls that an event ended, each with its client, by turn
abbrev pub other_replies : ℕ → List Completion → List (ℕ × Reply)
other_replies place ended = map (λ reply. (reply.client, reply_of reply)) (replies_to_ended place 1 ended)

-- a history; how many rows of its journal, the oldest, were handed out; and for how many more there is room
pub record Parts : Type 0 where
  pub history : History
  pub given : ℕ
  pub room : ℕ
