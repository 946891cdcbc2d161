-- The latest event of a journal.
use Rattle.std.specs.Prelude.{ℕ, ◌+◌, List, [], ◌∷◌, length, map, Option, Some, None}
use Rattle.std.specs.Option.{option_or}
use Rattle.ipc_call.specs.declared.calls.Call.{Call}
use Rattle.ipc_call.specs.declared.replies.JournalRow.{JournalRow}
use Rattle.ipc_call.specs.declared.replies.JournalRow.TheVariants.{Called, Answered}
use Rattle.ipc_history.specs.History.{History, answered_row, next_step, replies_by}
use Rattle.ipc_model.specs.Step.{Event}
use Rattle.call_reasons.specs.declared.cases.LatestEvent.{LatestEvent}

-- an event as a journal has it: whose call, and the rows of its answers
pub record Entered : Type 0 where
  pub client : ℕ
  pub call : Call
  pub answers : List JournalRow

abbrev pub shown : LatestEvent → Entered
shown e = record { client = e.client; call = e.call.now; answers = e.answers.now }

-- an event after a history, and its replies
abbrev pub entered : History → Event → Entered
entered h e = record {
  client = e.client;
  call = e.call;
  answers = map answered_row (replies_by e.client (length h.events + 1) (next_step h e));
}

-- the event of a row with the rows behind it
abbrev pub event_at : JournalRow → List JournalRow → Option Entered
event_at (Called client now call) rows = Some (record { client = client; call = call; answers = rows })
event_at (Answered client place turn rule) rows = None

-- that of the last row that has a call
abbrev pub last_event : List JournalRow → Option Entered
last_event [] = None
last_event (row ∷ rows) = option_or (last_event rows) (event_at row rows)
