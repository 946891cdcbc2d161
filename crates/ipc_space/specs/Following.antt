-- How rows are followed, an event at a time.
use Rattle.std.specs.Prelude.{◌≡◌, Bool, true, false}
use Rattle.ipc_call.specs.declared.replies.JournalRow.{JournalRow}
use Rattle.ipc_call.specs.declared.replies.JournalRow.TheVariants.{Called, Answered}
use Rattle.ipc_history.specs.History.{History, IsLegalAt, run, with_event}
use Rattle.ipc_model.specs.Step.{Event}

-- the row of an event's call
abbrev pub call_row : Event → JournalRow
call_row e = Called e.client e.now e.call

-- the row is of an answer
abbrev pub IsAnswered : JournalRow → Type 0
IsAnswered (Called client now call) = ⊥
IsAnswered (Answered client place turn rule) = Unit {0}

-- the row is the call of an event that may come next, and the event came; or of none, and nothing has changed
abbrev pub Enters : History → History → JournalRow → Bool → Type 0
Enters old new row true = (e : Event) × IsLegalAt (run old) e × (call_row e ≡ row) × (new ≡ with_event old e)
Enters old new row false = (new ≡ old) × ((e : Event) → IsLegalAt (run old) e → call_row e ≡ row → ⊥)
