-- Where the notes of an event stand, and what they tell, by its rows in the journal; and how the lines of a script look.
use Rattle.std.specs.Prelude.{ℕ, ◌==◌, List, [], ◌∷◌, ◌++◌, codes, decimal, if◌then◌else◌, Option, Some, None, option_and_then}
use Rattle.ipc_call.specs.declared.replies.JournalRow.{JournalRow}
use Rattle.ipc_call.specs.declared.replies.JournalRow.TheVariants.{Called, Answered}
use Rattle.ipc_call.specs.declared.rules.Rule.{Rule}
use Rattle.ipc_model.specs.State.{State}
use Rattle.call_reasons.specs.Cases.{Entered}
use Rattle.call_reasons.specs.Waits.{awaited_in}
use Rattle.call_reasons.specs.declared.waits.Awaited.{Awaited}
use Rattle.row_notes.specs.declared.notes.Head.{Head}
use Rattle.row_notes.specs.declared.notes.Head.TheVariants.{Event, End}
use Rattle.shown_lines.specs.ScriptLines.{line_text}
use Rattle.ipc_explain.specs.declared.explainer.Own.{Own}
use Rattle.ipc_explain.specs.declared.explainer.Own.TheVariants.{Granted, Refused, Waits}

-- the row that a note on an answer stands below
abbrev pub head_of : JournalRow → Head
head_of (Called client now call) = End
head_of (Answered client place turn rule) = Event place turn

abbrev pub by_rule : Option Rule → Own
by_rule None = Granted
by_rule (Some rule) = Refused rule

-- the answer to an event's own call is the first of its answers, with turn 0
abbrev pub own_of : List JournalRow → Own
own_of [] = Waits
own_of (Called client now call ∷ rows) = Waits
own_of (Answered client place turn rule ∷ rows) = if turn == 0 then by_rule rule else Waits

abbrev pub caller_where : ℕ → Own → Option ℕ
caller_where client Waits = Some client
caller_where client own = None

-- the client of an event whose call waits
abbrev pub waiting_caller_of : Entered → Option ℕ
waiting_caller_of e = caller_where e.client (own_of e.answers)

-- what an event's own call waits for
abbrev pub newly_awaited_in : State → Entered → Option Awaited
newly_awaited_in s e = option_and_then (awaited_in s) (waiting_caller_of e)

-- what is told of a call that was granted
abbrev pub where_granted : {X : Type 0} → Own → Option X → Option X
where_granted Granted told = told
where_granted (Refused rule) told = None
where_granted Waits told = None

-- a line behind its number, and one with calls as it stands above its row
abbrev pub line_number : ℕ → List ℕ
line_number number = codes "line " ++ (decimal number ++ codes ": ")

abbrev pub numbered : ℕ → List ℕ → List ℕ
numbered number text = line_number number ++ (text ++ 10 ∷ [])

abbrev pub shown_line : ℕ → List ℕ → List ℕ
shown_line number text = numbered number (line_text text)
