-- The last row of a journal that has a call is that of the latest event, and the rows behind it are its answers.
use Rattle.std.proofs.Common.{◌≡◌, ℕ, ◌+◌, ◌-◌, ◌≤◌, List, [], ◌∷◌, ◌++◌, map, take, drop, length, refl, sym, ap, ◌∙◌, append-nil, append_assoc, arith}
use Rattle.std.proofs.lemmas.Grind.{common_steps}
use Rattle.std.specs.Prelude.{Option, Some, None}
use Rattle.std.specs.Option.{option_or}
use Rattle.ipc_call.specs.declared.calls.Call.{Call}
use Rattle.ipc_call.specs.declared.replies.JournalRow.{JournalRow}
use Rattle.ipc_call.specs.declared.replies.JournalRow.TheVariants.{Called, Answered}
use Rattle.ipc_history.specs.History.{History, ReplyTo, answered_row, replies_by, rows_by, rows_from, rows_of, run_from, with_event}
use Rattle.ipc_model.specs.State.{State, opening}
use Rattle.ipc_model.specs.Step.{Event, step}
use Rattle.call_reasons.specs.Cases.{Entered, entered, event_at, last_event}

-- answers have no call
no_event : (replies : List ReplyTo) → last_event (map answered_row replies) ≡ None
no_event [] = refl
no_event (r ∷ rs) = ap (λ o. option_or o None) (no_event rs)

-- what comes later counts first
pub later_none : (row : JournalRow) (rows : List JournalRow) → last_event rows ≡ None → last_event (row ∷ rows) ≡ event_at row rows
later_none row rows none = ap (λ o. option_or o (event_at row rows)) none

pub later_some : (before rows : List JournalRow) (e : Entered) → last_event rows ≡ Some e → last_event (before ++ rows) ≡ Some e
later_some [] rows e is = is
later_some (row ∷ before) rows e is = ap (λ o. option_or o (event_at row (before ++ rows))) (later_some before rows e is)

abbrev at_place : ℕ → State → Event → Entered
at_place place s e = record { client = e.client; call = e.call; answers = map answered_row (replies_by e.client place (step s e)) }

last_from : (place : ℕ) (s : State) (es : List Event) (e : Event) → last_event (rows_from place s (es ++ e ∷ [])) ≡ Some (at_place (length es + place) (run_from s es) e)
last_from place s [] e =
    let rows = map answered_row (replies_by e.client place (step s e)) in
    let same : 0 + place ≡ place = omega arith in
    rw same (ap last_event (append-nil (rows_by place e (step s e))) ∙ later_none (Called e.client e.now e.call) rows (no_event (replies_by e.client place (step s e))))
last_from place s (first ∷ es) e =
    let same : length (first ∷ es) + place ≡ length es + (place + 1) = omega arith in
    rw same (later_some (rows_by place first (step s first)) (rows_from (place + 1) (step s first).state (es ++ e ∷ [])) _ (last_from (place + 1) (step s first).state es e))

pub latest : (h all : History) (e : Event) → all ≡ with_event h e → last_event (rows_of all) ≡ Some (entered h e)
latest h all e is = ap (λ (a : History). last_event (rows_of a)) is ∙ last_from 1 (opening h.limits h.clients) h.events e

-- the rows behind those that are left have no call
pub record IsBehind (rows left : List JournalRow) : Type 0 where
  pub behind : List JournalRow
  pub whole : rows ≡ left ++ behind
  pub none : last_event behind ≡ None

part_behind : (rows left behind : List JournalRow) → rows ≡ left ++ behind → take (length rows - length left) (drop (length left) rows) ≡ behind
part_behind rows left behind whole = rw whole (grind (arith, common_steps))

pub found : (rows left others : List JournalRow) (row : JournalRow) (client now : ℕ) (call : Call) → IsBehind rows left → left ≡ others ++ row ∷ [] → row ≡ Called client now call →
    last_event rows ≡ Some (record { client = client; call = call; answers = take (length rows - length left) (drop (length left) rows) })
found rows left others row client now call h split is =
    let event : Entered = record { client = client; call = call; answers = h.behind } in
    let here : last_event (row ∷ h.behind) ≡ Some event = later_none row h.behind h.none ∙ ap (λ (r : JournalRow). event_at r h.behind) is in
    let whole : rows ≡ others ++ row ∷ h.behind = h.whole ∙ ap (λ (l : List JournalRow). l ++ h.behind) split ∙ append_assoc others (row ∷ []) h.behind in
    ap last_event whole ∙ later_some others (row ∷ h.behind) event here
    ∙ ap (λ (answers : List JournalRow). Some (record { client = client; call = call; answers = answers })) (sym (part_behind rows left h.behind h.whole))
