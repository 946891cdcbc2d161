-- One more event: what it adds to the run, the journal and the events that the journal tells of.
use Rattle.std.proofs.Common.{◌≡◌, ℕ, suc, ◌+◌, ◌≤◌, List, [], ◌∷◌, ◌++◌, map, length, refl, sym, ap, ◌∙◌, subst, arith, append_assoc, append-nil, length-append}
use Rattle.std.proofs.lemmas.List.{map-append}
use Rattle.ipc_call.specs.declared.replies.JournalRow.{JournalRow}
use Rattle.ipc_call.specs.declared.replies.JournalRow.TheVariants.{Called, Answered}
use Rattle.ipc_creds.specs.Credentials.{Credentials}
use Rattle.ipc_model.specs.State.{State, opening}
use Rattle.ipc_model.specs.Step.{Event, Stepped, step}
use Rattle.ipc_model.proofs.Keeping.{Follows-step}
use Rattle.ipc_history.specs.History.{AreLegalFrom, History, IsLegal, IsLegalAt, ReplyTo, answered_row, rows_by, rows_from, rows_of, run, run_from, replies_by, replies_to_ended, reply_to_own, with_event}
use Rattle.ipc_space.specs.Spaces.{IsOfHistory, events_in, history_in}

pub run_from-push : (s : State) (es : List Event) (e : Event) → run_from s (es ++ e ∷ []) ≡ (step (run_from s es) e).state
run_from-push s [] e = refl
run_from-push s (x ∷ es) e = run_from-push (step s x).state es e

-- there are always as many clients
pub clients-run : (s : State) (es : List Event) → length (run_from s es).clients ≡ length s.clients
clients-run s [] = refl
clients-run s (e ∷ es) = clients-run (step s e).state es ∙ (Follows-step s e).clients

pub clients-reached : (s : State) (clients : List Credentials) (journal : List JournalRow) (count : ℕ) → IsOfHistory s clients journal count → length s.clients ≡ length clients
clients-reached s clients journal count is = ap (λ (t : State). length t.clients) is.state ∙ clients-run (opening s.limits clients) (events_in journal)

pub legal-push : (s : State) (es : List Event) (e : Event) → AreLegalFrom s es → IsLegalAt (run_from s es) e → AreLegalFrom s (es ++ e ∷ [])
legal-push s [] e legal here = (here, tt)
legal-push s (x ∷ es) e legal here = (legal.0, legal-push (step s x).state es e legal.1 here)

pub rows_from-append : (place : ℕ) (s : State) (es fs : List Event) → rows_from place s (es ++ fs) ≡ rows_from place s es ++ rows_from (length es + place) (run_from s es) fs
rows_from-append place s [] fs = let same : place ≡ 0 + place = omega arith in ap (λ n. rows_from n s fs) same
rows_from-append place s (x ∷ es) fs =
    let later = (step s x).state in
    let same : length es + (place + 1) ≡ suc (length es) + place = omega arith in
    ap (λ rows. rows_by place x (step s x) ++ rows) (rows_from-append (place + 1) later es fs ∙ ap (λ n. rows_from (place + 1) later es ++ rows_from n (run_from later es) fs) same)
    ∙ sym (append_assoc (rows_by place x (step s x)) (rows_from (place + 1) later es) (rows_from (suc (length es) + place) (run_from later es) fs))

pub rows_from-push : (place : ℕ) (s : State) (es : List Event) (e : Event) → rows_from place s (es ++ e ∷ []) ≡ rows_from place s es ++ rows_by (length es + place) e (step (run_from s es) e)
rows_from-push place s es e =
    rows_from-append place s es (e ∷ []) ∙ ap (λ rows. rows_from place s es ++ rows) (append-nil (rows_by (length es + place) e (step (run_from s es) e)))

pub events_in-append : (a b : List JournalRow) → events_in (a ++ b) ≡ events_in a ++ events_in b
events_in-append [] b = refl
events_in-append (Called client now call ∷ a) b = ap (λ es. record { client = client; now = now; call = call } ∷ es) (events_in-append a b)
events_in-append (Answered client place turn rule ∷ a) b = events_in-append a b

pub events_in-answered : (ts : List ReplyTo) → events_in (map answered_row ts) ≡ []
events_in-answered [] = refl
events_in-answered (t ∷ ts) = events_in-answered ts

-- each event has a row
pub length-events_in : (rows : List JournalRow) → length (events_in rows) ≤ length rows
length-events_in [] = omega arith
length-events_in (Called client now call ∷ rows) = omega (arith, length-events_in rows)
length-events_in (Answered client place turn rule ∷ rows) = omega (arith, length-events_in rows)

-- the rows as the code enters them: the call, its own answer, the other answers
pub rows_by-entered : (rows : List JournalRow) (place : ℕ) (e : Event) (stepped : Stepped)
    → ((rows ++ Called e.client e.now e.call ∷ []) ++ map answered_row (reply_to_own e.client place stepped.own)) ++ map answered_row (replies_to_ended place 1 stepped.ended) ≡ rows ++ rows_by place e stepped
rows_by-entered rows place e stepped =
    let own = reply_to_own e.client place stepped.own in
    let others = replies_to_ended place 1 stepped.ended in
    let call = Called e.client e.now e.call ∷ [] in
    append_assoc (rows ++ call) (map answered_row own) (map answered_row others)
    ∙ append_assoc rows call (map answered_row own ++ map answered_row others)
    ∙ ap (λ answers. rows ++ (call ++ answers)) (sym (map-append answered_row own others))

-- after one more event the state and the journal are those of the longer history
pub IsOfHistory-push : (s : State) (clients : List Credentials) (journal longer : List JournalRow) (count : ℕ) (e : Event) (stepped : Stepped)
    → IsOfHistory s clients journal count → IsLegalAt s e → step s e ≡ stepped → stepped.state.limits ≡ s.limits → longer ≡ journal ++ rows_by (count + 1) e stepped
    → IsOfHistory stepped.state clients longer (count + 1) × (history_in stepped.state.limits clients longer ≡ with_event (history_in s.limits clients journal) e)
IsOfHistory-push s clients journal longer count e stepped is legal steps limits rows =
    let h = history_in s.limits clients journal in
    let start = opening h.limits h.clients in
    let events : events_in longer ≡ h.events ++ e ∷ [] =
    ap events_in rows ∙ events_in-append journal (rows_by (count + 1) e stepped) ∙ ap (λ es. h.events ++ (e ∷ es)) (events_in-answered (replies_by e.client (count + 1) stepped)) in
    let longer_now : history_in stepped.state.limits clients longer ≡ with_event h e = λ i. record { limits = limits i; clients = clients; events = events i } in
    let runs : step (run h) e ≡ stepped = ap (λ (x : State). step x e) (sym is.state) ∙ steps in
    let reached : stepped.state ≡ run (with_event h e) = sym (ap (λ (x : Stepped). x.state) runs) ∙ sym (run_from-push start h.events e) in
    let place : length h.events + 1 ≡ count + 1 = ap (λ n. n + 1) (sym is.counted) in
    let told : rows_of (with_event h e) ≡ longer =
    rows_from-push 1 start h.events e ∙ ap (λ n. rows_of h ++ rows_by n e (step (run h) e)) place ∙ ap (λ x. rows_of h ++ rows_by (count + 1) e x) runs
    ∙ ap (λ r. r ++ rows_by (count + 1) e stepped) (sym is.rows) ∙ sym rows in
    let free : IsLegalAt (run h) e = subst (λ (x : State). IsLegalAt x e) is.state legal in (
      record {
        state = reached ∙ sym (ap run longer_now);
        rows = sym told ∙ sym (ap rows_of longer_now);
        legal = subst (λ (x : History). IsLegal x) (sym longer_now) (legal-push start h.events e is.legal free);
        counted = sym (ap length events ∙ length-append h.events (e ∷ []) ∙ place);
      },
      longer_now,
    )
