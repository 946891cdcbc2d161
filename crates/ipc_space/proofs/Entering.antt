-- An event enters a ledger: what serving it asks of the state before, and of which history the ledger is afterwards.
use Rattle.std.proofs.Common.{◌≡◌, ℕ, suc, ◌+◌, ◌<◌, ◌≤◌, false, List, [], ◌∷◌, ◌++◌, map, length, refl, sym, ap, ◌∙◌, subst, arith, None, Ok, Err}
use Rattle.std.specs.Prelude.{OnErr, OnOk, Result}
use Rattle.std.specs.List.{AllByRecursion}
use Rattle.ipc_call.specs.declared.limits.Limits.{Limits}
use Rattle.ipc_call.specs.declared.replies.Completion.{Completion}
use Rattle.ipc_call.specs.declared.replies.JournalRow.{JournalRow}
use Rattle.ipc_creds.specs.Credentials.{Credentials}
use Rattle.shm_seg.specs.Attachments.{attachment_at}
use Rattle.ipc_model.specs.State.{State, is_waiting}
use Rattle.ipc_model.specs.Step.{Event, Stepped, is_ready, step}
use Rattle.ipc_model.proofs.Beginning.{next-attached}
use Rattle.ipc_model.proofs.Keeping.{Follows-step}
use Rattle.ipc_history.specs.History.{History, IsLegal, IsLegalAt, answered_row, next_step, replies_to_ended, rows_by, rows_of, run, with_event}
use Rattle.ipc_history.specs.Waits.{AreNotReady}
use Rattle.ipc_history.proofs.Runs.{tidy-run}
use Rattle.ipc_space.specs.Spaces.{CanOpen, IsOfHistory, history_in, other_replies}
use Rattle.ipc_space.specs.Telling.{replies_in}
use Rattle.ipc_space.proofs.Balance.{caller-apart}
use Rattle.ipc_space.proofs.Few.{few_wait}
use Rattle.ipc_space.proofs.Histories.{IsOfHistory-push, clients-reached, length-events_in}
use Rattle.ipc_space.proofs.Permitted.{run_not_ready}

-- each that ended has a row
pub length_told : (place turn : ℕ) (es : List Completion) → length (map answered_row (replies_to_ended place turn es)) ≡ length es
length_told place turn [] = refl
length_told place turn (e ∷ es) = ap suc (length_told place (turn + 1) es)

-- a ledger of this history
module _ (s : State) (clients : List Credentials) (journal : List JournalRow) (events : ℕ) (is : IsOfHistory s clients journal events) (h : History) (same : history_in s.limits clients journal ≡ h) where
  pub state_before : s ≡ run h
  state_before = is.state ∙ ap run same

  pub rows_before : journal ≡ rows_of h
  rows_before = is.rows ∙ ap rows_of same

  pub place_before : events ≡ length h.events
  place_before = is.counted ∙ ap (λ (k : History). length k.events) same

  legal_before : IsLegal h
  legal_before = subst (λ (k : History). IsLegal k) same is.legal

  -- no waiting call is ready, and nothing is filed under the process that comes next
  pub quiet_before : AllByRecursion (λ w. is_ready s w ≡ false) s.parked
  quiet_before = subst AreNotReady (sym state_before) (run_not_ready h)

  pub fresh_before : (number : ℕ) → attachment_at s.shared.attached s.next number ≡ None
  fresh_before = subst (λ (t : State). (number : ℕ) → attachment_at t.shared.attached t.next number ≡ None) (sym state_before) (next-attached (run h) (tidy-run h))

  -- each event has a row
  pub counted_before : events ≤ length journal
  counted_before = let rows = length-events_in journal in omega (arith, is.counted, rows)

  pub few_before : length s.parked ≤ length clients
  few_before =
      let few = few_wait h legal_before in
      let waits = ap (λ (t : State). length t.parked) state_before in
      let all : length clients ≡ length h.clients = ap (λ (k : History). length k.clients) same in
      omega (arith, few, waits, all)

  -- the client is one of the state's, and has no call that waits
  pub known_before : (client : ℕ) → client < length h.clients → client < length s.clients
  known_before client known =
      let now = clients-reached s clients journal events is in
      let all : length clients ≡ length h.clients = ap (λ (k : History). length k.clients) same in
      omega (arith, now, all, known)

  pub free_before : (client : ℕ) → is_waiting (run h) client ≡ false → is_waiting s client ≡ false
  free_before client free = ap (λ (t : State). is_waiting t client) state_before ∙ free

  pub space_before : (len capacity : ℕ) → len + length (run h).parked ≤ capacity → len + length s.parked ≤ capacity
  space_before len capacity space = let waits = ap (λ (t : State). length t.parked) state_before in omega (arith, space, waits)

  pub next_before : (e : Event) → step s e ≡ next_step h e
  next_before e = ap (λ (t : State). step t e) state_before

  -- nothing but the room has changed
  pub same_still : (new : State) (longer : List JournalRow) → new ≡ s → longer ≡ journal → history_in new.limits clients longer ≡ h
  same_still new longer state rows = ap (λ (t : State). history_in t.limits clients longer) state ∙ ap (history_in s.limits clients) rows ∙ same

  -- the event has entered
  module _ (new : State) (longer : List JournalRow) (e : Event) (known : e.client < length h.clients) (free : is_waiting (run h) e.client ≡ false)
      (state : new ≡ (step s e).state) (rows : longer ≡ journal ++ rows_by (events + 1) e (step s e)) where
    after : IsOfHistory (step s e).state clients longer (events + 1) × (history_in (step s e).state.limits clients longer ≡ with_event (history_in s.limits clients journal) e)
    after =
        let legal : IsLegalAt s e = record { known = known_before e.client known; free = free_before e.client free } in
        IsOfHistory-push s clients journal longer events e (step s e) is legal refl (Follows-step s e).limits rows

    pub is_after : IsOfHistory new clients longer (events + 1)
    is_after = subst (λ (t : State). IsOfHistory t clients longer (events + 1)) (sym state) after.0

    pub event_after : history_in new.limits clients longer ≡ with_event h e
    event_after = ap (λ (t : State). history_in t.limits clients longer) state ∙ after.1 ∙ ap (λ (k : History). with_event k e) same

    pub legal_after : IsLegal (history_in new.limits clients longer)
    legal_after = is_after.legal

    pub opens_after : CanOpen s.limits clients → CanOpen new.limits clients
    opens_after can = subst (λ (l : Limits). CanOpen l clients) (sym (ap (λ (t : State). t.limits) state ∙ (Follows-step s e).limits)) can

    -- none of what it tells others is for its own client
    pub apart_after : replies_in (other_replies (events + 1) (step s e).ended) e.client ≡ []
    apart_after =
        ap (λ (x : Stepped). replies_in (other_replies (events + 1) x.ended) e.client) (next_before e)
        ∙ caller-apart h e (events + 1) (subst (λ (k : History). IsLegal k) event_after is_after.legal)

    -- the room shrinks by no more than its rows
    pub room_after : (room left : ℕ) → room + length journal ≤ left + length longer → room + length (rows_of h) ≤ left + length (rows_of (history_in new.limits clients longer))
    room_after room left less =
        let was = ap (λ (rows : List JournalRow). length rows) rows_before in
        let now = ap (λ (rows : List JournalRow). length rows) is_after.rows in
        omega (arith, less, was, now)

  -- it has entered, or memory was refused
  module _ {T E : Type 0} (r : Result T E) (new : State) (longer : List JournalRow) (count : ℕ) (e : Event) (known : e.client < length h.clients) (free : is_waiting (run h) e.client ≡ false)
      (state : OnOk r (new ≡ (step s e).state)) (rows : OnOk r (longer ≡ journal ++ rows_by (events + 1) e (step s e))) (counted : OnOk r (count ≡ events + 1))
      (still : OnErr r (new ≡ s)) (none : OnErr r (longer ≡ journal)) (uncounted : OnErr r (count ≡ events)) where
    pub is_now : IsOfHistory new clients longer count
    is_now = by r state rows counted still none uncounted
      where
        by : (r : Result T E) → OnOk r (new ≡ (step s e).state) → OnOk r (longer ≡ journal ++ rows_by (events + 1) e (step s e)) → OnOk r (count ≡ events + 1)
            → OnErr r (new ≡ s) → OnErr r (longer ≡ journal) → OnErr r (count ≡ events) → IsOfHistory new clients longer count
        by (Ok x) state rows counted still none uncounted = subst (λ n. IsOfHistory new clients longer n) (sym counted) (is_after new longer e known free state rows)
        by (Err x) state rows counted still none uncounted =
            subst (λ n. IsOfHistory new clients longer n) (sym uncounted) (
            subst (λ (l : List JournalRow). IsOfHistory new clients l events) (sym none) (
            subst (λ (t : State). IsOfHistory t clients journal events) (sym still) is))

    pub opens_now : CanOpen s.limits clients → CanOpen new.limits clients
    opens_now can = by r state rows still
      where
        by : (r : Result T E) → OnOk r (new ≡ (step s e).state) → OnOk r (longer ≡ journal ++ rows_by (events + 1) e (step s e)) → OnErr r (new ≡ s) → CanOpen new.limits clients
        by (Ok x) state rows still = opens_after new longer e known free state rows can
        by (Err x) state rows still = subst (λ (t : State). CanOpen t.limits clients) (sym still) can

    pub event_now : OnOk r (history_in new.limits clients longer ≡ with_event h e)
    event_now = by r state rows
      where
        by : (r : Result T E) → OnOk r (new ≡ (step s e).state) → OnOk r (longer ≡ journal ++ rows_by (events + 1) e (step s e)) → OnOk r (history_in new.limits clients longer ≡ with_event h e)
        by (Ok x) state rows = event_after new longer e known free state rows
        by (Err x) state rows = tt

    pub room_now : (room left : ℕ) → OnOk r (room + length journal ≤ left + length longer) → OnOk r (room + length (rows_of h) ≤ left + length (rows_of (history_in new.limits clients longer)))
    room_now room left less = by r state rows less
      where
        by : (r : Result T E) → OnOk r (new ≡ (step s e).state) → OnOk r (longer ≡ journal ++ rows_by (events + 1) e (step s e)) → OnOk r (room + length journal ≤ left + length longer)
            → OnOk r (room + length (rows_of h) ≤ left + length (rows_of (history_in new.limits clients longer)))
        by (Ok x) state rows less = room_after new longer e known free state rows room left less
        by (Err x) state rows less = tt

    pub same_now : OnErr r (history_in new.limits clients longer ≡ h)
    same_now = by r still none
      where
        by : (r : Result T E) → OnErr r (new ≡ s) → OnErr r (longer ≡ journal) → OnErr r (history_in new.limits clients longer ≡ h)
        by (Ok x) still none = tt
        by (Err x) still none = same_still new longer still none
