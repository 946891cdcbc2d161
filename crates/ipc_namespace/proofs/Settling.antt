-- The waiting calls that can proceed: the code ends the first until none is left, the definition counts its turns down.
use Rattle.std.proofs.Common.{◌≡◌, ℕ, zero, suc, ◌+◌, ◌≤◌, Bool, true, false, List, [], ◌∷◌, ◌++◌, length, refl, sym, ap, ◌∙◌, arith, ⊎_elim, Option, Some, None, Err}
use Rattle.std.specs.Prelude.{drop, filter, is_none, option_map, slice_get}
use Rattle.std.specs.List.{find, AllByRecursion}
use Rattle.std.proofs.lemmas.Bool.{cases_Bool, true≢false}
use Rattle.std.proofs.lemmas.List.{at_drop_all}
use Rattle.std.proofs.lemmas.Option.{none-some, same_Some}
use Rattle.ipc_call.specs.declared.calls.Call.{Call}
use Rattle.ipc_call.specs.declared.replies.Completion.{Completion}
use Rattle.ipc_call.specs.declared.replies.Waiting.{Waiting}
use Rattle.ipc_model.specs.State.{State}
use Rattle.ipc_model.specs.Decide.{decide, decide_call, is_late}
use Rattle.ipc_model.specs.Decision.{Decision, Granted, Refused, Waits, proceeds}
use Rattle.ipc_model.proofs.Touched.{ready_touched}
use Rattle.ipc_namespace.specs.Namespace.{is_grant, AreQuietBut}
use Rattle.ipc_namespace.proofs.Own.{found-none}
use Rattle.ipc_namespace.proofs.Parked.{all-filter}
use Rattle.ipc_model.specs.Step.{Moved, and_then, at_time, cancelled_by, end_waiting, enter, entered, expire, expired, first_ready, is_ready, moved_by, settle, settle_from, settled, state_by, stepped, waiting_as}
use Rattle.ipc_model.specs.Decision.{Outcome, outcome_of}
use Rattle.ipc_model.proofs.Calls.{clock_alike, parked_alike}
use Rattle.ipc_model.proofs.Late.{late-waits, plan-as}
use Rattle.ipc_model.specs.State.{creds_at}
use Rattle.ipc_model.specs.Plan.{decision}

settle-none : (n : ℕ) (s : State) → first_ready s ≡ None → settle n s ≡ record { state = s; ended = [] }
settle-none zero s none = refl
settle-none (suc n) s none = ap (λ o. settle_from (settle n) s o) none

pub settled-none : (s : State) → first_ready s ≡ None → settled s ≡ record { state = s; ended = [] }
settled-none s none = settle-none (length s.parked) s none

-- nothing that waits was touched, and no other call is ready
pub settled-untouched : (touched : Waiting → Bool) (s : State) → AreQuietBut touched s → filter touched s.parked ≡ [] → settled s ≡ record { state = s; ended = [] }
settled-untouched touched s quiet none = settled-none s (ready_touched touched s quiet ∙ ap (find (is_ready s)) none)

settle-some : (n k : ℕ) (s new : State) (w : Waiting) (e : Completion) → n ≡ suc k → first_ready s ≡ Some w → end_waiting s w ≡ record { state = new; ended = e ∷ [] }
    → settle n s ≡ record { state = (settle k new).state; ended = e ∷ (settle k new).ended }
settle-some n k s new w e is first ends = ap (λ j. settle j s) is ∙ ap (λ o. settle_from (settle k) s o) first ∙ ap (λ (m : Moved). and_then m (settle k)) ends

-- one turn: the first leaves, and the rest follows
pub settled-turn : (s new : State) (e : Completion) → option_map (end_waiting s) (first_ready s) ≡ Some (record { state = new; ended = e ∷ [] }) → length new.parked + 1 ≡ length s.parked
    → settled s ≡ record { state = (settled new).state; ended = e ∷ (settled new).ended }
settled-turn s new e ends shorter = by (first_ready s) refl ends
  where
    by : (o : Option Waiting) → first_ready s ≡ o → option_map (end_waiting s) o ≡ Some (record { state = new; ended = e ∷ [] }) → settled s ≡ record { state = (settled new).state; ended = e ∷ (settled new).ended }
    by None first ends = absurd (none-some {A = Moved} (record { state = new; ended = e ∷ [] }) ends)
    by (Some w) first ends =
        let count : length s.parked ≡ suc (length new.parked) = omega (arith, shorter) in
        settle-some (length s.parked) (length new.parked) s new w e count first (same_Some (end_waiting s w) (record { state = new; ended = e ∷ [] }) ends)

-- the calls are tried in turn: what is found from one on
module _ (test : Waiting → Bool) where
  pub find-next : (ws : List Waiting) (i : ℕ) (w : Waiting) → slice_get ws i ≡ Some w → test w ≡ false → find test (drop i ws) ≡ find test (drop (suc i) ws)
  find-next [] i w there fails = absurd (none-some w there)
  find-next (v ∷ ws) zero w there fails = let no : test v ≡ false = ap test (same_Some v w there) ∙ fails in rw no refl
  find-next (v ∷ ws) (suc i) w there fails = find-next ws i w there fails

  pub find-here : (ws : List Waiting) (i : ℕ) (w : Waiting) → slice_get ws i ≡ Some w → test w ≡ true → find test (drop i ws) ≡ Some w
  find-here [] i w there passes = absurd (none-some w there)
  find-here (v ∷ ws) zero w there passes = let yes : test v ≡ true = ap test (same_Some v w there) ∙ passes in rw yes there
  find-here (v ∷ ws) (suc i) w there passes = find-here ws i w there passes

  -- none is left
  pub find-past : (ws : List Waiting) (i : ℕ) → slice_get ws i ≡ None → find test (drop i ws) ≡ None
  find-past [] zero past = refl
  find-past [] (suc i) past = refl
  find-past (w ∷ ws) zero past = absurd (none-some w (sym past))
  find-past (w ∷ ws) (suc i) past = find-past ws i past

  pub find-over : (ws : List Waiting) (i : ℕ) → length ws ≤ i → find test (drop i ws) ≡ None
  find-over ws i past = at_drop_all (find test) ws i past

found-last : (test : Waiting → Bool) (ws : List Waiting) (w : Waiting) → find test ws ≡ None → test w ≡ false → find test (ws ++ w ∷ []) ≡ None
found-last test [] w none fails = rw fails refl
found-last test (v ∷ ws) w none fails =
    ⊎_elim
    (λ (yes : test v ≡ true). let first : Some v ≡ None = rw yes at none in absurd (none-some v (sym first)))
    (λ (no : test v ≡ false). let later : find test ws ≡ None = rw no at none in rw no (found-last test ws w later fails))
    (cases_Bool (test v))

-- a call that has to wait makes no other ready
pub still_quiet : (s : State) (client : ℕ) (call : Call) → first_ready s ≡ None → proceeds (decide s client call) ≡ false → first_ready (record s { parked = s.parked ++ waiting_as s client call ∷ [] }) ≡ None
still_quiet s client call quiet waits =
    let w : Waiting = waiting_as s client call in
    let longer = s.parked ++ w ∷ [] in
    ap (λ test. find test longer) (λ i (v : Waiting). parked_alike s longer v.client v.call i) ∙ found-last (is_ready s) s.parked w quiet (ap (λ p. proceeds (decision (creds_at s client) p)) (plan-as s client call) ∙ waits)

-- nor does the clock
pub quiet-at_time : (s : State) (now : ℕ) → first_ready s ≡ None → first_ready (at_time s now) ≡ None
quiet-at_time s now quiet = ap (λ test. find test s.parked) (λ i (w : Waiting). clock_alike s now w.client w.call i) ∙ quiet

pub found-nothing : (test : Waiting → Bool) (ws : List Waiting) → AllByRecursion (λ w. test w ≡ false) ws → find test ws ≡ None
found-nothing test [] fails = refl
found-nothing test (w ∷ ws) fails = let no = fails.0 in rw no (found-nothing test ws fails.1)

-- nor do calls that end
find-filtered : (test keeps : Waiting → Bool) (ws : List Waiting) → find test ws ≡ None → find test (filter keeps ws) ≡ None
find-filtered test keeps ws none = found-nothing test (filter keeps ws) (all-filter (λ w. test w ≡ false) keeps ws (found-none test ws none))

pub quiet-expire : (s : State) → first_ready s ≡ None → first_ready (expire s).state ≡ None
quiet-expire s quiet =
    let stays : Waiting → Bool = λ w. is_none (expired s w) in
    ap (λ test. find test (filter stays s.parked)) (λ i (w : Waiting). parked_alike s (filter stays s.parked) w.client w.call i) ∙ find-filtered (is_ready s) stays s.parked quiet

-- a call that isn't granted ends none where none is ready
entered-by : (s : State) (client : ℕ) (call : Call) (d : Decision State) → first_ready s ≡ None → decide_call s client call ≡ d → is_grant (outcome_of d) ≡ false
    → enter s client call ≡ record { state = (cancelled_by (state_by s client call d) call d).state; own = outcome_of d; ended = (cancelled_by (state_by s client call d) call d).ended }
entered-by s client call (Refused rule) quiet is still = ap (entered s client call) is ∙ ap (λ (m : Moved). stepped (Some (Err rule)) m) (settled-none s quiet)
entered-by s client call Waits quiet is still =
    ap (entered s client call) is
    ∙ ap (λ (m : Moved). stepped None m) (settled-none (record s { parked = s.parked ++ waiting_as s client call ∷ [] }) (still_quiet s client call quiet (late-waits (is_late s call) (decide s client call) (ap proceeds is))))
entered-by s client call (Granted answer new) quiet is still = absurd (true≢false still)

pub entered-still : (s new : State) (client : ℕ) (call : Call) (own : Option Outcome) (ended : List Completion) → first_ready s ≡ None → is_grant own ≡ false → own ≡ outcome_of (decide_call s client call)
    → new ≡ (moved_by s client call).state → ended ≡ (moved_by s client call).ended → enter s client call ≡ record { state = new; own = own; ended = ended }
entered-still s new client call own ended quiet still is moved cancels =
    entered-by s client call (decide_call s client call) quiet refl (ap is_grant (sym is) ∙ still)
    ∙ (λ i. record { state = sym moved i; own = sym is i; ended = sym cancels i })

pub entered-granted : (s t new : State) (client : ℕ) (call : Call) (own : Option Outcome) (first ended : List Completion) → t ≡ (moved_by s client call).state → first ≡ (moved_by s client call).ended
    → outcome_of (decide_call s client call) ≡ own → new ≡ (settled t).state → ended ≡ first ++ (settled t).ended → enter s client call ≡ record { state = new; own = own; ended = ended }
entered-granted s t new client call own first ended moved cancels is settles ends = λ i. record {
  state = (ap (λ (u : State). (settled u).state) (sym moved) ∙ sym settles) i;
  own = is i;
  ended = (ap (λ (u : State). (moved_by s client call).ended ++ (settled u).ended) (sym moved) ∙ ap (λ es. es ++ (settled t).ended) (sym cancels) ∙ sym ends) i;
}
