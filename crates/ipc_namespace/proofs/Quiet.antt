-- No call is ready but on what was touched: after a granted call, and after each waiting call that ends.
use Rattle.std.proofs.Common.{◌≡◌, ◌≢◌, ℕ, Bool, true, false, List, [], ◌∷◌, refl, sym, ap, subst, ◌∙◌, ⊎_elim, Option, Some, None}
use Rattle.std.specs.Prelude.{◌==◌, ◌||◌, filter, is_none, not, option_map, IfSome}
use Rattle.std.specs.List.{list_any, AllByRecursion}
use Rattle.std.proofs.lemmas.Bool.{cases_Bool, eqb-false, false≢true, or_parts, true≢false}
use Rattle.std.proofs.lemmas.Option.{none-some, same_Some}
use Rattle.ipc_call.specs.declared.calls.Call.{Call}
use Rattle.ipc_call.specs.declared.replies.Answer.{Answer}
use Rattle.ipc_call.specs.declared.replies.Completion.{Completion}
use Rattle.ipc_call.specs.declared.replies.Waiting.{Waiting}
use Rattle.ipc_model.specs.State.{State, is_waiting}
use Rattle.ipc_model.specs.Decision.{Decision, Granted, Refused, Waits, outcome_of}
use Rattle.ipc_model.specs.Decide.{decide, decide_call, is_late, unless_late}
use Rattle.ipc_call.specs.declared.calls.Kind.{Kind}
use Rattle.ipc_call.specs.declared.calls.Kind.TheVariants as kinds
use Rattle.ipc_model.specs.Cancelled.{cancelled, waits_on}
use Rattle.ipc_model.specs.Step.{Moved, end_waiting, ended_by, first_ready, is_ready, moved_as, moved_by, without}
use Rattle.ipc_model.specs.Touched.{touches_place}
use Rattle.ipc_model.proofs.Calls.{Keeps-decide, parked_alike}
use Rattle.ipc_model.proofs.Growing.{Keeps}
use Rattle.ipc_model.proofs.Living.{living-kept}
use Rattle.ipc_model.proofs.Turning.{event_quiet, turn_quiet}
use Rattle.ipc_parked.specs.declared.touched.Touched.{Touched}
use Rattle.ipc_parked.specs.declared.touched.Touched.TheVariants.{Nothing, Object}
use Rattle.ipc_parked.specs.Touched.{is_touched}
use Rattle.ipc_namespace.specs.Namespace.{is_grant, AreQuietBut}
use Rattle.ipc_namespace.specs.Touching.{CoversWaiting, is_listed}
use Rattle.ipc_namespace.proofs.Own.{found-none, found-passes, others}
use Rattle.ipc_namespace.proofs.Parked.{all-filter, all-found}

-- with a call all pass that wait on its object
abbrev pub OfObjects : (Waiting → Bool) → Type 0
OfObjects touched = (w : Waiting) → touched w ≡ true → (kind : Kind) × (id : ℕ) × (waits_on kind id w.call ≡ true) × ((v : Waiting) → touched v ≡ false → waits_on kind id v.call ≡ false)

pub of-touched : (touched : Touched) → OfObjects (is_touched touched)
of-touched Nothing w on = absurd (false≢true on)
of-touched (Object kind id) w on = (kind, id, on, λ v off. off)

pub of-listed : (ids : List ℕ) → OfObjects (is_listed ids)
of-listed [] w on = absurd (false≢true on)
of-listed (id ∷ ids) w on =
    ⊎_elim
    (λ (here : waits_on kinds.Sems id w.call ≡ true). (kinds.Sems, id, here, λ v off. (or_parts (waits_on kinds.Sems id v.call) (is_listed ids v) off).0))
    (λ (not_here : waits_on kinds.Sems id w.call ≡ false).
    let rest = of-listed ids w (sym (ap (λ b. b || is_listed ids w) not_here) ∙ on) in
    (rest.0, rest.1, rest.2, λ v off. rest.3 v (or_parts (waits_on kinds.Sems id v.call) (is_listed ids v) off).1))
    (cases_Bool (waits_on kinds.Sems id w.call))

-- those elsewhere are not ready, whatever the list
abbrev AreQuietIn : (Waiting → Bool) → State → List Waiting → Type 0
AreQuietIn touched s ws = AllByRecursion (λ w. touched w ≡ false → is_ready s w ≡ false) ws

quiet-alike : (touched : Waiting → Bool) (s : State) (parked ws : List Waiting) → AreQuietIn touched s ws → AreQuietIn touched (record s { parked = parked }) ws
quiet-alike touched s parked ws quiet =
    subst (λ (ready : Waiting → Bool). AllByRecursion (λ w. touched w ≡ false → ready w ≡ false) ws) (sym (λ i (w : Waiting). parked_alike s parked w.client w.call i)) quiet

-- a list of which none is of this client
others-of : (client : ℕ) (ws : List Waiting) → list_any (λ w. w.client == client) ws ≡ false → AllByRecursion (λ w. w.client ≢ client) ws
others-of client [] free = tt
others-of client (w ∷ ws) free =
    let parts = or_parts (w.client == client) (list_any (λ v. v.client == client) ws) free in
    (λ e. eqb-false w.client client parts.0 e, others-of client ws parts.1)

-- a grant is one whatever the deadline
early : (late : Bool) (d : Decision State) (answer : Answer) (new : State) → unless_late late d ≡ Granted answer new → d ≡ Granted answer new
early true (Refused rule) answer new is = is
early true Waits answer new is = cc
early true (Granted other old) answer new is = is
early false d answer new is = is

-- what isn't among those that were touched isn't touched
covered : (s new : State) (client : ℕ) (call : Call) (touched : Waiting → Bool) (ws : List Waiting)
    → AllByRecursion (λ w. is_ready s w ≡ false → touches_place s client call w ≡ true → touched w ≡ true) ws → AllByRecursion (λ w. is_ready s w ≡ false) ws
    → AllByRecursion (λ w. touches_place s client call w ≡ false → is_ready new w ≡ false) ws → AreQuietIn touched new ws
covered s new client call touched [] covers waits quiet = tt
covered s new client call touched (w ∷ ws) covers waits quiet =
    (λ off. quiet.0 (by off (touches_place s client call w) refl), covered s new client call touched ws covers.1 waits.1 quiet.1)
  where
    by : touched w ≡ false → (b : Bool) → touches_place s client call w ≡ b → b ≡ false
    by off true on = absurd (false≢true (sym off ∙ covers.0 waits.0 on))
    by off false on = refl

-- after a granted call, where no call was ready before it
pub quiet-moved : (s : State) (client : ℕ) (call : Call) (touched : Waiting → Bool) → CoversWaiting s client call touched → first_ready s ≡ None → is_waiting s client ≡ false → is_grant (outcome_of (decide_call s client call)) ≡ true
    → AreQuietBut touched (moved_by s client call).state
quiet-moved s client call touched covers none free granted = by (decide_call s client call) refl granted
  where
    by : (d : Decision State) → decide_call s client call ≡ d → is_grant (outcome_of d) ≡ true → AreQuietBut touched (moved_as s client call d).state
    by (Refused rule) is granted = absurd (false≢true granted)
    by Waits is granted = absurd (false≢true granted)
    by (Granted answer new) is granted =
        let so : decide s client call ≡ Granted answer new = early (is_late s call) (decide s client call) answer new is in
        let same : new.parked ≡ s.parked = (subst (λ (d : Decision State). Keeps s d) so (Keeps-decide s client call)).0 in
        let waits = found-none (is_ready s) s.parked none in
        let stays : Waiting → Bool = λ w. is_none (cancelled new call w) in
        let left = filter stays s.parked in
        let left_waits = all-filter (λ w. is_ready s w ≡ false) stays s.parked waits in
        let lives = living-kept s new client call answer so s.parked waits (others-of client s.parked free) in
        let left_covers = all-filter (λ w. is_ready s w ≡ false → touches_place s client call w ≡ true → touched w ≡ true) stays s.parked covers in
        let quiet = covered s new client call touched left left_covers left_waits (event_quiet s new client call answer so left left_waits lives) in
        let kept = filter stays new.parked in
        quiet-alike touched new kept kept (subst (λ ws. AreQuietIn touched new (filter stays ws)) (sym same) quiet)

-- a waiting call ends that is the earliest that is ready
module _ (s : State) (w : Waiting) (touched : Waiting → Bool) (objects : OfObjects touched) (quiet : AreQuietBut touched s) where
  abbrev rest : State
  rest = without s w.client

  quiet-rest : AreQuietBut touched rest
  quiet-rest = quiet-alike touched s rest.parked rest.parked (all-filter (λ v. touched v ≡ false → is_ready s v ≡ false) (λ v. not (v.client == w.client)) s.parked quiet)

  -- so it is one of those that were touched
  was-touched : first_ready s ≡ Some w → touched w ≡ true
  was-touched first = by (touched w) refl
    where
      ready : is_ready s w ≡ true
      ready = subst (λ o. IfSome o (λ v. is_ready s v ≡ true)) first (found-passes (is_ready s) s.parked _ refl)

      by : (b : Bool) → touched w ≡ b → b ≡ true
      by true is = refl
      by false is = absurd (true≢false (sym ready ∙ all-found (λ v. touched v ≡ false → is_ready s v ≡ false) (is_ready s) s.parked w quiet first is))

  quiet-turn-on : (t : State) (answer : Answer) → decide rest w.client w.call ≡ Granted answer t → (kind : Kind) (id : ℕ) → waits_on kind id w.call ≡ true → ((v : Waiting) → touched v ≡ false → waits_on kind id v.call ≡ false)
      → (vs : List Waiting) → AllByRecursion (λ v. v.client ≢ w.client) vs → AreQuietIn touched rest vs → AreQuietIn touched t vs
  quiet-turn-on t answer is kind id on closed [] others waits = tt
  quiet-turn-on t answer is kind id on closed (v ∷ vs) others waits =
      (λ off. turn_quiet rest t w answer kind id on is v others.0 (closed v off) (waits.0 off), quiet-turn-on t answer is kind id on closed vs others.1 waits.1)

  without-own : (ws : List Waiting) → AllByRecursion (λ v. v.client ≢ w.client) (others w.client ws)
  without-own [] = tt
  without-own (v ∷ ws) =
      ⊎_elim
      (λ (own : (v.client == w.client) ≡ true). rw own (without-own ws))
      (λ (other : (v.client == w.client) ≡ false). rw other (λ e. eqb-false v.client w.client other e, without-own ws))
      (cases_Bool (v.client == w.client))

  quiet-ended : first_ready s ≡ Some w → (d : Decision State) → decide rest w.client w.call ≡ d → AreQuietBut touched (ended_by rest w.client d).state
  quiet-ended first (Refused rule) is = quiet-rest
  quiet-ended first Waits is = quiet-rest
  quiet-ended first (Granted answer t) is =
      let same : t.parked ≡ rest.parked = (subst (λ (d : Decision State). Keeps rest d) is (Keeps-decide rest w.client w.call)).0 in
      subst (λ ws. AreQuietIn touched t ws) (sym same) (let at = objects w (was-touched first) in quiet-turn-on t answer is at.0 at.1 at.2 at.3 rest.parked (without-own s.parked) quiet-rest)

pub quiet-turn : (s new : State) (e : Completion) (touched : Waiting → Bool) → OfObjects touched → AreQuietBut touched s → option_map (end_waiting s) (first_ready s) ≡ Some (record { state = new; ended = e ∷ [] }) → AreQuietBut touched new
quiet-turn s new e touched objects quiet ends = by (first_ready s) refl ends
  where
    by : (o : Option Waiting) → first_ready s ≡ o → option_map (end_waiting s) o ≡ Some (record { state = new; ended = e ∷ [] }) → AreQuietBut touched new
    by None first ends = absurd (none-some {A = Moved} (record { state = new; ended = e ∷ [] }) ends)
    by (Some w) first ends =
        subst (λ (m : Moved). AreQuietBut touched m.state) (same_Some (end_waiting s w) (record { state = new; ended = e ∷ [] }) ends)
        (quiet-ended s w touched objects quiet first (decide (without s w.client) w.client w.call) refl)
