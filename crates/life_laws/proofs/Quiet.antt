-- A call that touches no object lets no call proceed that waits; one by which a client begins, or takes other credentials or
-- another pid, does nothing to them.
use Rattle.std.proofs.Common.{◌≡◌, ◌≢◌, ℕ, Bool, true, false, cond, List, [], ◌∷◌, ◌++◌, refl, sym, ap, subst, ◌∙◌, Option, Some, None}
use Rattle.std.specs.Prelude.{◌==◌, filter, flat_map, is_none, option_map, unwrap_or}
use Rattle.std.specs.List.{AllByRecursion}
use Rattle.std.proofs.lemmas.Bool.{eqb-false, false≢true, true≢false}
use Rattle.std.proofs.lemmas.List.{append-nil}
use Rattle.ipc_call.specs.declared.calls.Call.{Call}
use Rattle.ipc_call.specs.declared.calls.Call.TheVariants.{SetCreds, Assume, Begin, Fork, Clone, Name}
use Rattle.ipc_call.specs.declared.calls.Kind.{Kind}
use Rattle.ipc_call.specs.declared.replies.Answer.{Answer}
use Rattle.ipc_call.specs.declared.replies.Completion.{Completion}
use Rattle.ipc_call.specs.declared.replies.Waiting.{Waiting}
use Rattle.ipc_call.specs.declared.rules.Rule.{Rule}
use Rattle.ipc_model.specs.State.{State, is_waiting}
use Rattle.ipc_model.specs.Decision.{Decision, Granted, Refused, Waits, left_by, outcome_of, proceeds}
use Rattle.ipc_model.specs.Decide.{can_wait, decide, decide_call, is_late, unless_late, waits_at}
use Rattle.ipc_model.specs.Cancelled.{cancelled}
use Rattle.ipc_model.specs.Step.{Event, Moved, at_time, begun, cancel, ended_by_rule, expire, expired, is_ready, moved_as, moved_by, settled}
use Rattle.ipc_model.specs.Touched.{touches, touches_place}
use Rattle.ipc_model.proofs.Calls.{Keeps-decide, only_parkable, parked_alike}
use Rattle.ipc_model.proofs.Growing.{Keeps}
use Rattle.ipc_model.proofs.Late.{late-waits}
use Rattle.ipc_model.proofs.Living.{living-kept}
use Rattle.ipc_model.proofs.Turning.{event_quiet}
use Rattle.ipc_history.specs.History.{History, run}
use Rattle.life_laws.specs.Lives.{LeadsTo, LetsNoneProceed, is_granted, is_quiet}
use Rattle.life_laws.proofs.Steps.{run-with}
use Rattle.life_laws.proofs.Waiting.{Free, free-of, stays-settled}
use Rattle.life_laws.proofs.Waits.{all-filter, done, none-found, none-passes, quiet-begun, quiet-run, settled-none}

-- it touches no object, waits for nothing and cancels nothing
quiet-late : (s : State) (call : Call) → is_quiet call ≡ true → is_late s call ≡ false
quiet-late s (SetCreds euid egid groups) is = refl
quiet-late s (Assume creds) is = refl
quiet-late s (Begin p creds) is = refl
quiet-late s (Fork child p) is = refl
quiet-late s (Clone child) is = refl
quiet-late s (Name p) is = refl
quiet-late s call is = absurd (false≢true is)

quiet-waits : (call : Call) → is_quiet call ≡ true → can_wait call ≡ false
quiet-waits (SetCreds euid egid groups) is = refl
quiet-waits (Assume creds) is = refl
quiet-waits (Begin p creds) is = refl
quiet-waits (Fork child p) is = refl
quiet-waits (Clone child) is = refl
quiet-waits (Name p) is = refl
quiet-waits call is = absurd (false≢true is)

quiet-touches : (s : State) (client : ℕ) (call : Call) → is_quiet call ≡ true → (kind : Kind) (id : ℕ) → touches s client call kind id ≡ false
quiet-touches s client (SetCreds euid egid groups) is kind id = refl
quiet-touches s client (Assume creds) is kind id = refl
quiet-touches s client (Begin p creds) is kind id = refl
quiet-touches s client (Fork child p) is kind id = refl
quiet-touches s client (Clone child) is kind id = refl
quiet-touches s client (Name p) is kind id = refl
quiet-touches s client call is kind id = absurd (false≢true is)

quiet-cancels : (s : State) (call : Call) → is_quiet call ≡ true → (w : Waiting) → cancelled s call w ≡ None
quiet-cancels s (SetCreds euid egid groups) is w = refl
quiet-cancels s (Assume creds) is w = refl
quiet-cancels s (Begin p creds) is w = refl
quiet-cancels s (Fork child p) is w = refl
quiet-cancels s (Clone child) is w = refl
quiet-cancels s (Name p) is w = refl
quiet-cancels s call is w = absurd (false≢true is)

-- where a rule ends no call
module _ (rule : Waiting → Option Rule) (none : (w : Waiting) → rule w ≡ None) where
  all-left : (ws : List Waiting) → filter (λ w. is_none (rule w)) ws ≡ ws
  all-left [] = refl
  all-left (w ∷ ws) = ap (λ (o : Option Rule). cond (is_none o) (w ∷ filter (λ v. is_none (rule v)) ws) (filter (λ v. is_none (rule v)) ws)) (none w) ∙ ap (λ (vs : List Waiting). w ∷ vs) (all-left ws)

  none-told : (ws : List Waiting) → flat_map (λ w. ended_by_rule w.client (rule w)) ws ≡ []
  none-told [] = refl
  none-told (w ∷ ws) = ap (λ (o : Option Rule). ended_by_rule w.client o ++ flat_map (λ v. ended_by_rule v.client (rule v)) ws) (none w) ∙ none-told ws

-- a granted call that touches no object
module _ (s : State) (client : ℕ) (call : Call) (quiet : AllByRecursion (λ w. is_ready s w ≡ false) s.parked) (free : Free client s.parked)
    (untouched : (kind : Kind) (id : ℕ) → touches s client call kind id ≡ false) where
  off : (o : Option (Kind × ℕ)) → unwrap_or (option_map (λ at. touches s client call at.0 at.1) o) false ≡ false
  off None = refl
  off (Some at) = untouched at.0 at.1

  module _ (answer : Answer) (new : State) (granted : decide s client call ≡ Granted answer new) where
    abbrev last : State
    last = (cancel new call).state

    others-than : (ws : List Waiting) → Free client ws → AllByRecursion (λ w. w.client ≢ client) ws
    others-than [] other = tt
    others-than (w ∷ ws) other = (eqb-false w.client client other.0, others-than ws other.1)

    still : (ws : List Waiting) → AllByRecursion (λ w. touches_place s client call w ≡ false → is_ready new w ≡ false) ws → AllByRecursion (λ w. is_ready last w ≡ false) ws
    still [] waits = tt
    still (w ∷ ws) waits = (parked_alike new last.parked w.client w.call ∙ waits.0 (off (waits_at w.call)), still ws waits.1)

    keeps : new.parked ≡ s.parked
    keeps = (subst (λ (d : Decision State). Keeps s d) granted (Keeps-decide s client call)).0

    left-quiet : AllByRecursion (λ w. is_ready last w ≡ false) (filter (λ w. is_none (cancelled new call w)) s.parked)
    left-quiet =
        let stays : Waiting → Bool = λ w. is_none (cancelled new call w) in
        still (filter stays s.parked) (event_quiet s new client call answer granted (filter stays s.parked)
        (all-filter (λ w. is_ready s w ≡ false) stays s.parked quiet)
        (living-kept s new client call answer granted s.parked quiet (others-than s.parked free)))

    granted-settles : settled last ≡ done last
    granted-settles = settled-none last (none-found (is_ready last) last.parked
        (subst (λ (ws : List Waiting). AllByRecursion (λ w. is_ready last w ≡ false) (filter (λ w. is_none (cancelled new call w)) ws)) (sym keeps) left-quiet))

  -- what it leaves is settled, whatever is decided
  settles : (d : Decision State) → decide_call s client call ≡ d → settled (moved_as s client call d).state ≡ done (moved_as s client call d).state
  settles (Refused rule) is = settled-none s (none-found (is_ready s) s.parked quiet)
  settles Waits is = stays-settled s client call quiet (late-waits (is_late s call) (decide s client call) (ap (λ (d : Decision State). proceeds d) is))
  settles (Granted answer new) is = granted-settles answer new (granted-so (is_late s call) (decide s client call) is)
    where
      granted-so : (late : Bool) (d : Decision State) → unless_late late d ≡ Granted answer new → d ≡ Granted answer new
      granted-so false d same = same
      granted-so true (Granted other left) same = same
      granted-so true (Refused rule) same = absurd (false≢true (ap (λ (d : Decision State). is_granted (outcome_of d)) same))
      granted-so true Waits same = absurd (false≢true (ap (λ (d : Decision State). is_granted (outcome_of d)) same))

module _ (h : History) (e : Event) (free : is_waiting (run h) e.client ≡ false) where
  abbrev at : State
  at = begun (run h) e.now

  abbrev before : List Completion
  before = (expire (at_time (run h) e.now)).ended

  at-quiet : AllByRecursion (λ w. is_ready at w ≡ false) at.parked
  at-quiet = none-passes (is_ready at) at.parked (quiet-begun (run h) e.now (quiet-run h))

  at-free : Free e.client at.parked
  at-free = all-filter (λ w. (w.client == e.client) ≡ false) (λ w. is_none (expired (at_time (run h) e.now) w)) (run h).parked (free-of e.client (run h).parked free)

  pub lets-none : ((kind : Kind) (id : ℕ) → touches at e.client e.call kind id ≡ false) → LetsNoneProceed h e
  lets-none untouched =
      let settled_so = settles at e.client e.call at-quiet at-free untouched (decide_call at e.client e.call) refl in
      record {
        state = run-with h e ∙ ap (λ (m : Moved). m.state) settled_so;
        told =
            ap (λ (m : Moved). before ++ ((moved_by at e.client e.call).ended ++ m.ended)) settled_so
            ∙ ap (λ (told : List Completion). before ++ told) (append-nil (moved_by at e.client e.call).ended);
      }

  -- what a call leaves that cancels none
  module _ (is : is_quiet e.call ≡ true) where
    none-cancelled : (new : State) → cancel new e.call ≡ done new
    none-cancelled new = λ i. record {
      state = record new { parked = all-left (cancelled new e.call) (quiet-cancels new e.call is) new.parked i };
      ended = none-told (cancelled new e.call) (quiet-cancels new e.call is) new.parked i;
    }

    at-once : decide_call at e.client e.call ≡ decide at e.client e.call
    at-once = ap (λ (late : Bool). unless_late late (decide at e.client e.call)) (quiet-late at e.call is)

    left-so : (d : Decision State) → decide at e.client e.call ≡ d → moved_as at e.client e.call d ≡ done (left_by at d)
    left-so (Refused rule) decided = refl
    left-so Waits decided = absurd (true≢false (sym (only_parkable at e.client e.call (ap (λ (d : Decision State). proceeds d) decided)) ∙ quiet-waits e.call is))
    left-so (Granted answer new) decided = none-cancelled new

    pub quiet-leads : LeadsTo h e (left_by at (decide at e.client e.call))
    quiet-leads =
        let moved = ap (λ (d : Decision State). moved_as at e.client e.call d) at-once ∙ left-so (decide at e.client e.call) refl in
        let lets = lets-none (quiet-touches at e.client e.call is) in
        record {
          state = lets.state ∙ ap (λ (m : Moved). m.state) moved;
          told = lets.told ∙ ap (λ (m : Moved). before ++ m.ended) moved ∙ append-nil before;
        }
