-- What settling does to a state and to its blur: the calls in sight end alike, and those out of sight leave what is seen.
use Rattle.std.proofs.Common.{◌≡◌, ℕ, Bool, true, false, List, [], ◌∷◌, ◌++◌, map, refl, sym, ap, ◌∙◌, ⊎_elim, subst, Some, None, Ok, Err}
use Rattle.std.specs.Prelude.{◌==◌, not, filter}
use Rattle.std.specs.List.{AllByRecursion}
use Rattle.std.proofs.lemmas.Bool.{cases_Bool, true≢false, false≢true}
use Rattle.std.proofs.lemmas.List.{map-append}
use Rattle.std.proofs.lemmas.List.Elements.{filter-append}
use Rattle.ipc_call.specs.declared.calls.Kind.{Kind}
use Rattle.ipc_call.specs.declared.replies.Waiting.{Waiting}
use Rattle.ipc_call.specs.declared.replies.Completion.{Completion}
use Rattle.ipc_creds.specs.Credentials.{Credentials}
use Rattle.ipc_model.specs.State.{State}
use Rattle.ipc_model.specs.Decision.{Decision, Refused, Waits, Granted}
use Rattle.ipc_model.specs.Decide.{can_wait, decide, waits_at}
use Rattle.ipc_model.specs.Step.{Moved, and_then, end_waiting, ended_by, first_ready, is_ready, settled, without}
use Rattle.ipc_model.proofs.Calls.{only_parkable}
use Rattle.ipc_model.proofs.Plans.{IfGranted}
use Rattle.ipc_laws.specs.Worlds.{blur_by, ends_of, is_hidden, is_hidden_at}
use Rattle.ipc_laws.proofs.Lists.{all-filter, all-found, all-map, filter-turned, find-none, find-seen}
use Rattle.ipc_laws.proofs.Pairs.{Pair, proceeds-pair}
use Rattle.ipc_laws.proofs.Seen.{unseen-stays, unseen-waits, visible-alike}
use Rattle.ipc_laws.proofs.Sight.{IsExact, IsSame, at-by, blur-from, dim, same-hidden, same-sight, sight}
use Rattle.ipc_laws.proofs.Turns.{Apart, apart-end, by-turns, left-alike, left-parked, settled-none, settled-turn}

-- a call that can't wait is always ready
either-way : (s t : State) (w : Waiting) → (can_wait w.call ≡ true → is_ready t w ≡ is_ready s w) → is_ready t w ≡ is_ready s w
either-way s t w alike = ⊎_elim
    (λ (can : can_wait w.call ≡ true). alike can)
    (λ (not_can : can_wait w.call ≡ false). always t not_can ∙ sym (always s not_can))
    (cases_Bool (can_wait w.call))
  where
    always : (u : State) → can_wait w.call ≡ false → is_ready u w ≡ true
    always u not_can = ⊎_elim
        (λ (goes : is_ready u w ≡ true). goes)
        (λ (waits : is_ready u w ≡ false). absurd (true≢false (sym (only_parkable u w.client w.call waits) ∙ not_can)))
        (cases_Bool (is_ready u w))

pub ends-append : (client : ℕ) (xs ys : List Completion) → ends_of client (xs ++ ys) ≡ ends_of client xs ++ ends_of client ys
ends-append client xs ys = ap (map (λ e. e.outcome)) (filter-append (λ e. e.client == client) xs ys) ∙ map-append (λ e. e.outcome) (filter (λ e. e.client == client) xs) (filter (λ e. e.client == client) ys)

pub in-sight : (b : Bool) → not b ≡ true → b ≡ false
in-sight true sight = absurd (false≢true sight)
in-sight false sight = refl

module _ (client process : ℕ) (c : Credentials) where
  -- the call may wait, and where it is out of sight it isn't the client's
  abbrev pub IsAnother : State → Waiting → Type 0
  IsAnother s w = (can_wait w.call ≡ true) × (is_hidden_at process c s (waits_at w.call) ≡ true → (w.client == client) ≡ false)

  abbrev pub AreOthers : State → Type 0
  AreOthers s = AllByRecursion (IsAnother s) s.parked

  pub another-by : (s t : State) → ((kind : Kind) (q : ℕ) → is_hidden process c t kind q ≡ is_hidden process c s kind q) → (w : Waiting) → IsAnother s w → IsAnother t w
  another-by s t same w is = (is.0, λ hidden. is.1 (sym (at-by process c t s same (waits_at w.call)) ∙ hidden))

  -- a call in sight is ready in both
  pub ready-alike : (s : State) (w : Waiting) → sight process c s w ≡ true → is_ready (blur_by process c s) w ≡ is_ready s w
  ready-alike s w seen = either-way s (blur_by process c s) w (λ can.
      sym (proceeds-pair (IsExact process c s) (decide s w.client w.call) (decide (blur_by process c s) w.client w.call)
      (visible-alike process c s w.client w.call can (in-sight (is_hidden_at process c s (waits_at w.call)) seen)).pair))

  -- a turn in sight
  ended-seen : (s : State) (who : ℕ) (d e : Decision State) → Pair (IsExact process c s) d e
      → (ended_by (blur_by process c s) who e ≡ record { state = blur_by process c (ended_by s who d).state; ended = (ended_by s who d).ended })
      × ((kind : Kind) (q : ℕ) → is_hidden process c (ended_by s who d).state kind q ≡ is_hidden process c s kind q)
  ended-seen s who (Refused rule) (Refused other) both = (λ i. record { state = blur_by process c s; ended = record { client = who; outcome = Err (sym both i) } ∷ [] }, λ kind q. refl)
  ended-seen s who (Refused rule) Waits both = absurd both
  ended-seen s who (Refused rule) (Granted answer new) both = absurd both
  ended-seen s who Waits (Refused rule) both = absurd both
  ended-seen s who Waits Waits both = (refl, λ kind q. refl)
  ended-seen s who Waits (Granted answer new) both = absurd both
  ended-seen s who (Granted answer new) (Refused rule) both = absurd both
  ended-seen s who (Granted answer new) Waits both = absurd both
  ended-seen s who (Granted answer new) (Granted other later) both =
      (λ i. record { state = sym both.1.0 i; ended = record { client = who; outcome = Ok (sym both.0 i) } ∷ [] }, both.1.1)

  -- a turn out of sight
  ended-unseen : (s : State) (who : ℕ) (d : Decision State) → IfGranted (λ answer new. IsSame process c s new) d → (who == client) ≡ false → (dim process c (ended_by s who d).state ≡ dim process c s) × (ends_of client (ended_by s who d).ended ≡ [])
  ended-unseen s who (Refused rule) stays other = (refl, rw other refl)
  ended-unseen s who Waits stays other = (refl, refl)
  ended-unseen s who (Granted answer new) stays other = (stays, rw other refl)

  blur-without : (s : State) (who : ℕ) → blur_by process c (without s who) ≡ without (blur_by process c s) who
  blur-without s who = ap (λ ws. record (blur_by process c s) { parked = ws }) (filter-turned (sight process c s) (λ w. not (w.client == who)) s.parked)

  module _ (s : State) (w : Waiting) (first : first_ready s ≡ Some w) (apart : Apart s.parked) (are : AreOthers s) where
    abbrev left : State
    left = without s w.client

    abbrev after : State
    after = (end_waiting s w).state

    abbrev b : State
    b = blur_by process c s

    is-another : IsAnother s w
    is-another = (all-found (is_ready s) (IsAnother s) s.parked w are first).0

    -- out of sight
    module _ (hidden : is_hidden_at process c s (waits_at w.call) ≡ true) where
      unseen : (dim process c after ≡ dim process c left) × (ends_of client (end_waiting s w).ended ≡ [])
      unseen = ended-unseen left w.client (decide left w.client w.call) (unseen-stays process c left w.client w.call (unseen-waits process c left w.client w.call is-another.0 ∙ hidden)) (is-another.1 hidden)

      blur-unseen : blur_by process c after ≡ b
      blur-unseen = blur-from process c after s unseen.0
          ((λ i. filter (same-sight process c after s unseen.0 i) (left-parked s w i)) ∙ left-alike (is_ready s) (sight process c s) s.parked w apart first (ap not hidden))

      hidden-unseen : (kind : Kind) (q : ℕ) → is_hidden process c after kind q ≡ is_hidden process c s kind q
      hidden-unseen = same-hidden process c after s unseen.0

    -- in sight
    module _ (isnt : is_hidden_at process c s (waits_at w.call) ≡ false) where
      both-ended : (end_waiting b w ≡ record { state = blur_by process c after; ended = (end_waiting s w).ended }) × ((kind : Kind) (q : ℕ) → is_hidden process c after kind q ≡ is_hidden process c left kind q)
      both-ended =
          let both = ended-seen left w.client (decide left w.client w.call) (decide (blur_by process c left) w.client w.call) (visible-alike process c left w.client w.call is-another.0 isnt).pair in
          (ap (λ x. ended_by x w.client (decide x w.client w.call)) (sym (blur-without s w.client)) ∙ both.0, both.1)

      first-seen : first_ready b ≡ Some w
      first-seen = find-seen (is_ready s) (is_ready b) (sight process c s) (ready-alike s) s.parked w first (ap not isnt)

    hidden-after : (kind : Kind) (q : ℕ) → is_hidden process c after kind q ≡ is_hidden process c s kind q
    hidden-after = ⊎_elim (λ (hidden : is_hidden_at process c s (waits_at w.call) ≡ true). hidden-unseen hidden) (λ (isnt : is_hidden_at process c s (waits_at w.call) ≡ false). (both-ended isnt).1) (cases_Bool (is_hidden_at process c s (waits_at w.call)))

    others-after : AreOthers after
    others-after = subst (AllByRecursion (IsAnother after)) (sym (left-parked s w))
        (all-filter (IsAnother after) (λ v. not (v.client == w.client)) s.parked (all-map (IsAnother s) (IsAnother after) (λ v is. another-by s after hidden-after v is) s.parked are))

  abbrev pub IsAlikeSettled : State → Type 0
  IsAlikeSettled s = (blur_by process c (settled s).state ≡ (settled (blur_by process c s)).state) × (ends_of client (settled s).ended ≡ ends_of client (settled (blur_by process c s)).ended)

  pub quiet-blur : (s : State) → first_ready s ≡ None → first_ready (blur_by process c s) ≡ None
  quiet-blur s none = find-none (is_ready s) (is_ready (blur_by process c s)) (sight process c s) (ready-alike s) s.parked none

  alike-none : (s : State) → first_ready s ≡ None → IsAlikeSettled s
  alike-none s none =
      let still = settled-none s none in
      let stuck = settled-none (blur_by process c s) (quiet-blur s none) in (
        ap (λ (m : Moved). blur_by process c m.state) still ∙ sym (ap (λ (m : Moved). m.state) stuck),
        ap (λ (m : Moved). ends_of client m.ended) still ∙ sym (ap (λ (m : Moved). ends_of client m.ended) stuck),
      )

  alike-unseen : (s : State) (w : Waiting) → first_ready s ≡ Some w → blur_by process c (end_waiting s w).state ≡ blur_by process c s → ends_of client (end_waiting s w).ended ≡ [] → IsAlikeSettled (end_waiting s w).state → IsAlikeSettled s
  alike-unseen s w first same none later =
      let turn = settled-turn s w first in
      let after = (end_waiting s w).state in (
        ap (λ (m : Moved). blur_by process c m.state) turn ∙ later.0 ∙ ap (λ x. (settled x).state) same,
        ap (λ (m : Moved). ends_of client m.ended) turn ∙ ends-append client (end_waiting s w).ended (settled after).ended ∙ (λ i. none i ++ ends_of client (settled after).ended) ∙ later.1 ∙ ap (λ x. ends_of client (settled x).ended) same,
      )

  alike-seen : (s : State) (w : Waiting) → first_ready s ≡ Some w → first_ready (blur_by process c s) ≡ Some w → end_waiting (blur_by process c s) w ≡ record { state = blur_by process c (end_waiting s w).state; ended = (end_waiting s w).ended }
      → IsAlikeSettled (end_waiting s w).state → IsAlikeSettled s
  alike-seen s w first again both later =
      let after = (end_waiting s w).state in
      let turn = settled-turn s w first in
      let other = settled-turn (blur_by process c s) w again ∙ ap (λ m. and_then m settled) both in (
        ap (λ (m : Moved). blur_by process c m.state) turn ∙ later.0 ∙ sym (ap (λ (m : Moved). m.state) other),
        ap (λ (m : Moved). ends_of client m.ended) turn ∙ ends-append client (end_waiting s w).ended (settled after).ended ∙ ap (λ l. ends_of client (end_waiting s w).ended ++ l) later.1
            ∙ sym (ap (λ (m : Moved). ends_of client m.ended) other ∙ ends-append client (end_waiting s w).ended (settled (blur_by process c after)).ended),
      )

  alike-turn : (s : State) (w : Waiting) → first_ready s ≡ Some w → Apart s.parked × AreOthers s → IsAlikeSettled (end_waiting s w).state → IsAlikeSettled s
  alike-turn s w first holds later = ⊎_elim
      (λ (hidden : is_hidden_at process c s (waits_at w.call) ≡ true). alike-unseen s w first (blur-unseen s w first holds.0 holds.1 hidden) (unseen s w first holds.0 holds.1 hidden).1 later)
      (λ (isnt : is_hidden_at process c s (waits_at w.call) ≡ false). alike-seen s w first (first-seen s w first holds.0 holds.1 isnt) (both-ended s w first holds.0 holds.1 isnt).0 later)
      (cases_Bool (is_hidden_at process c s (waits_at w.call)))

  -- settling a state and its blur
  pub settled-alike : (s : State) → Apart s.parked → AreOthers s → IsAlikeSettled s
  settled-alike s apart are =
      by-turns (λ t. Apart t.parked × AreOthers t) IsAlikeSettled (λ t none holds. alike-none t none) (λ t w first holds. (apart-end t w holds.0, others-after t w first holds.0 holds.1)) alike-turn s (apart, are)
