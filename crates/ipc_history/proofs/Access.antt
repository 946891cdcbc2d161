-- Who is granted, and who is denied: of every plan at once, with no case by call.
use Rattle.std.proofs.Common.{◌≡◌, Bool, true, false, List, [], ◌∷◌, ◌++◌, refl, sym, ap, subst, ◌∙◌, Option, Some, None}
use Rattle.std.specs.Prelude.{◌↔◌, Ok, Err, not, T, is_none, if◌then◌else◌}
use Rattle.std.specs.List.{AllByRecursion}
use Rattle.std.proofs.lemmas.Bool.{true≢false}
use Rattle.std.proofs.lemmas.Option.{none-some, same_Some}
use Rattle.ipc_call.specs.Flags.{has_flag, ipc_nowait}
use Rattle.ipc_call.specs.declared.rules.Rule.{Rule}
use Rattle.ipc_call.specs.declared.replies.Answer.{Answer}
use Rattle.ipc_creds.specs.Credentials.{Credentials}
use Rattle.ipc_perm.specs.Access.{Need, denial}
use Rattle.ipc_model.specs.Decision.{Decision}
use Rattle.ipc_model.specs.Decision as decisions
use Rattle.ipc_model.specs.Plan.{Check, Proceeds, IsPlain, Needs, Passes, Plan, Refuse, Grant, by_check, checks_in, decision, is_denial, needs_in, or_wait, unless, ◌⨾◌}
use Rattle.ipc_model.specs.State.{State}
use Rattle.ipc_call.specs.declared.rules.Rule.TheVariants.{TimedOut}
use Rattle.ipc_model.specs.Decide.{decide, is_late, plan, unless_late}
use Rattle.ipc_model.specs.Step.{Event, begun}
use Rattle.ipc_model.specs.Decision.{Outcome, outcome_of}
use Rattle.ipc_history.specs.History.{History, next_step, run}
use Rattle.ipc_history.specs.Access.{AreMet, IsDenied, caller_of, checks_of, needs_of, does_pass}

abbrev is_serve : {X : Type 0} → Decision X → Bool
is_serve (decisions.Refused rule) = false
is_serve decisions.Waits = false
is_serve (decisions.Granted answer new) = true

abbrev pub refusal : {X : Type 0} → Decision X → Option Rule
refusal (decisions.Refused rule) = Some rule
refusal decisions.Waits = None
refusal (decisions.Granted answer new) = None

-- a rule that is no denial isn't the denial
pub other-rule : (r rule : Rule) → IsPlain r → is_denial rule ≡ true → Some r ≡ Some rule → ⊥
other-rule r rule plain denies same = subst (λ b. T (not b)) (ap is_denial (same_Some r rule same) ∙ denies) plain

abbrev head_or : Check → List Check → Check
head_or check [] = check
head_or check (other ∷ checks) = other

abbrev tail_of : List Check → List Check
tail_of [] = []
tail_of (check ∷ checks) = checks

abbrev is_empty : List Check → Bool
is_empty [] = true
is_empty (check ∷ checks) = false

ended : (before after : List Check) (check : Check) → [] ≡ before ++ check ∷ after → ⊥
ended [] after check split = true≢false (ap is_empty split)
ended (b ∷ before) after check split = true≢false (ap is_empty split)

abbrev is_ok_own : Option Outcome → Bool
is_ok_own (Some (Ok answer)) = true
is_ok_own (Some (Err rule)) = false
is_ok_own None = false

abbrev rule_of_own : Option Outcome → Option Rule
rule_of_own (Some (Ok answer)) = None
rule_of_own (Some (Err rule)) = Some rule
rule_of_own None = None

module _ (c : Credentials) where
  later : (check : Check) (checks : List Check) (rule : Rule) → does_pass c check ≡ true → IsDenied c checks rule → IsDenied c (check ∷ checks) rule
  later check checks rule passes d =
      record { before = check ∷ d.before; need = d.need; after = d.after; split = ap (λ cs. check ∷ cs) d.split; passed = (passes, d.passed); fails = d.fails }

waits-served : (X : Type 0) (b : Bool) (rule : Rule) → is_serve {X = X} (if b then decisions.Refused rule else decisions.Waits) ≡ true → ⊥
waits-served X true rule is = true≢false (sym is)
waits-served X false rule is = true≢false (sym is)

waits-refused : (X : Type 0) (b : Bool) (r rule : Rule) → IsPlain r → is_denial rule ≡ true → refusal {X = X} (if b then decisions.Refused r else decisions.Waits) ≡ Some rule → ⊥
waits-refused X true r rule plain denies is = other-rule r rule plain denies is
waits-refused X false r rule plain denies is = none-some rule is

module _ {X : Type 0} (c : Credentials) where
  met-need : (need : Need) (rest : Plan X) (o : Option Rule) → o ≡ denial c need → is_serve (unless o (decision c rest)) ≡ true → (is_serve (decision c rest) ≡ true → AreMet c (needs_in rest)) → (denial c need ≡ None) × AreMet c (needs_in rest)
  met-need need rest None same is met = (sym same, met is)
  met-need need rest (Some rule) same is met = absurd (true≢false (sym is))

  pub met : (plan : Plan X) → is_serve (decision c plan) ≡ true → AreMet c (needs_in plan)
  met (Passes true rule plain ⨾ rest) is = met rest is
  met (Passes false rule plain ⨾ rest) is = absurd (true≢false (sym is))
  met (Needs need ⨾ rest) is = met-need need rest (denial c need) refl is (met rest)
  met (Proceeds true flags rule plain ⨾ rest) is = met rest is
  met (Proceeds false flags rule plain ⨾ rest) is = absurd (waits-served X (has_flag flags ipc_nowait) rule is)
  met (Refuse rule plain) is = tt
  met (Grant answer new) is = tt

  denied-need : (need : Need) (rest : Plan X) (rule : Rule) (o : Option Rule) → o ≡ denial c need → refusal (unless o (decision c rest)) ≡ Some rule
      → (refusal (decision c rest) ≡ Some rule → IsDenied c (checks_in rest) rule) → IsDenied c (Needs need ∷ checks_in rest) rule
  denied-need need rest rule None same is denied = later c (Needs need) (checks_in rest) rule (ap (λ o. is_none o) (sym same)) (denied is)
  denied-need need rest rule (Some r) same is denied = record { before = []; need = need; after = checks_in rest; split = refl; passed = tt; fails = sym same ∙ is }

  pub denied : (plan : Plan X) (rule : Rule) → is_denial rule ≡ true → refusal (decision c plan) ≡ Some rule → IsDenied c (checks_in plan) rule
  denied (Passes true r plain ⨾ rest) rule denies is = later c (Passes true r plain) (checks_in rest) rule refl (denied rest rule denies is)
  denied (Passes false r plain ⨾ rest) rule denies is = absurd (other-rule r rule plain denies is)
  denied (Needs need ⨾ rest) rule denies is = denied-need need rest rule (denial c need) refl is (denied rest rule denies)
  denied (Proceeds true flags r plain ⨾ rest) rule denies is = later c (Proceeds true flags r plain) (checks_in rest) rule refl (denied rest rule denies is)
  denied (Proceeds false flags r plain ⨾ rest) rule denies is = absurd (waits-refused X (has_flag flags ipc_nowait) r rule plain denies is)
  denied (Refuse r plain) rule denies is = absurd (other-rule r rule plain denies is)
  denied (Grant answer new) rule denies is = absurd (none-some rule is)

  -- a check that passes leaves the decision to the rest
  needed : (o : Option Rule) (d : Decision X) → is_none o ≡ true → unless o d ≡ d
  needed None d is = refl
  needed (Some rule) d is = absurd (true≢false (sym is))

  by-passed : (check : Check) (d : Decision X) → does_pass c check ≡ true → by_check c check d ≡ d
  by-passed (Passes passes rule plain) d is = ap (λ b. if b then d else decisions.Refused rule) is
  by-passed (Needs need) d is = needed (denial c need) d is
  by-passed (Proceeds proceeds flags rule plain) d is = ap (λ b. if b then d else or_wait flags rule) is

  decides : (plan : Plan X) (before after : List Check) (need : Need) (rule : Rule) → checks_in plan ≡ before ++ Needs need ∷ after → AllByRecursion (λ check. does_pass c check ≡ true) before → denial c need ≡ Some rule
      → decision c plan ≡ decisions.Refused rule
  decides (check ⨾ rest) [] after need rule split passed fails = ap (λ k. by_check c k (decision c rest)) (ap (head_or check) split) ∙ ap (λ o. unless o (decision c rest)) fails
  decides (check ⨾ rest) (b ∷ before) after need rule split passed fails =
      ap (λ k. by_check c k (decision c rest)) (ap (head_or check) split) ∙ by-passed b (decision c rest) passed.0 ∙ decides rest before after need rule (ap tail_of split) passed.1 fails
  decides (Refuse r plain) before after need rule split passed fails = absurd (ended before after (Needs need) split)
  decides (Grant answer new) before after need rule split passed fails = absurd (ended before after (Needs need) split)

pub served : (d : Decision State) (answer : Answer) → outcome_of d ≡ Some (Ok answer) → is_serve d ≡ true
served (decisions.Refused rule) answer is = absurd (true≢false (ap is_ok_own (sym is)))
served decisions.Waits answer is = absurd (none-some (Ok answer) is)
served (decisions.Granted other new) answer is = refl

pub refused : (d : Decision State) (rule : Rule) → outcome_of d ≡ Some (Err rule) → refusal d ≡ Some rule
refused (decisions.Refused other) rule is = ap rule_of_own is
refused decisions.Waits rule is = absurd (none-some (Err rule) is)
refused (decisions.Granted answer new) rule is = absurd (true≢false (ap is_ok_own is))

-- of a call that may be late
late-served : (late : Bool) (d : Decision State) (answer : Answer) → outcome_of (unless_late late d) ≡ Some (Ok answer) → is_serve d ≡ true
late-served true (decisions.Refused rule) answer is = absurd (true≢false (ap is_ok_own (sym is)))
late-served true decisions.Waits answer is = absurd (true≢false (ap is_ok_own (sym is)))
late-served true (decisions.Granted other new) answer is = refl
late-served false d answer is = served d answer is

late-denied : (late : Bool) (d : Decision State) (rule : Rule) → is_denial rule ≡ true → outcome_of (unless_late late d) ≡ Some (Err rule) → refusal d ≡ Some rule
late-denied true (decisions.Refused other) rule denies is = ap rule_of_own is
late-denied true decisions.Waits rule denies is = absurd (other-rule TimedOut rule tt denies (ap rule_of_own is))
late-denied true (decisions.Granted answer new) rule denies is = absurd (true≢false (ap is_ok_own is))
late-denied false d rule denies is = refused d rule is

late-refuses : (late : Bool) (rule : Rule) → outcome_of {X = State} (unless_late late (decisions.Refused rule)) ≡ Some (Err rule)
late-refuses true rule = refl
late-refuses false rule = refl

-- of every history: a granted call's needs were met
pub access-granted : (h : History) (e : Event) (answer : Answer) → (next_step h e).own ≡ Some (Ok answer) → AreMet (caller_of h e) (needs_of h e)
access-granted h e answer is = let now = begun (run h) e.now in met (caller_of h e) (plan now e.client e.call) (late-served (is_late now e.call) (decide now e.client e.call) answer is)

-- and a denial is answered exactly where every check before its need passed, and the need failed
pub access-denied : (h : History) (e : Event) (rule : Rule) → is_denial rule ≡ true → ((next_step h e).own ≡ Some (Err rule)) ↔ IsDenied (caller_of h e) (checks_of h e) rule
access-denied h e rule denies =
    let now = begun (run h) e.now in
    let c = caller_of h e in
    let p = plan now e.client e.call in
    (λ is. denied c p rule denies (late-denied (is_late now e.call) (decide now e.client e.call) rule denies is), λ d. ap (λ x. outcome_of (unless_late (is_late now e.call) x)) (decides c p d.before d.after d.need rule d.split d.passed d.fails) ∙ late-refuses (is_late now e.call) rule)
