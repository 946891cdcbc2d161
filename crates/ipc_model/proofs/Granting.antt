-- What a plan grants, with what its checks and look-ups tell of it.
use Rattle.std.proofs.Common.{◌≡◌, Bool, true, false, cond, List, [], ◌∷◌, refl, sym, subst, Option, Some, None}
use Rattle.ipc_call.specs.Flags.{has_flag, ipc_nowait}
use Rattle.ipc_call.specs.declared.rules.Rule.{Rule}
use Rattle.ipc_call.specs.declared.replies.Answer.{Answer}
use Rattle.ipc_creds.specs.Credentials.{Credentials}
use Rattle.ipc_perm.specs.Access.{Need, denial}
use Rattle.ipc_model.specs.Decision.{Decision, Refused, Waits, Granted}
use Rattle.ipc_model.specs.Plan as plans
use Rattle.ipc_model.specs.Plan.{Check, IsPlain, Needs, Passes, Plan, Proceeds, decision, found, in_order, on_part, or_wait, unless, ◌⨾◌}
use Rattle.ipc_model.proofs.Plans.{IfGranted, decision-on, on_whole}

-- what a plan grants has the property
pub record Grants {X : Type 0} (c : Credentials) (P : X → Type 0) (p : Plan X) : Type 0 where
  pub granted : IfGranted (λ answer x. P x) (decision c p)

-- what is granted by a plan: the checks before it passed
module _ {X : Type 0} (P : Answer → X → Type 0) where
  granted-if : (b : Bool) (d : Decision X) (rule : Rule) → (b ≡ true → IfGranted P d) → IfGranted P (cond b d (Refused rule))
  granted-if true d rule is = is refl
  granted-if false d rule is = tt

  granted-or_wait : (b : Bool) (rule : Rule) → IfGranted P (cond b (Refused rule) Waits)
  granted-or_wait true rule = tt
  granted-or_wait false rule = tt

  granted-proceeds : (b : Bool) (flags : _) (d : Decision X) (rule : Rule) → IfGranted P d → IfGranted P (cond b d (or_wait flags rule))
  granted-proceeds true flags d rule is = is
  granted-proceeds false flags d rule is = granted-or_wait (has_flag flags ipc_nowait) rule

  granted-unless : (o : Option Rule) (d : Decision X) → IfGranted P d → IfGranted P (unless o d)
  granted-unless None d is = is
  granted-unless (Some rule) d is = tt

granted-whole : {X Y : Type 0} (P : Y → Type 0) (f : X → Y) (d : Decision X) → IfGranted (λ answer x. P (f x)) d → IfGranted (λ answer y. P y) (on_whole f d)
granted-whole P f (Refused rule) is = tt
granted-whole P f Waits is = tt
granted-whole P f (Granted answer new) is = is

module _ {X : Type 0} (P : X → Type 0) (c : Credentials) where
  pub grants-refuse : (rule : Rule) (plain : IsPlain rule) → Grants c P (plans.Refuse rule plain)
  grants-refuse rule plain = record { granted = tt }

  pub grants-grant : (answer : Answer) (new : X) → P new → Grants c P (plans.Grant answer new)
  grants-grant answer new is = record { granted = is }

  pub grants-passes : (b : Bool) (rule : Rule) (plain : IsPlain rule) {p : Plan X} → (b ≡ true → Grants c P p) → Grants c P (Passes b rule plain ⨾ p)
  grants-passes b rule plain {p} is = record { granted = granted-if (λ answer x. P x) b (decision c p) rule (λ yes. (is yes).granted) }

  pub grants-needs : (need : Need) {p : Plan X} → (denial c need ≡ None → Grants c P p) → Grants c P (Needs need ⨾ p)
  grants-needs need {p} is = record { granted = by (denial c need) refl }
    where
      by : (o : Option Rule) → denial c need ≡ o → IfGranted (λ answer x. P x) (unless o (decision c p))
      by None met = (is met).granted
      by (Some rule) fails = tt

  pub grants-check : (check : Check) {p : Plan X} → Grants c P p → Grants c P (check ⨾ p)
  grants-check (Passes b rule plain) is = grants-passes b rule plain (λ yes. is)
  grants-check (Needs need) {p} is = record { granted = granted-unless (λ answer x. P x) (denial c need) (decision c p) is.granted }
  grants-check (Proceeds b flags rule plain) {p} is = record { granted = granted-proceeds (λ answer x. P x) b flags (decision c p) rule is.granted }

  pub grants-order : (checks : List Check) {p : Plan X} → Grants c P p → Grants c P (in_order checks p)
  grants-order [] is = is
  grants-order (check ∷ checks) is = grants-check check (grants-order checks is)

  pub grants-found : {Z : Type 0} (o : Option Z) (rule : Rule) (plain : IsPlain rule) {F : Z → Plan X} → ((z : Z) → o ≡ Some z → Grants c P (F z)) → Grants c P (found o rule plain F)
  grants-found None rule plain is = grants-refuse rule plain
  grants-found (Some z) rule plain is = is z refl

  pub grants-on : {Y : Type 0} (f : Y → X) {p : Plan Y} → Grants c (λ y. P (f y)) p → Grants c P (on_part f p)
  grants-on f {p} is = record { granted = subst (IfGranted (λ answer x. P x)) (sym (decision-on c f p)) (granted-whole P f (decision c p) is.granted) }

granted-less : {X : Type 0} (P Q : X → Type 0) → ((x : X) → P x → Q x) → (d : Decision X) → IfGranted (λ answer x. P x) d → IfGranted (λ answer x. Q x) d
granted-less P Q then_so (Refused rule) is = tt
granted-less P Q then_so Waits is = tt
granted-less P Q then_so (Granted answer new) is = then_so new is

pub grants-less : {X : Type 0} (P Q : X → Type 0) → ((x : X) → P x → Q x) → (c : Credentials) {p : Plan X} → Grants c P p → Grants c Q p
grants-less P Q then_so c {p} is = record { granted = granted-less P Q then_so (decision c p) is.granted }
