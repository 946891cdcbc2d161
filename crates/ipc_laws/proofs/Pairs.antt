-- Two decisions that come out alike, and how that goes with plans.
use Rattle.std.proofs.Common.{◌≡◌, Bool, true, false, cond, List, [], ◌∷◌, refl, sym, ap, ◌∙◌, subst, Option, Some, None}
use Rattle.ipc_call.specs.Flags.{has_flag, ipc_nowait}
use Rattle.ipc_call.specs.declared.rules.Rule.{Rule}
use Rattle.ipc_call.specs.declared.replies.Answer.{Answer}
use Rattle.ipc_creds.specs.Credentials.{Credentials}
use Rattle.ipc_perm.specs.Access.{Need, denial}
use Rattle.ipc_model.specs.Decision.{Decision, Refused, Waits, Granted, outcome_of, proceeds}
use Rattle.std.proofs.lemmas.Option.{none-some}
use Rattle.ipc_model.specs.Decide.{unless_late}
use Rattle.ipc_model.specs.Plan as plans
use Rattle.ipc_model.specs.Plan.{Check, IsPlain, Needs, Passes, Plan, Proceeds, decision, found, in_order, on_part, or_wait, unless, ◌⨾◌}
use Rattle.ipc_model.proofs.Plans.{decision-on, on_whole}
use Rattle.ipc_model.proofs.Alike.{proceeds-on}

-- the same refusal, or both wait, or both are granted with the same answer, and what they change is related
abbrev pub Pair : {X Y : Type 0} → (X → Y → Type 0) → Decision X → Decision Y → Type 0
Pair R (Refused rule) (Refused other) = rule ≡ other
Pair R Waits Waits = Unit {0}
Pair R (Granted answer new) (Granted other later) = (answer ≡ other) × R new later
Pair R d e = ⊥

-- of two plans, for a caller
pub record Both {X Y : Type 0} (c : Credentials) (R : X → Y → Type 0) (p : Plan X) (q : Plan Y) : Type 0 where
  pub pair : Pair R (decision c p) (decision c q)

module _ {X Y : Type 0} (R : X → Y → Type 0) where
  pair-if : (b : Bool) (d : Decision X) (e : Decision Y) (rule : Rule) → (b ≡ true → Pair R d e) → Pair R (cond b d (Refused rule)) (cond b e (Refused rule))
  pair-if true d e rule both = both refl
  pair-if false d e rule both = refl

  pair-or_wait : (b : Bool) (rule : Rule) → Pair R (cond b (Refused rule) Waits) (cond b (Refused rule) Waits)
  pair-or_wait true rule = refl
  pair-or_wait false rule = tt

  pair-proceeds : (b : Bool) (flags : _) (d : Decision X) (e : Decision Y) (rule : Rule) → Pair R d e → Pair R (cond b d (or_wait flags rule)) (cond b e (or_wait flags rule))
  pair-proceeds true flags d e rule both = both
  pair-proceeds false flags d e rule both = pair-or_wait (has_flag flags ipc_nowait) rule

  pair-unless : (o : Option Rule) (d : Decision X) (e : Decision Y) → (o ≡ None → Pair R d e) → Pair R (unless o d) (unless o e)
  pair-unless None d e both = both refl
  pair-unless (Some rule) d e both = refl

  module _ (c : Credentials) where
    pub both-refuse : (rule : Rule) (plain : IsPlain rule) → Both c R (plans.Refuse rule plain) (plans.Refuse rule plain)
    both-refuse rule plain = record { pair = refl }

    pub both-grant : (answer : Answer) (new : X) (later : Y) → R new later → Both c R (plans.Grant answer new) (plans.Grant answer later)
    both-grant answer new later is = record { pair = (refl, is) }

    pub both-passes : (b : Bool) (rule : Rule) (plain : IsPlain rule) {p : Plan X} {q : Plan Y} → (b ≡ true → Both c R p q) → Both c R (Passes b rule plain ⨾ p) (Passes b rule plain ⨾ q)
    both-passes b rule plain {p} {q} both = record { pair = pair-if b (decision c p) (decision c q) rule (λ is. (both is).pair) }

    pub both-needs : (need : Need) {p : Plan X} {q : Plan Y} → (denial c need ≡ None → Both c R p q) → Both c R (Needs need ⨾ p) (Needs need ⨾ q)
    both-needs need {p} {q} both = record { pair = pair-unless (denial c need) (decision c p) (decision c q) (λ is. (both is).pair) }

    pub both-check : (check : Check) {p : Plan X} {q : Plan Y} → Both c R p q → Both c R (check ⨾ p) (check ⨾ q)
    both-check (Passes b rule plain) both = both-passes b rule plain (λ is. both)
    both-check (Needs need) both = both-needs need (λ is. both)
    both-check (Proceeds b flags rule plain) {p} {q} both = record { pair = pair-proceeds b flags (decision c p) (decision c q) rule both.pair }

    pub both-order : (checks : List Check) {p : Plan X} {q : Plan Y} → Both c R p q → Both c R (in_order checks p) (in_order checks q)
    both-order [] both = both
    both-order (check ∷ checks) both = both-check check (both-order checks both)

    -- who is denied is denied in both
    pub both-denied : (need : Need) (rule : Rule) {p : Plan X} {q : Plan Y} → denial c need ≡ Some rule → Both c R (Needs need ⨾ p) (Needs need ⨾ q)
    both-denied need rule {p} {q} is = record { pair = by (denial c need) is }
      where
        by : (o : Option Rule) → o ≡ Some rule → Pair R (unless o (decision c p)) (unless o (decision c q))
        by None is = absurd (none-some rule is)
        by (Some other) is = refl

    -- what is looked for is the same in both
    pub both-found : {Z : Type 0} (o : Option Z) (rule : Rule) (plain : IsPlain rule) {F : Z → Plan X} {G : Z → Plan Y} → ((z : Z) → o ≡ Some z → Both c R (F z) (G z)) → Both c R (found o rule plain F) (found o rule plain G)
    both-found None rule plain both = both-refuse rule plain
    both-found (Some z) rule plain both = both z refl

  pub pair-map : {U V : Type 0} (S : U → V → Type 0) (f : X → U) (g : Y → V) → ((x : X) (y : Y) → R x y → S (f x) (g y)) → (d : Decision X) (e : Decision Y) → Pair R d e → Pair S (on_whole f d) (on_whole g e)
  pair-map S f g then_so (Refused rule) (Refused other) both = both
  pair-map S f g then_so (Refused rule) Waits both = absurd both
  pair-map S f g then_so (Refused rule) (Granted answer new) both = absurd both
  pair-map S f g then_so Waits (Refused rule) both = absurd both
  pair-map S f g then_so Waits Waits both = tt
  pair-map S f g then_so Waits (Granted answer new) both = absurd both
  pair-map S f g then_so (Granted answer new) (Refused rule) both = absurd both
  pair-map S f g then_so (Granted answer new) Waits both = absurd both
  pair-map S f g then_so (Granted answer new) (Granted other later) both = (both.0, then_so new later both.1)

  -- of plans of parts, on their wholes
  pub both-on : {U V : Type 0} (S : U → V → Type 0) (f : X → U) (g : Y → V) → ((x : X) (y : Y) → R x y → S (f x) (g y)) → (c : Credentials) {p : Plan X} {q : Plan Y} → Both c R p q → Both c S (on_part f p) (on_part g q)
  both-on S f g then_so c {p} {q} both =
      record {
        pair = subst (λ d. Pair S d (decision c (on_part g q))) (sym (decision-on c f p))
            (subst (λ e. Pair S (on_whole f (decision c p)) e) (sym (decision-on c g q)) (pair-map S f g then_so (decision c p) (decision c q) both.pair));
      }

on-same : {X : Type 0} (d : Decision X) → on_whole (λ x. x) d ≡ d
on-same (Refused rule) = refl
on-same Waits = refl
on-same (Granted answer new) = refl

-- related by less
pub pair-less : {X Y : Type 0} (R S : X → Y → Type 0) → ((x : X) (y : Y) → R x y → S x y) → (d : Decision X) (e : Decision Y) → Pair R d e → Pair S d e
pair-less R S then_so d e both = subst (λ x. Pair S x e) (on-same d) (subst (λ y. Pair S (on_whole (λ x. x) d) y) (on-same e) (pair-map R S (λ x. x) (λ y. y) then_so d e both))

pub both-less : {X Y : Type 0} (R S : X → Y → Type 0) → ((x : X) (y : Y) → R x y → S x y) → (c : Credentials) {p : Plan X} {q : Plan Y} → Both c R p q → Both c S p q
both-less R S then_so c {p} {q} both = record { pair = pair-less R S then_so (decision c p) (decision c q) both.pair }

-- both proceed or both wait, and come out the same
pub outcome-pair : {X Y : Type 0} (R : X → Y → Type 0) (d : Decision X) (e : Decision Y) → Pair R d e → outcome_of d ≡ outcome_of e
outcome-pair R (Refused rule) (Refused other) both = λ i. outcome_of {X = Unit {0}} (Refused (both i))
outcome-pair R (Refused rule) Waits both = absurd both
outcome-pair R (Refused rule) (Granted answer new) both = absurd both
outcome-pair R Waits (Refused rule) both = absurd both
outcome-pair R Waits Waits both = refl
outcome-pair R Waits (Granted answer new) both = absurd both
outcome-pair R (Granted answer new) (Refused rule) both = absurd both
outcome-pair R (Granted answer new) Waits both = absurd both
outcome-pair R (Granted answer new) (Granted other later) both = λ i. outcome_of {X = Unit {0}} (Granted (both.0 i) tt)

pub proceeds-pair : {X Y : Type 0} (R : X → Y → Type 0) (d : Decision X) (e : Decision Y) → Pair R d e → proceeds d ≡ proceeds e
proceeds-pair R (Refused rule) (Refused other) both = refl
proceeds-pair R (Refused rule) Waits both = absurd both
proceeds-pair R (Refused rule) (Granted answer new) both = refl
proceeds-pair R Waits (Refused rule) both = absurd both
proceeds-pair R Waits Waits both = refl
proceeds-pair R Waits (Granted answer new) both = absurd both
proceeds-pair R (Granted answer new) (Refused rule) both = refl
proceeds-pair R (Granted answer new) Waits both = absurd both
proceeds-pair R (Granted answer new) (Granted other later) both = refl

-- where both are late or neither is
pub late-pair : {X Y : Type 0} (R : X → Y → Type 0) (late : Bool) (d : Decision X) (e : Decision Y) → Pair R d e → Pair R (unless_late late d) (unless_late late e)
late-pair R false d e both = both
late-pair R true (Refused rule) (Refused other) both = both
late-pair R true (Refused rule) Waits both = absurd both
late-pair R true (Refused rule) (Granted answer new) both = absurd both
late-pair R true Waits (Refused rule) both = absurd both
late-pair R true Waits Waits both = refl
late-pair R true Waits (Granted answer new) both = absurd both
late-pair R true (Granted answer new) (Refused rule) both = absurd both
late-pair R true (Granted answer new) Waits both = absurd both
late-pair R true (Granted answer new) (Granted other later) both = both

-- a plan by which the call doesn't wait
pub record Goes {X : Type 0} (c : Credentials) (p : Plan X) : Type 0 where
  pub goes : proceeds (decision c p) ≡ true

module _ (c : Credentials) where
  goes-if : {X : Type 0} (b : Bool) (rule : Rule) (d : Decision X) → (b ≡ true → proceeds d ≡ true) → proceeds (cond b d (Refused rule)) ≡ true
  goes-if true rule d goes = goes refl
  goes-if false rule d goes = refl

  pub goes-passes : {X : Type 0} (b : Bool) (rule : Rule) (plain : IsPlain rule) {p : Plan X} → (b ≡ true → Goes c p) → Goes c (Passes b rule plain ⨾ p)
  goes-passes b rule plain {p} goes = record { goes = goes-if b rule (decision c p) (λ is. (goes is).goes) }

  pub goes-found : {X Z : Type 0} (o : Option Z) (rule : Rule) (plain : IsPlain rule) {F : Z → Plan X} → ((z : Z) → o ≡ Some z → Goes c (F z)) → Goes c (found o rule plain F)
  goes-found None rule plain goes = record { goes = refl }
  goes-found (Some z) rule plain goes = goes z refl

  pub goes-denied : {X : Type 0} (need : Need) (rule : Rule) {p : Plan X} → denial c need ≡ Some rule → Goes c (Needs need ⨾ p)
  goes-denied need rule {p} is = record { goes = ap (λ o. proceeds (unless o (decision c p))) is }

  pub goes-on : {X Y : Type 0} (put : X → Y) {p : Plan X} → Goes c p → Goes c (on_part put p)
  goes-on put {p} goes = record { goes = proceeds-on c put p ∙ goes.goes }
