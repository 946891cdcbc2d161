-- Plans that are the same but for what they change: they decide alike, and need the same.
use Rattle.std.proofs.Common.{◌≡◌, List, [], ◌∷◌, refl, sym, ap, ◌∙◌, Option, Some, None}
use Rattle.ipc_call.specs.declared.rules.Rule.{Rule}
use Rattle.ipc_creds.specs.Credentials.{Credentials}
use Rattle.ipc_model.specs.Decision.{Decision, proceeds}
use Rattle.ipc_model.specs.Decision as decisions
use Rattle.ipc_model.specs.Plan.{Check, IsPlain, Plan, checks_in, decision, found, in_order, needs_among, needs_in, on_part, ◌⨾◌}
use Rattle.ipc_model.specs.Plan as plans
use Rattle.ipc_model.proofs.Plans.{checks-on, decision-on, on_whole}

abbrev pub nothing : {X : Type 0} → X → Unit {0}
nothing x = tt

-- a plan but for what it changes
abbrev pub blank : {X : Type 0} → Plan X → Plan (Unit {0})
blank p = on_part nothing p

pub blank-on : {X Y : Type 0} (put : X → Y) (p : Plan X) → blank (on_part put p) ≡ blank p
blank-on put (check ⨾ rest) = ap (λ p. check ⨾ p) (blank-on put rest)
blank-on put (plans.Refuse rule plain) = refl
blank-on put (plans.Grant answer new) = refl

pub blank-found : {X Y Z : Type 0} (o : Option X) (rule : Rule) (plain : IsPlain rule) (f : X → Plan Y) (g : X → Plan Z) → ((x : X) → blank (f x) ≡ blank (g x)) → blank (found o rule plain f) ≡ blank (found o rule plain g)
blank-found None rule plain f g same = refl
blank-found (Some x) rule plain f g same = same x

pub blank-order : {X Y : Type 0} (checks : List Check) (p : Plan X) (q : Plan Y) → blank p ≡ blank q → blank (in_order checks p) ≡ blank (in_order checks q)
blank-order [] p q same = same
blank-order (check ∷ checks) p q same = ap (λ r. check ⨾ r) (blank-order checks p q same)

-- plans that are the same but for what they change decide alike but for what they grant
pub whole-alike : {X Y : Type 0} (c : Credentials) (p : Plan X) (q : Plan Y) → blank p ≡ blank q → on_whole nothing (decision c p) ≡ on_whole nothing (decision c q)
whole-alike c p q same = sym (decision-on c nothing p) ∙ ap (λ r. decision c r) same ∙ decision-on c nothing q

proceeds-whole : {X Y : Type 0} (put : X → Y) (d : Decision X) → proceeds (on_whole put d) ≡ proceeds d
proceeds-whole put (decisions.Refused rule) = refl
proceeds-whole put decisions.Waits = refl
proceeds-whole put (decisions.Granted answer new) = refl

-- the plan of a part goes on or waits as it does on the whole
pub proceeds-on : {X Y : Type 0} (c : Credentials) (put : X → Y) (p : Plan X) → proceeds (decision c (on_part put p)) ≡ proceeds (decision c p)
proceeds-on c put p = ap (λ d. proceeds d) (decision-on c put p) ∙ proceeds-whole put (decision c p)

pub proceeds-alike : {X Y : Type 0} (c : Credentials) (p : Plan X) (q : Plan Y) → blank p ≡ blank q → proceeds (decision c p) ≡ proceeds (decision c q)
proceeds-alike c p q same = sym (proceeds-whole nothing (decision c p)) ∙ ap (λ d. proceeds d) (whole-alike c p q same) ∙ proceeds-whole nothing (decision c q)

-- and need the same
pub needs-alike : {X Y : Type 0} (p : Plan X) (q : Plan Y) → blank p ≡ blank q → needs_in p ≡ needs_in q
needs-alike p q same = ap needs_among (sym (checks-on nothing p) ∙ ap (λ r. checks_in r) same ∙ checks-on nothing q)
