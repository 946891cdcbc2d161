-- What follows for every plan: its end, what holds of its decision, and what it decides as the plan of a part.
use Rattle.std.proofs.Common.{◌≡◌, Bool, true, false, cond, List, [], ◌∷◌, refl, sym, ap, ◌∙◌, Option, Some, None}
use Rattle.std.proofs.lemmas.Bool.{false≢true}
use Rattle.ipc_call.specs.Flags.{has_flag, ipc_nowait}
use Rattle.ipc_call.specs.declared.rules.Rule.{Rule}
use Rattle.ipc_call.specs.declared.replies.Answer.{Answer}
use Rattle.ipc_creds.specs.Credentials.{Credentials}
use Rattle.ipc_perm.specs.Access.{denial}
use Rattle.ipc_model.specs.Decision.{Decision, left_by, outcome_of, proceeds}
use Rattle.ipc_model.specs.Decision as decisions
use Rattle.ipc_model.specs.Plan.{Check, Proceeds, IsPlain, Needs, Passes, Plan, Refuse, Grant, by_check, checks_in, decision, found, in_order, needs_among, needs_in, on_part, or_wait, unless, ◌⨾◌}

-- what is decided where all checks pass
abbrev pub end_of : {X : Type 0} → Plan X → Decision X
end_of (check ⨾ rest) = end_of rest
end_of (Refuse rule plain) = decisions.Refused rule
end_of (Grant answer new) = decisions.Granted answer new

-- what holds of each refusal, of waiting, and of the end of a plan, holds of its decision
module _ {X : Type 0} (c : Credentials) (P : Decision X → Type 0) (refused : (rule : Rule) → P (decisions.Refused rule)) (waits : P decisions.Waits) where
  by-if : (b : Bool) (d e : Decision X) → P d → P e → P (cond b d e)
  by-if true d e pd pe = pd
  by-if false d e pd pe = pe

  by-unless : (o : Option Rule) (d : Decision X) → P d → P (unless o d)
  by-unless None d p = p
  by-unless (Some rule) d p = refused rule

  by-checked : (check : Check) (d : Decision X) → P d → P (by_check c check d)
  by-checked (Passes passes rule plain) d p = by-if passes d (decisions.Refused rule) p (refused rule)
  by-checked (Needs need) d p = by-unless (denial c need) d p
  by-checked (Proceeds proceeds flags rule plain) d p = by-if proceeds d (or_wait flags rule) p (by-if (has_flag flags ipc_nowait) (decisions.Refused rule) decisions.Waits (refused rule) waits)

  pub by-end : (p : Plan X) → P (end_of p) → P (decision c p)
  by-end (check ⨾ rest) holds = by-checked check (decision c rest) (by-end rest holds)
  by-end (Refuse rule plain) holds = holds
  by-end (Grant answer new) holds = holds

-- what is granted has the property
abbrev pub IfGranted : {X : Type 0} → (Answer → X → Type 0) → Decision X → Type 0
IfGranted P (decisions.Refused rule) = Unit {0}
IfGranted P decisions.Waits = Unit {0}
IfGranted P (decisions.Granted answer new) = P answer new

-- what the end of a plan grants has it
abbrev pub Ends : {X : Type 0} → (Answer → X → Type 0) → Plan X → Type 0
Ends P p = IfGranted P (end_of p)

pub Ends-decision : {X : Type 0} (c : Credentials) (P : Answer → X → Type 0) (p : Plan X) → Ends P p → IfGranted P (decision c p)
Ends-decision c P p ends = by-end c (IfGranted P) (λ rule. tt) tt p ends

pub Ends-found : {X Y : Type 0} (P : Answer → Y → Type 0) (o : Option X) (rule : Rule) (plain : IsPlain rule) (rest : X → Plan Y) → ((x : X) → o ≡ Some x → Ends P (rest x)) → Ends P (found o rule plain rest)
Ends-found P None rule plain rest ends = tt
Ends-found P (Some x) rule plain rest ends = ends x refl

pub Ends-order : {X : Type 0} (P : Answer → X → Type 0) (checks : List Check) (p : Plan X) → Ends P p → Ends P (in_order checks p)
Ends-order P [] p ends = ends
Ends-order P (check ∷ checks) p ends = Ends-order P checks p ends

-- what a plan of a part grants, it grants of the whole
pub Ends-on : {X Y : Type 0} (put : X → Y) (P : Answer → Y → Type 0) (p : Plan X) → Ends (λ answer x. P answer (put x)) p → Ends P (on_part put p)
Ends-on put P (check ⨾ rest) ends = Ends-on put P rest ends
Ends-on put P (Refuse rule plain) ends = tt
Ends-on put P (Grant answer new) ends = ends

-- a decision on a part, as one on the whole
abbrev pub on_whole : {X Y : Type 0} → (X → Y) → Decision X → Decision Y
on_whole put (decisions.Refused rule) = decisions.Refused rule
on_whole put decisions.Waits = decisions.Waits
on_whole put (decisions.Granted answer new) = decisions.Granted answer (put new)

module _ {X Y : Type 0} (c : Credentials) (put : X → Y) where
  whole-if : (b : Bool) (d : Decision X) (e : Decision Y) (rule : Rule) → e ≡ on_whole put d → cond b e (decisions.Refused rule) ≡ on_whole put (cond b d (decisions.Refused rule))
  whole-if true d e rule same = same
  whole-if false d e rule same = refl

  whole-unless : (o : Option Rule) (d : Decision X) (e : Decision Y) → e ≡ on_whole put d → unless o e ≡ on_whole put (unless o d)
  whole-unless None d e same = same
  whole-unless (Some rule) d e same = refl

  whole-wait : (b : Bool) (rule : Rule) → cond b (decisions.Refused rule) decisions.Waits ≡ on_whole put (cond b (decisions.Refused rule) decisions.Waits)
  whole-wait true rule = refl
  whole-wait false rule = refl

  whole-proceeds : (b : Bool) (flags : _) (d : Decision X) (e : Decision Y) (rule : Rule) → e ≡ on_whole put d → cond b e (or_wait flags rule) ≡ on_whole put (cond b d (or_wait flags rule))
  whole-proceeds true flags d e rule same = same
  whole-proceeds false flags d e rule same = whole-wait (has_flag flags ipc_nowait) rule

  -- the plan of a part decides on the whole as it does on the part
  pub decision-on : (p : Plan X) → decision c (on_part put p) ≡ on_whole put (decision c p)
  decision-on (Passes passes rule plain ⨾ rest) = whole-if passes (decision c rest) (decision c (on_part put rest)) rule (decision-on rest)
  decision-on (Needs need ⨾ rest) = whole-unless (denial c need) (decision c rest) (decision c (on_part put rest)) (decision-on rest)
  decision-on (Proceeds proceeds flags rule plain ⨾ rest) = whole-proceeds proceeds flags (decision c rest) (decision c (on_part put rest)) rule (decision-on rest)
  decision-on (Refuse rule plain) = refl
  decision-on (Grant answer new) = refl

outcome-whole : {X Y : Type 0} (put : X → Y) (d : Decision X) → outcome_of (on_whole put d) ≡ outcome_of d
outcome-whole put (decisions.Refused rule) = refl
outcome-whole put decisions.Waits = refl
outcome-whole put (decisions.Granted answer new) = refl

pub outcome-on : {X Y : Type 0} (c : Credentials) (put : X → Y) (p : Plan X) → outcome_of (decision c (on_part put p)) ≡ outcome_of (decision c p)
outcome-on c put p = ap (λ d. outcome_of d) (decision-on c put p) ∙ outcome-whole put (decision c p)

left-whole : {X Y : Type 0} (put : X → Y) (d : Decision X) (t : X) (s : Y) → put t ≡ s → left_by s (on_whole put d) ≡ put (left_by t d)
left-whole put (decisions.Refused rule) t s same = sym same
left-whole put decisions.Waits t s same = sym same
left-whole put (decisions.Granted answer new) t s same = refl

-- what is left of the whole is what is left of the part
pub left-on : {X Y : Type 0} (c : Credentials) (put : X → Y) (p : Plan X) (t : X) (s : Y) → put t ≡ s → left_by s (decision c (on_part put p)) ≡ put (left_by t (decision c p))
left-on c put p t s same = ap (λ d. left_by s d) (decision-on c put p) ∙ left-whole put (decision c p) t s same

-- its checks and needs are the same
pub checks-on : {X Y : Type 0} (put : X → Y) (p : Plan X) → checks_in (on_part put p) ≡ checks_in p
checks-on put (check ⨾ rest) = ap (λ cs. check ∷ cs) (checks-on put rest)
checks-on put (Refuse rule plain) = refl
checks-on put (Grant answer new) = refl

pub needs-on : {X Y : Type 0} (put : X → Y) (p : Plan X) → needs_in (on_part put p) ≡ needs_in p
needs-on put p = ap needs_among (checks-on put p)

-- nothing in the plan waits
abbrev pub never_waits : {X : Type 0} → Plan X → Bool
never_waits (Passes passes rule plain ⨾ rest) = never_waits rest
never_waits (Needs need ⨾ rest) = never_waits rest
never_waits (Proceeds proceeds flags rule plain ⨾ rest) = false
never_waits (Refuse rule plain) = true
never_waits (Grant answer new) = true

pub never-found : {X Y : Type 0} (o : Option X) (rule : Rule) (plain : IsPlain rule) (rest : X → Plan Y) → ((x : X) → never_waits (rest x) ≡ true) → never_waits (found o rule plain rest) ≡ true
never-found None rule plain rest never = refl
never-found (Some x) rule plain rest never = never x

pub never-on : {X Y : Type 0} (put : X → Y) (p : Plan X) → never_waits p ≡ true → never_waits (on_part put p) ≡ true
never-on put (Passes passes rule plain ⨾ rest) never = never-on put rest never
never-on put (Needs need ⨾ rest) never = never-on put rest never
never-on put (Proceeds proceeds flags rule plain ⨾ rest) never = never
never-on put (Refuse rule plain) never = never
never-on put (Grant answer new) never = never

module _ {X : Type 0} (c : Credentials) where
  proceeds-if : (b : Bool) (rule : Rule) (d : Decision X) → proceeds d ≡ true → proceeds (cond b d (decisions.Refused rule)) ≡ true
  proceeds-if true rule d is = is
  proceeds-if false rule d is = refl

  proceeds-unless : (o : Option Rule) (d : Decision X) → proceeds d ≡ true → proceeds (unless o d) ≡ true
  proceeds-unless None d is = is
  proceeds-unless (Some rule) d is = refl

  pub proceeds-never : (p : Plan X) → never_waits p ≡ true → proceeds (decision c p) ≡ true
  proceeds-never (Passes passes rule plain ⨾ rest) never = proceeds-if passes rule (decision c rest) (proceeds-never rest never)
  proceeds-never (Needs need ⨾ rest) never = proceeds-unless (denial c need) (decision c rest) (proceeds-never rest never)
  proceeds-never (Proceeds proceeds flags rule plain ⨾ rest) never = absurd (false≢true never)
  proceeds-never (Refuse rule plain) never = refl
  proceeds-never (Grant answer new) never = refl
