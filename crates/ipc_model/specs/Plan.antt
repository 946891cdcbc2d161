-- The plan of a call: its checks in their order, and what it does where all pass (the order is the project's own where
-- POSIX leaves it open).
use Rattle.std.specs.Prelude.{ℕ, ⊤, Result, Bool, true, false, not, T, List, [], ◌∷◌, Option, Some, None, if◌then◌else◌}
use Rattle.ipc_call.specs.Flags.{has_flag, ipc_nowait}
use Rattle.ipc_call.specs.declared.rules.Rule.{Rule}
use Rattle.ipc_call.specs.declared.rules.Rule.TheVariants.{NotOwner, NeedsResource, NotSameUser, NotOwnUser, NotOwnGroup, NeedsSetgid, ReadOnly, OwnerBits, GroupBits, OtherBits}
use Rattle.ipc_call.specs.declared.replies.Answer.{Answer}
use Rattle.ipc_call.specs.declared.replies.Answer.TheVariants.{Done}
use Rattle.ipc_creds.specs.Credentials.{Credentials}
use Rattle.ipc_perm.specs.Access.{Need, denial}
use Rattle.ipc_model.specs.Decision.{Decision, without_answer}
use Rattle.ipc_model.specs.Decision as decisions

-- the rule is that of a need that fails (EPERM and EACCES)
abbrev pub is_denial : Rule → Bool
is_denial NotOwner = true
is_denial NeedsResource = true
is_denial NotSameUser = true
is_denial NotOwnUser = true
is_denial NotOwnGroup = true
is_denial NeedsSetgid = true
is_denial OwnerBits = true
is_denial GroupBits = true
is_denial OtherBits = true
is_denial ReadOnly = true
is_denial rule = false

-- of a rule that is written out this is computed: `_` stands for it in a plan
abbrev pub IsPlain : Rule → Type 0
IsPlain rule = T (not (is_denial rule))

-- it passes, or the rule refuses; or the caller meets a need, or its denial refuses; or the call can proceed now, or
-- else it waits, and with IPC_NOWAIT the rule refuses
pub data Check : Type 0 where
  Passes : (passes : Bool) (rule : Rule) (plain : IsPlain rule) → Check
  Needs : (need : Need) → Check
  Proceeds : (proceeds : Bool) (flags : ℕ) (rule : Rule) (plain : IsPlain rule) → Check

-- the first check that doesn't pass decides; where all do, the end of the plan. What a call is
-- granted is an answer, and what it changes is new
infixr 5 ◌⨾◌
pub data Plan (X : Type 0) : Type 0 where
  ◌⨾◌ : (check : Check) (rest : Plan X) → Plan X
  Refuse : (rule : Rule) (plain : IsPlain rule) → Plan X
  Grant : (answer : Answer) (new : X) → Plan X

-- the same on a whole, of which it changes a part
abbrev pub on_part : {X Y : Type 0} → (X → Y) → Plan X → Plan Y
on_part put (check ⨾ rest) = check ⨾ on_part put rest
on_part put (Refuse rule plain) = Refuse rule plain
on_part put (Grant answer new) = Grant answer (put new)

-- several checks, and then the rest
abbrev pub in_order : {X : Type 0} → List Check → Plan X → Plan X
in_order [] rest = rest
in_order (check ∷ checks) rest = check ⨾ in_order checks rest

-- what is looked for is there, or the rule refuses
abbrev pub found : {X Y : Type 0} → Option X → (rule : Rule) → IsPlain rule → (X → Plan Y) → Plan Y
found None rule plain rest = Refuse rule plain
found (Some x) rule plain rest = rest x

-- what is looked for is there, or the call waits, and with IPC_NOWAIT the rule refuses
abbrev pub awaited : {X Y : Type 0} → Option X → ℕ → (rule : Rule) → IsPlain rule → (X → Plan Y) → Plan Y
awaited None flags rule plain rest = Proceeds false flags rule plain ⨾ Refuse rule plain
awaited (Some x) flags rule plain rest = rest x

abbrev pub unless : {X : Type 0} → Option Rule → Decision X → Decision X
unless None rest = rest
unless (Some rule) rest = decisions.Refused rule

abbrev pub or_wait : {X : Type 0} → ℕ → Rule → Decision X
or_wait flags rule = if has_flag flags ipc_nowait then decisions.Refused rule else decisions.Waits

abbrev pub by_check : {X : Type 0} → Credentials → Check → Decision X → Decision X
by_check c (Passes passes rule plain) rest = if passes then rest else decisions.Refused rule
by_check c (Needs need) rest = unless (denial c need) rest
by_check c (Proceeds proceeds flags rule plain) rest = if proceeds then rest else or_wait flags rule

-- what these credentials get by the plan
abbrev pub decision : {X : Type 0} → Credentials → Plan X → Decision X
decision c (check ⨾ rest) = by_check c check (decision c rest)
decision c (Refuse rule plain) = decisions.Refused rule
decision c (Grant answer new) = decisions.Granted answer new

-- what these checks alone give: all pass, or a rule refuses, or the call waits
abbrev pub passed : Credentials → List Check → Option (Result ⊤ Rule)
passed c checks = without_answer (decision c (in_order checks (Grant Done (tt {0}))))

-- the checks of a plan, and the needs among them
abbrev pub checks_in : {X : Type 0} → Plan X → List Check
checks_in (check ⨾ rest) = check ∷ checks_in rest
checks_in (Refuse rule plain) = []
checks_in (Grant answer new) = []

abbrev pub needs_among : List Check → List Need
needs_among [] = []
needs_among (Passes passes rule plain ∷ cs) = needs_among cs
needs_among (Needs need ∷ cs) = need ∷ needs_among cs
needs_among (Proceeds proceeds flags rule plain ∷ cs) = needs_among cs

abbrev pub needs_in : {X : Type 0} → Plan X → List Need
needs_in plan = needs_among (checks_in plan)
