-- A plan that begins with an object at which the caller has rights.
use Rattle.std.proofs.Common.{◌≡◌, Bool, true, false, Option, Some, None, ap, cond, sym}
use Rattle.std.proofs.lemmas.Bool.{true≢false}
use Rattle.std.proofs.lemmas.Option.{same_Some}
use Rattle.ipc_call.specs.declared.rules.Rule.{Rule}
use Rattle.ipc_call.specs.declared.rules.Rule.TheVariants.{BadId}
use Rattle.ipc_creds.specs.Credentials.{Credentials}
use Rattle.ipc_objects.specs.declared.object.Object.{Object}
use Rattle.ipc_perm.specs.declared.access.Want.{Want}
use Rattle.ipc_model.specs.Decision.{Decision, Refused}
use Rattle.ipc_model.specs.Plan.{Plan, decision, unless}
use Rattle.object_calls.specs.Permitted.{permitted, refusal}

pub refused-by : {T X : Type 0} (c : Credentials) (want : Want) (there : Option (Object T)) (rule : Rule) (rest : Object T → Plan X)
    → refusal c want there ≡ Some rule → decision c (permitted there want rest) ≡ Refused rule
refused-by c want None rule rest is = ap Refused (same_Some BadId rule is)
refused-by c want (Some object) rule rest is = ap (λ d. unless d (decision c (rest object))) is

-- behind a check that passes
pub refused-behind : {X : Type 0} (passes : Bool) (d : Decision X) (other rule : Rule) → passes ≡ true → d ≡ Refused rule
    → cond passes d (Refused other) ≡ Refused rule
refused-behind true d other rule is refused = refused
refused-behind false d other rule is refused = absurd (true≢false (sym is))
