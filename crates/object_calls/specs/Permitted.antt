-- The object of an identifier that a caller has rights at.
use Rattle.std.specs.Prelude.{Option, Some, None}
use Rattle.ipc_call.specs.declared.rules.Rule.{Rule}
use Rattle.ipc_call.specs.declared.rules.Rule.TheVariants.{BadId}
use Rattle.ipc_creds.specs.Credentials.{Credentials}
use Rattle.ipc_objects.specs.declared.object.Object.{Object}
use Rattle.ipc_perm.specs.Access.{Permission, denial}
use Rattle.ipc_perm.specs.declared.access.Want.{Want}
use Rattle.ipc_model.specs.Plan.{Needs, Plan, found, ◌⨾◌}

-- by which rule it isn't had: there is none, or the caller's denial
abbrev pub refusal : {T : Type 0} → Credentials → Want → Option (Object T) → Option Rule
refusal c want None = Some BadId
refusal c want (Some object) = denial c (Permission object.perm want)

-- a plan that begins with it
abbrev pub permitted : {T X : Type 0} → Option (Object T) → Want → (Object T → Plan X) → Plan X
permitted there want rest = found there BadId _ (λ object. Needs (Permission object.perm want) ⨾ rest object)
