-- A decision is denied by the rule by which its need is.
use Rattle.std.proofs.Common.{◌≡◌, Bool, true, false, cond, refl}
use Rattle.std.specs.Prelude.{◌||◌, Option, Some, None}
use Rattle.ipc_call.specs.declared.perms.Perm.{Perm}
use Rattle.ipc_call.specs.declared.rules.Rule.{Rule}
use Rattle.ipc_creds.specs.Credentials.{Credentials, cap_ipc_owner, has_capability}
use Rattle.ipc_perm.specs.declared.access.Ground.{Ground}
use Rattle.ipc_perm.specs.declared.access.Ground.TheVariants as grounds
use Rattle.ipc_perm.specs.declared.access.Verdict.TheVariants.{Allowed, Denied}
use Rattle.ipc_perm.specs.declared.access.Want.{Want}
use Rattle.ipc_perm.specs.Access.{Permission, class_of, denial, denied_rule, ground_of, is_subset, rights_of, rule_of, verdict_on}

denied_if : (a b : Bool) (g : Ground) (r : Rule)
    → denied_rule (cond a (Allowed g) (cond b (Allowed grounds.IpcOwner) (Denied r))) ≡ cond (a || b) None (Some r)
denied_if true b g r = refl
denied_if false true g r = refl
denied_if false false g r = refl

pub denied_is : (c : Credentials) (p : Perm) (want : Want) → denied_rule (verdict_on c p want) ≡ denial c (Permission p want)
denied_is c p want =
    denied_if (is_subset want (rights_of c p)) (has_capability c cap_ipc_owner) (ground_of (class_of c p)) (rule_of (class_of c p))
