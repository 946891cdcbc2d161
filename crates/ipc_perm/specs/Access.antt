-- Who may do what to an object (POSIX.1-2017 XSH 2.7.1; capabilities(7)).
use Rattle.std.specs.Prelude.{ℕ, Bool, true, false, not, ◌&&◌, ◌||◌, ◌==◌, ◌/◌, ◌%◌, [], ◌∷◌}
use Rattle.std.specs.Prelude.{Option, Some, None, if◌then◌else◌}
use Rattle.std.specs.Option.{option_or}
use Rattle.std.specs.List.{list_any}
use Rattle.ipc_call.specs.declared.rules.Rule.{Rule}
use Rattle.ipc_call.specs.declared.rules.Rule.TheVariants.{OwnerBits, GroupBits, OtherBits}
use Rattle.ipc_call.specs.declared.rules.Rule.TheVariants.{NotOwner, NeedsResource, NotSameUser, ReadOnly, NotOwnUser, NotOwnGroup, NeedsSetgid}
use Rattle.ipc_call.specs.Flags.{has_flag}
use Rattle.ipc_creds.specs.Credentials.{Credentials, is_in_group, has_capability, own_groups, own_users, cap_setgid, cap_setuid}
use Rattle.ipc_creds.specs.Credentials.{cap_ipc_owner, cap_sys_admin, cap_sys_resource}
use Rattle.ipc_call.specs.declared.perms.Perm.{Perm}
use Rattle.ipc_perm.specs.declared.access.Class.{Class}
use Rattle.ipc_perm.specs.declared.access.Class.TheVariants.{Owner, Group, Other}
use Rattle.ipc_perm.specs.declared.access.Want.{Want}
use Rattle.ipc_perm.specs.declared.access.Ground.{Ground}
use Rattle.ipc_perm.specs.declared.access.Ground.TheVariants as grounds
use Rattle.ipc_perm.specs.declared.access.Verdict.{Verdict}
use Rattle.ipc_perm.specs.declared.access.Verdict.TheVariants.{Allowed, Denied}

-- what three permission bits allow: 4 is read, 2 is write; 1, execute, is never asked for
abbrev pub rights : ℕ → Want
rights bits = record { read = bits / 4 % 2 == 1; alter = bits / 2 % 2 == 1 }

-- each permission of the first set is in the second
abbrev pub is_subset : Want → Want → Bool
is_subset asked given = (not asked.read || given.read) && (not asked.alter || given.alter)

-- the right that a call needs which changes what an object holds, and which tells it
abbrev pub to_alter : Want
to_alter = record { read = false; alter = true }

abbrev pub to_read : Want
to_read = record { read = true; alter = false }

-- the effective user owns the object or created it
abbrev pub is_owner : Credentials → Perm → Bool
is_owner c p = list_any (λ uid. uid == c.euid) (p.uid ∷ p.cuid ∷ [])

-- some group of the caller is the object's or its creator's
abbrev pub is_in_groups : Credentials → Perm → Bool
is_in_groups c p = list_any (λ gid. is_in_group c gid) (p.gid ∷ p.cgid ∷ [])

-- the first class that fits decides alone
abbrev pub class_of : Credentials → Perm → Class
class_of c p = if is_owner c p then Owner else (if is_in_groups c p then Group else Other)

abbrev pub bits_of : Class → ℕ → ℕ
bits_of Owner mode = mode / 64 % 8
bits_of Group mode = mode / 8 % 8
bits_of Other mode = mode % 8

-- what the caller's class is allowed
abbrev pub rights_of : Credentials → Perm → Want
rights_of c p = rights (bits_of (class_of c p) p.mode)

-- the wanted permissions are among those of the class, or CAP_IPC_OWNER overrides
abbrev pub permits : Credentials → Perm → Want → Bool
permits c p want = is_subset want (rights_of c p) || has_capability c cap_ipc_owner

-- the caller may set and remove the object (msgctl(2), IPC_SET and IPC_RMID)
abbrev pub controls : Credentials → Perm → Bool
controls c p = is_owner c p || has_capability c cap_sys_admin

-- the caller may interrupt a process of this effective user (kill(2), where Linux asks CAP_KILL)
abbrev pub has_same_user : Credentials → ℕ → Bool
has_same_user c euid = c.euid == euid || has_capability c cap_sys_admin

-- the caller may become a user (seteuid(2)) or a group (setegid(2)): one of its own, or any with the capability
abbrev pub may_be_user : Credentials → ℕ → Bool
may_be_user c uid = list_any (λ own. own == uid) (own_users c) || has_capability c cap_setuid

abbrev pub may_be_group : Credentials → ℕ → Bool
may_be_group c gid = list_any (λ own. own == gid) (own_groups c) || has_capability c cap_setgid

-- the read bits of owner, group and others: 0444
abbrev pub read_bits : ℕ
read_bits = 292

-- their write bits: 0222
abbrev pub write_bits : ℕ
write_bits = 146

-- what the flags of a get ask of an existing object (msgget(2))
abbrev pub asked_of : ℕ → Want
asked_of flags = record { read = has_flag flags read_bits; alter = has_flag flags write_bits }

abbrev pub rule_of : Class → Rule
rule_of Owner = OwnerBits
rule_of Group = GroupBits
rule_of Other = OtherBits

abbrev pub ground_of : Class → Ground
ground_of Owner = grounds.Owner
ground_of Group = grounds.Group
ground_of Other = grounds.Other

-- what a call needs of its caller
pub data Need : Type 0 where
  Permission : (perm : Perm) (want : Want) → Need
  Control : (perm : Perm) → Need
  Resource : Need
  SameUser : (euid : ℕ) → Need
  Writable : (is_read_only : Bool) → Need
  BecomeUser : (uid : ℕ) → Need
  BecomeGroup : (gid : ℕ) → Need
  SetGroups : Need

-- the rule of a need that fails, and None where it is met
abbrev pub denial : Credentials → Need → Option Rule
denial c (Permission p want) = if permits c p want then None else Some (rule_of (class_of c p))
denial c (Control p) = if controls c p then None else Some NotOwner
denial c (SameUser euid) = if has_same_user c euid then None else Some NotSameUser
denial c (Writable is_read_only) = if is_read_only then Some ReadOnly else None
denial c (BecomeUser uid) = if may_be_user c uid then None else Some NotOwnUser
denial c (BecomeGroup gid) = if may_be_group c gid then None else Some NotOwnGroup
denial c SetGroups = if has_capability c cap_setgid then None else Some NeedsSetgid
denial c Resource = if has_capability c cap_sys_resource then None else Some NeedsResource

-- the verdict with its ground: a capability only where the class or the ownership fails
abbrev pub verdict_on : Credentials → Perm → Want → Verdict
verdict_on c p want =
    if is_subset want (rights_of c p) then Allowed (ground_of (class_of c p))
    else if has_capability c cap_ipc_owner then Allowed grounds.IpcOwner
    else Denied (rule_of (class_of c p))

abbrev pub control_verdict_on : Credentials → Perm → Verdict
control_verdict_on c p =
    if is_owner c p then Allowed grounds.Owner
    else if has_capability c cap_sys_admin then Allowed grounds.SysAdmin
    else Denied NotOwner

abbrev pub interrupt_verdict_on : Credentials → ℕ → Verdict
interrupt_verdict_on c euid =
    if c.euid == euid then Allowed grounds.Owner
    else if has_capability c cap_sys_admin then Allowed grounds.SysAdmin
    else Denied NotSameUser

abbrev pub is_allowed : Verdict → Bool
is_allowed (Allowed _) = true
is_allowed (Denied _) = false

abbrev pub denied_rule : Verdict → Option Rule
denied_rule (Allowed _) = None
denied_rule (Denied rule) = Some rule

-- what setcreds needs, in order (seteuid(2), setegid(2), setgroups(2)): the rule of the first need that fails
abbrev pub becoming : Credentials → ℕ → ℕ → Bool → Option Rule
becoming c euid egid groups_given =
    option_or (denial c (BecomeUser euid))
    (option_or (denial c (BecomeGroup egid)) (if groups_given then denial c SetGroups else None))
