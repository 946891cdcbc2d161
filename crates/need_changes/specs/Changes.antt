-- What would allow a caller what it is denied (the project's own): a change, made, and decided again.
use Rattle.std.specs.Prelude.{ℕ, ◌+◌, ◌*◌, ◌%◌, Bool, true, false, bit_or, List, [], ◌∷◌, ◌++◌, filter, Option, Some, None, if◌then◌else◌}
use Rattle.std.specs.List.{list_any}
use Rattle.ipc_call.specs.declared.perms.Perm.{Perm}
use Rattle.ipc_creds.specs.Credentials.{Credentials, cap_ipc_owner, cap_sys_admin}
use Rattle.ipc_perm.specs.declared.access.Class.{Class}
use Rattle.ipc_perm.specs.declared.access.Class.TheVariants.{Owner, Group, Other}
use Rattle.ipc_perm.specs.declared.access.Want.{Want}
use Rattle.ipc_perm.specs.Access.{class_of, controls, permits}
use Rattle.need_changes.specs.declared.changes.Change.{Change}
use Rattle.need_changes.specs.declared.changes.Change.TheVariants as changes

-- a caller with a capability besides. Its real and its saved user and group are the effective ones, as no decision here asks for them
abbrev pub with_capability : ℕ → Credentials → Credentials
with_capability cap c = record {
  euid = c.euid;
  egid = c.egid;
  groups = c.groups;
  caps = bit_or c.caps cap;
  ruid = c.euid;
  suid = c.euid;
  rgid = c.egid;
  sgid = c.egid;
}

abbrev pub creds_with : Change → Credentials → Credentials
creds_with (changes.User uid) c = record c { euid = uid }
creds_with (changes.Group gid) c = record c { egid = gid }
creds_with changes.IpcOwner c = with_capability cap_ipc_owner c
creds_with changes.SysAdmin c = with_capability cap_sys_admin c
creds_with change c = c

abbrev pub perm_with : Change → Perm → Perm
perm_with (changes.Mode mode) p = record p { mode = mode }
perm_with change p = p

abbrev pub want_with : Change → Want → Want
want_with (changes.Asking less) want = less
want_with change want = want

-- with the change the permissions are allowed, or the control
abbrev pub grants : Credentials → Perm → Want → Change → Bool
grants c p want change = permits (creds_with change c) (perm_with change p) (want_with change want)

abbrev pub grants_control : Credentials → Perm → Change → Bool
grants_control c p change = controls (creds_with change c) (perm_with change p)

-- permissions as bits of a class: 4 to read, 2 to write
abbrev pub wanted_bits : Want → ℕ
wanted_bits want = (if want.read then 4 else 0) + (if want.alter then 2 else 0)

-- bits at the place of a class in a mode
abbrev pub placed : Class → ℕ → ℕ
placed Owner bits = 64 * bits
placed Group bits = 8 * bits
placed Other bits = bits

-- the mode that gives the caller's class the permissions too
abbrev pub widened : Credentials → Perm → Want → ℕ
widened c p want = bit_or p.mode (placed (class_of c p) (wanted_bits want)) % 512

-- what is tried: a call that asks for less, where there is one, that mode, the group, the owner and the capability
abbrev pub asking : Option Want → List Change
asking None = []
asking (Some less) = changes.Asking less ∷ []

abbrev pub tried : Credentials → Perm → Want → List Change
tried c p want =
    changes.Mode (widened c p want) ∷ changes.Group p.gid ∷ changes.User p.uid ∷ changes.IpcOwner ∷ []

abbrev pub tried_to_control : Perm → List Change
tried_to_control p = changes.User p.uid ∷ changes.SysAdmin ∷ []

-- those that allow it
abbrev pub changes_of : Credentials → Perm → Want → Option Want → List Change
changes_of c p want less = filter (grants c p want) (asking less ++ tried c p want)

abbrev pub control_changes_of : Credentials → Perm → List Change
control_changes_of c p = filter (grants_control c p) (tried_to_control p)

abbrev pub is_ipc_owner : Change → Bool
is_ipc_owner changes.IpcOwner = true
is_ipc_owner change = false

abbrev pub is_sys_admin : Change → Bool
is_sys_admin changes.SysAdmin = true
is_sys_admin change = false

-- one of them is always the capability
abbrev pub has_ipc_owner : List Change → Bool
has_ipc_owner found = list_any is_ipc_owner found

abbrev pub has_sys_admin : List Change → Bool
has_sys_admin found = list_any is_sys_admin found
