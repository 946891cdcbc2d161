-- Who a client is (credentials(7), capabilities(7)).
use Rattle.std.specs.Prelude.{ℕ, Bool, List, [], ◌∷◌, ◌==◌, bit_and}
use Rattle.std.specs.Prelude.{Option, unwrap_or}
use Rattle.std.specs.List.{list_any}

-- effective user and group, supplementary groups, the set of capabilities as bits, and the real and the saved user and
-- group
pub record Credentials : Type 0 where
  pub euid : ℕ
  pub egid : ℕ
  pub groups : List ℕ
  pub caps : ℕ
  pub ruid : ℕ
  pub suid : ℕ
  pub rgid : ℕ
  pub sgid : ℕ

-- how many supplementary groups there are at most (the project's own)
abbrev pub groups_max : ℕ
groups_max = 32

-- the group is the effective one or a supplementary one
abbrev pub is_in_group : Credentials → ℕ → Bool
is_in_group c gid = list_any (λ group. group == gid) (c.egid ∷ c.groups)

-- what setcreds makes of credentials: another effective user and group, and other supplementary groups where some are
-- given (the project's own)
abbrev pub became : ℕ → ℕ → Option (List ℕ) → Credentials → Credentials
became euid egid groups c = record c { euid = euid; egid = egid; groups = unwrap_or groups c.groups }

-- what execve(2) makes of credentials: the saved user and group are the effective ones. That capabilities stay is the
-- project's own
abbrev pub executed : Credentials → Credentials
executed c = record c { suid = c.euid; sgid = c.egid }

-- the capabilities that the service knows, each a bit
abbrev pub cap_ipc_owner : ℕ
cap_ipc_owner = 1

abbrev pub cap_sys_admin : ℕ
cap_sys_admin = 2

abbrev pub cap_sys_resource : ℕ
cap_sys_resource = 4

abbrev pub cap_setuid : ℕ
cap_setuid = 8

abbrev pub cap_setgid : ℕ
cap_setgid = 16

-- its users and its groups but for supplementary ones: the effective, the real and the saved one
abbrev pub own_users : Credentials → List ℕ
own_users c = c.euid ∷ c.ruid ∷ c.suid ∷ []

abbrev pub own_groups : Credentials → List ℕ
own_groups c = c.egid ∷ c.rgid ∷ c.sgid ∷ []

-- with another effective user and group
abbrev pub acting_as : Credentials → ℕ → ℕ → Credentials
acting_as c uid gid = record c { euid = uid; egid = gid }

abbrev pub has_capability : Credentials → ℕ → Bool
has_capability c cap = bit_and c.caps cap == cap
