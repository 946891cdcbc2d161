-- Credentials as text. The text is the project's own.
use Rattle.std.specs.Prelude.{ℕ, ◌==◌, List, [], ◌∷◌, ◌++◌, codes, decimal, flat_map, bit_and, if◌then◌else◌}
use Rattle.ipc_call.specs.declared.calls.Identity.{Identity}
use Rattle.ipc_creds.specs.Credentials.{Credentials, cap_ipc_owner, cap_setgid, cap_setuid, cap_sys_admin, cap_sys_resource}

abbrev pub more_text : ℕ → List ℕ
more_text number = codes "," ++ decimal number

-- numbers that commas separate, or - where there is none
abbrev pub numbers_text : List ℕ → List ℕ
numbers_text [] = codes "-"
numbers_text (n ∷ ns) = decimal n ++ flat_map more_text ns

-- a capability by its name, where the set has it
unfoldable pub capability_text : ℕ → List ℕ → ℕ → List ℕ
capability_text caps name cap = if bit_and caps cap == cap then codes "," ++ name else []

-- the set of capabilities as a number, and the names of those that are known
unfoldable pub capabilities_text : ℕ → List ℕ
capabilities_text caps =
    codes " caps "
    ++ (decimal caps
    ++ (capability_text caps (codes "IPC_OWNER") cap_ipc_owner
    ++ (capability_text caps (codes "SYS_ADMIN") cap_sys_admin
    ++ (capability_text caps (codes "SYS_RESOURCE") cap_sys_resource
    ++ (capability_text caps (codes "SETUID") cap_setuid ++ capability_text caps (codes "SETGID") cap_setgid)))))

unfoldable pub id_pair_text : List ℕ → ℕ → ℕ → List ℕ
id_pair_text name user group = name ++ (decimal user ++ (codes ":" ++ decimal group))

-- users and groups: the effective, the real and the saved ones
pub record Ids : Type 0 where
  pub effective : ℕ × ℕ
  pub real : ℕ × ℕ
  pub saved : ℕ × ℕ

unfoldable pub ids_text : Ids → List ℕ
ids_text ids =
    id_pair_text (codes ": effective ") ids.effective.0 ids.effective.1
    ++ (id_pair_text (codes " real ") ids.real.0 ids.real.1 ++ id_pair_text (codes " saved ") ids.saved.0 ids.saved.1)

unfoldable pub supplementary_text : List ℕ → List ℕ
supplementary_text groups = codes " groups " ++ numbers_text groups

-- users and groups, supplementary ones, and capabilities
abbrev pub lists_text : Ids → List ℕ → ℕ → List ℕ
lists_text ids groups caps = ids_text ids ++ (supplementary_text groups ++ capabilities_text caps)

abbrev pub ids_in : Credentials → Ids
ids_in c = record { effective = (c.euid, c.egid); real = (c.ruid, c.rgid); saved = (c.suid, c.sgid) }

abbrev pub ids_handed : Identity → Ids
ids_handed i = record { effective = (i.euid, i.egid); real = (i.ruid, i.rgid); saved = (i.suid, i.sgid) }

-- the credentials that a call hands in
abbrev pub identity_text : Identity → List ℕ
identity_text i = lists_text (ids_handed i) i.groups i.caps
