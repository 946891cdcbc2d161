-- The cells of a table of rights.
use Rattle.std.specs.Prelude.{ℕ, Bool, true, false, ◌||◌, List, ◌++◌, codes, if◌then◌else◌}
use Rattle.ipc_perm.specs.declared.access.Class.{Class}
use Rattle.ipc_perm.specs.declared.access.Class.TheVariants.{Owner, Group, Other}
use Rattle.ipc_perm.specs.declared.access.Ground.{Ground}
use Rattle.ipc_perm.specs.declared.access.Ground.TheVariants as grounds
use Rattle.ipc_perm.specs.declared.access.Verdict.{Verdict}
use Rattle.ipc_perm.specs.declared.access.Verdict.TheVariants.{Allowed, Denied}
use Rattle.ipc_perm.specs.Access.{is_allowed}
use Rattle.ipc_live.specs.declared.table.Told.{Told}

-- whether it is allowed
unfoldable pub cell_text : Verdict → List ℕ
cell_text v = if is_allowed v then codes "yes  " else codes "no   "

-- to read, to write and to control, in this order
abbrev pub cells_text : Told → List ℕ
cells_text told =
    cell_text told.read ++ (cell_text told.write ++ (cell_text told.control ++ codes "    "))

-- a capability allows it, where the class or the ownership doesn't
abbrev pub is_by_ipc_owner : Verdict → Bool
is_by_ipc_owner (Allowed grounds.IpcOwner) = true
is_by_ipc_owner v = false

abbrev pub is_by_sys_admin : Verdict → Bool
is_by_sys_admin (Allowed grounds.SysAdmin) = true
is_by_sys_admin v = false

abbrev pub is_overridden : Told → Bool
is_overridden told = is_by_ipc_owner told.read || is_by_ipc_owner told.write

-- the class
unfoldable pub class_cell : Class → List ℕ
class_cell Owner = codes "owner          "
class_cell Group = codes "group          "
class_cell Other = codes "others         "

-- what decides on reading and writing: the class, or the capability that overrides it
abbrev pub deciding_cell : Class → Told → List ℕ
deciding_cell class told = if is_overridden told then codes "CAP_IPC_OWNER  " else class_cell class
