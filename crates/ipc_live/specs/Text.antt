-- The text of the table (the project's own; the names of errors are those of errno(3)).
use Rattle.std.specs.Prelude.{ℕ, List, ◌++◌, codes, decimal, flat_map, string_bytes}
use Rattle.ipc_call.specs.Errors.{name_of}
use Rattle.ipc_call.specs.Rules.{error_of, name_of_rule}
use Rattle.ipc_perm.specs.declared.access.Ground.{Ground}
use Rattle.ipc_perm.specs.declared.access.Ground.TheVariants as grounds
use Rattle.ipc_perm.specs.declared.access.Verdict.{Verdict}
use Rattle.ipc_perm.specs.declared.access.Verdict.TheVariants.{Allowed, Denied}
use Rattle.ipc_live.specs.declared.objects.Object.{Object}
use Rattle.ipc_live.specs.declared.table.Told.{Told}
use Rattle.ipc_live.specs.Told.{EntryOf, RowOf, kind_of}
use Rattle.perm_words.specs.ObjectText.{object_text}

unfoldable pub name_of_ground : Ground → List ℕ
name_of_ground grounds.Owner = codes "owner"
name_of_ground grounds.Group = codes "group"
name_of_ground grounds.Other = codes "others"
name_of_ground grounds.IpcOwner = codes "CAP_IPC_OWNER"
name_of_ground grounds.SysAdmin = codes "CAP_SYS_ADMIN"

-- the line of an object
abbrev pub object_line : Object → List ℕ
object_line o = object_text (kind_of o.used) o.id o.perm ++ codes "\n"

-- the ground of a caller that is allowed, or the error and the rule of one that is denied
abbrev pub verdict_text : Verdict → List ℕ
verdict_text (Allowed why) = name_of_ground why
verdict_text (Denied rule) = codes "no (" ++ (name_of (error_of rule) ++ (codes ", " ++ (name_of_rule rule ++ codes ")")))

abbrev pub told_text : Told → List ℕ
told_text told =
    codes "read "
    ++ (verdict_text told.read
    ++ (codes ", write "
    ++ (verdict_text told.write ++ (codes ", set and remove " ++ (verdict_text told.control ++ codes "\n")))))

-- the line of a process
unfoldable pub row_text : RowOf → List ℕ
row_text row =
    codes "  pid "
    ++ (decimal row.process.pid ++ (codes " (" ++ (string_bytes row.process.name ++ (codes "): " ++ told_text row.told))))

abbrev pub rows_text : List RowOf → List ℕ
rows_text rows = flat_map row_text rows

-- an object and its processes
abbrev pub entry_text : EntryOf → List ℕ
entry_text entry = object_line entry.object ++ rows_text entry.rows

abbrev pub table_text : List EntryOf → List ℕ
table_text entries = flat_map entry_text entries
