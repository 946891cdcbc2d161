-- An object in one line: its kind and identifier, key, mode, owner and creator (the project's own).
use Rattle.std.specs.Prelude.{ℕ, ◌+◌, ◌-◌, ◌%◌, ◌^◌, false, List, [], ◌++◌, codes, decimal}
use Rattle.std.specs.Fmt.{digits, format_spec, padded_integral}
use Rattle.ipc_call.specs.declared.calls.Kind.{Kind}
use Rattle.ipc_call.specs.declared.calls.Kind.TheVariants as kinds
use Rattle.ipc_call.specs.declared.perms.Perm.{Perm}

unfoldable pub name_of_kind : Kind → List ℕ
name_of_kind kinds.Queue = codes "queue"
name_of_kind kinds.Sems = codes "set"
name_of_kind kinds.Segment = codes "segment"

-- a key: 0x and hexadecimal digits, as {:x} writes them
unfoldable pub key_text : ℕ → List ℕ
key_text key = codes "0x" ++ digits 16 false key

-- a mode: four octal digits, as {:04o} writes them
unfoldable pub mode_text : ℕ → List ℕ
mode_text mode = padded_integral (format_spec 32 0 4 4 (2 ^ 64 - 1)) false [] (digits 8 false mode)

-- the last octal digit of a number
abbrev pub octal_digit : ℕ → ℕ
octal_digit n = 48 + n % 8

-- a user and a group
abbrev pub owned_text : List ℕ → ℕ → ℕ → List ℕ
owned_text whose user group = whose ++ (decimal user ++ (codes ":" ++ decimal group))

abbrev pub owners_text : Perm → List ℕ
owners_text a = owned_text (codes " owner ") a.uid a.gid ++ owned_text (codes " creator ") a.cuid a.cgid

-- its owner and its creator are each a user and a group
abbrev pub object_text : Kind → ℕ → Perm → List ℕ
object_text kind id a =
    name_of_kind kind
    ++ (codes " " ++ (decimal id ++ (codes " key " ++ (key_text a.key ++ (codes " mode " ++ (mode_text a.mode ++ owners_text a))))))
