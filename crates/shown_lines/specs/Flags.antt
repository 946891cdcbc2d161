-- Flags by their names, as strace(1) shows them (msgget(2), msgop(2), semop(2), shmop(2)).
use Rattle.std.specs.Prelude.{ℕ, false, ◌==◌, ◌-◌, bit_and, List, [], ◌∷◌, ◌++◌, codes, if◌then◌else◌}
use Rattle.std.specs.Fmt.{digits}
use Rattle.ipc_call.specs.Flags.{has_flag, ipc_creat, ipc_excl, ipc_nowait, msg_except, msg_noerror, sem_undo, shm_rdonly}
use Rattle.shown_lines.specs.declared.flags.Flag.{Flag}
use Rattle.shown_lines.specs.declared.flags.Flag.TheVariants.{Creat, Excl, NoWait, NoError, Except, Undo, ReadOnly}

abbrev pub bit_of : Flag → ℕ
bit_of Creat = ipc_creat
bit_of Excl = ipc_excl
bit_of NoWait = ipc_nowait
bit_of NoError = msg_noerror
bit_of Except = msg_except
bit_of Undo = sem_undo
bit_of ReadOnly = shm_rdonly

unfoldable pub name_of : Flag → List ℕ
name_of Creat = codes "IPC_CREAT"
name_of Excl = codes "IPC_EXCL"
name_of NoWait = codes "IPC_NOWAIT"
name_of NoError = codes "MSG_NOERROR"
name_of Except = codes "MSG_EXCEPT"
name_of Undo = codes "SEM_UNDO"
name_of ReadOnly = codes "SHM_RDONLY"

-- the other bits of 32
abbrev pub without : ℕ → Flag → ℕ
without flags f = bit_and flags (4294967295 - bit_of f)

-- bits that have no name here, in octal
unfoldable pub octal_text : ℕ → List ℕ
octal_text bits = codes "0" ++ digits 8 false bits

abbrev pub rest_text : ℕ → List ℕ
rest_text bits = if bits == 0 then [] else octal_text bits

-- between a name and what is left
abbrev pub bar : ℕ → List ℕ
bar left = if left == 0 then [] else codes "|"

-- the names of those that are set, in this order, and what is left
abbrev pub parts_text : List Flag → ℕ → List ℕ
parts_text [] left = rest_text left
parts_text (f ∷ fs) left =
    if has_flag left (bit_of f) then name_of f ++ (bar (without left f) ++ parts_text fs (without left f)) else parts_text fs left

abbrev pub flags_text : List Flag → ℕ → List ℕ
flags_text names flags = if flags == 0 then codes "0" else parts_text names flags
