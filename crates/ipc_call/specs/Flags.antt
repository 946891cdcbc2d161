-- The flags of calls, as Linux has them (msgget(2), msgop(2), semop(2), shmop(2)). C's octal numbers stand beside them.
use Rattle.std.specs.Prelude.{ℕ, ◌==◌, bit_and, Bool, not}

-- 01000
abbrev pub ipc_creat : ℕ
ipc_creat = 512

-- 02000
abbrev pub ipc_excl : ℕ
ipc_excl = 1024

-- 04000
abbrev pub ipc_nowait : ℕ
ipc_nowait = 2048

-- 010000
abbrev pub msg_noerror : ℕ
msg_noerror = 4096

-- 020000
abbrev pub msg_except : ℕ
msg_except = 8192

-- 010000
abbrev pub sem_undo : ℕ
sem_undo = 4096

-- 010000
abbrev pub shm_rdonly : ℕ
shm_rdonly = 4096

-- the flags have this flag, or one of these bits
abbrev pub has_flag : ℕ → ℕ → Bool
has_flag flags flag = not (bit_and flags flag == 0)
