-- The words of calls: a table, each with how its arguments are read.
use Rattle.std.specs.Prelude.{ℕ, List, [], ◌∷◌, ◌++◌, codes, bytes_eq, Option, None, if◌then◌else◌}
use Rattle.ipc_call.specs.declared.calls.Call.{Call}
use Rattle.ipc_call.specs.declared.calls.Call.TheVariants.{GetVal, GetPid, GetNcnt, GetZcnt, Kill, Name}
use Rattle.ipc_text.specs.Calls.{exit_of, interrupt_of, msgget_of, msgrcv_of, msgsnd_of, rmid_of, set_of, setcreds_of, stat_of}
use Rattle.ipc_text.specs.Lives.{assume_of, begin_of, exec_of, of_pid}
use Rattle.ipc_text.specs.Segments.{shmat_of, shmdt_of, shmget_of, shmread_of, shmwrite_of}
use Rattle.ipc_text.specs.Sets.{getall_of, report_of, semget_of, semop_of, semtimedop_of, setall_of, setval_of}

abbrev pub Table : Type 0
Table = List (List ℕ × (List (List ℕ) → Option Call))

-- msgget(2), msgop(2)
abbrev pub msg_calls : Table
msg_calls = (codes "msgget", msgget_of) ∷ (codes "msgsnd", msgsnd_of) ∷ (codes "msgrcv", msgrcv_of) ∷ []

-- msgctl(2), semctl(2), shmctl(2), of an object of any kind
abbrev pub controls : Table
controls = (codes "stat", stat_of) ∷ (codes "set", set_of) ∷ (codes "rmid", rmid_of) ∷ []

abbrev pub process_calls : Table
process_calls = (codes "interrupt", interrupt_of) ∷ (codes "setcreds", setcreds_of) ∷ (codes "exit", exit_of) ∷ []

-- fork(2), clone(2) and interrupts of one thread name another client: they are read apart
abbrev pub life_calls : Table
life_calls =
    (codes "kill", of_pid Kill)
    ∷ (codes "name", of_pid Name)
    ∷ (codes "exec", exec_of)
    ∷ (codes "begin", begin_of)
    ∷ (codes "assume", assume_of)
    ∷ []

-- shmget(2), shmop(2)
abbrev pub shm_calls : Table
shm_calls =
    (codes "shmget", shmget_of)
    ∷ (codes "shmat", shmat_of)
    ∷ (codes "shmdt", shmdt_of)
    ∷ (codes "shmread", shmread_of)
    ∷ (codes "shmwrite", shmwrite_of)
    ∷ []

-- semget(2), semop(2)
abbrev pub sem_calls : Table
sem_calls = (codes "semget", semget_of) ∷ (codes "semop", semop_of) ∷ (codes "semtimedop", semtimedop_of) ∷ []

-- semctl(2)
abbrev pub value_calls : Table
value_calls =
    (codes "setval", setval_of)
    ∷ (codes "setall", setall_of)
    ∷ (codes "getall", getall_of)
    ∷ (codes "getval", report_of GetVal)
    ∷ (codes "getpid", report_of GetPid)
    ∷ (codes "getncnt", report_of GetNcnt)
    ∷ (codes "getzcnt", report_of GetZcnt)
    ∷ []

-- by the row of the word; None where no row has it
abbrev pub read_by : Table → List ℕ → List (List ℕ) → Option Call
read_by [] word words = None
read_by (row ∷ rows) word words = if bytes_eq word row.0 then row.1 words else read_by rows word words

-- the word of the call, and its arguments
unfoldable pub call_of : List (List ℕ) → Option Call
call_of [] = None
call_of (word ∷ words) =
    read_by (msg_calls ++ controls ++ process_calls ++ life_calls ++ shm_calls ++ sem_calls ++ value_calls) word words
