-- The calls on processes: interrupts, the end of waiting calls as caught signals bring it (EINTR of msgop(2); the calls are
-- the project's own); how threads and processes begin (fork(2), clone(2), execve(2)) and end (_exit(2), kill(2); semop(2),
-- SEM_UNDO; shmop(2)). That a client is one thread after another is the project's own.
use Rattle.std.specs.Prelude.{ℕ, ◌+◌, ◌==◌, nat_le, nat_lt, ◌&&◌, Bool, true, false, not, List, [], ◌∷◌, filter, length, map, Option, None, Some, is_some, option_and_then, unwrap_or, if◌then◌else◌, slice_get, slice_set}
use Rattle.std.specs.List.{find, list_any, zip}
use Rattle.ipc_call.specs.declared.calls.Identity.{Identity}
use Rattle.ipc_call.specs.declared.rules.Rule.TheVariants.{BadPid, ClientInUse, NoClient, NoProcess, PidInUse, TooManyGroups}
use Rattle.ipc_call.specs.declared.replies.Answer.TheVariants.{Done}
use Rattle.ipc_creds.specs.Credentials.{Credentials, became, executed, groups_max}
use Rattle.ipc_perm.specs.Access.{BecomeGroup, BecomeUser, SameUser, SetGroups}
use Rattle.ipc_model.specs.State.{Caller, State, Thread, creds_at, has_pid, is_running, runs, thread_at}
use Rattle.ipc_model.specs.Semaphores.{after_exit}
use Rattle.ipc_model.specs.Segments.{after_detaches, after_fork}
use Rattle.ipc_model.specs.Plan.{Check, Needs, Passes, Plan, Grant, found, in_order, ◌⨾◌}

-- the credentials of the threads of the process of a pid
abbrev pub threads_of : State → ℕ → List Credentials
threads_of s pid = map (λ t. t.0) (filter (λ t. has_pid pid t.1) (zip s.clients s.threads))

-- what a caller needs that signals a process: of its own nothing, of another one the user of each thread
abbrev pub to_signal : State → Caller → ℕ → List Check
to_signal s who pid = if pid == who.pid then [] else map (λ c. Needs (SameUser c.euid)) (threads_of s pid)

-- a process has the pid
abbrev pub is_process : State → ℕ → Bool
is_process s pid = list_any (has_pid pid) s.threads

-- the waiting calls of all its threads are cancelled after the grant
abbrev pub interrupt : State → Caller → ℕ → Plan State
interrupt s who pid = Passes (is_process s pid) NoProcess _ ⨾ in_order (to_signal s who pid) (Grant Done s)

-- that of this client is
abbrev pub interrupt_thread : State → Caller → ℕ → Plan State
interrupt_thread s who client = found (slice_get s.threads client) NoClient _ (λ thread.
    Passes (not thread.has_ended) NoProcess _
    ⨾ in_order (if thread.pid == who.pid then [] else Needs (SameUser (creds_at s client).euid) ∷ []) (Grant Done s))

-- the end of a process: what exit undoes is undone, and all its attachments go
abbrev pub process_ended : State → Caller → State
process_ended s who = record s { sems = after_exit s.sems who; shared = after_detaches s.shared who }

-- a client's thread has ended
abbrev pub ended : State → ℕ → State
ended s client = record s { threads = slice_set s.threads client (record (thread_at s client) { has_ended = true }) }

-- exit: the thread ends, and with its last one the process
abbrev pub exit : State → Caller → Plan State
exit s who =
    let rest = ended s who.client in
    Grant Done (if is_running rest who.process then rest else process_ended rest who)

-- all threads of a process have ended
abbrev pub ends : ℕ → Thread → Thread
ends process thread = if thread.process == process then record thread { has_ended = true } else thread

abbrev pub all_ended : State → ℕ → State
all_ended s process = record s { threads = map (ends process) s.threads }

-- who ends when a process is killed
abbrev pub as_process : Caller → Thread → Caller
as_process who thread = record who { process = thread.process; pid = thread.pid }

-- kill: all threads of the process, and so the process
abbrev pub kill : State → Caller → ℕ → Plan State
kill s who pid = found (find (has_pid pid) s.threads) NoProcess _ (λ thread.
    in_order (to_signal s who pid) (Grant Done (process_ended (all_ended s thread.process) (as_process who thread))))

-- a client as a new thread of a process
abbrev pub with_client : State → ℕ → ℕ → ℕ → Credentials → State
with_client s client process pid c = record s {
  clients = slice_set s.clients client c;
  threads = slice_set s.threads client (record { process = process; pid = pid; has_ended = false });
}

-- as the only thread of a new process, which takes the next serial number
abbrev pub with_process : State → ℕ → ℕ → Credentials → State
with_process s client pid c = record (with_client s client s.next pid c) { next = s.next + 1 }

-- a client whose thread has ended
abbrev pub if_ended : Thread → Option Thread
if_ended thread = if thread.has_ended then Some thread else None

abbrev pub free_client : State → ℕ → Option Thread
free_client s client = option_and_then if_ended (slice_get s.threads client)

abbrev pub credentials_of : Identity → Credentials
credentials_of i = record {
  euid = i.euid;
  egid = i.egid;
  groups = i.groups;
  caps = i.caps;
  ruid = i.ruid;
  suid = i.suid;
  rgid = i.rgid;
  sgid = i.sgid;
}

-- begin: the client has ended; the pid is one, and there are not too many groups; no process has the pid
abbrev pub begin : State → Caller → ℕ → Identity → Plan State
begin s who pid creds =
    found (free_client s who.client) ClientInUse _ (λ _.
    Passes (nat_lt 0 pid) BadPid _
    ⨾ Passes (nat_le (length creds.groups) groups_max) TooManyGroups _
    ⨾ Passes (not (is_process s pid)) PidInUse _
    ⨾ Grant Done (with_process s who.client pid (credentials_of creds)))

-- fork: the new process has the caller's credentials and copies of its attachments, and no semadj
abbrev pub fork : State → Caller → ℕ → ℕ → Plan State
fork s who child pid =
    Passes (nat_lt 0 pid) BadPid _
    ⨾ Passes (nat_lt child (length s.threads)) NoClient _
    ⨾ found (free_client s child) ClientInUse _ (λ _.
    Passes (not (is_process s pid)) PidInUse _
    ⨾ Grant Done (record (with_process s child pid who.creds) { shared = after_fork s.shared who s.next }))

-- clone: one more thread of the caller's process, with its credentials
abbrev pub clone : State → Caller → ℕ → Plan State
clone s who child =
    Passes (nat_lt child (length s.threads)) NoClient _
    ⨾ found (free_client s child) ClientInUse _ (λ _. Grant Done (with_client s child who.process who.pid who.creds))

-- the threads of a process with another pid; one that has ended keeps the pid that it had
abbrev pub renamed : ℕ → ℕ → Thread → Thread
renamed process pid thread = if runs process thread then record thread { pid = pid } else thread

-- a thread of another process has the pid
abbrev pub is_other : ℕ → ℕ → Thread → Bool
is_other process pid thread = has_pid pid thread && not (thread.process == process)

-- name: the process takes another pid, which no other process has
abbrev pub name : State → Caller → ℕ → Plan State
name s who pid =
    Passes (nat_lt 0 pid) BadPid _
    ⨾ Passes (not (list_any (is_other who.process pid) s.threads)) PidInUse _
    ⨾ Grant Done (record s { threads = map (renamed who.process pid) s.threads })

-- exec: the other threads end, all attachments of the process go, and its semadj stay
abbrev pub others_ended : State → Caller → State
others_ended s who = record s { threads = slice_set (all_ended s who.process).threads who.client (thread_at s who.client) }

abbrev pub after_exec : State → Caller → State
after_exec s who = record (others_ended s who) {
  clients = slice_set s.clients who.client (executed who.creds);
  shared = after_detaches s.shared who;
}

abbrev pub exec : State → Caller → Plan State
exec s who = Grant Done (after_exec s who)

-- a client with other credentials
abbrev pub with_creds : State → ℕ → Credentials → State
with_creds s client c = record s { clients = slice_set s.clients client c }

-- assume: the credentials that the client's thread has, as those say who know; there are not too many groups
abbrev pub assume : State → Caller → Identity → Plan State
assume s who creds =
    Passes (nat_le (length creds.groups) groups_max) TooManyGroups _ ⨾ Grant Done (with_creds s who.client (credentials_of creds))

-- setcreds: not too many groups are given; the caller may become the user, and the group, and set groups where some are
-- given. No object changes, nor what is attached
abbrev pub set_creds : State → Caller → ℕ → ℕ → Option (List ℕ) → Plan State
set_creds s who euid egid groups =
    Passes (nat_le (length (unwrap_or groups [])) groups_max) TooManyGroups _
    ⨾ Needs (BecomeUser euid)
    ⨾ Needs (BecomeGroup egid)
    ⨾ in_order (if is_some groups then Needs SetGroups ∷ [] else [])
    (Grant Done (with_creds s who.client (became euid egid groups who.creds)))
