-- The calls by which processes and threads begin and end, as their arguments write them; None where these aren't in the
-- grammar. Those that name another client are read without its number.
use Rattle.std.specs.Prelude.{ℕ, List, [], ◌∷◌, codes, bytes_eq, Option, Some, None, if◌then◌else◌, option_map}
use Rattle.ipc_call.specs.declared.calls.Call.{Call}
use Rattle.ipc_call.specs.declared.calls.Call.TheVariants.{Assume, Begin, Clone, Exec, Fork, InterruptThread}
use Rattle.ipc_call.specs.declared.calls.Identity.{Identity}
use Rattle.ipc_creds.specs.Credentials.{Credentials}
use Rattle.ipc_text.specs.Grammar.{of_first, of_first_two, of_one, of_two, options_of, two_numbers}
use Rattle.ipc_text.specs.declared.lives.Naming.{Naming}
use Rattle.ipc_text.specs.declared.lives.Naming.TheVariants as namings
use Rattle.ipc_words.specs.Numbers.{number_32}
use Rattle.ipc_words.specs.Steps.{◌>>=◌}

-- credentials as a call carries them
abbrev pub identity_in : Credentials → Identity
identity_in c = record {
  euid = c.euid;
  egid = c.egid;
  groups = c.groups;
  caps = c.caps;
  ruid = c.ruid;
  suid = c.suid;
  rgid = c.rgid;
  sgid = c.sgid;
}

-- PID
abbrev pub pid_of : List (List ℕ) → Option ℕ
pid_of words = of_one number_32 words

abbrev pub of_pid : (ℕ → Call) → List (List ℕ) → Option Call
of_pid call words = option_map call (pid_of words)

-- without arguments
abbrev pub exec_of : List (List ℕ) → Option Call
exec_of [] = Some Exec
exec_of (more ∷ others) = None

abbrev pub creds_words : List ℕ → List ℕ → List (List ℕ) → Option Credentials
creds_words euid egid options = do
  ids ← two_numbers euid egid
  options_of ids.0 ids.1 options

-- EUID EGID [groups=G,G,..] [caps=C,C,..] [saved=SUID:SGID]
abbrev pub identity_words : List (List ℕ) → Option Credentials
identity_words words = of_first_two creds_words words

abbrev pub assume_of : List (List ℕ) → Option Call
assume_of words = option_map (λ c. Assume (identity_in c)) (identity_words words)

abbrev pub begin_words : List ℕ → List (List ℕ) → Option Call
begin_words pid words = do
  p ← number_32 pid
  c ← identity_words words
  Some (Begin p (identity_in c))

-- PID EUID EGID [groups=G,G,..] [caps=C,C,..] [saved=SUID:SGID]
abbrev pub begin_of : List (List ℕ) → Option Call
begin_of words = of_first begin_words words

-- the call, with the number of the client
abbrev pub call_by : Naming → ℕ → Call
call_by (namings.Fork pid) client = Fork client pid
call_by namings.Clone client = Clone client
call_by namings.Interrupt client = InterruptThread client

abbrev pub fork_words : List ℕ → List ℕ → Option (List ℕ × Naming)
fork_words child pid = option_map (λ p. (child, namings.Fork p)) (number_32 pid)

abbrev pub child_words : Naming → List ℕ → Option (List ℕ × Naming)
child_words naming child = Some (child, naming)

abbrev pub naming_by : List ℕ → List (List ℕ) → Option (List ℕ × Naming)
naming_by word words =
    if bytes_eq word (codes "fork") then of_two fork_words words
    else (if bytes_eq word (codes "clone") then of_one (child_words namings.Clone) words
    else (if bytes_eq word (codes "interrupt") then of_one (child_words namings.Interrupt) words else None))

-- fork CHILD PID, clone CHILD, interrupt CHILD
abbrev pub naming_of : List (List ℕ) → Option (List ℕ × Naming)
naming_of words = of_first naming_by words
