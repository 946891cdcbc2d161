-- The calls on queues, on objects of any kind and on processes, as their arguments write them; None where these aren't in the grammar.
use Rattle.std.specs.Prelude.{ℕ, List, [], ◌∷◌, codes, bytes_eq, Option, Some, None, if◌then◌else◌, option_map}
use Rattle.ipc_call.specs.declared.calls.Call.{Call}
use Rattle.ipc_call.specs.declared.calls.Call.TheVariants.{MsgGet, MsgSnd, MsgRcv, IpcStat, IpcSet, IpcRmid}
use Rattle.ipc_call.specs.declared.calls.Call.TheVariants.{Interrupt, SetCreds, Exit}
use Rattle.ipc_call.specs.declared.calls.Kind.{Kind}
use Rattle.ipc_call.specs.declared.calls.Kind.TheVariants.{Queue, Sems, Segment}
use Rattle.ipc_text.specs.Grammar.{number_list, of_first_two, of_four, of_one, of_two, only, optional, two_numbers}
use Rattle.ipc_words.specs.Numbers.{number_32, number_64, signed_64}
use Rattle.ipc_words.specs.Steps.{◌>>=◌}
use Rattle.ipc_text.specs.Texts.{text_of}

abbrev pub msgget_words : List ℕ → List ℕ → Option Call
msgget_words key flags = do
  k ← number_32 key
  f ← number_32 flags
  Some (MsgGet k f)

-- KEY FLAGS
abbrev pub msgget_of : List (List ℕ) → Option Call
msgget_of words = of_two msgget_words words

abbrev pub msgsnd_words : List ℕ → List ℕ → List ℕ → List ℕ → Option Call
msgsnd_words id mtype text flags = do
  i ← number_32 id
  t ← signed_64 mtype
  f ← number_32 flags
  bytes ← text_of text
  Some (MsgSnd i t bytes f)

-- ID MTYPE TEXT FLAGS
unfoldable pub msgsnd_of : List (List ℕ) → Option Call
msgsnd_of words = of_four msgsnd_words words

abbrev pub msgrcv_words : List ℕ → List ℕ → List ℕ → List ℕ → Option Call
msgrcv_words id size msgtyp flags = do
  i ← number_32 id
  n ← number_64 size
  t ← signed_64 msgtyp
  f ← number_32 flags
  Some (MsgRcv i n t f)

-- ID SIZE MSGTYP FLAGS
unfoldable pub msgrcv_of : List (List ℕ) → Option Call
msgrcv_of words = of_four msgrcv_words words

-- KIND: q queue, s semaphore set, m segment
unfoldable pub kind_named : List ℕ → Option Kind
kind_named word =
    if bytes_eq word (codes "q") then Some Queue
    else (if bytes_eq word (codes "s") then Some Sems else (if bytes_eq word (codes "m") then Some Segment else None))

abbrev pub object_words : List ℕ → List ℕ → Option (Kind × ℕ)
object_words kind id = do
  k ← kind_named kind
  i ← number_32 id
  Some (k, i)

-- KIND ID
abbrev pub object_of : List (List ℕ) → Option (Kind × ℕ)
object_of words = of_two object_words words

abbrev pub stat_of : List (List ℕ) → Option Call
stat_of words = option_map (λ object. IpcStat object.0 object.1) (object_of words)

abbrev pub rmid_of : List (List ℕ) → Option Call
rmid_of words = option_map (λ object. IpcRmid object.0 object.1) (object_of words)

-- [QBYTES]
abbrev pub qbytes_of : List (List ℕ) → Option (Option ℕ)
qbytes_of [] = Some None
qbytes_of (qbytes ∷ []) = option_map (λ n. Some n) (number_64 qbytes)
qbytes_of (qbytes ∷ more ∷ others) = None

abbrev pub set_words : List ℕ → List ℕ → List ℕ → List ℕ → List ℕ → List (List ℕ) → Option Call
set_words kind id uid gid mode rest = do
  k ← kind_named kind
  i ← number_32 id
  u ← number_32 uid
  g ← number_32 gid
  m ← number_32 mode
  q ← qbytes_of rest
  Some (IpcSet k i u g m q)

-- KIND ID UID GID MODE [QBYTES]
unfoldable pub set_of : List (List ℕ) → Option Call
set_of [] = None
set_of (kind ∷ []) = None
set_of (kind ∷ id ∷ []) = None
set_of (kind ∷ id ∷ uid ∷ []) = None
set_of (kind ∷ id ∷ uid ∷ gid ∷ []) = None
set_of (kind ∷ id ∷ uid ∷ gid ∷ mode ∷ rest) = set_words kind id uid gid mode rest

-- PID
abbrev pub interrupt_of : List (List ℕ) → Option Call
interrupt_of words = option_map (λ p. Interrupt p) (of_one number_32 words)

-- the groups in place of others: - for none, or a list of them
abbrev pub new_groups : List ℕ → Option (List ℕ)
new_groups text = if bytes_eq text (codes "-") then Some [] else number_list text

-- [groups=G,G,..] or groups=-, and the words behind it; None where the groups are kept
abbrev pub groups_option : List (List ℕ) → Option (Option (List ℕ) × List (List ℕ))
groups_option words = optional (codes "groups=") (λ text. option_map (λ gs. Some gs) (new_groups text)) None words

abbrev pub setcreds_words : List ℕ → List ℕ → List (List ℕ) → Option Call
setcreds_words euid egid options = do
  ids ← two_numbers euid egid
  groups ← groups_option options
  only (SetCreds ids.0 ids.1 groups.0) groups.1

-- EUID EGID [groups=G,G,..]
abbrev pub setcreds_of : List (List ℕ) → Option Call
setcreds_of words = of_first_two setcreds_words words

-- without arguments
abbrev pub exit_of : List (List ℕ) → Option Call
exit_of [] = Some Exit
exit_of (more ∷ others) = None
