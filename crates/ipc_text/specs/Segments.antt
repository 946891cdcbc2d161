-- The calls on shared memory segments, as their arguments write them; None where these aren't in the grammar.
use Rattle.std.specs.Prelude.{ℕ, List, Option, Some, option_map}
use Rattle.ipc_call.specs.declared.calls.Call.{Call}
use Rattle.ipc_call.specs.declared.calls.Call.TheVariants.{ShmGet, ShmAt, ShmDt, ShmRead, ShmWrite}
use Rattle.ipc_text.specs.Grammar.{of_one, of_three, of_two}
use Rattle.ipc_words.specs.Numbers.{number_32, number_64}
use Rattle.ipc_words.specs.Steps.{◌>>=◌}
use Rattle.ipc_text.specs.Texts.{text_of}

abbrev pub shmget_words : List ℕ → List ℕ → List ℕ → Option Call
shmget_words key size flags = do
  k ← number_32 key
  n ← number_64 size
  f ← number_32 flags
  Some (ShmGet k n f)

-- KEY SIZE FLAGS
abbrev pub shmget_of : List (List ℕ) → Option Call
shmget_of words = of_three shmget_words words

abbrev pub shmat_words : List ℕ → List ℕ → Option Call
shmat_words id flags = do
  i ← number_32 id
  f ← number_32 flags
  Some (ShmAt i f)

-- ID FLAGS
abbrev pub shmat_of : List (List ℕ) → Option Call
shmat_of words = of_two shmat_words words

-- ATT
abbrev pub shmdt_of : List (List ℕ) → Option Call
shmdt_of words = option_map (λ a. ShmDt a) (of_one number_32 words)

abbrev pub shmread_words : List ℕ → List ℕ → List ℕ → Option Call
shmread_words att offset len = do
  a ← number_32 att
  o ← number_64 offset
  n ← number_64 len
  Some (ShmRead a o n)

-- ATT OFFSET LEN
abbrev pub shmread_of : List (List ℕ) → Option Call
shmread_of words = of_three shmread_words words

abbrev pub shmwrite_words : List ℕ → List ℕ → List ℕ → Option Call
shmwrite_words att offset text = do
  a ← number_32 att
  o ← number_64 offset
  bytes ← text_of text
  Some (ShmWrite a o bytes)

-- ATT OFFSET TEXT
abbrev pub shmwrite_of : List (List ℕ) → Option Call
shmwrite_of words = of_three shmwrite_words words
