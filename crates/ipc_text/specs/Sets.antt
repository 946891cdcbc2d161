-- The calls on semaphore sets, as their arguments write them; None where these aren't in the grammar.
use Rattle.std.specs.Prelude.{ℕ, List, [], ◌∷◌, Option, Some, None, option_map}
use Rattle.ipc_call.specs.declared.calls.Call.{Call}
use Rattle.ipc_call.specs.declared.calls.Call.TheVariants.{SemGet, SemOp, SemTimedOp, GetAll, SetVal, SetAll}
use Rattle.ipc_call.specs.declared.calls.SemOper.{SemOper}
use Rattle.ipc_text.specs.Grammar.{each_of, of_first_two, of_one, of_three, of_two, two_numbers}
use Rattle.ipc_words.specs.Numbers.{number_16, number_32, number_64, signed_16, signed_32}
use Rattle.ipc_words.specs.Steps.{◌>>=◌}
use Rattle.ipc_words.specs.Words.{fields_of}

abbrev pub semget_words : List ℕ → List ℕ → List ℕ → Option Call
semget_words key nsems flags = do
  k ← number_32 key
  n ← number_32 nsems
  f ← number_32 flags
  Some (SemGet k n f)

abbrev pub setval_words : List ℕ → List ℕ → List ℕ → Option Call
setval_words id num value = do
  i ← number_32 id
  n ← number_32 num
  v ← signed_32 value
  Some (SetVal i n v)

-- KEY NSEMS FLAGS
abbrev pub semget_of : List (List ℕ) → Option Call
semget_of words = of_three semget_words words

-- ID NUM VALUE
abbrev pub setval_of : List (List ℕ) → Option Call
setval_of words = of_three setval_words words

-- ID [VALUE ..]
abbrev pub setall_of : List (List ℕ) → Option Call
setall_of [] = None
setall_of (id ∷ values) = do
  i ← number_32 id
  vs ← each_of signed_32 values
  Some (SetAll i vs)

-- [FLAGS]
abbrev pub oper_flags : List (List ℕ) → Option ℕ
oper_flags [] = Some 0
oper_flags (flags ∷ []) = number_16 flags
oper_flags (flags ∷ more ∷ others) = None

abbrev pub oper_fields : List (List ℕ) → Option SemOper
oper_fields [] = None
oper_fields (num ∷ []) = None
oper_fields (num ∷ op ∷ rest) = do
  n ← number_16 num
  o ← signed_16 op
  f ← oper_flags rest
  Some (record { num = n; op = o; flags = f })

-- NUM:OP or NUM:OP:FLAGS, which colons (byte 58) separate
abbrev pub oper_of : List ℕ → Option SemOper
oper_of word = oper_fields (fields_of 58 word)

-- ID [OP ..]
abbrev pub semop_of : List (List ℕ) → Option Call
semop_of [] = None
semop_of (id ∷ ops) = do
  i ← number_32 id
  os ← each_of oper_of ops
  Some (SemOp i os)

abbrev pub semtimedop_words : List ℕ → List ℕ → List (List ℕ) → Option Call
semtimedop_words id timeout ops = do
  i ← number_32 id
  t ← number_64 timeout
  os ← each_of oper_of ops
  Some (SemTimedOp i os t)

-- ID TIMEOUT [OP ..]
abbrev pub semtimedop_of : List (List ℕ) → Option Call
semtimedop_of words = of_first_two semtimedop_words words

-- ID
abbrev pub getall_of : List (List ℕ) → Option Call
getall_of words = option_map (λ i. GetAll i) (of_one number_32 words)

-- ID NUM
abbrev pub semaphore_of : List (List ℕ) → Option (ℕ × ℕ)
semaphore_of words = of_two two_numbers words

-- one number of one semaphore
abbrev pub report_of : (ℕ → ℕ → Call) → List (List ℕ) → Option Call
report_of call words = option_map (λ s. call s.0 s.1) (semaphore_of words)
