-- A line of a script with the flags of its call by their names (the project's own).
use Rattle.std.specs.Prelude.{ℕ, List, [], ◌∷◌, ◌++◌, bytes_eq, codes, drop, flat_map, take, Option, Some, None, if◌then◌else◌}
use Rattle.ipc_words.specs.Numbers.{number_16, number_32}
use Rattle.ipc_words.specs.Words.{fields_of, words_of}
use Rattle.shown_lines.specs.declared.script_lines.Sort.{Sort}
use Rattle.shown_lines.specs.declared.script_lines.Sort.TheVariants.{Plain, Get, Send, Receive, Attach, Operation}
use Rattle.shown_lines.specs.declared.flags.Flag.{Flag}
use Rattle.shown_lines.specs.declared.flags.Flag.TheVariants.{Creat, Excl, NoWait, NoError, Except, Undo, ReadOnly}
use Rattle.shown_lines.specs.Flags.{flags_text}

-- flags that a word writes as a number; another word stays
abbrev pub named : List Flag → List ℕ → Option ℕ → List ℕ
named names word None = word
named names word (Some flags) = flags_text names flags

-- those of an operation, which stand behind its second colon
abbrev pub operation_of : List ℕ → List (List ℕ) → List ℕ
operation_of word (num ∷ op ∷ flags ∷ []) =
    num ++ (codes ":" ++ (op ++ (codes ":" ++ named (NoWait ∷ Undo ∷ []) flags (number_16 flags))))
operation_of word fields = word

abbrev pub word_text : Sort → List ℕ → List ℕ
word_text Plain word = word
word_text Get word = named (Creat ∷ Excl ∷ []) word (number_32 word)
word_text Send word = named (NoWait ∷ []) word (number_32 word)
word_text Receive word = named (NoWait ∷ NoError ∷ Except ∷ []) word (number_32 word)
word_text Attach word = named (ReadOnly ∷ []) word (number_32 word)
word_text Operation word = operation_of word (fields_of 58 word)

-- how many words stand behind the name of a call before its flags or its operations, and which these are
pub record Form : Type 0 where
  pub before : ℕ
  pub sort : Sort

abbrev pub form : ℕ → Sort → Form
form before sort = record { before = before; sort = sort }

abbrev pub form_in : List (List ℕ × Form) → List ℕ → Form
form_in [] call = form 0 Plain
form_in (row ∷ rows) call = if bytes_eq call row.0 then row.1 else form_in rows call

unfoldable pub form_of : List ℕ → Form
form_of call =
    form_in
    ((codes "msgget", form 1 Get)
    ∷ (codes "semget", form 2 Get)
    ∷ (codes "shmget", form 2 Get)
    ∷ (codes "msgsnd", form 3 Send)
    ∷ (codes "msgrcv", form 3 Receive)
    ∷ (codes "shmat", form 1 Attach)
    ∷ (codes "semop", form 1 Operation)
    ∷ (codes "semtimedop", form 2 Operation)
    ∷ [])
    call

-- each behind a blank
abbrev pub words_text : Sort → List (List ℕ) → List ℕ
words_text sort words = flat_map (λ w. 32 ∷ word_text sort w) words

abbrev pub arguments_text : Form → List (List ℕ) → List ℕ
arguments_text f words = words_text Plain (take f.before words) ++ words_text f.sort (drop f.before words)

-- the name of a client and of a call, and the arguments
abbrev pub call_text : List (List ℕ) → List ℕ
call_text [] = []
call_text (client ∷ []) = client
call_text (client ∷ call ∷ words) = client ++ (32 ∷ (call ++ arguments_text (form_of call) words))

abbrev pub line_text : List ℕ → List ℕ
line_text text = call_text (words_of text)
