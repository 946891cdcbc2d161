-- The line of a row is read as that row.
use Rattle.std.proofs.Common.{◌≡◌, ℕ, ◌-◌, true, false, List, [], ◌∷◌, ◌++◌, arith, refl, codes, append_assoc, length-append, nat_eq, nat_lt}
use Rattle.std.specs.List.{starts_with}
use Rattle.std.specs.Prelude.{decimal, Option, Some, None}
use Rattle.ipc_call.specs.Errors as errors
use Rattle.ipc_call.specs.Rules.{error_of, name_of_rule}
use Rattle.ipc_call.specs.declared.calls.Call.{Call}
use Rattle.ipc_call.specs.declared.replies.JournalRow.{JournalRow}
use Rattle.ipc_call.specs.declared.replies.JournalRow.TheVariants.{Called, Answered}
use Rattle.ipc_call.specs.declared.rules.Rule.{Rule}
use Rattle.ipc_words.specs.Words.{words_of}
use Rattle.ipc_journal_text.proofs.CallLemmas.{call_read}
use Rattle.ipc_journal_text.proofs.CredsLemmas.{IsWord-numbered, numbered_word, read_numbered}
use Rattle.ipc_journal_text.proofs.PartLemmas.{read_32, read_64, word_32}
use Rattle.ipc_journal_text.proofs.FormLemmas.{IsNumber-decimal, IsWord-decimal, free_above}
use Rattle.ipc_journal_text.proofs.RuleLemmas.{IsWord-error, IsWord-rule, named-by, small_number}
use Rattle.ipc_journal_text.proofs.WordLemmas.{HasFields, HasWords, IsWord, fields-last, fields-then, is_free, list_all-append, words-last, words-then}
use Rattle.ipc_journal_text.specs.CallText.{call_text}
use Rattle.ipc_journal_text.specs.JournalText.{ending_text, row_text}
use Rattle.ipc_journal_text.specs.Ranges.{CallFits, Fits32, Fits64, RowFits}
use Rattle.ipc_journal_text.specs.Reading.{client_head, ending_of, row_of}

-- behind the number of a client
pub client_words : (n : ℕ) (rest : List ℕ) (words : List (List ℕ)) → Fits32 n → HasWords rest words → HasWords (codes "client " ++ (decimal n ++ (codes ": " ++ rest))) (codes "client" ∷ numbered_word n ∷ words)
unfolding numbered_word
client_words n rest words h k =
    let number = words-then (numbered_word n) rest words (IsWord-numbered n h) k in
    let whole = words-then (codes "client") _ _ (record { some = omega arith; solid = refl }) number in
    rw (← append_assoc (decimal n) (58 ∷ []) (32 ∷ rest)) whole

pub read_head : (n : ℕ) (words : List (List ℕ)) → Fits32 n → client_head (codes "client" ∷ numbered_word n ∷ words) ≡ Some (n, words)
read_head n words h = rw (read_numbered n h) refl

-- a row's line, without its end
pub ending_line : Option Rule → List ℕ
ending_line None = codes "granted"
ending_line (Some rule) = codes "error " ++ (decimal (errors.number_of (error_of rule)) ++ (codes " " ++ (errors.name_of (error_of rule) ++ (codes " " ++ name_of_rule rule))))

pub row_line : JournalRow → List ℕ
row_line (Called client now call) = codes "at " ++ (decimal now ++ (codes " client " ++ (decimal client ++ (codes ": " ++ call_text call))))
row_line (Answered client place turn rule) = codes "  " ++ (decimal place ++ (codes "." ++ (decimal turn ++ (codes " client " ++ (decimal client ++ (codes ": " ++ ending_line rule))))))

ending_ended : (rule : Option Rule) → ending_text rule ≡ ending_line rule ++ 10 ∷ []
unfolding ending_line
ending_ended None = refl
ending_ended (Some rule) = simp append_assoc

pub row_ended : (row : JournalRow) → row_text row ≡ row_line row ++ 10 ∷ []
unfolding row_line
row_ended (Called client now call) = simp append_assoc
row_ended (Answered client place turn rule) = rw (ending_ended rule) (simp append_assoc)

-- a call
pub record IsRowOf (row : JournalRow) : Type 0 where
  pub reads : row_of (row_line row) ≡ Some row
  pub free : is_free 10 (row_line row) ≡ true

called : (client now : ℕ) (call : Call) → Fits32 client → Fits64 now → CallFits call → IsRowOf (Called client now call)
unfolding row_line row_of
called client now call c n h =
    let own = call_read call h in
    let text : HasWords (call_text call) (words_of (call_text call)) = record { has = refl; free = own.free } in
    let words = words-then (decimal now) _ _ (IsWord-decimal now n) (client_words client (call_text call) (words_of (call_text call)) c text) in
    record { reads = rw (words.has, read_64 now n, read_head client (words_of (call_text call)) c, own.reads) refl; free = words.free }

-- an answer
ending_words : (rule : Rule) → HasWords (ending_line (Some rule)) (codes "error" ∷ decimal (errors.number_of (error_of rule)) ∷ errors.name_of (error_of rule) ∷ name_of_rule rule ∷ [])
unfolding ending_line
ending_words rule =
    words-then (codes "error") _ _ (record { some = omega arith; solid = refl })
    (words-then (decimal (errors.number_of (error_of rule))) _ _ (IsWord-decimal (errors.number_of (error_of rule)) (small_number (error_of rule)))
    (words-then (errors.name_of (error_of rule)) _ _ (IsWord-error (error_of rule))
    (words-last (name_of_rule rule) (IsWord-rule rule))))

record IsEndingOf (rule : Option Rule) : Type 0 where
  pub reads : ending_of (words_of (ending_line rule)) ≡ Some rule
  pub free : is_free 10 (ending_line rule) ≡ true

read_ending : (rule : Option Rule) → IsEndingOf rule
unfolding ending_of ending_line
read_ending None = record { reads = refl; free = refl }
read_ending (Some rule) = let words = ending_words rule in record { reads = rw (words.has, named-by rule) refl; free = words.free }

-- PLACE.TURN
event_word : ℕ → ℕ → List ℕ
event_word place turn = decimal place ++ 46 ∷ decimal turn

point_free : (n : ℕ) → Fits64 n → is_free 46 (decimal n) ≡ true
point_free n h = free_above 47 46 (decimal n) (omega arith) (IsNumber-decimal n h).solid

IsWord-event : (place turn : ℕ) → Fits64 place → Fits32 turn → IsWord (event_word place turn)
unfolding event_word
IsWord-event place turn p t =
    let e = length-append (decimal place) (46 ∷ decimal turn) in
    record { some = omega (arith, e); solid = list_all-append (λ b. nat_lt 32 b) (decimal place) (46 ∷ decimal turn) (IsWord-decimal place p).solid (word_32 turn t).solid }

event_fields : (place turn : ℕ) → Fits64 place → Fits32 turn → HasFields 46 (event_word place turn) (decimal place ∷ decimal turn ∷ [])
unfolding event_word
event_fields place turn p t = fields-then 46 (decimal place) _ _ (point_free place p) (fields-last 46 (decimal turn) (point_free turn (omega arith)))

answered : (client place turn : ℕ) (rule : Option Rule) → Fits32 client → Fits64 place → Fits32 turn → IsRowOf (Answered client place turn rule)
unfolding row_line row_of event_word
answered client place turn rule c p t =
    let own = read_ending rule in
    let text : HasWords (ending_line rule) (words_of (ending_line rule)) = record { has = refl; free = own.free } in
    let words = words-then (event_word place turn) _ _ (IsWord-event place turn p t) (client_words client (ending_line rule) (words_of (ending_line rule)) c text) in
    let fields = event_fields place turn p t in
    let joined = append_assoc (decimal place) (46 ∷ decimal turn) (codes " client " ++ (decimal client ++ (codes ": " ++ ending_line rule))) in
    record { reads = rw (← joined, words.has, fields.has, read_64 place p, read_32 turn t, read_head client (words_of (ending_line rule)) c, own.reads) refl; free = rw (← joined) words.free }

pub row_read : (row : JournalRow) → RowFits row → IsRowOf row
row_read (Called client now call) h = called client now call h.0 h.1 h.2
row_read (Answered client place turn rule) h = answered client place turn rule h.0 h.1 h.2

-- it doesn't begin as that of a client
pub row_first : (row : JournalRow) → starts_with nat_eq (row_line row) (codes "client ") ≡ false
unfolding row_line
row_first (Called client now call) = refl
row_first (Answered client place turn rule) = refl

-- nor as that of a limit
pub row_no_limit : (row : JournalRow) → starts_with nat_eq (row_line row) (codes "limit ") ≡ false
unfolding row_line
row_no_limit (Called client now call) = refl
row_no_limit (Answered client place turn rule) = refl
