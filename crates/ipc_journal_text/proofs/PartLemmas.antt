-- The parts of calls are read from their texts.
use Rattle.std.proofs.Common.{◌≡◌, ℕ, ℤ, ◌==◌, nat_lt, bytes_eq, length-append, map, ◌-◌, ◌<◌, ◌^◌, true, false, List, [], ◌∷◌, ◌++◌, length, arith, refl, codes}
use Rattle.std.proofs.lemmas.Bool.Decides.{nat_tests}
use Rattle.std.proofs.lemmas.List.Elements.{All-head, All-tail}
use Rattle.std.specs.Fmt.{digits, signed_decimal}
use Rattle.std.specs.Int.RustNames.{FitsSigned}
use Rattle.std.specs.List.{All}
use Rattle.std.specs.Prelude.{decimal, flat_map, Option, Some}
use mir.Syntax.{w16, w32, w64}
use Rattle.hex.specs.Hex.{encode_lower}
use Rattle.ipc_call.specs.declared.calls.Kind.{Kind}
use Rattle.ipc_call.specs.declared.calls.Kind.TheVariants.{Queue, Sems, Segment}
use Rattle.ipc_call.specs.declared.calls.SemOper.{SemOper}
use Rattle.ipc_words.specs.Numbers.{number_32, number_64, signed_32}
use Rattle.ipc_journal_text.proofs.FormLemmas.{IsNumber-decimal, IsNumber-octal, IsSigned-decimal, IsWord-decimal, IsWord-hexadecimal, IsWord-octal, IsWord-signed, are_small, decoded-encoded, free_above}
use Rattle.ipc_journal_text.proofs.NumberLemmas.{signed_16-decimal, signed_32-decimal, within-decimal, within-hexadecimal, within-octal}
use Rattle.ipc_journal_text.proofs.WordLemmas.{All-map, HasFields, HasWords, IsWord, are_above, both, fields-each, words-each, fields-last, fields-then, is_free, list_all-append}
use Rattle.ipc_journal_text.specs.CallText.{kind_text, oper_text, value_text}
use Rattle.ipc_journal_text.specs.CredentialsText.{more_text, numbers_text}
use Rattle.ipc_text.specs.Calls.{kind_named, new_groups}
use Rattle.ipc_text.specs.Sets.{oper_of}
use Rattle.ipc_text.specs.Grammar.{each_of, number_list}
use Rattle.ipc_journal_text.specs.Ranges.{AreBytes, Fits32, Fits64, OperFits}
use Rattle.ipc_text.specs.Texts.{text_of}

-- numbers of 32 bits and 64 bits, read
pub read_32 : (n : ℕ) → Fits32 n → number_32 (decimal n) ≡ Some n
read_32 n h = within-decimal (2 ^ 32 - 1) n (omega arith) (omega arith)

pub read_64 : (n : ℕ) → Fits64 n → number_64 (decimal n) ≡ Some n
read_64 n h = within-decimal (2 ^ 64 - 1) n (omega arith) h

pub read_octal : (n : ℕ) → Fits32 n → number_32 (48 ∷ digits 8 false n) ≡ Some n
read_octal n h = within-octal (2 ^ 32 - 1) n (omega arith) (omega arith)

pub read_key : (n : ℕ) → Fits32 n → number_32 (48 ∷ 120 ∷ digits 16 false n) ≡ Some n
read_key n h = within-hexadecimal (2 ^ 32 - 1) n (omega arith) (omega arith)

pub word_32 : (n : ℕ) → Fits32 n → IsWord (decimal n)
word_32 n h = IsWord-decimal n (omega arith)

pub octal_word : (n : ℕ) → Fits32 n → IsWord (48 ∷ digits 8 false n)
octal_word n h = IsWord-octal n (omega arith)

pub key_word : (n : ℕ) → Fits32 n → IsWord (48 ∷ 120 ∷ digits 16 false n)
key_word n h = IsWord-hexadecimal n (omega arith)

-- a text of bytes
pub read_bytes : (bytes : List ℕ) → AreBytes bytes → text_of (120 ∷ 58 ∷ encode_lower bytes) ≡ Some bytes
read_bytes bytes h = rw (are_small bytes h, decoded-encoded bytes h) refl

-- each item of a list is read from its word
read_each : {A : Type 0} (read : List ℕ → Option A) (f : A → List ℕ) (xs : List A) → All (λ x. read (f x) ≡ Some x) xs → each_of read (map f xs) ≡ Some xs
read_each read f [] h = refl
read_each read f (x ∷ xs) h = rw (All-head (λ y. read (f y) ≡ Some y) x xs h, read_each read f xs (All-tail (λ y. read (f y) ≡ Some y) x xs h)) refl

-- an operation
pub oper_word : SemOper → List ℕ
oper_word o = decimal o.num ++ 58 ∷ (signed_decimal o.op ++ 58 ∷ 48 ∷ digits 8 false o.flags)

wider : (z : ℤ) → FitsSigned w16 z → FitsSigned w64 z
wider z h = let fits = h.sfits in record { sfits = omega arith }

pub wider_32 : (z : ℤ) → FitsSigned w32 z → FitsSigned w64 z
wider_32 z h = let fits = h.sfits in record { sfits = omega arith }

pub read_oper : (o : SemOper) → OperFits o → oper_of (oper_word o) ≡ Some o
unfolding oper_word
read_oper o h =
    let num = IsNumber-decimal o.num (let e = h.0 in omega arith) in
    let op = IsSigned-decimal o.op (wider o.op h.1) in
    let flags = IsNumber-octal o.flags (let e = h.2 in omega arith) in
    let fields = fields-then 58 (decimal o.num) _ _ num.free (fields-then 58 (signed_decimal o.op) _ _ op.free (fields-last 58 (48 ∷ digits 8 false o.flags) flags.free)) in
    let e0 = h.0 in
    let e2 = h.2 in
    rw (fields.has, within-decimal (2 ^ 16 - 1) o.num (omega arith) (omega arith), signed_16-decimal o.op h.1, within-octal (2 ^ 16 - 1) o.flags (omega arith) (omega arith)) refl

solid_oper : (num op flags : List ℕ) → are_above 32 num ≡ true → are_above 32 op ≡ true → are_above 32 flags ≡ true → are_above 32 (num ++ 58 ∷ (op ++ 58 ∷ flags)) ≡ true
solid_oper num op flags n o f =
    let rest = list_all-append (λ b. nat_lt 32 b) op (58 ∷ flags) o f in
    list_all-append (λ b. nat_lt 32 b) num (58 ∷ (op ++ 58 ∷ flags)) n rest

some_oper : (num rest : List ℕ) → 0 < length (num ++ 58 ∷ rest)
some_oper num rest = let e = length-append num (58 ∷ rest) in omega (arith, e)

pub IsWord-oper : (o : SemOper) → OperFits o → IsWord (oper_word o)
unfolding oper_word
IsWord-oper o h =
    let e0 = h.0 in
    let e2 = h.2 in
    let num = IsWord-decimal o.num (omega arith) in
    let op = IsWord-signed o.op (wider o.op h.1) in
    let flags = IsWord-octal o.flags (omega arith) in
    record { some = some_oper (decimal o.num) (signed_decimal o.op ++ 58 ∷ 48 ∷ digits 8 false o.flags); solid = solid_oper (decimal o.num) (signed_decimal o.op) (48 ∷ digits 8 false o.flags) num.solid op.solid flags.solid }

pub oper_words : (w : List ℕ) (ops : List SemOper) → IsWord w → All OperFits ops → HasWords (w ++ flat_map oper_text ops) (w ∷ map oper_word ops)
unfolding oper_word
oper_words w ops h k = words-each oper_word w ops h (All-map OperFits (λ o. IsWord (oper_word o)) IsWord-oper ops k)

pub read_opers : (ops : List SemOper) → All OperFits ops → each_of oper_of (map oper_word ops) ≡ Some ops
read_opers ops h = read_each oper_of oper_word ops (All-map OperFits (λ o. oper_of (oper_word o) ≡ Some o) read_oper ops h)

-- values
pub value_words : (w : List ℕ) (values : List ℤ) → IsWord w → All (λ v. FitsSigned w32 v) values → HasWords (w ++ flat_map value_text values) (w ∷ map signed_decimal values)
value_words w values h k = words-each signed_decimal w values h (All-map (λ v. FitsSigned w32 v) (λ v. IsWord (signed_decimal v)) (λ v f. IsWord-signed v (wider_32 v f)) values k)

pub read_values : (values : List ℤ) → All (λ v. FitsSigned w32 v) values → each_of signed_32 (map signed_decimal values) ≡ Some values
read_values values h = read_each signed_32 signed_decimal values (All-map (λ v. FitsSigned w32 v) (λ v. signed_32 (signed_decimal v) ≡ Some v) signed_32-decimal values h)

-- groups
comma_free : (n : ℕ) → Fits32 n → is_free 44 (decimal n) ≡ true
comma_free n h = free_above 47 44 (decimal n) (omega arith) (IsNumber-decimal n (omega arith)).solid

group_fields : (n : ℕ) (ns : List ℕ) → Fits32 n → All Fits32 ns → HasFields 44 (numbers_text (n ∷ ns)) (map decimal (n ∷ ns))
group_fields n ns h k = fields-each 44 decimal (decimal n) ns (comma_free n h) (All-map Fits32 (λ m. is_free 44 (decimal m) ≡ true) comma_free ns k)

no_dash : (word rest : List ℕ) → 0 < length word → are_above 47 word ≡ true → bytes_eq (word ++ rest) (codes "-") ≡ false
no_dash [] rest some h = absurd (omega arith)
no_dash (b ∷ bs) rest some h =
    let first = (both (nat_lt 47 b) (are_above 47 bs) h).0 in
    let other : (b == 45) ≡ false = grind (arith, nat_tests) in
    rw other refl

pub read_groups : (groups : List ℕ) → All Fits32 groups → new_groups (numbers_text groups) ≡ Some groups
unfolding number_list
read_groups [] h = refl
read_groups (n ∷ ns) h =
    let first = All-head Fits32 n ns h in
    let own = IsNumber-decimal n (omega arith) in
    let fields = group_fields n ns first (All-tail Fits32 n ns h) in
    rw (no_dash (decimal n) (flat_map more_text ns) own.some own.solid, fields.has)
    (read_each number_32 decimal (n ∷ ns) (All-map Fits32 (λ m. number_32 (decimal m) ≡ Some m) read_32 (n ∷ ns) h))

solid_more : (ns : List ℕ) → All Fits32 ns → are_above 32 (flat_map more_text ns) ≡ true
solid_more [] h = refl
solid_more (n ∷ ns) h =
    list_all-append (λ b. nat_lt 32 b) (44 ∷ decimal n) (flat_map more_text ns) (word_32 n (All-head Fits32 n ns h)).solid (solid_more ns (All-tail Fits32 n ns h))

pub solid_groups : (groups : List ℕ) → All Fits32 groups → are_above 32 (numbers_text groups) ≡ true
solid_groups [] h = refl
solid_groups (n ∷ ns) h =
    list_all-append (λ b. nat_lt 32 b) (decimal n) (flat_map more_text ns) (word_32 n (All-head Fits32 n ns h)).solid (solid_more ns (All-tail Fits32 n ns h))

-- kinds
pub IsWord-kind : (kind : Kind) → IsWord (kind_text kind)
IsWord-kind Queue = record { some = omega arith; solid = refl }
IsWord-kind Sems = record { some = omega arith; solid = refl }
IsWord-kind Segment = record { some = omega arith; solid = refl }

pub read_kind : (kind : Kind) → kind_named (kind_text kind) ≡ Some kind
unfolding kind_named
read_kind Queue = refl
read_kind Sems = refl
read_kind Segment = refl
