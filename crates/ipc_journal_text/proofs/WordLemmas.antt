-- Words of a text that is put together, and the fields of a word.
use Rattle.std.proofs.Common.{◌≡◌, ℕ, ◌<◌, Bool, true, false, not, ◌&&◌, List, [], ◌∷◌, ◌++◌, length, arith, refl, ap, ◌∙◌}
use Rattle.std.proofs.lemmas.Bool.Decides.{nat_tests}
use Rattle.std.proofs.lemmas.List.{append-nil}
use Rattle.std.proofs.lemmas.List.Elements.{All-head, All-tail}
use Rattle.std.specs.List.{All, list_all}
use Rattle.std.specs.Prelude.{◌==◌, nat_lt, flat_map, map, slice_index_or}
use Rattle.ipc_words.specs.Words.{fields_of, is_blank, onto_word, words_of}

-- each byte passes a test
abbrev pub are_above : ℕ → List ℕ → Bool
are_above low text = list_all (λ b. nat_lt low b) text

abbrev pub is_free : ℕ → List ℕ → Bool
is_free separator text = list_all (λ b. not (b == separator)) text

-- a word: one byte at least, and each above a blank
pub record IsWord (word : List ℕ) : Type 0 where
  pub some : 0 < length word
  pub solid : are_above 32 word ≡ true

pub both : (a b : Bool) → (a && b) ≡ true → (a ≡ true) × (b ≡ true)
both true b h = (refl, h)
both false b h = cc

pub list_all-append : (f : ℕ → Bool) (a b : List ℕ) → list_all f a ≡ true → list_all f b ≡ true → list_all f (a ++ b) ≡ true
list_all-append f [] b h k = k
list_all-append f (x ∷ xs) b h k = let parts = both (f x) (list_all f xs) h in rw (parts.0) (list_all-append f xs b parts.1 k)

no_blank : (b : ℕ) → nat_lt 32 b ≡ true → is_blank b ≡ false
no_blank b h = grind (arith, nat_tests)

on_first : (b c : ℕ) (t : List ℕ) → is_blank b ≡ false → is_blank c ≡ false → words_of (b ∷ c ∷ t) ≡ onto_word b (words_of (c ∷ t))
on_first b c t e k = rw (e, k) refl

word_then : (b : ℕ) (bs rest : List ℕ) → nat_lt 32 b ≡ true → are_above 32 bs ≡ true → words_of ((b ∷ bs) ++ 32 ∷ rest) ≡ (b ∷ bs) ∷ words_of rest
word_then b [] rest h k = rw (no_blank b h) refl
word_then b (c ∷ cs) rest h k =
    let parts = both (nat_lt 32 c) (are_above 32 cs) k in
    on_first b c (cs ++ 32 ∷ rest) (no_blank b h) (no_blank c parts.0) ∙ ap (onto_word b) (word_then c cs rest parts.0 parts.1)

word_last : (b : ℕ) (bs : List ℕ) → nat_lt 32 b ≡ true → are_above 32 bs ≡ true → words_of (b ∷ bs) ≡ (b ∷ bs) ∷ []
word_last b [] h k = rw (no_blank b h) refl
word_last b (c ∷ cs) h k =
    let parts = both (nat_lt 32 c) (are_above 32 cs) k in
    on_first b c cs (no_blank b h) (no_blank c parts.0) ∙ ap (onto_word b) (word_last c cs parts.0 parts.1)

-- a text's words, and that no line feed (byte 10) stands among them
pub record HasWords (text : List ℕ) (words : List (List ℕ)) : Type 0 where
  pub has : words_of text ≡ words
  pub free : is_free 10 text ≡ true

no_feed : (b : ℕ) → nat_lt 32 b ≡ true → (b == 10) ≡ false
no_feed b h = grind (arith, nat_tests)

pub free_word : (word : List ℕ) → are_above 32 word ≡ true → is_free 10 word ≡ true
free_word [] h = refl
free_word (b ∷ bs) h =
    let parts = both (nat_lt 32 b) (are_above 32 bs) h in
    rw (no_feed b parts.0) (free_word bs parts.1)

-- a word and a blank, and then words
pub words-then : (word rest : List ℕ) (words : List (List ℕ)) → IsWord word → HasWords rest words → HasWords (word ++ 32 ∷ rest) (word ∷ words)
words-then [] rest words w e = absurd (let some = w.some in omega arith)
words-then (b ∷ bs) rest words w e =
    let parts = both (nat_lt 32 b) (are_above 32 bs) w.solid in
    let free = list_all-append (λ c. not (c == 10)) (b ∷ bs) (32 ∷ rest) (free_word (b ∷ bs) w.solid) e.free in
    record { has = word_then b bs rest parts.0 parts.1 ∙ ap (λ (ws : List (List ℕ)). (b ∷ bs) ∷ ws) e.has; free = free }

pub words-last : (word : List ℕ) → IsWord word → HasWords word (word ∷ [])
words-last [] w = absurd (let some = w.some in omega arith)
words-last (b ∷ bs) w =
    let parts = both (nat_lt 32 b) (are_above 32 bs) w.solid in
    record { has = word_last b bs parts.0 parts.1; free = free_word (b ∷ bs) w.solid }

-- a field, a separator and the fields behind it
field_if : (found : Bool) (b s : ℕ) (bs rest : List ℕ) (fields : List (List ℕ)) → (b == s) ≡ found → not found ≡ true → fields_of s (bs ++ s ∷ rest) ≡ bs ∷ fields → fields_of s (b ∷ (bs ++ s ∷ rest)) ≡ (b ∷ bs) ∷ fields
field_if true b s bs rest fields e h k = cc
field_if false b s bs rest fields e h k = rw (e, k) refl

-- a word's fields
pub record HasFields (separator : ℕ) (word : List ℕ) (fields : List (List ℕ)) : Type 0 where
  pub has : fields_of separator word ≡ fields

field_then : (s : ℕ) (field rest : List ℕ) (fields : List (List ℕ)) → is_free s field ≡ true → fields_of s rest ≡ fields → fields_of s (field ++ s ∷ rest) ≡ field ∷ fields
field_then s [] rest fields h e = let same : (s == s) ≡ true = grind (arith, nat_tests) in rw (same, e) refl
field_then s (b ∷ bs) rest fields h e =
    let parts = both (not (b == s)) (is_free s bs) h in
    field_if (b == s) b s bs rest fields refl parts.0 (field_then s bs rest fields parts.1 e)

pub fields-then : (s : ℕ) (field rest : List ℕ) (fields : List (List ℕ)) → is_free s field ≡ true → HasFields s rest fields → HasFields s (field ++ s ∷ rest) (field ∷ fields)
fields-then s field rest fields h e = record { has = field_then s field rest fields h e.has }

last_if : (found : Bool) (b s : ℕ) (bs : List ℕ) → (b == s) ≡ found → not found ≡ true → fields_of s bs ≡ bs ∷ [] → fields_of s (b ∷ bs) ≡ (b ∷ bs) ∷ []
last_if true b s bs e h k = cc
last_if false b s bs e h k = rw (e, k) refl

field_last : (s : ℕ) (field : List ℕ) → is_free s field ≡ true → fields_of s field ≡ field ∷ []
field_last s [] h = refl
field_last s (b ∷ bs) h =
    let parts = both (not (b == s)) (is_free s bs) h in
    last_if (b == s) b s bs refl parts.0 (field_last s bs parts.1)

pub fields-last : (s : ℕ) (field : List ℕ) → is_free s field ≡ true → HasFields s field (field ∷ [])
fields-last s field h = record { has = field_last s field h }

-- a list, each item of which is a word behind a blank or a field behind a separator
pub words-each : {A : Type 0} (f : A → List ℕ) (w : List ℕ) (xs : List A) → IsWord w → All (λ x. IsWord (f x)) xs → HasWords (w ++ flat_map (λ x. 32 ∷ f x) xs) (w ∷ map f xs)
words-each f w [] h k = rw (append-nil w) (words-last w h)
words-each f w (x ∷ xs) h k =
    words-then w _ _ h (words-each f (f x) xs (All-head (λ y. IsWord (f y)) x xs k) (All-tail (λ y. IsWord (f y)) x xs k))

pub fields-each : {A : Type 0} (s : ℕ) (f : A → List ℕ) (w : List ℕ) (xs : List A) → is_free s w ≡ true → All (λ x. is_free s (f x) ≡ true) xs → HasFields s (w ++ flat_map (λ x. s ∷ f x) xs) (w ∷ map f xs)
fields-each s f w [] h k = rw (append-nil w) (fields-last s w h)
fields-each s f w (x ∷ xs) h k =
    fields-then s w _ _ h (fields-each s f (f x) xs (All-head (λ y. is_free s (f y) ≡ true) x xs k) (All-tail (λ y. is_free s (f y) ≡ true) x xs k))

pub All-map : {A : Type 0} (P Q : A → Type 0) → ((x : A) → P x → Q x) → (xs : List A) → All P xs → All Q xs
All-map P Q f xs h k d l = f (slice_index_or xs k d) (h k d l)
