-- The first word of a text and the first field of a word, by their lengths.
use Rattle.std.proofs.Common.{◌≡◌, ℕ, ◌+◌, ◌<◌, ◌≤◌, Bool, true, false, not, cond, List, [], ◌∷◌, length, take, drop, arith, refl, sym, ◌∙◌, one-add, suc}
use Rattle.std.proofs.lemmas.List.Sums.{prefix_len-le-length}
use Rattle.std.proofs.lemmas.Bool.{ltb-true, ltb-false}
use Rattle.std.specs.List.{position_or_len, prefix_len}
use Rattle.std.specs.Prelude.{◌==◌, Option, Some, None, nat_lt, position}
use Rattle.ipc_words.specs.Words.{fields_of, is_blank, onto_word, words_of}

-- how many blanks come first, how many bytes come before a blank, and the place of the first separator
abbrev pub blanks : List ℕ → ℕ
blanks text = prefix_len is_blank text

abbrev pub first_word_len : List ℕ → ℕ
first_word_len text = prefix_len (λ b. not (is_blank b)) text

abbrev pub first_separator : ℕ → List ℕ → Option ℕ
first_separator s text = position (λ b. b == s) text

-- a lemma that ends in _if takes the answer of a test, so that it can go by cases

skipped_if : (blank : Bool) (b : ℕ) (bs : List ℕ) → is_blank b ≡ blank → words_of (drop (blanks bs) bs) ≡ words_of bs → words_of (drop (cond blank (1 + blanks bs) 0) (b ∷ bs)) ≡ words_of (b ∷ bs)
skipped_if true b bs e h = rw (one-add, e) h
skipped_if false b bs e h = refl

pub words_of-skipped : (text : List ℕ) → words_of (drop (blanks text) text) ≡ words_of text
words_of-skipped [] = refl
words_of-skipped (b ∷ bs) = skipped_if (is_blank b) b bs refl (words_of-skipped bs)

-- the first word of a text that begins with one

first_if : (blank : Bool) (b c : ℕ) (cs : List ℕ) → is_blank c ≡ blank → (is_blank c ≡ false → words_of (c ∷ cs) ≡ (c ∷ take (first_word_len cs) cs) ∷ words_of (drop (first_word_len cs) cs)) →
    cond blank ((b ∷ []) ∷ words_of (c ∷ cs)) (onto_word b (words_of (c ∷ cs))) ≡ (b ∷ take (cond (not blank) (1 + first_word_len cs) 0) (c ∷ cs)) ∷ words_of (drop (cond (not blank) (1 + first_word_len cs) 0) (c ∷ cs))
first_if true b c cs e h = refl
first_if false b c cs e h = rw (one-add, h e) refl

words_of_first : (b : ℕ) (bs : List ℕ) → is_blank b ≡ false → words_of (b ∷ bs) ≡ (b ∷ take (first_word_len bs) bs) ∷ words_of (drop (first_word_len bs) bs)
words_of_first b [] e = rw e refl
words_of_first b (c ∷ cs) e = rw e (first_if (is_blank c) b c cs refl (words_of_first c cs))

abbrev BeginsWord : List ℕ → Type 0
BeginsWord [] = Unit {0}
BeginsWord (b ∷ bs) = is_blank b ≡ false

begins_word_if : (blank : Bool) (b : ℕ) (bs : List ℕ) → is_blank b ≡ blank → BeginsWord (drop (blanks bs) bs) → BeginsWord (drop (cond blank (1 + blanks bs) 0) (b ∷ bs))
begins_word_if true b bs e h = rw one-add h
begins_word_if false b bs e h = e

begins_word : (text : List ℕ) → BeginsWord (drop (blanks text) text)
begins_word [] = tt
begins_word (b ∷ bs) = begins_word_if (is_blank b) b bs refl (begins_word bs)

begun_if : (blank : Bool) (b : ℕ) (bs : List ℕ) → blank ≡ false → words_of (b ∷ bs) ≡ (b ∷ take (first_word_len bs) bs) ∷ words_of (drop (first_word_len bs) bs) →
    words_of (b ∷ bs) ≡ take (cond (not blank) (1 + first_word_len bs) 0) (b ∷ bs) ∷ words_of (drop (cond (not blank) (1 + first_word_len bs) 0) (b ∷ bs))
begun_if true b bs e h = cc
begun_if false b bs e h = rw one-add h

words_of_begun : (rest : List ℕ) → BeginsWord rest → 0 < length rest → words_of rest ≡ take (first_word_len rest) rest ∷ words_of (drop (first_word_len rest) rest)
words_of_begun [] e h = absurd (omega arith)
words_of_begun (b ∷ bs) e h = begun_if (is_blank b) b bs e (words_of_first b bs e)

pub first_word : (text rest : List ℕ) → rest ≡ drop (blanks text) text → 0 < length rest → words_of text ≡ take (first_word_len rest) rest ∷ words_of (drop (first_word_len rest) rest)
first_word text rest e h =
    let s : words_of text ≡ words_of rest = rw e (sym (words_of-skipped text)) in
    s ∙ words_of_begun rest (rw e (begins_word text)) h

words_of_none : (rest : List ℕ) → length rest ≡ 0 → words_of rest ≡ []
words_of_none [] e = refl
words_of_none (b ∷ bs) e = absurd (omega arith)

pub no_word : (text rest : List ℕ) → rest ≡ drop (blanks text) text → length rest ≡ 0 → words_of text ≡ []
no_word text rest e h =
    let s : words_of text ≡ words_of rest = rw e (sym (words_of-skipped text)) in
    s ∙ words_of_none rest h

-- the place of the first separator
abbrev separator_at : ℕ → List ℕ → ℕ
separator_at s text = position_or_len (λ b. b == s) text

no_separator_if : (s : ℕ) (found : Bool) (b : ℕ) (bs : List ℕ) → (b == s) ≡ found → cond (not found) (1 + separator_at s bs) 0 ≡ suc (length bs) → (separator_at s bs ≡ length bs → fields_of s bs ≡ bs ∷ []) → cond found ([] ∷ fields_of s bs) (onto_word b (fields_of s bs)) ≡ (b ∷ bs) ∷ []
no_separator_if s true b bs e h k = absurd (omega arith)
no_separator_if s false b bs e h k = rw (k (omega arith)) refl

no_separator : (s : ℕ) (text : List ℕ) → separator_at s text ≡ length text → fields_of s text ≡ text ∷ []
no_separator s [] e = refl
no_separator s (b ∷ bs) e = no_separator_if s (b == s) b bs refl e (no_separator s bs)

separator_if : (s : ℕ) (found : Bool) (b : ℕ) (bs : List ℕ) → (b == s) ≡ found → cond (not found) (1 + separator_at s bs) 0 < suc (length bs) → (separator_at s bs < length bs → fields_of s bs ≡ take (separator_at s bs) bs ∷ fields_of s (drop (suc (separator_at s bs)) bs)) →
    cond found ([] ∷ fields_of s bs) (onto_word b (fields_of s bs)) ≡ take (cond (not found) (1 + separator_at s bs) 0) (b ∷ bs) ∷ fields_of s (drop (suc (cond (not found) (1 + separator_at s bs) 0)) (b ∷ bs))
separator_if s true b bs e h k = refl
separator_if s false b bs e h k = rw (one-add, k (omega arith)) refl

separator : (s : ℕ) (text : List ℕ) → separator_at s text < length text → fields_of s text ≡ take (separator_at s text) text ∷ fields_of s (drop (suc (separator_at s text)) text)
separator s [] e = absurd (omega arith)
separator s (b ∷ bs) e = separator_if s (b == s) b bs refl e (separator s bs)

-- what the first separator tells, by the answer of the search for it
abbrev pub SeparatorTells : ℕ → List ℕ → Option ℕ → Type 0
SeparatorTells s text None = fields_of s text ≡ text ∷ []
SeparatorTells s text (Some n) = fields_of s text ≡ take n text ∷ fields_of s (drop (suc n) text)

separator_tells_if : (s : ℕ) (b : Bool) (text : List ℕ) → nat_lt (separator_at s text) (length text) ≡ b → SeparatorTells s text (cond b (Some (separator_at s text)) None)
separator_tells_if s true text e = separator s text (ltb-true _ _ e)
separator_tells_if s false text e =
    let le : length text ≤ separator_at s text = ltb-false _ _ e in
    let ge : separator_at s text ≤ length text = prefix_len-le-length (λ b. not (b == s)) text in
    no_separator s text (omega arith)

pub separator_tells : (s : ℕ) (text : List ℕ) (place : Option ℕ) → place ≡ first_separator s text → SeparatorTells s text place
separator_tells s text place e = rw e (separator_tells_if s (nat_lt (separator_at s text) (length text)) text refl)

-- a word has a field at least
some_field_if : (found : Bool) (b : ℕ) (fields : List (List ℕ)) → 0 < length (cond found ([] ∷ fields) (onto_word b fields))
some_field_if true b fields = omega arith
some_field_if false b [] = omega arith
some_field_if false b (w ∷ ws) = omega arith

pub some_field : (s : ℕ) (text : List ℕ) → 0 < length (fields_of s text)
some_field s [] = omega arith
some_field s (b ∷ bs) = some_field_if (b == s) b (fields_of s bs)
