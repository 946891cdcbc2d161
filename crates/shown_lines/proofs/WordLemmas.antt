-- The words of a line, one after the other.
use Rattle.std.proofs.Common.{◌≡◌, ℕ, zero, suc, ◌-◌, ◌<◌, Bool, true, false, cond, arith, List, [], ◌∷◌, ◌++◌, drop, refl, sym, ap, take, ◌∙◌, append_assoc}
use Rattle.std.specs.Prelude.{◌==◌, Err, Ok, OnOk, Result, is_ok}
use Rattle.ipc_words.specs.Words.{fields_of, onto_word, words_of}
use Rattle.shown_lines.specs.ScriptLines.{operation_of, words_text}
use Rattle.shown_lines.specs.declared.script_lines.Sort.TheVariants.{Plain}

-- what was appended, where that didn't fail
pub appended : {T E : Type 0} (r : Result T E) (new more old : List ℕ) → new ≡ cond (is_ok r) more old → OnOk r (new ≡ more)
appended (Ok x) new more old h = h
appended (Err e) new more old h = tt

not_less : (n : ℕ) → n < 0 → ⊥
not_less n h = grind arith

one_less : (k : ℕ) → suc k - 1 ≡ k
one_less k = grind arith

take_more : (n : ℕ) (w : List ℕ) (ws : List (List ℕ)) → 0 < n → take n (w ∷ ws) ≡ w ∷ take (n - 1) ws
take_more zero w ws h = absurd (not_less 0 h)
take_more (suc k) w ws h = ap (λ (m : ℕ). w ∷ take m ws) (sym (one_less k))

drop_more : (n : ℕ) (w : List ℕ) (ws : List (List ℕ)) → 0 < n → drop n (w ∷ ws) ≡ drop (n - 1) ws
drop_more zero w ws h = absurd (not_less 0 h)
drop_more (suc k) w ws h = ap (λ (m : ℕ). drop m ws) (sym (one_less k))

-- one more of the first words
pub first_step : (start out text others new : List ℕ) (word : List ℕ) (n : ℕ) → start ≡ out ++ words_text Plain (take n (words_of text)) → words_of text ≡ word ∷ words_of others → 0 < n → new ≡ (out ++ 32 ∷ []) ++ word → start ≡ new ++ words_text Plain (take (n - 1) (words_of others))
first_step start out text others new word n h words some is =
    h
    ∙ ap (λ (ws : List (List ℕ)). out ++ words_text Plain ws) (ap (take n) words ∙ take_more n word (words_of others) some)
    ∙ sym (append_assoc out (32 ∷ word) (words_text Plain (take (n - 1) (words_of others))))
    ∙ ap (λ (t : List ℕ). t ++ words_text Plain (take (n - 1) (words_of others))) (sym (append_assoc out (32 ∷ []) word) ∙ sym is)

pub rest_step : (start : List (List ℕ)) (text others word : List ℕ) (n : ℕ) → start ≡ drop n (words_of text) → words_of text ≡ word ∷ words_of others → 0 < n → start ≡ drop (n - 1) (words_of others)
rest_step start text others word n h words some = h ∙ ap (drop n) words ∙ drop_more n word (words_of others) some

-- the fields of an operation

onto_some : (b : ℕ) (ws : List (List ℕ)) → (first : List ℕ) × (others : List (List ℕ)) × (onto_word b ws ≡ first ∷ others)
onto_some b [] = (b ∷ [], [], refl)
onto_some b (w ∷ ws) = (b ∷ w, ws, refl)

fields_if : (is : Bool) (b : ℕ) (ws : List (List ℕ)) → (first : List ℕ) × (others : List (List ℕ)) × (cond is ([] ∷ ws) (onto_word b ws) ≡ first ∷ others)
fields_if true b ws = ([], ws, refl)
fields_if false b ws = onto_some b ws

-- a word has a field
fields_some : (separator : ℕ) (word : List ℕ) → (first : List ℕ) × (others : List (List ℕ)) × (fields_of separator word ≡ first ∷ others)
fields_some separator [] = ([], [], refl)
fields_some separator (b ∷ bs) = fields_if (b == separator) b (fields_of separator bs)

pub three_fields : (word num rest op flags last : List ℕ) → fields_of 58 word ≡ num ∷ fields_of 58 rest → fields_of 58 rest ≡ op ∷ fields_of 58 flags → fields_of 58 flags ≡ last ∷ [] → operation_of word (fields_of 58 word) ≡ operation_of [] (num ∷ op ∷ last ∷ [])
three_fields word num rest op flags last one two three =
    ap (operation_of word) (one ∙ ap (λ (fs : List (List ℕ)). num ∷ fs) (two ∙ ap (λ (fs : List (List ℕ)). op ∷ fs) three))

pub more_fields : (word num rest op flags first others : List ℕ) → fields_of 58 word ≡ num ∷ fields_of 58 rest → fields_of 58 rest ≡ op ∷ fields_of 58 flags → fields_of 58 flags ≡ first ∷ fields_of 58 others → operation_of word (fields_of 58 word) ≡ word
more_fields word num rest op flags first others one two three =
    let some = fields_some 58 others in
    ap (operation_of word) (one ∙ ap (λ (fs : List (List ℕ)). num ∷ fs) (two ∙ ap (λ (fs : List (List ℕ)). op ∷ fs) (three ∙ ap (λ (fs : List (List ℕ)). first ∷ fs) some.2)))
