-- Lines whose bytes come one after the other.
use Rattle.std.proofs.Common.{◌≡◌, ℕ, ◌+◌, ◌-◌, ◌<◌, ◌≤◌, ◌⊎◌, Bool, true, false, cond, List, [], ◌∷◌, ◌++◌, length, take, arith, refl, ap, sym, zero, suc, one-add, inl, inr, ◌∙◌, min, subst, append_assoc}
use Rattle.std.proofs.lemmas.Bool.Decides.{nat_tests}
use Rattle.std.proofs.lemmas.Grind.{common_steps}
use Rattle.std.proofs.lemmas.List.{append-nil, length-take-le, map-append, take_min, take_all}
use Rattle.std.proofs.lemmas.Bool.{cases_lt}
use Rattle.std.proofs.Math.Seq.{take-append-add}
use Rattle.std.specs.List.{prefix_len}
use Rattle.std.specs.Prelude.{◌==◌, ◌&&◌, not, map, Option, None, Some, MatchOption, replicate, slice_index}
use Rattle.memchr.specs.Find.{IsFirstByte, is_byte}
use Rattle.ipc_words.specs.Lines.{Split, is_line, complete_lines, onto, onto_first, split, whole_line, within_limit, without_return}

-- one line

too_long : (line : List ℕ) → 65536 < length line → within_limit line ≡ None
too_long line h = grind (arith, nat_tests)

without_return_if : (b : Bool) (line : List ℕ) → 65537 < length line → 65536 < length (cond b (take (length line - 1) line) line)
without_return_if true line h = grind (arith, common_steps)
without_return_if false line h = omega arith

too_long_whole : (line : List ℕ) → 65537 < length line → whole_line line ≡ None
too_long_whole line h = too_long (without_return line) (without_return_if (slice_index line (length line - 1) == 13) line h)

-- what is kept of a line tells as much as the line

long_kept : (n m : ℕ) (line : List ℕ) → m < n → n < length line → m < length (take n line)
long_kept n m line h k = let e = length-take-le n line (omega arith) in omega (arith, e)

kept_whole_if : (line : List ℕ) → (65538 < length line) ⊎ (length line ≤ 65538) → whole_line (take 65538 line) ≡ whole_line line
kept_whole_if line (inl long) =
    let kept : 65537 < length (take 65538 line) = long_kept 65538 65537 line (omega arith) (omega arith) in
    let all : 65537 < length line = omega arith in
    too_long_whole (take 65538 line) kept ∙ sym (too_long_whole line all)
kept_whole_if line (inr short) = ap whole_line (take_all 65538 line short)

pub kept_whole : (line : List ℕ) → whole_line (take 65538 line) ≡ whole_line line
kept_whole line = kept_whole_if line (cases_lt 65538 (length line))

kept_last_if : (line : List ℕ) → (65538 < length line) ⊎ (length line ≤ 65538) → within_limit (take 65538 line) ≡ within_limit line
kept_last_if line (inl long) =
    let kept : 65536 < length (take 65538 line) = long_kept 65538 65536 line (omega arith) (omega arith) in
    let all : 65536 < length line = omega arith in
    too_long (take 65538 line) kept ∙ sym (too_long line all)
kept_last_if line (inr short) = ap within_limit (take_all 65538 line short)

pub kept_last : (line : List ℕ) → within_limit (take 65538 line) ≡ within_limit line
kept_last line = kept_last_if line (cases_lt 65538 (length line))

-- what is kept where more bytes come
pub extend_kept : (line bytes : List ℕ) (room : ℕ) → length line + room ≡ 65538 → line ++ take (min room (length bytes)) bytes ≡ take 65538 (line ++ bytes)
extend_kept line bytes room full =
    ap (λ (bs : List ℕ). line ++ bs) (take_min room bytes) ∙ sym (take-append-add line bytes room) ∙ ap (λ (n : ℕ). take n (line ++ bytes)) full

more_kept : (n : ℕ) (line bytes : List ℕ) → take n (take n line ++ bytes) ≡ take n (line ++ bytes)
more_kept zero line bytes = refl
more_kept (suc n) [] bytes = refl
more_kept (suc n) (c ∷ cs) bytes = ap (λ (xs : List ℕ). c ∷ xs) (more_kept n cs bytes)

pub kept_more : (line bytes : List ℕ) → take 65538 (take 65538 line ++ bytes) ≡ take 65538 (line ++ bytes)
kept_more line bytes = more_kept 65538 line bytes

-- the lines of a text with a line feed more

abbrev fed : Split → Split
fed s = record { whole = s.whole ++ s.rest ∷ []; rest = [] }

fed_first : (b : ℕ) (lines : List (List ℕ)) (rest : List ℕ) → onto_first b (lines ++ rest ∷ []) [] ≡ fed (onto_first b lines rest)
fed_first b [] rest = refl
fed_first b (line ∷ lines) rest = refl

fed_onto_if : (feed : Bool) (b : ℕ) (s : Split) → cond feed (record { whole = [] ∷ (fed s).whole; rest = [] }) (onto_first b (fed s).whole []) ≡ fed (cond feed (record { whole = [] ∷ s.whole; rest = s.rest }) (onto_first b s.whole s.rest))
fed_onto_if true b s = refl
fed_onto_if false b s = fed_first b s.whole s.rest

pub split_feed : (text : List ℕ) → split (text ++ 10 ∷ []) ≡ record { whole = (split text).whole ++ (split text).rest ∷ []; rest = [] }
split_feed [] = refl
split_feed (b ∷ bs) = ap (onto b) (split_feed bs) ∙ fed_onto_if (b == 10) b (split bs)

-- and with another byte more

abbrev grown : ℕ → Split → Split
grown b s = record { whole = s.whole; rest = s.rest ++ b ∷ [] }

grown_first : (b c : ℕ) (lines : List (List ℕ)) (rest : List ℕ) → onto_first c lines (rest ++ b ∷ []) ≡ grown b (onto_first c lines rest)
grown_first b c [] rest = refl
grown_first b c (line ∷ lines) rest = refl

grown_onto_if : (feed : Bool) (b c : ℕ) (s : Split) → cond feed (record { whole = [] ∷ s.whole; rest = s.rest ++ b ∷ [] }) (onto_first c s.whole (s.rest ++ b ∷ [])) ≡ grown b (cond feed (record { whole = [] ∷ s.whole; rest = s.rest }) (onto_first c s.whole s.rest))
grown_onto_if true b c s = refl
grown_onto_if false b c s = grown_first b c s.whole s.rest

one_byte_if : (feed : Bool) (b : ℕ) → feed ≡ false → cond feed (record { whole = [] ∷ []; rest = [] }) (onto_first b [] []) ≡ record { whole = []; rest = b ∷ [] }
one_byte_if true b h = cc
one_byte_if false b h = refl

pub split_byte : (text : List ℕ) (b : ℕ) → (b ≡ 10 → ⊥) → split (text ++ b ∷ []) ≡ record { whole = (split text).whole; rest = (split text).rest ++ b ∷ [] }
split_byte [] b h = let no : (b == 10) ≡ false = grind (arith, nat_tests) in one_byte_if (b == 10) b no
split_byte (c ∷ cs) b h = ap (onto c) (split_byte cs b h) ∙ grown_onto_if (c == 10) b c (split cs)

-- what a search for a line feed tells

not_true : (b : Bool) → ¬ (b ≡ true) → not b ≡ true
not_true true h = absurd (h refl)
not_true false h = refl

pub no_feed : (text : List ℕ) (n : ℕ) → ((k : ℕ) → k < n → ¬ ((slice_index text k == 10) ≡ true)) → n ≤ length text → is_line (take n text) ≡ true
no_feed text zero h w = refl
no_feed [] (suc n) h w = refl
no_feed (b ∷ bs) (suc n) h w =
    let here = not_true (b == 10) (h 0 (omega arith)) in
    let more = no_feed bs n (λ k l. h (suc k) (omega arith)) (omega arith) in
    (λ i. here i && more i)

-- a text that begins with a line, and one without a line feed

onto_if : (feed : Bool) (more : Bool) (b : ℕ) (s t : Split) → (not feed && more) ≡ true → cond feed s t ≡ t
onto_if true more b s t h = absurd (let e : false ≡ true = h in cc)
onto_if false more b s t h = refl

pub and_right : (a b : Bool) → (a && b) ≡ true → b ≡ true
and_right true b h = h
and_right false b h = absurd (let e : false ≡ true = h in cc)

pub and_left : (a b : Bool) → (a && b) ≡ true → a ≡ true
and_left true b h = refl
and_left false b h = absurd (let e : false ≡ true = h in cc)

pub split_first : (line others : List ℕ) → is_line line ≡ true → split (line ++ 10 ∷ others) ≡ record { whole = line ∷ (split others).whole; rest = (split others).rest }
split_first [] others h = refl
split_first (b ∷ bs) others h =
    ap (onto b) (split_first bs others (and_right (not (b == 10)) (is_line bs) h))
    ∙ onto_if (b == 10) (is_line bs) b _ _ h

pub split_none : (text : List ℕ) → is_line text ≡ true → split text ≡ record { whole = []; rest = text }
split_none [] h = refl
split_none (b ∷ bs) h =
    ap (onto b) (split_none bs (and_right (not (b == 10)) (is_line bs) h)) ∙ onto_if (b == 10) (is_line bs) b _ _ h

pub feed_tells : (text : List ℕ) (r : Option ℕ) → IsFirstByte (is_byte 10) text r → MatchOption r (is_line text ≡ true) (λ place. is_line (take place text) ≡ true)
feed_tells text None h = subst (λ (l : List ℕ). is_line l ≡ true) (take_all (length text) text (omega arith)) (no_feed text (length text) (λ k l. h k (omega arith) l) (omega arith))
feed_tells text (Some place) h = no_feed text place (λ k l. h.0.before k (omega arith) l) (let high = h.0.high in omega (arith, high))

-- and with bytes more that have no line feed
not_feed : (b : ℕ) → not (b == 10) ≡ true → b ≡ 10 → ⊥
not_feed b h e = grind (arith, nat_tests)

pub split_line_more : (text line : List ℕ) → is_line line ≡ true → split (text ++ line) ≡ record { whole = (split text).whole; rest = (split text).rest ++ line }
split_line_more text [] h = ap split (append-nil text) ∙ (λ i. record { whole = (split text).whole; rest = sym (append-nil (split text).rest) i })
split_line_more text (b ∷ bs) h =
    let other = not_feed b (and_left (not (b == 10)) (is_line bs) h) in
    ap split (sym (append_assoc text (b ∷ []) bs))
    ∙ split_line_more (text ++ b ∷ []) bs (and_right (not (b == 10)) (is_line bs) h)
    ∙ ap (λ (s : Split). record { whole = s.whole; rest = s.rest ++ bs }) (split_byte text b other)
    ∙ (λ i. record { whole = (split text).whole; rest = append_assoc (split text).rest (b ∷ []) bs i })

-- a text's complete lines stay when more comes

whole_next_if : (feed : Bool) (text : List ℕ) (b : ℕ) → (b == 10) ≡ feed → (more : List (List ℕ)) × ((split (text ++ b ∷ [])).whole ≡ (split text).whole ++ more)
whole_next_if true text b h = let ten : b ≡ 10 = grind (arith, nat_tests) in ((split text).rest ∷ [], rw ten (ap (λ (s : Split). s.whole) (split_feed text)))
whole_next_if false text b h = let no : b ≡ 10 → ⊥ = grind (arith, nat_tests) in ([], ap (λ (s : Split). s.whole) (split_byte text b no) ∙ sym (append-nil (split text).whole))

whole_more : (a b : List ℕ) → (more : List (List ℕ)) × ((split (a ++ b)).whole ≡ (split a).whole ++ more)
whole_more a [] = ([], ap (λ (t : List ℕ). (split t).whole) (append-nil a) ∙ sym (append-nil (split a).whole))
whole_more a (b ∷ bs) =
    let next = whole_next_if (b == 10) a b refl in
    let rest = whole_more (a ++ b ∷ []) bs in
    let same : (a ++ b ∷ []) ++ bs ≡ a ++ b ∷ bs = append_assoc a (b ∷ []) bs in (
      next.0 ++ rest.0,
      ap (λ (t : List ℕ). (split t).whole) (sym same) ∙ rest.1 ∙ ap (λ (t : List (List ℕ)). t ++ rest.0) next.1 ∙ append_assoc (split a).whole next.0 rest.0,
    )

pub complete_more : (a b : List ℕ) → (more : List (Option (List ℕ))) × (complete_lines (a ++ b) ≡ complete_lines a ++ more)
complete_more a b =
    let grew = whole_more a b in
    (map whole_line grew.0, ap (λ (t : List (List ℕ)). map whole_line t) grew.1 ∙ map-append whole_line (split a).whole grew.0)

-- line feeds that come first

abbrev pub feeds : List ℕ → ℕ
feeds text = prefix_len (λ b. b == 10) text

feeds_first_if : (feed : Bool) (b : ℕ) (bs : List ℕ) → (b == 10) ≡ feed → take (feeds bs) bs ≡ replicate (feeds bs) 10 → take (cond feed (1 + feeds bs) 0) (b ∷ bs) ≡ replicate (cond feed (1 + feeds bs) 0) 10
feeds_first_if true b bs e h = let ten : b ≡ 10 = grind (arith, nat_tests) in rw (one-add, h, ten) refl
feeds_first_if false b bs e h = refl

pub feeds_first : (text : List ℕ) → take (feeds text) text ≡ replicate (feeds text) 10
feeds_first [] = refl
feeds_first (b ∷ bs) = feeds_first_if (b == 10) b bs refl (feeds_first bs)
