-- What folding a line gives.
use Rattle.std.proofs.Common.{◌≡◌, ℕ, ◌+◌, ◌≤◌, Bool, true, false, cond, arith, List, [], ◌∷◌, ◌++◌, length, refl, sym, ap, ◌∙◌, append_assoc, append-nil}
use Rattle.std.specs.List.{AllByRecursion}
use Rattle.std.proofs.lemmas.Bool.Decides.{nat_tests}
use Rattle.std.proofs.lemmas.Grind.{common_steps, flat_map-append}
use Rattle.ipc_words.proofs.LineLemmas.{split_first, split_none}
use Rattle.ipc_words.specs.Lines.{Split, is_line, split}
use Rattle.ipc_words.specs.Words.{words_of}
use Rattle.shown_lines.specs.Folding.{AreShort, behind, folded, folded_all, folded_each, has_room, lines_text, packed, packed_all}

-- one more word

more_bytes : (line w : List ℕ) → length (line ++ 32 ∷ w) ≡ length line + 1 + length w
more_bytes line w = grind (arith, common_steps)

two_more : (w : List ℕ) → length (32 ∷ 32 ∷ w) ≡ length w + 2
two_more w = grind (arith, common_steps)

packed_if : (width : ℕ) (line w : List ℕ) (ws : List (List ℕ)) (b : Bool)
    → lines_text (packed width (line ++ 32 ∷ w) ws) ≡ (line ++ 32 ∷ w) ++ (behind width (length (line ++ 32 ∷ w)) ws ++ 10 ∷ [])
    → lines_text (packed width (32 ∷ 32 ∷ w) ws) ≡ (32 ∷ 32 ∷ w) ++ (behind width (length (32 ∷ 32 ∷ w)) ws ++ 10 ∷ [])
    → lines_text (cond b (packed width (line ++ 32 ∷ w) ws) (line ∷ packed width (32 ∷ 32 ∷ w) ws)) ≡ line ++ ((cond b (32 ∷ w) (10 ∷ 32 ∷ 32 ∷ w) ++ behind width (cond b (length line + 1 + length w) (length w + 2)) ws) ++ 10 ∷ [])
packed_if width line w ws true on off =
    on
    ∙ append_assoc line (32 ∷ w) (behind width (length (line ++ 32 ∷ w)) ws ++ 10 ∷ [])
    ∙ ap (λ (n : ℕ). line ++ ((32 ∷ w) ++ (behind width n ws ++ 10 ∷ []))) (more_bytes line w)
    ∙ ap (λ (t : List ℕ). line ++ t) (sym (append_assoc (32 ∷ w) (behind width (length line + 1 + length w) ws) (10 ∷ [])))
packed_if width line w ws false on off =
    ap (λ (t : List ℕ). (line ++ 10 ∷ []) ++ t) off
    ∙ append_assoc line (10 ∷ []) ((32 ∷ 32 ∷ w) ++ (behind width (length (32 ∷ 32 ∷ w)) ws ++ 10 ∷ []))
    ∙ ap (λ (n : ℕ). line ++ 10 ∷ ((32 ∷ 32 ∷ w) ++ (behind width n ws ++ 10 ∷ []))) (two_more w)
    ∙ ap (λ (t : List ℕ). line ++ t) (sym (append_assoc (10 ∷ 32 ∷ 32 ∷ w) (behind width (length w + 2) ws) (10 ∷ [])))

packed_text : (width : ℕ) (line : List ℕ) (ws : List (List ℕ)) → lines_text (packed width line ws) ≡ line ++ (behind width (length line) ws ++ 10 ∷ [])
packed_text width line [] = append-nil (line ++ 10 ∷ [])
packed_text width line (w ∷ ws) =
    packed_if width line w ws (has_room width (length line) w) (packed_text width (line ++ 32 ∷ w) ws) (packed_text width (32 ∷ 32 ∷ w) ws)

-- a line of some words, and one of none
pub folded_words : (out line word first written new : List ℕ) (width : ℕ) (ws : List (List ℕ)) → words_of line ≡ word ∷ ws → first ≡ out ++ word → written ≡ first ++ behind width (length word) ws → new ≡ written ++ 10 ∷ [] → new ≡ out ++ lines_text (folded width line)
folded_words out line word first written new width ws words f b n =
    n
    ∙ ap (λ (t : List ℕ). t ++ 10 ∷ []) (b ∙ ap (λ (t : List ℕ). t ++ behind width (length word) ws) f)
    ∙ append_assoc (out ++ word) (behind width (length word) ws) (10 ∷ [])
    ∙ append_assoc out word (behind width (length word) ws ++ 10 ∷ [])
    ∙ ap (λ (t : List ℕ). out ++ t) (sym (packed_text width word ws))
    ∙ ap (λ (all : List (List ℕ)). out ++ lines_text (packed_all width all)) (sym words)

pub folded_none : (out line new : List ℕ) (width : ℕ) → words_of line ≡ [] → new ≡ out ++ 10 ∷ [] → new ≡ out ++ lines_text (folded width line)
folded_none out line new width words n = n ∙ ap (λ (all : List (List ℕ)). out ++ lines_text (packed_all width all)) (sym words)

-- one more line of a text
pub fold_step : (start out rest line others new : List ℕ) (width : ℕ) → start ≡ out ++ lines_text (folded_all width rest) → rest ≡ line ++ 10 ∷ others → is_line line ≡ true → new ≡ out ++ lines_text (folded width line) → start ≡ new ++ lines_text (folded_all width others)
fold_step start out rest line others new width h e plain is =
    let cut : split rest ≡ record { whole = line ∷ (split others).whole; rest = (split others).rest } = ap split e ∙ split_first line others plain in
    h
    ∙ ap (λ (s : Split). out ++ lines_text (folded_each width s.whole)) cut
    ∙ ap (λ (t : List ℕ). out ++ t) (flat_map-append (λ (l : List ℕ). l ++ 10 ∷ []) (folded width line) (folded_all width others))
    ∙ sym (append_assoc out (lines_text (folded width line)) (lines_text (folded_all width others)))
    ∙ ap (λ (t : List ℕ). t ++ lines_text (folded_all width others)) (sym is)

pub fold_end : (start out rest : List ℕ) (width : ℕ) → start ≡ out ++ lines_text (folded_all width rest) → is_line rest ≡ true → out ≡ start
fold_end start out rest width h plain =
    sym (h ∙ ap (λ (s : Split). out ++ lines_text (folded_each width s.whole)) (split_none rest plain) ∙ append-nil out)

-- no line is longer than it may be

abbrev Fit : ℕ → List (List ℕ) → Type 0
Fit most lines = AllByRecursion (λ l. length l ≤ most) lines

room_is : (width most : ℕ) (line w : List ℕ) → width ≤ most → has_room width (length line) w ≡ true → length (line ++ 32 ∷ w) ≤ most
room_is width most line w h room = grind (arith, nat_tests, more_bytes)

short_if : (width most : ℕ) (line w : List ℕ) (ws : List (List ℕ)) (b : Bool) → has_room width (length line) w ≡ b → width ≤ most → length line ≤ most → length w + 2 ≤ most
    → (length (line ++ 32 ∷ w) ≤ most → Fit most (packed width (line ++ 32 ∷ w) ws)) → (length (32 ∷ 32 ∷ w) ≤ most → Fit most (packed width (32 ∷ 32 ∷ w) ws))
    → Fit most (cond b (packed width (line ++ 32 ∷ w) ws) (line ∷ packed width (32 ∷ 32 ∷ w) ws))
short_if width most line w ws true e h l fits on off = on (room_is width most line w h e)
short_if width most line w ws false e h l fits on off = (l, off (grind (arith, common_steps)))

packed_short : (width most : ℕ) (line : List ℕ) (ws : List (List ℕ)) → width ≤ most → length line ≤ most → AllByRecursion (λ w. length w + 2 ≤ most) ws → Fit most (packed width line ws)
packed_short width most line [] h l all = (l, tt)
packed_short width most line (w ∷ ws) h l all =
    short_if width most line w ws (has_room width (length line) w) refl h l all.0 (λ k. packed_short width most (line ++ 32 ∷ w) ws h k all.1) (λ k. packed_short width most (32 ∷ 32 ∷ w) ws h k all.1)

short_words : (width most : ℕ) (words : List (List ℕ)) → width ≤ most → AllByRecursion (λ w. length w + 2 ≤ most) words → Fit most (packed_all width words)
short_words width most [] h all = (grind arith, tt)
short_words width most (w ∷ ws) h all = packed_short width most w ws h (grind (arith, all.0)) all.1

pub folded_short : (width most : ℕ) (line : List ℕ) → AreShort width most line
folded_short width most line h all = short_words width most (words_of line) h all
