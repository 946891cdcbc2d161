-- What a line is, and what one more of them adds.
use Rattle.std.proofs.Common.{◌≡◌, ℕ, suc, ◌-◌, Bool, true, false, cond, arith, List, [], ◌∷◌, ◌++◌, length, take, refl, sym, ap, ◌∙◌, append_assoc, append-nil, subst}
use Rattle.std.specs.Prelude.{not, ◌&&◌, ◌==◌, flat_map, filter}
use Rattle.std.proofs.lemmas.Grind.{common_steps, flat_map-append}
use Rattle.std.proofs.lemmas.List.Folds.{list_all-append}
use Rattle.ipc_words.proofs.LineLemmas.{and_left, and_right, split_first, split_none}
use Rattle.ipc_words.specs.Lines.{Split, is_line, onto_first, split}
use Rattle.row_notes.specs.Noted.{Noted}
use Rattle.row_notes.specs.Merging.{IsExplained, Row, are_lines, beyond, explained, explained_rows, is_end, is_of, last_notes, line_alone, lines_of_notes, margin_above, margin_below, note_line, note_lines, notes_text, of_row, row_alone, row_explained}

more_than_none : (n : ℕ) → (suc n == 0) ≡ true → ⊥
more_than_none n h = grind arith

-- what stands before the lines behind the first
pub first_is : (text line others : List ℕ) → text ≡ line ++ 10 ∷ others → take (length text - length others) text ≡ line_alone line
first_is text line others h =
    let whole : text ≡ line_alone line ++ others = h ∙ sym (append_assoc line (10 ∷ []) others) in
    rw whole (grind (arith, common_steps))

-- the lines of a note

-- one more line of a text
pub note_step : (margin start out rest line others new : List ℕ) → start ≡ out ++ note_lines margin (split rest).whole → rest ≡ line ++ 10 ∷ others → is_line line ≡ true → new ≡ (out ++ margin) ++ line_alone line → start ≡ new ++ note_lines margin (split others).whole
note_step margin start out rest line others new h e plain is =
    let cut : split rest ≡ record { whole = line ∷ (split others).whole; rest = (split others).rest } = ap split e ∙ split_first line others plain in
    h
    ∙ ap (λ (s : Split). out ++ note_lines margin s.whole) cut
    ∙ sym (append_assoc out (note_line margin line) (note_lines margin (split others).whole))
    ∙ ap (λ (l : List ℕ). l ++ note_lines margin (split others).whole) (sym (append_assoc out margin (line_alone line)) ∙ sym is)

-- none is left
pub note_end : (margin start out rest : List ℕ) → start ≡ out ++ note_lines margin (split rest).whole → is_line rest ≡ true → out ≡ start
note_end margin start out rest h plain = sym (h ∙ ap (λ (s : Split). out ++ note_lines margin s.whole) (split_none rest plain) ∙ append-nil out)

-- the notes of a row

note_lines-append : (margin : List ℕ) (a b : List (List ℕ)) → note_lines margin (a ++ b) ≡ note_lines margin a ++ note_lines margin b
note_lines-append margin a b = flat_map-append (note_line margin) a b

if_true : {X : Type 0} (b : Bool) (x y : X) → b ≡ true → cond b x y ≡ x
if_true true x y h = refl
if_true false x y h = absurd (let e : false ≡ true = h in cc)

if_false : {X : Type 0} (b : Bool) (x y : X) → b ≡ false → cond b x y ≡ y
if_false false x y h = refl
if_false true x y h = absurd (let e : true ≡ false = h in cc)

-- one more note of the row
pub notes_step : (margin row start out new : List ℕ) (n : Noted) (ns : List Noted) → start ≡ out ++ notes_text margin (of_row row (n ∷ ns)) → is_of row n.head ≡ true → new ≡ out ++ note_lines margin (split n.text).whole → start ≡ new ++ notes_text margin (of_row row ns)
notes_step margin row start out new n ns h is e =
    h
    ∙ ap (λ (l : List Noted). out ++ notes_text margin l) (if_true (is_of row n.head) (n ∷ of_row row ns) [] is)
    ∙ ap (λ (l : List ℕ). out ++ l) (note_lines-append margin (split n.text).whole (lines_of_notes (of_row row ns)))
    ∙ sym (append_assoc out (note_lines margin (split n.text).whole) (notes_text margin (of_row row ns)))
    ∙ ap (λ (l : List ℕ). l ++ notes_text margin (of_row row ns)) (sym e)

pub beyond_step : (row : List ℕ) (n : Noted) (ns : List Noted) → is_of row n.head ≡ true → beyond row (n ∷ ns) ≡ beyond row ns
beyond_step row n ns is = if_true (is_of row n.head) (beyond row ns) (n ∷ ns) is

-- the next one is of another row
pub notes_end : (margin row start out : List ℕ) (n : Noted) (ns : List Noted) → start ≡ out ++ notes_text margin (of_row row (n ∷ ns)) → is_of row n.head ≡ false → out ≡ start
notes_end margin row start out n ns h is =
    sym (h ∙ ap (λ (l : List Noted). out ++ notes_text margin l) (if_false (is_of row n.head) (n ∷ of_row row ns) [] is) ∙ append-nil out)

pub beyond_end : (row : List ℕ) (n : Noted) (ns : List Noted) → is_of row n.head ≡ false → beyond row (n ∷ ns) ≡ n ∷ ns
beyond_end row n ns is = if_false (is_of row n.head) (beyond row ns) (n ∷ ns) is

-- rows with their notes

-- what is appended part by part
in_parts : (out a l n more : List ℕ) → out ++ ((a ++ (l ++ n)) ++ more) ≡ (((out ++ a) ++ l) ++ n) ++ more
in_parts out a l n more =
    ap (λ (t : List ℕ). out ++ t) (append_assoc a (l ++ n) more ∙ ap (λ (t : List ℕ). a ++ t) (append_assoc l n more))
    ∙ sym (append_assoc ((out ++ a) ++ l) n more ∙ append_assoc (out ++ a) l (n ++ more) ∙ append_assoc out a (l ++ (n ++ more)))

-- one more row
pub row_step : (start out rest line others upper printed new : List ℕ) (above left_above notes left : List Noted) → start ≡ out ++ explained rest above notes → rest ≡ line ++ 10 ∷ others → is_line line ≡ true → upper ≡ out ++ notes_text margin_above (of_row line above) → printed ≡ upper ++ line_alone line → new ≡ printed ++ notes_text margin_below (of_row line notes) → left_above ≡ beyond line above → left ≡ beyond line notes → start ≡ new ++ explained others left_above left
row_step start out rest line others upper printed new above left_above notes left h e plain u p is la l =
    let cut : split rest ≡ record { whole = line ∷ (split others).whole; rest = (split others).rest } = ap split e ∙ split_first line others plain in
    let first = notes_text margin_above (of_row line above) in
    let mine = notes_text margin_below (of_row line notes) in
    h
    ∙ ap (λ (s : Split). out ++ explained_rows s.whole s.rest above notes) cut
    ∙ in_parts out first (line_alone line) mine (explained others (beyond line above) (beyond line notes))
    ∙ ap (λ (x : List ℕ). ((x ++ line_alone line) ++ mine) ++ explained others (beyond line above) (beyond line notes)) (sym u)
    ∙ ap (λ (x : List ℕ). (x ++ mine) ++ explained others (beyond line above) (beyond line notes)) (sym p)
    ∙ (λ i. sym is i ++ explained others (sym la i) (sym l i))

-- no further one
pub rows_end : (start out rest : List ℕ) (above notes : List Noted) → start ≡ out ++ explained rest above notes → is_line rest ≡ true → start ≡ (out ++ rest) ++ notes_text margin_below (last_notes rest notes)
rows_end start out rest above notes h plain =
    h
    ∙ ap (λ (s : Split). out ++ explained_rows s.whole s.rest above notes) (split_none rest plain)
    ∙ sym (append_assoc out rest (notes_text margin_below (last_notes rest notes)))

-- with the notes taken out, the rows are what they were

both : (a b : Bool) → a ≡ true → b ≡ true → (a && b) ≡ true
both a b h k = (λ i. h i && k i)

onto_first_lines : (b : ℕ) (whole : List (List ℕ)) (rest : List ℕ) → (b == 10) ≡ false → are_lines whole ≡ true → are_lines (onto_first b whole rest).whole ≡ true
onto_first_lines b [] rest e h = refl
onto_first_lines b (line ∷ lines) rest e h = ap (λ (x : Bool). (not x && is_line line) && are_lines lines) e ∙ h

onto_lines : (feed : Bool) (b : ℕ) (s : Split) → (b == 10) ≡ feed → are_lines s.whole ≡ true → are_lines (cond feed (record { whole = [] ∷ s.whole; rest = s.rest }) (onto_first b s.whole s.rest)).whole ≡ true
onto_lines true b s e h = h
onto_lines false b s e h = onto_first_lines b s.whole s.rest e h

split_lines : (text : List ℕ) → are_lines (split text).whole ≡ true
split_lines [] = refl
split_lines (b ∷ bs) = onto_lines (b == 10) b (split bs) refl (split_lines bs)

-- what a text is cut into
abbrev joined : Split → List ℕ
joined s = flat_map line_alone s.whole ++ s.rest

feed_is : (b : ℕ) → (b == 10) ≡ true → b ≡ 10
feed_is b h = grind arith

onto_first_joined : (b : ℕ) (whole : List (List ℕ)) (rest : List ℕ) → b ∷ (flat_map line_alone whole ++ rest) ≡ joined (onto_first b whole rest)
onto_first_joined b [] rest = refl
onto_first_joined b (line ∷ lines) rest = refl

onto_joined : (feed : Bool) (b : ℕ) (s : Split) → (b == 10) ≡ feed → b ∷ joined s ≡ joined (cond feed (record { whole = [] ∷ s.whole; rest = s.rest }) (onto_first b s.whole s.rest))
onto_joined true b s e = ap (λ (x : ℕ). x ∷ joined s) (feed_is b e)
onto_joined false b s e = onto_first_joined b s.whole s.rest

split_joined : (text : List ℕ) → text ≡ joined (split text)
split_joined [] = refl
split_joined (b ∷ bs) = ap (λ (l : List ℕ). b ∷ l) (split_joined bs) ∙ onto_joined (b == 10) b (split bs) refl

notes_lines : (notes : List Noted) → are_lines (lines_of_notes notes) ≡ true
notes_lines [] = refl
notes_lines (n ∷ ns) =
    list_all-append is_line (split n.text).whole (lines_of_notes ns) ∙ both _ _ (split_lines n.text) (notes_lines ns)

-- one more row in front
explained_more : (row : List ℕ) (upper lower : List (List ℕ)) (rows more : List ℕ) → is_line row ≡ true → are_lines upper ≡ true → are_lines lower ≡ true → IsExplained rows more → IsExplained (line_alone row ++ rows) ((note_lines margin_above upper ++ (line_alone row ++ note_lines margin_below lower)) ++ more)
explained_more row upper lower rows more plain first lines h =
    let r : Row = record { above = upper; line = row; notes = lower } in record {
      each = r ∷ h.each;
      rest = h.rest;
      last = h.last;
      lines = both _ _ (both _ _ first (both _ _ plain lines)) h.lines;
      last_lines = h.last_lines;
      alone = ap (λ (l : List ℕ). line_alone row ++ l) h.alone ∙ sym (append_assoc (line_alone row) (flat_map row_alone h.each) h.rest);
      with_notes = ap (λ (l : List ℕ). row_explained r ++ l) h.with_notes
          ∙ sym (append_assoc (row_explained r) (flat_map row_explained h.each ++ h.rest) (note_lines margin_below h.last))
          ∙ ap (λ (l : List ℕ). l ++ note_lines margin_below h.last) (sym (append_assoc (row_explained r) (flat_map row_explained h.each) h.rest));
    }

rows_explained : (rows : List (List ℕ)) (rest : List ℕ) (above notes : List Noted) → are_lines rows ≡ true → IsExplained (flat_map line_alone rows ++ rest) (explained_rows rows rest above notes)
rows_explained [] rest above notes h = record {
  each = [];
  rest = rest;
  last = lines_of_notes (last_notes rest notes);
  lines = refl;
  last_lines = notes_lines (last_notes rest notes);
  alone = refl;
  with_notes = refl;
}
rows_explained (row ∷ rows) rest above notes h =
    subst (λ (l : List ℕ). IsExplained l (explained_rows (row ∷ rows) rest above notes)) (sym (append_assoc (line_alone row) (flat_map line_alone rows) rest))
    (explained_more row (lines_of_notes (of_row row above)) (lines_of_notes (of_row row notes)) _ _ (and_left (is_line row) (are_lines rows) h) (notes_lines (of_row row above)) (notes_lines (of_row row notes)) (rows_explained rows rest (beyond row above) (beyond row notes) (and_right (is_line row) (are_lines rows) h)))

pub explained_is : (text : List ℕ) (above notes : List Noted) → IsExplained text (explained text above notes)
explained_is text above notes =
    subst (λ (l : List ℕ). IsExplained l (explained text above notes)) (sym (split_joined text)) (rows_explained (split text).whole (split text).rest above notes (split_lines text))

-- what stands behind the last row

none_is_none : (0 == 0) ≡ false → ⊥
none_is_none h = grind arith

empty_is : (rest : List ℕ) → (length rest == 0) ≡ true → rest ≡ []
empty_is [] h = refl
empty_is (b ∷ bs) h = absurd (more_than_none (length bs) h)

pub last_when_empty : (start out rest new : List ℕ) (notes : List Noted) → start ≡ (out ++ rest) ++ notes_text margin_below (last_notes rest notes) → (length rest == 0) ≡ true → new ≡ (out ++ rest) ++ notes_text margin_below (filter (λ n. is_end n.head) notes) → new ≡ start
last_when_empty start out rest new notes h empty is =
    is ∙ ap (λ (l : List ℕ). (out ++ rest) ++ notes_text margin_below (last_notes l notes)) (sym (empty_is rest empty)) ∙ sym h

pub last_when_not : (start out rest new : List ℕ) (notes : List Noted) → start ≡ (out ++ rest) ++ notes_text margin_below (last_notes rest notes) → (length rest == 0) ≡ false → new ≡ out ++ rest → new ≡ start
last_when_not start out [] new notes h empty is = absurd (none_is_none empty)
last_when_not start out (b ∷ bs) new notes h empty is = is ∙ sym (append-nil (out ++ b ∷ bs)) ∙ sym h
