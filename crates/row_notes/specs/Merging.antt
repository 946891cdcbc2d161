-- Rows with notes between them.
use Rattle.std.specs.Prelude.{◌≡◌, ℕ, Bool, true, false, not, ◌&&◌, nat_eq, List, [], ◌∷◌, ◌++◌, codes, filter, flat_map, if◌then◌else◌}
use Rattle.std.specs.List.{list_all, starts_with}
use Rattle.ipc_words.specs.Lines.{is_line, split}
use Rattle.row_notes.specs.declared.notes.Head.{Head}
use Rattle.row_notes.specs.declared.notes.Head.TheVariants.{End}
use Rattle.row_notes.specs.Noted.{Noted, head_text}

-- a line with its line feed
abbrev pub line_alone : List ℕ → List ℕ
line_alone text = text ++ 10 ∷ []

-- a line of a note: behind what marks one that stands above its row, or behind four blanks
abbrev pub margin_above : List ℕ
margin_above = codes "> "

abbrev pub margin_below : List ℕ
margin_below = codes "    "

abbrev pub note_line : List ℕ → List ℕ → List ℕ
note_line margin text = margin ++ line_alone text

abbrev pub note_lines : List ℕ → List (List ℕ) → List ℕ
note_lines margin texts = flat_map (note_line margin) texts

-- the whole lines of the texts of notes
abbrev pub lines_of_notes : List Noted → List (List ℕ)
lines_of_notes notes = flat_map (λ n. (split n.text).whole) notes

abbrev pub notes_text : List ℕ → List Noted → List ℕ
notes_text margin notes = note_lines margin (lines_of_notes notes)

-- a note is of the row that begins with its head; one at the end stands below the last row
abbrev pub is_end : Head → Bool
is_end End = true
is_end head = false

abbrev pub is_of : List ℕ → Head → Bool
is_of row head = not (is_end head) && starts_with nat_eq row (head_text head)

-- the notes of a row: those at the front that are; and those that are left for the rows behind it
abbrev pub of_row : List ℕ → List Noted → List Noted
of_row row [] = []
of_row row (n ∷ ns) = if is_of row n.head then n ∷ of_row row ns else []

abbrev pub beyond : List ℕ → List Noted → List Noted
beyond row [] = []
beyond row (n ∷ ns) = if is_of row n.head then beyond row ns else n ∷ ns

-- the notes at the end stand below the last row, where it is whole
abbrev pub last_notes : List ℕ → List Noted → List Noted
last_notes [] notes = filter (λ n. is_end n.head) notes
last_notes (b ∷ bs) notes = []

-- a row between its notes
abbrev pub row_text : List ℕ → List Noted → List Noted → List ℕ
row_text row above notes = notes_text margin_above (of_row row above) ++ (line_alone row ++ notes_text margin_below (of_row row notes))

-- rows with what follows the last of them, each with the notes above it and those below it
abbrev pub explained_rows : List (List ℕ) → List ℕ → List Noted → List Noted → List ℕ
explained_rows [] rest above notes = rest ++ notes_text margin_below (last_notes rest notes)
explained_rows (row ∷ rows) rest above notes = row_text row above notes ++ explained_rows rows rest (beyond row above) (beyond row notes)

abbrev pub explained : List ℕ → List Noted → List Noted → List ℕ
explained rows above notes = explained_rows (split rows).whole (split rows).rest above notes

-- the same without saying which note stands where. A line, and the lines of the notes above it and below it
pub record Row : Type 0 where
  pub above : List (List ℕ)
  pub line : List ℕ
  pub notes : List (List ℕ)

abbrev pub row_alone : Row → List ℕ
row_alone r = line_alone r.line

abbrev pub row_explained : Row → List ℕ
row_explained r = note_lines margin_above r.above ++ (row_alone r ++ note_lines margin_below r.notes)

abbrev pub are_lines : List (List ℕ) → Bool
are_lines texts = list_all is_line texts

abbrev pub is_row : Row → Bool
is_row r = are_lines r.above && (is_line r.line && are_lines r.notes)

-- the rows as they were, and as they are with the notes: after whole rows, what follows the last of them, and the notes
-- at the end
pub record IsExplained (rows explained : List ℕ) : Type 0 where
  pub each : List Row
  pub rest : List ℕ
  pub last : List (List ℕ)
  pub lines : list_all is_row each ≡ true
  pub last_lines : are_lines last ≡ true
  pub alone : rows ≡ flat_map row_alone each ++ rest
  pub with_notes : explained ≡ flat_map row_explained each ++ rest ++ note_lines margin_below last
