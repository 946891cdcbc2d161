-- A note: the row that it is of, and its text.
use Rattle.std.specs.Prelude.{◌≡◌, ℕ, ◌+◌, List, [], ◌∷◌, ◌++◌, codes, decimal, drop, take}
use Rattle.row_notes.specs.declared.notes.Head.{Head}
use Rattle.row_notes.specs.declared.notes.Head.TheVariants.{Event, Line, End}
use Rattle.row_notes.specs.declared.notes.Note.{Note}
use Rattle.row_notes.specs.declared.notes.NotesLeft.{NotesLeft}

pub record Noted : Type 0 where
  pub head : Head
  pub text : List ℕ

-- notes by their heads and the lengths of their texts, which stand one behind the other
abbrev pub noted : List Note → List ℕ → List Noted
noted [] text = []
noted (n ∷ ns) text = record { head = n.head; text = take n.len text } ∷ noted ns (drop n.len text)

abbrev pub total_len : List Note → ℕ
total_len [] = 0
total_len (n ∷ ns) = n.len + total_len ns

-- the notes that are left to be printed
abbrev pub left_of : NotesLeft → List Noted
left_of l = noted l.notes.now l.text.now

-- one more at the end; a note without a text is none
abbrev pub with_note : List Noted → Head → List ℕ → List Noted
with_note notes head [] = notes
with_note notes head (b ∷ bs) = notes ++ record { head = head; text = b ∷ bs } ∷ []

-- what the row of a note begins with: that of a reply or of a call that waits, or of a bad line
abbrev pub head_text : Head → List ℕ
head_text (Event place turn) = decimal place ++ (codes "." ++ (decimal turn ++ codes " "))
head_text (Line number) = codes "line " ++ (decimal number ++ codes ": ")
head_text End = []

-- what the row of the first note begins with
abbrev pub next_head : List Noted → List ℕ
next_head [] = []
next_head (n ∷ ns) = head_text n.head

-- a note with this head is added, or none
abbrev pub AddsNote : List Noted → List Noted → Head → Type 0
AddsNote old new head = (text : List ℕ) × (new ≡ with_note old head text)
