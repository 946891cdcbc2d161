-- What reading a journal's text does. The reader and the client's state were v and m before, and are w and m' after.
use Rattle.std.specs.Prelude.{◌≡◌, ℕ, Bool, true, false, ◌+◌, ◌==◌, ◌&&◌, ◌⊎◌, List, ◌++◌, drop, flat_map, length, min, string_bytes, take, vec_len, Result, Ok, Err}
use Rattle.std.specs.Global.{Vec}
use Rattle.std.specs.Arc.{arc_value}
use Rattle.ipc_call.specs.declared.replies.JournalRow.{JournalRow}
use Rattle.ipc_combiner.specs.Parts.{TriedToTake}
use Rattle.ipc_combiner.specs.declared.parts.Untaken.{Untaken}
use Rattle.ipc_combiner.specs.declared.parts.Untaken.TheVariants as untaken
use Rattle.ipc_journal_text.specs.JournalText.{row_text}
use Rattle.ipc_member.specs.declared.states.Member.{Member}
use Rattle.journal_reader.specs.declared.states.Reader.{Reader}
use Rattle.journal_reader.specs.declared.states.Unread.{Unread}
use Rattle.journal_reader.specs.declared.states.Unread.TheVariants.{Busy, NoJournal, Memory}

-- the text of rows
abbrev pub text_in : List JournalRow → List ℕ
text_in rows = flat_map row_text rows

-- what was taken and isn't read
abbrev pub unread : Reader → List ℕ
unread r = drop r.at (string_bytes r.text) ++ text_in r.rows.items

-- all that was taken was read
abbrev pub is_read : Reader → Bool
is_read r = (r.at == length (string_bytes r.text)) && (vec_len r.rows == 0)

abbrev pub why_unread : Untaken → Unread
why_unread (untaken.Busy c) = Busy c
why_unread (untaken.Elsewhere given) = NoJournal
why_unread untaken.NoParts = NoJournal

-- bytes at the beginning of a place for more
abbrev pub put_first : List ℕ → List ℕ → List ℕ
put_first bytes out = bytes ++ drop (length bytes) out

-- it stays as it was
abbrev pub IsAsBefore : Reader → Reader → Type 0
IsAsBefore v w = (unread w ≡ unread v) × (w.taken ≡ v.taken)

-- the client has asked for the rows behind those that were taken, and this came of it
abbrev pub Asks : Reader → Member → Member → Result (Vec JournalRow) Untaken → Type 0
Asks v m m' came = (arc_value m'.service ≡ arc_value m.service)
    × TriedToTake (arc_value m.service).list m.idle.joined m'.idle.joined v.taken came

-- the rows that came behind those that were taken; or why none did
abbrev pub FetchesBy : Reader → Reader → Result (Vec JournalRow) Untaken → Result (Unit {0}) Unread → Type 0
FetchesBy v w (Ok rows) (Ok u) = (w.taken ≡ v.taken + vec_len rows) × (unread w ≡ unread v ++ text_in rows.items)
FetchesBy v w (Err why) (Err e) = (e ≡ why_unread why) × IsAsBefore v w
FetchesBy v w (Ok rows) (Err e) = ⊥
FetchesBy v w (Err why) (Ok u) = ⊥

abbrev pub Fetches : Reader → Member → Reader → Member → Result (Unit {0}) Unread → Type 0
Fetches v m w m' result = (came : Result (Vec JournalRow) Untaken) × Asks v m m' came × FetchesBy v w came result

-- as many bytes as fit of those that aren't read are given; where memory is short none is, and nothing is lost
abbrev pub Gives : Reader → List ℕ → Reader → List ℕ → Result ℕ Unread → Type 0
Gives v out w out' (Ok n) = (n ≡ min (length (unread v)) (length out)) × (out' ≡ put_first (take n (unread v)) out)
    × (unread w ≡ drop n (unread v)) × (w.taken ≡ v.taken)
Gives v out w out' (Err e) = (e ≡ Memory) × (out' ≡ out) × IsAsBefore v w

-- Where all was read, rows are fetched first; where none can be, nothing is given
abbrev pub ReadsBy : Bool → Reader → Member → List ℕ → Reader → Member → List ℕ → Result ℕ Unread → Type 0
ReadsBy false v m out w m' out' result = (m' ≡ m) × Gives v out w out' result
ReadsBy true v m out w m' out' (Ok n) = (u : Reader) × Fetches v m u m' (Ok tt) × Gives u out w out' (Ok n)
ReadsBy true v m out w m' out' (Err e) = ((u : Reader) × Fetches v m u m' (Ok tt) × Gives u out w out' (Err e))
    ⊎ (Fetches v m w m' (Err e) × (out' ≡ out))

abbrev pub Reads : Reader → Member → List ℕ → Reader → Member → List ℕ → Result ℕ Unread → Type 0
Reads v m out w m' out' result = ReadsBy (is_read v) v m out w m' out' result
