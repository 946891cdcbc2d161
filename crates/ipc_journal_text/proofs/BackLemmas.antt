-- What the reader answers for the text of a journal.
use Rattle.std.proofs.Common.{◌≡◌, ℕ, List, [], ap, ◌∙◌}
use Rattle.std.specs.Prelude.{Option, Some, None, Result, Ok, Err, IsErr, IsErrAnd}
use Rattle.ipc_call.specs.declared.limits.Limits.{Limits}
use Rattle.ipc_call.specs.declared.replies.JournalRow.{JournalRow}
use Rattle.ipc_creds.specs.Credentials.{Credentials}
use Rattle.ipc_journal_text.proofs.JournalLemmas.{journal_read}
use Rattle.ipc_journal_text.specs.Gives.{IsRead, IsWritten, LeavesRead, Refuses}
use Rattle.ipc_journal_text.specs.JournalText.{text_of}
use Rattle.ipc_journal_text.specs.Laws.{OneJournal}
use Rattle.ipc_journal_text.specs.Ranges.{IsJournal}
use Rattle.ipc_journal_text.specs.Reading.{Read, read_text}
use Rattle.ipc_journal_text.specs.declared.errors.Unread.{Unread}
use Rattle.ipc_journal_text.specs.declared.errors.Unread.TheVariants.{Memory, Line, Form}
use Rattle.ipc_journal_text.specs.declared.reading.Recorded.{Recorded}

-- what a journal's text says
abbrev pub nothing : Limits → Read
nothing old = record { limits = old; clients = []; rows = [] }

abbrev pub journal : Limits → List Credentials → List JournalRow → Read
journal limits clients rows = record { limits = limits; clients = clients; rows = rows }

abbrev pub Said : List ℕ → Limits → Read → Type 0
Said text old read = read_text (nothing old) text ≡ Some read

pub said : (text : List ℕ) (old l : Limits) (cs : List Credentials) (rs : List JournalRow) → IsJournal l cs rs → text ≡ text_of l cs rs → Said text old (journal l cs rs)
said text old l cs rs h e = ap (read_text (nothing old)) e ∙ journal_read old l cs rs h

-- no line of it is refused
none_some : {A B : Type 0} (found : Option A) (x : A) → found ≡ None → found ≡ Some x → B
none_some found x e f = cc

pub unread_back : (e : Unread) (new : Read) (text : List ℕ) (old l : Limits) (cs : List Credentials) (rs : List JournalRow) → LeavesRead (Err e) new (read_text (nothing old) text) → IsJournal l cs rs → text ≡ text_of l cs rs → IsRead l cs rs (Err e)
unread_back Memory new text old l cs rs h j t = tt
unread_back (Line line wanted) new text old l cs rs h j t = none_some (read_text (nothing old) text) (journal l cs rs) h (said text old l cs rs j t)
unread_back (Form line form) new text old l cs rs h j t = none_some (read_text (nothing old) text) (journal l cs rs) h (said text old l cs rs j t)

-- and the journal comes of them
pub read_back : (new : Read) (text : List ℕ) (old l : Limits) (cs : List Credentials) (rs : List JournalRow) → read_text (nothing old) text ≡ Some new → IsJournal l cs rs → text ≡ text_of l cs rs → new ≡ journal l cs rs
read_back new text old l cs rs h j t = let e = said text old l cs rs j t in cc

-- it is written as the text
written : (text : List ℕ) (l : Limits) (cs : List Credentials) (rs : List JournalRow) → IsJournal l cs rs → text ≡ text_of l cs rs → IsWritten (journal l cs rs) text
written text l cs rs j t = record { in_range = j.in_range; some = j.some; few = j.few; same = t }

refused_none : {P : Type 0} (e : Unread) (l : Limits) (cs : List Credentials) (rs : List JournalRow) → Refuses e P → P → IsRead l cs rs (Err e)
refused_none Memory l cs rs h p = tt
refused_none (Line line wanted) l cs rs h p = h p
refused_none (Form line form) l cs rs h p = h p

pub refused_back : (e : Unread) (new : Read) (text : List ℕ) (old l : Limits) (cs : List Credentials) (rs : List JournalRow) → Refuses e (IsWritten new text) → read_text (nothing old) text ≡ Some new → IsJournal l cs rs → text ≡ text_of l cs rs → IsRead l cs rs (Err e)
refused_back e new text old l cs rs h k j t =
    let same = read_back new text old l cs rs k j t in
    refused_none {P = IsWritten new text} e l cs rs h (rw same (written text l cs rs j t))

-- an error that is handed on
pub handed_on : (result : Result Recorded Unread) (e : Unread) (l : Limits) (cs : List Credentials) (rs : List JournalRow) → IsErr result → IsErrAnd result (λ x. x ≡ e) → IsRead l cs rs (Err e) → IsRead l cs rs result
handed_on (Ok read) e l cs rs h k i = cc
handed_on (Err x) e l cs rs h k i = rw k i

-- two journals with the same text are one
pub one_journal : OneJournal
one_journal a b h k e =
    let first = journal_read a.limits a.limits a.clients a.rows h in
    let second = journal_read a.limits b.limits b.clients b.rows k in
    let same = ap (read_text (nothing a.limits)) e in
    cc
