-- The line of a client is read as its credentials.
use Rattle.std.proofs.Common.{◌≡◌, ℕ, true, false, List, [], ◌∷◌, ◌++◌, length, arith, refl, ap, ◌∙◌, codes, append_assoc, nat_eq, nat_le}
use Rattle.std.proofs.lemmas.Bool.Decides.{nat_tests}
use Rattle.std.specs.List.{starts_with}
use Rattle.std.specs.Prelude.{decimal, Some}
use Rattle.ipc_creds.specs.Credentials.{Credentials}
use Rattle.ipc_words.specs.Words.{words_of}
use Rattle.ipc_journal_text.proofs.CredsLemmas.{Fit, caps_word, creds-words, creds_line, known, pair_word, read_caps, read_pair}
use Rattle.ipc_journal_text.proofs.PartLemmas.{read_groups}
use Rattle.ipc_journal_text.proofs.RowLemmas.{client_words, read_head}
use Rattle.ipc_journal_text.proofs.WordLemmas.{is_free}
use Rattle.ipc_journal_text.specs.CredentialsText.{capabilities_text, id_pair_text, ids_in, ids_text, supplementary_text}
use Rattle.ipc_journal_text.specs.JournalText.{client_text}
use Rattle.ipc_journal_text.specs.Ranges.{CredsFit, Fits32}
use Rattle.ipc_journal_text.specs.Reading.{client_of}

-- the whole line, without its end
pub client_line : ℕ → Credentials → List ℕ
client_line client c = codes "client " ++ (decimal client ++ (codes ": " ++ creds_line (ids_in c) c.groups c.caps))

pub client_ended : (client : ℕ) (c : Credentials) → client_text client c ≡ client_line client c ++ 10 ∷ []
unfolding client_line creds_line pair_word caps_word known ids_text id_pair_text supplementary_text capabilities_text
client_ended client c = simp append_assoc

pub record IsClientOf (client : ℕ) (c : Credentials) : Type 0 where
  pub reads : client_of (words_of (client_line client c)) ≡ Some c
  pub free : is_free 10 (client_line client c) ≡ true

fit : (c : Credentials) → CredsFit c → Fit (ids_in c) c.groups c.caps
fit c h = record { euid = h.euid; egid = h.egid; ruid = h.ruid; rgid = h.rgid; suid = h.suid; sgid = h.sgid; groups = h.groups; caps = h.caps }

pub client_read : (client : ℕ) (c : Credentials) → Fits32 client → CredsFit c → IsClientOf client c
unfolding client_line client_of
client_read client c n h =
    let few : nat_le (length c.groups) 32 ≡ true = let e = h.few in grind (arith, nat_tests) in
    let words = client_words client _ _ n (creds-words (ids_in c) c.groups c.caps (fit c h)) in
    record { reads = ap client_of words.has ∙ rw (read_head client _ n, read_pair c.euid c.egid h.euid h.egid, read_pair c.ruid c.rgid h.ruid h.rgid, read_pair c.suid c.sgid h.suid h.sgid, read_groups c.groups h.groups, read_caps c.caps h.caps, few) refl; free = words.free }

pub client_first : (client : ℕ) (c : Credentials) → starts_with nat_eq (client_line client c) (codes "client ") ≡ true
unfolding client_line
client_first client c = refl

-- and it is no limit's
pub client_no_limit : (client : ℕ) (c : Credentials) → starts_with nat_eq (client_line client c) (codes "limit ") ≡ false
unfolding client_line
client_no_limit client c = refl
