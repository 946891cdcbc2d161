-- How the lines of a journal are read: what each says, and what all of them say one after the other.
use Rattle.std.specs.Prelude.{ℕ, Bool, ◌+◌, ◌-◌, ◌^◌, ◌==◌, min, ◌&&◌, List, [], ◌∷◌, ◌++◌, length, take, drop, nat_eq, nat_le, codes, bytes_eq, Option, Some, None, if◌then◌else◌, option_map}
use Rattle.std.specs.List.{starts_with}
use Rattle.ipc_call.specs.Limits.{with_limit}
use Rattle.ipc_call.specs.declared.calls.Call.{Call}
use Rattle.ipc_call.specs.declared.calls.Call.TheVariants.{Assume, Begin, Listing}
use Rattle.ipc_call.specs.declared.calls.Identity.{Identity}
use Rattle.ipc_call.specs.declared.limits.Limit.{Limit}
use Rattle.ipc_call.specs.declared.limits.Limits.{Limits}
use Rattle.ipc_call.specs.declared.replies.JournalRow.{JournalRow}
use Rattle.ipc_call.specs.declared.replies.JournalRow.TheVariants.{Called, Answered}
use Rattle.ipc_call.specs.declared.rules.Rule.{Rule}
use Rattle.ipc_creds.specs.Credentials.{Credentials}
use Rattle.ipc_journal_text.specs.CredentialsText.{Ids}
use Rattle.ipc_journal_text.specs.RuleNames.{rule_named}
use Rattle.ipc_text.specs.Calls.{kind_named, new_groups}
use Rattle.ipc_text.specs.CallWords.{call_of}
use Rattle.ipc_text.specs.Grammar.{limit_of, of_first, of_first_two, of_one, of_two, only, two_numbers}
use Rattle.ipc_text.specs.Lives.{call_by, naming_of}
use Rattle.ipc_words.specs.Numbers.{number_32, number_64, number_within}
use Rattle.ipc_words.specs.Steps.{◌>>=◌}
use Rattle.ipc_words.specs.Words.{after_prefix, fields_of, words_of}

-- what stands before a last byte, where that is this one
abbrev pub before_last : List ℕ → List ℕ → Option (List ℕ)
before_last last text =
    if bytes_eq (drop (length text - length last) text) last then Some (take (length text - length last) text) else None

-- N:
abbrev pub numbered : List ℕ → Option ℕ
numbered word = before_last (codes ":") word >>= number_32

-- a word of this name and the one behind it, and the words behind both
abbrev pub named : List ℕ → List ℕ → List ℕ → List (List ℕ) → Option (List ℕ × List (List ℕ))
named name word value words = if bytes_eq word name then Some (value, words) else None

abbrev pub word_behind : List ℕ → List (List ℕ) → Option (List ℕ × List (List ℕ))
word_behind name words = of_first_two (named name) words

-- client N:, and the words behind it
abbrev pub client_head : List (List ℕ) → Option (ℕ × List (List ℕ))
client_head words = do
  client ← word_behind (codes "client") words
  number ← numbered client.0
  Some (number, client.1)

-- a listing is that of one option of ipcs(1)
abbrev pub kind_option : List ℕ → Option Call
kind_option word = do
  name ← after_prefix (codes "-") word
  kind ← kind_named name
  Some (Listing kind)

-- NAME UID:GID, which one colon (byte 58) separates
abbrev pub pair_behind : List ℕ → List (List ℕ) → Option ((ℕ × ℕ) × List (List ℕ))
pair_behind name words = do
  pair ← word_behind name words
  ids ← of_two two_numbers (fields_of 58 pair.0)
  Some (ids, pair.1)

-- effective UID:GID real UID:GID saved UID:GID, and the words behind them
abbrev pub ids_behind : List (List ℕ) → Option (Ids × List (List ℕ))
ids_behind words = do
  effective ← pair_behind (codes "effective") words
  real ← pair_behind (codes "real") effective.1
  saved ← pair_behind (codes "saved") real.1
  Some (record { effective = effective.0; real = real.0; saved = saved.0 }, saved.1)

abbrev pub ids_of : List (List ℕ) → Option (Ids × List (List ℕ))
ids_of words = do
  head ← client_head words
  ids_behind head.1

-- groups GROUPS caps CAPS
abbrev pub lists_of : List (List ℕ) → Option (List ℕ × List ℕ)
lists_of words = do
  groups ← word_behind (codes "groups") words
  caps ← word_behind (codes "caps") groups.1
  only (groups.0, caps.0) caps.1

-- the set as a number, which the names behind it follow from
abbrev pub caps_of : List ℕ → Option ℕ
caps_of text = of_first (λ bits names. number_within (2 ^ 8 - 1) bits) (fields_of 44 text)

abbrev pub identity_by : Ids → List ℕ → ℕ → Identity
identity_by ids groups caps = record {
  euid = ids.effective.0;
  egid = ids.effective.1;
  groups = groups;
  caps = caps;
  ruid = ids.real.0;
  suid = ids.saved.0;
  rgid = ids.real.1;
  sgid = ids.saved.1;
}

-- the credentials that a call hands in
unfoldable pub identity_words : List (List ℕ) → Option Identity
identity_words words = do
  ids ← ids_behind words
  lists ← lists_of ids.1
  caps ← caps_of lists.1
  groups ← new_groups lists.0
  Some (identity_by ids.0 groups caps)

-- PID: CREDENTIALS
abbrev pub begin_words : List ℕ → List (List ℕ) → Option Call
begin_words word words = do
  pid ← numbered word
  creds ← identity_words words
  Some (Begin pid creds)

-- a call that names another client, as client:N
abbrev pub naming_call : List (List ℕ) → Option Call
naming_call words = do
  named ← naming_of words
  text ← after_prefix (codes "client:") named.0
  client ← number_32 text
  Some (call_by named.1 client)

-- any other call is as in a script
abbrev pub call_or : Option Call → List (List ℕ) → Option Call
call_or None words = call_of words
call_or (Some call) words = Some call

abbrev pub call_words : List ℕ → List (List ℕ) → Option Call
call_words word words =
    if bytes_eq word (codes "ipcs") then of_one kind_option words
    else (if bytes_eq word (codes "begin") then of_first begin_words words
    else (if bytes_eq word (codes "assume:") then option_map (λ creds. Assume creds) (identity_words words)
    else call_or (naming_call (word ∷ words)) (word ∷ words)))

unfoldable pub call_in : List (List ℕ) → Option Call
call_in words = of_first call_words words

-- TIME client N:, and the words behind it
abbrev pub timed : List ℕ → List (List ℕ) → Option (ℕ × ℕ × List (List ℕ))
timed time words = do
  now ← number_64 time
  head ← client_head words
  Some (now, head.0, head.1)

-- TIME client N: CALL
abbrev pub called_of : List (List ℕ) → Option JournalRow
called_of words = do
  head ← of_first timed words
  call ← call_in head.2
  Some (Called head.1 head.0 call)

-- PLACE.TURN, which one point (byte 46) separates, and the words behind it
abbrev pub event_words : List ℕ → List ℕ → Option (ℕ × ℕ)
event_words place turn = do
  p ← number_64 place
  t ← number_32 turn
  Some (p, t)

abbrev pub placed : List ℕ → List (List ℕ) → Option (ℕ × ℕ × List (List ℕ))
placed word words = do
  event ← of_two event_words (fields_of 46 word)
  Some (event.0, event.1, words)

-- granted, or error NUMBER NAME RULE, of which the rule alone is read
unfoldable pub ending_of : List (List ℕ) → Option (Option Rule)
ending_of [] = None
ending_of (word ∷ []) = if bytes_eq word (codes "granted") then Some None else None
ending_of (word ∷ number ∷ []) = None
ending_of (word ∷ number ∷ name ∷ []) = None
ending_of (word ∷ number ∷ name ∷ rule ∷ []) = option_map (λ r. Some r) (rule_named rule)
ending_of (word ∷ number ∷ name ∷ rule ∷ more ∷ others) = None

-- PLACE.TURN client N: ANSWER
abbrev pub answered_of : List (List ℕ) → Option JournalRow
answered_of words = do
  event ← of_first placed words
  head ← client_head event.2
  rule ← ending_of head.1
  Some (Answered head.0 event.0 event.1 rule)

abbrev pub answered_line : Option (List ℕ) → Option JournalRow
answered_line None = None
answered_line (Some text) = answered_of (words_of text)

abbrev pub called_line : List ℕ → Option (List ℕ) → Option JournalRow
called_line line (Some text) = called_of (words_of text)
called_line line None = answered_line (after_prefix (codes "  ") line)

-- the row of a line
unfoldable pub row_of : List ℕ → Option JournalRow
row_of line = called_line line (after_prefix (codes "at ") line)

abbrev pub credentials : Ids → List ℕ → ℕ → Credentials
credentials ids groups caps = record {
  euid = ids.effective.0;
  egid = ids.effective.1;
  groups = groups;
  caps = caps;
  ruid = ids.real.0;
  suid = ids.saved.0;
  rgid = ids.real.1;
  sgid = ids.saved.1;
}

abbrev pub of_few : Ids → List ℕ → ℕ → Option Credentials
of_few ids groups caps = if nat_le (length groups) 32 then Some (credentials ids groups caps) else None

-- the credentials of a client's line
unfoldable pub client_of : List (List ℕ) → Option Credentials
client_of words = do
  ids ← ids_of words
  lists ← lists_of ids.1
  groups ← new_groups lists.0
  caps ← caps_of lists.1
  of_few ids.0 groups caps

-- what was read so far
pub record Read : Type 0 where
  pub limits : Limits
  pub clients : List Credentials
  pub rows : List JournalRow

abbrev pub read_heading : Read → List ℕ → Option Read
read_heading read line = if bytes_eq line (codes "ipcsh journal 1") then Some read else None

abbrev pub limit_line : Option (List ℕ) → Option (Limit × ℕ)
limit_line None = None
limit_line (Some text) = limit_of (words_of text)

abbrev pub read_limit : Read → List ℕ → Option Read
read_limit read line = do
  limit ← limit_line (after_prefix (codes "limit ") line)
  Some (record read { limits = with_limit read.limits limit.0 limit.1 })

abbrev pub read_client : Read → List ℕ → Option Read
read_client read line =
    if length read.clients == 4096 then None
    else option_map (λ c. record read { clients = read.clients ++ c ∷ [] }) (client_of (words_of line))

abbrev pub read_row : Read → List ℕ → Option Read
read_row read line =
    if length read.clients == 0 then None
    else option_map (λ row. record read { rows = read.rows ++ row ∷ [] }) (row_of line)

-- a client's line, before any row
abbrev pub is_client : Read → List ℕ → Bool
is_client read line = starts_with nat_eq line (codes "client ") && (length read.rows == 0)

-- a limit's line, before any client
abbrev pub is_limit : Read → List ℕ → Bool
is_limit read line = starts_with nat_eq line (codes "limit ") && (length read.clients == 0)

-- a line by its number, from 1: the heading, 7 limits or more, then clients and rows
unfoldable pub read_line : ℕ → Read → List ℕ → Option Read
read_line number read line =
    if number == 1 then read_heading read line
    else (if nat_le number 8 then read_limit read line
    else (if is_limit read line then read_limit read line
    else (if is_client read line then read_client read line else read_row read line)))

-- one more, as 64 bits count
abbrev pub after : ℕ → ℕ
after number = min (number + 1) (2 ^ 64 - 1)

-- the lines behind so many
abbrev pub read_lines : ℕ → Read → List (List ℕ) → Option Read
read_lines number read [] = Some read
read_lines number read (line ∷ lines) =
    read_line (after number) read line >>= λ next. read_lines (after number) next lines

-- the heading and the limits at least
abbrev pub read_enough : Read → List (List ℕ) → Option Read
read_enough read lines = if nat_le 8 (length lines) then read_lines 0 read lines else None

abbrev pub read_ended : Read → Option (List ℕ) → Option Read
read_ended read None = None
read_ended read (Some text) = read_enough read (fields_of 10 text)

-- the text of a journal: lines, each of which a line feed (byte 10) ends
unfoldable pub read_text : Read → List ℕ → Option Read
read_text read text = read_ended read (before_last (codes "\n") text)
