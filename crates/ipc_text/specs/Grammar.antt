-- What the words behind a directive say; None where they aren't in the grammar.
use Rattle.std.specs.Prelude.{ℕ, List, [], ◌∷◌, length, nat_le, codes, bytes_eq, bit_or, Option, Some, None, if◌then◌else◌, option_map}
use Rattle.ipc_creds.specs.Credentials.{Credentials, cap_ipc_owner}
use Rattle.ipc_creds.specs.Credentials.{cap_setgid, cap_setuid, cap_sys_admin, cap_sys_resource}
use Rattle.ipc_call.specs.declared.limits.Limit.{Limit}
use Rattle.ipc_words.specs.Names.{name_of}
use Rattle.ipc_words.specs.Numbers.{number_32, number_64}
use Rattle.ipc_text.specs.Settings.{limit_named, value_of}
use Rattle.ipc_words.specs.Steps.{◌>>=◌}
use Rattle.ipc_words.specs.Words.{fields_of, after_prefix}

-- what each of the words writes; None where one of them writes none
abbrev pub each_of : {A : Type 0} → (List ℕ → Option A) → List (List ℕ) → Option (List A)
each_of read [] = Some []
each_of read (w ∷ ws) = do
  x ← read w
  xs ← each_of read ws
  Some (x ∷ xs)

-- what one word writes; None where they are more or none
abbrev pub of_one : {A : Type 0} → (List ℕ → Option A) → List (List ℕ) → Option A
of_one read [] = None
of_one read (word ∷ []) = read word
of_one read (word ∷ more ∷ others) = None

-- what a first word and those behind it write together; None where there is no word
abbrev pub of_first : {A : Type 0} → (List ℕ → List (List ℕ) → Option A) → List (List ℕ) → Option A
of_first read [] = None
of_first read (first ∷ others) = read first others

-- what the first two words and those behind them write together; None where there are fewer
abbrev pub of_first_two : {A : Type 0} → (List ℕ → List ℕ → List (List ℕ) → Option A) → List (List ℕ) → Option A
of_first_two read words = of_first (λ first. of_first (read first)) words

-- what so many words write together; None where they aren't so many
abbrev pub of_two : {A : Type 0} → (List ℕ → List ℕ → Option A) → List (List ℕ) → Option A
of_two read words = of_first (λ first. of_one (read first)) words

abbrev pub of_three : {A : Type 0} → (List ℕ → List ℕ → List ℕ → Option A) → List (List ℕ) → Option A
of_three read words = of_first (λ first. of_two (read first)) words

abbrev pub of_four : {A : Type 0} → (List ℕ → List ℕ → List ℕ → List ℕ → Option A) → List (List ℕ) → Option A
of_four read words = of_first (λ first. of_three (read first)) words

-- each of two words is a number
abbrev pub two_numbers : List ℕ → List ℕ → Option (ℕ × ℕ)
two_numbers first second = do
  n ← number_32 first
  m ← number_32 second
  Some (n, m)

-- each of the words is a number
abbrev pub numbers_32 : List (List ℕ) → Option (List ℕ)
numbers_32 words = each_of number_32 words

-- numbers, one at least, which commas (byte 44) separate
unfoldable pub number_list : List ℕ → Option (List ℕ)
number_list text = numbers_32 (fields_of 44 text)

abbrev pub at_most_32 : List ℕ → Option (List ℕ)
at_most_32 groups = if nat_le (length groups) 32 then Some groups else None

-- 1 to 32 groups
abbrev pub group_list : List ℕ → Option (List ℕ)
group_list text = number_list text >>= at_most_32

unfoldable pub capability_named : List ℕ → Option ℕ
capability_named word =
    if bytes_eq word (codes "IPC_OWNER") then Some cap_ipc_owner
    else (if bytes_eq word (codes "SYS_ADMIN") then Some cap_sys_admin
    else (if bytes_eq word (codes "SYS_RESOURCE") then Some cap_sys_resource
    else (if bytes_eq word (codes "SETUID") then Some cap_setuid
    else (if bytes_eq word (codes "SETGID") then Some cap_setgid else None))))

-- the capabilities so far with those that the words name
abbrev pub with_capabilities : ℕ → List (List ℕ) → Option ℕ
with_capabilities caps [] = Some caps
with_capabilities caps (w ∷ ws) = capability_named w >>= λ cap. with_capabilities (bit_or caps cap) ws

unfoldable pub capability_list : List ℕ → Option ℕ
capability_list text = with_capabilities 0 (fields_of 44 text)

-- SUID:SGID, which one colon (byte 58) separates
abbrev pub saved_pair : List ℕ → Option (ℕ × ℕ)
saved_pair text = of_two two_numbers (fields_of 58 text)

-- what follows a prefix of the first word, and the words behind it
abbrev pub option_text : List ℕ → List (List ℕ) → Option (List ℕ × List (List ℕ))
option_text prefix [] = None
option_text prefix (w ∷ ws) = option_map (λ text. (text, ws)) (after_prefix prefix w)

-- an option that may be missing, and the words behind it
abbrev pub optional_at : {A : Type 0} → (List ℕ → Option A) → A → List (List ℕ) → Option (List ℕ × List (List ℕ))
    → Option (A × List (List ℕ))
optional_at read none words None = Some (none, words)
optional_at read none words (Some (text, ws)) = option_map (λ x. (x, ws)) (read text)

abbrev pub optional : {A : Type 0} → List ℕ → (List ℕ → Option A) → A → List (List ℕ) → Option (A × List (List ℕ))
optional prefix read none words = optional_at read none words (option_text prefix words)

abbrev pub only : {A : Type 0} → A → List (List ℕ) → Option A
only x [] = Some x
only x (w ∷ ws) = None

-- the credentials of a client whose real user and group are its effective ones
abbrev pub credentials : ℕ → ℕ → List ℕ → ℕ → ℕ × ℕ → Credentials
credentials uid gid groups caps saved = record {
  euid = uid;
  egid = gid;
  groups = groups;
  caps = caps;
  ruid = uid;
  suid = saved.0;
  rgid = gid;
  sgid = saved.1;
}

-- [groups=G,G,..] [caps=C,C,..] [saved=SUID:SGID]: the saved user and group are the effective ones where none are given
abbrev pub options_of : ℕ → ℕ → List (List ℕ) → Option Credentials
options_of uid gid words = do
  groups ← optional (codes "groups=") group_list [] words
  caps ← optional (codes "caps=") capability_list 0 groups.1
  saved ← optional (codes "saved=") saved_pair (uid, gid) caps.1
  only (credentials uid gid groups.0 caps.0 saved.0) saved.1

-- NAME EUID EGID [groups=G,G,..] [caps=C,C,..] [saved=SUID:SGID]
abbrev pub client_words : List ℕ → List ℕ → List ℕ → List (List ℕ) → Option (List ℕ × Credentials)
client_words name euid egid options = do
  n ← name_of name
  ids ← two_numbers euid egid
  creds ← options_of ids.0 ids.1 options
  Some (n, creds)

unfoldable pub client_of : List (List ℕ) → Option (List ℕ × Credentials)
client_of words = of_first (λ name. of_first_two (client_words name)) words

abbrev pub limit_words : List ℕ → List ℕ → Option (Limit × ℕ)
limit_words word value = do
  limit ← limit_named word
  n ← value_of limit value
  Some (limit, n)

-- LIMIT N
unfoldable pub limit_of : List (List ℕ) → Option (Limit × ℕ)
limit_of words = of_two limit_words words

-- N
unfoldable pub clock_of : List (List ℕ) → Option ℕ
clock_of words = of_one number_64 words
