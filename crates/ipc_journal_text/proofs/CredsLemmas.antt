-- Credentials, and the number of a client, are read from their texts.
use Rattle.std.proofs.Common.{◌≡◌, ℕ, ◌-◌, ◌<◌, ◌^◌, Bool, true, false, cond, List, [], ◌∷◌, ◌++◌, length, take, drop, arith, refl, codes, append_assoc, length-append, bytes_eq, ◌==◌, nat_lt, bit_and}
use Rattle.std.proofs.lemmas.Grind.{common_steps}
use Rattle.std.proofs.lemmas.List.{append-nil}
use Rattle.std.specs.List.{All}
use Rattle.std.specs.Prelude.{decimal, flat_map, Some}
use Rattle.ipc_call.specs.declared.calls.Identity.{Identity}
use Rattle.ipc_creds.specs.Credentials.{cap_ipc_owner, cap_setgid, cap_setuid, cap_sys_admin, cap_sys_resource}
use Rattle.ipc_words.specs.Words.{fields_of}
use Rattle.ipc_journal_text.proofs.FormLemmas.{IsNumber-decimal, IsWord-decimal, free_above}
use Rattle.ipc_journal_text.proofs.NumberLemmas.{within-decimal}
use Rattle.ipc_journal_text.proofs.PartLemmas.{read_32, read_groups, solid_groups, word_32}
use Rattle.ipc_journal_text.proofs.WordLemmas.{HasFields, HasWords, IsWord, are_above, fields-last, fields-then, is_free, list_all-append, words-last, words-then}
use Rattle.ipc_journal_text.specs.CredentialsText.{Ids, capabilities_text, capability_text, id_pair_text, identity_text, ids_handed, ids_text, lists_text, more_text, numbers_text, supplementary_text}
use Rattle.ipc_journal_text.specs.Ranges.{Fits32, IdentityFits}
use Rattle.ipc_journal_text.specs.Reading.{before_last, caps_of, identity_words, numbered}
use Rattle.ipc_text.specs.Grammar.{of_two, two_numbers}

-- what stands before an ending
front : (a b : List ℕ) → take (length (a ++ b) - length b) (a ++ b) ≡ a
front a b = let e = length-append a b in grind (arith, common_steps)

back : (a b : List ℕ) → drop (length (a ++ b) - length b) (a ++ b) ≡ b
back a b = let e = length-append a b in grind (arith, common_steps)

pub before_last-append : (text last : List ℕ) → bytes_eq last last ≡ true → before_last last (text ++ last) ≡ Some text
before_last-append text last h = rw (back text last, h, front text last) refl

-- client N:
unfoldable pub numbered_word : ℕ → List ℕ
numbered_word n = decimal n ++ 58 ∷ []

pub read_numbered : (n : ℕ) → Fits32 n → numbered (numbered_word n) ≡ Some n
unfolding numbered_word
read_numbered n h = rw (before_last-append (decimal n) (58 ∷ []) refl) (read_32 n h)

pub IsWord-numbered : (n : ℕ) → Fits32 n → IsWord (numbered_word n)
unfolding numbered_word
IsWord-numbered n h =
    let e = length-append (decimal n) (58 ∷ []) in
    record { some = omega (arith, e); solid = list_all-append (λ b. nat_lt 32 b) (decimal n) (58 ∷ []) (word_32 n h).solid refl }

-- UID:GID
unfoldable pub pair_word : ℕ → ℕ → List ℕ
pair_word user group = decimal user ++ 58 ∷ decimal group

pub IsWord-pair : (user group : ℕ) → Fits32 user → Fits32 group → IsWord (pair_word user group)
unfolding pair_word
IsWord-pair user group u g =
    let e = length-append (decimal user) (58 ∷ decimal group) in
    record { some = omega (arith, e); solid = list_all-append (λ b. nat_lt 32 b) (decimal user) (58 ∷ decimal group) (word_32 user u).solid (word_32 group g).solid }

pub read_pair : (user group : ℕ) → Fits32 user → Fits32 group → of_two two_numbers (fields_of 58 (pair_word user group)) ≡ Some (user, group)
unfolding pair_word
read_pair user group u g =
    let fields = fields-then 58 (decimal user) _ _ (IsNumber-decimal user (omega arith)).free (fields-last 58 (decimal group) (IsNumber-decimal group (omega arith)).free) in
    rw (fields.has, read_32 user u, read_32 group g) refl

-- GROUPS
pub IsWord-groups : (groups : List ℕ) → All Fits32 groups → IsWord (numbers_text groups)
IsWord-groups [] h = record { some = omega arith; solid = refl }
IsWord-groups (n ∷ ns) h =
    let e = length-append (decimal n) (flat_map more_text ns) in
    let first = IsWord-decimal n (let low = h 0 n (omega arith) in omega arith) in
    let some = first.some in
    record { some = omega (arith, e); solid = solid_groups (n ∷ ns) h }

-- CAPS: a number, and names behind commas
unfoldable pub known : ℕ → List ℕ
known caps =
    capability_text caps (codes "IPC_OWNER") cap_ipc_owner
    ++ (capability_text caps (codes "SYS_ADMIN") cap_sys_admin
    ++ (capability_text caps (codes "SYS_RESOURCE") cap_sys_resource
    ++ (capability_text caps (codes "SETUID") cap_setuid ++ capability_text caps (codes "SETGID") cap_setgid)))

unfoldable pub caps_word : ℕ → List ℕ
caps_word caps = decimal caps ++ known caps

abbrev BeginsComma : List ℕ → Type 0
BeginsComma [] = Unit {0}
BeginsComma (b ∷ bs) = b ≡ 44

-- names of capabilities, each behind a comma
record AreNames (text : List ℕ) : Type 0 where
  comma : BeginsComma text
  solid : are_above 32 text ≡ true

comma-append : (a b : List ℕ) → BeginsComma a → BeginsComma b → BeginsComma (a ++ b)
comma-append [] b h k = k
comma-append (x ∷ xs) b h k = h

names-append : (a b : List ℕ) → AreNames a → AreNames b → AreNames (a ++ b)
names-append a b h k = record { comma = comma-append a b h.comma k.comma; solid = list_all-append (λ c. nat_lt 32 c) a b h.solid k.solid }

name_if : (has : Bool) (name : List ℕ) → are_above 32 name ≡ true → AreNames (cond has (44 ∷ name) [])
name_if true name h = record { comma = refl; solid = h }
name_if false name h = record { comma = tt; solid = refl }

one_name : (caps : ℕ) (name : List ℕ) (cap : ℕ) → are_above 32 name ≡ true → AreNames (capability_text caps name cap)
unfolding capability_text
one_name caps name cap h = name_if (bit_and caps cap == cap) name h

known_names : (caps : ℕ) → AreNames (known caps)
unfolding known
known_names caps =
    names-append _ _ (one_name caps (codes "IPC_OWNER") cap_ipc_owner refl)
    (names-append _ _ (one_name caps (codes "SYS_ADMIN") cap_sys_admin refl)
    (names-append _ _ (one_name caps (codes "SYS_RESOURCE") cap_sys_resource refl)
    (names-append _ _ (one_name caps (codes "SETUID") cap_setuid refl) (one_name caps (codes "SETGID") cap_setgid refl))))

pub IsWord-caps : (caps : ℕ) → caps < 2 ^ 8 → IsWord (caps_word caps)
unfolding caps_word
IsWord-caps caps h =
    let e = length-append (decimal caps) (known caps) in
    let number = IsWord-decimal caps (omega arith) in
    let some = number.some in
    record { some = omega (arith, e); solid = list_all-append (λ b. nat_lt 32 b) (decimal caps) (known caps) number.solid (known_names caps).solid }

-- the first field, where nothing or a comma stands behind it
first_field : (word more : List ℕ) → is_free 44 word ≡ true → BeginsComma more → (others : List (List ℕ)) × (fields_of 44 (word ++ more) ≡ word ∷ others)
first_field word [] h k = ([], rw (append-nil word) (fields-last 44 word h).has)
first_field word (b ∷ bs) h k =
    let rest : HasFields 44 bs (fields_of 44 bs) = record { has = refl } in
    (fields_of 44 bs, rw k (fields-then 44 word bs (fields_of 44 bs) h rest).has)

pub read_caps : (caps : ℕ) → caps < 2 ^ 8 → caps_of (caps_word caps) ≡ Some caps
unfolding caps_word
read_caps caps h =
    let number = IsNumber-decimal caps (omega arith) in
    let fields = first_field (decimal caps) (known caps) (free_above 47 44 (decimal caps) (omega arith) number.solid) (known_names caps).comma in
    rw (fields.1, within-decimal (2 ^ 8 - 1) caps (omega arith) (omega arith)) refl

-- what a line and a call say of credentials
pub record Fit (ids : Ids) (listed : List ℕ) (set : ℕ) : Type 0 where
  pub euid : Fits32 ids.effective.0
  pub egid : Fits32 ids.effective.1
  pub ruid : Fits32 ids.real.0
  pub rgid : Fits32 ids.real.1
  pub suid : Fits32 ids.saved.0
  pub sgid : Fits32 ids.saved.1
  pub groups : All Fits32 listed
  pub caps : set < 2 ^ 8

unfoldable pub creds_line : Ids → List ℕ → ℕ → List ℕ
creds_line ids groups caps =
    codes "effective "
    ++ (pair_word ids.effective.0 ids.effective.1
    ++ (codes " real "
    ++ (pair_word ids.real.0 ids.real.1
    ++ (codes " saved "
    ++ (pair_word ids.saved.0 ids.saved.1 ++ (codes " groups " ++ (numbers_text groups ++ (codes " caps " ++ caps_word caps))))))))

pub creds-said : (ids : Ids) (groups : List ℕ) (caps : ℕ) → lists_text ids groups caps ≡ codes ": " ++ creds_line ids groups caps
unfolding creds_line pair_word caps_word known ids_text id_pair_text supplementary_text capabilities_text
creds-said ids groups caps = simp append_assoc

abbrev pub cred_words : Ids → List ℕ → ℕ → List (List ℕ)
cred_words ids groups caps =
    codes "effective" ∷ pair_word ids.effective.0 ids.effective.1
    ∷ codes "real" ∷ pair_word ids.real.0 ids.real.1
    ∷ codes "saved" ∷ pair_word ids.saved.0 ids.saved.1
    ∷ codes "groups" ∷ numbers_text groups
    ∷ codes "caps" ∷ caps_word caps ∷ []

pub creds-words : (ids : Ids) (groups : List ℕ) (caps : ℕ) → Fit ids groups caps → HasWords (creds_line ids groups caps) (cred_words ids groups caps)
unfolding creds_line
creds-words ids groups caps h =
    let of_caps = words-then (codes "caps") _ _ (record { some = omega arith; solid = refl }) (words-last (caps_word caps) (IsWord-caps caps h.caps)) in
    let of_groups = words-then (codes "groups") _ _ (record { some = omega arith; solid = refl }) (words-then (numbers_text groups) _ _ (IsWord-groups groups h.groups) of_caps) in
    let saved = words-then (codes "saved") _ _ (record { some = omega arith; solid = refl }) (words-then (pair_word ids.saved.0 ids.saved.1) _ _ (IsWord-pair ids.saved.0 ids.saved.1 h.suid h.sgid) of_groups) in
    let real = words-then (codes "real") _ _ (record { some = omega arith; solid = refl }) (words-then (pair_word ids.real.0 ids.real.1) _ _ (IsWord-pair ids.real.0 ids.real.1 h.ruid h.rgid) saved) in
    words-then (codes "effective") _ _ (record { some = omega arith; solid = refl }) (words-then (pair_word ids.effective.0 ids.effective.1) _ _ (IsWord-pair ids.effective.0 ids.effective.1 h.euid h.egid) real)

-- those that a call hands in
handed : (i : Identity) → IdentityFits i → Fit (ids_handed i) i.groups i.caps
handed i h = record { euid = h.euid; egid = h.egid; ruid = h.ruid; rgid = h.rgid; suid = h.suid; sgid = h.sgid; groups = h.groups; caps = h.caps }

pub identity-said : (i : Identity) → identity_text i ≡ codes ": " ++ creds_line (ids_handed i) i.groups i.caps
identity-said i = creds-said (ids_handed i) i.groups i.caps

pub identity-words : (i : Identity) → IdentityFits i → HasWords (creds_line (ids_handed i) i.groups i.caps) (cred_words (ids_handed i) i.groups i.caps)
identity-words i h = creds-words (ids_handed i) i.groups i.caps (handed i h)

pub identity-read : (i : Identity) → IdentityFits i → identity_words (cred_words (ids_handed i) i.groups i.caps) ≡ Some i
unfolding identity_words
identity-read i h = rw (read_pair i.euid i.egid h.euid h.egid, read_pair i.ruid i.rgid h.ruid h.rgid, read_pair i.suid i.sgid h.suid h.sgid, read_caps i.caps h.caps, read_groups i.groups h.groups) refl
