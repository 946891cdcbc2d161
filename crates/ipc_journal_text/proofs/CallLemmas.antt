-- The text of a call is read as that call.
use Rattle.std.proofs.Common.{◌≡◌, ◌∙◌, ap, sym, ℕ, ℤ, ◌==◌, append_assoc, map, ◌-◌, ◌<◌, true, false, List, [], ◌∷◌, ◌++◌, arith, refl, codes}
use Rattle.std.proofs.lemmas.Bool.Decides.{nat_tests}
use Rattle.std.proofs.lemmas.Fmt.{decimal_is_IsNumeral}
use Rattle.std.proofs.lemmas.List.{append-nil}
use Rattle.std.specs.Char.{digit_value}
use Rattle.std.specs.Fmt.{digits, signed_decimal}
use Rattle.std.specs.Str.Parse.{AllDigits}
use Rattle.std.specs.Int.RustNames.{FitsSigned}
use Rattle.std.specs.List.{All}
use Rattle.std.specs.Prelude.{decimal, flat_map, option_to_list, IfSome, Option, Some, None}
use mir.Syntax.{w32, w64}
use Rattle.hex.specs.Hex.{encode_lower}
use Rattle.ipc_call.specs.declared.calls.Call.{Call}
use Rattle.ipc_call.specs.declared.calls.Call.TheVariants.{MsgGet, MsgSnd, MsgRcv, SemGet, SemOp, SemTimedOp, GetVal, GetPid}
use Rattle.ipc_call.specs.declared.calls.Call.TheVariants.{GetNcnt, GetZcnt, GetAll, SetVal, SetAll, ShmGet, ShmAt, ShmDt}
use Rattle.ipc_call.specs.declared.calls.Call.TheVariants.{ShmRead, ShmWrite, IpcStat, IpcSet, IpcRmid, Listing, Interrupt, InterruptThread, Kill}
use Rattle.ipc_call.specs.declared.calls.Call.TheVariants.{SetCreds, Assume, Begin, Fork, Clone, Name, Exec, Exit}
use Rattle.ipc_call.specs.declared.calls.Identity.{Identity}
use Rattle.ipc_call.specs.declared.calls.Kind.{Kind}
use Rattle.ipc_call.specs.declared.calls.Kind.TheVariants.{Queue, Sems, Segment}
use Rattle.ipc_call.specs.declared.calls.SemOper.{SemOper}
use Rattle.ipc_words.specs.Words.{after_prefix, words_of}
use Rattle.ipc_journal_text.proofs.FormLemmas.{IsWord-bytes, IsWord-decimal, IsWord-signed}
use Rattle.ipc_journal_text.proofs.NumberLemmas.{signed_32-decimal, signed_64-decimal}
use Rattle.ipc_journal_text.proofs.CredsLemmas.{IsWord-numbered, creds_line, identity-read, identity-said, identity-words, numbered_word, read_numbered}
use Rattle.ipc_journal_text.proofs.PartLemmas.{IsWord-kind, key_word, octal_word, oper_words, read_32, read_64, read_bytes, read_groups, read_key, read_kind, read_octal, read_opers, read_values, solid_groups, value_words, wider_32, word_32}
use Rattle.ipc_journal_text.proofs.WordLemmas.{HasWords, IsWord, is_free, words-last, words-then}
use Rattle.ipc_journal_text.specs.CallText.{call_text, fork_text, kind_text, oper_text, qbytes_text, timed_text}
use Rattle.ipc_journal_text.specs.CredentialsText.{ids_handed, numbers_text}
use Rattle.ipc_text.specs.CallWords.{call_of}
use Rattle.ipc_text.specs.Calls.{kind_named, msgrcv_of, msgsnd_of, qbytes_of, set_of}
use Rattle.ipc_journal_text.specs.Ranges.{AreBytes, CallFits, Fits32, Fits64, IdentityFits, OperFits}
use Rattle.ipc_journal_text.specs.Reading.{call_in}

-- a call is read from its text, which is one line
pub record IsReadAs (call : Call) : Type 0 where
  pub reads : call_in (words_of (call_text call)) ≡ Some call
  pub free : is_free 10 (call_text call) ≡ true

msgget : (key flags : ℕ) → Fits32 key → Fits32 flags → IsReadAs (MsgGet key flags)
unfolding call_in call_of
msgget key flags k f =
    let words = words-then (48 ∷ 120 ∷ digits 16 false key) _ _ (key_word key k) (words-last (48 ∷ digits 8 false flags) (octal_word flags f)) in
    record { reads = rw (words.has, read_key key k, read_octal flags f) refl; free = words.free }

msgsnd : (id : ℕ) (mtype : ℤ) (text : List ℕ) (flags : ℕ) → Fits32 id → FitsSigned w64 mtype → AreBytes text → Fits32 flags → IsReadAs (MsgSnd id mtype text flags)
unfolding call_in call_of msgsnd_of
msgsnd id mtype text flags i t b f =
    let words = words-then (decimal id) _ _ (word_32 id i)
    (words-then (signed_decimal mtype) _ _ (IsWord-signed mtype t)
    (words-then (120 ∷ 58 ∷ encode_lower text) _ _ (IsWord-bytes text b)
    (words-last (48 ∷ digits 8 false flags) (octal_word flags f)))) in
    record { reads = rw (words.has, read_32 id i, signed_64-decimal mtype t, read_octal flags f, read_bytes text b) refl; free = words.free }

msgrcv : (id size : ℕ) (msgtyp : ℤ) (flags : ℕ) → Fits32 id → Fits64 size → FitsSigned w64 msgtyp → Fits32 flags → IsReadAs (MsgRcv id size msgtyp flags)
unfolding call_in call_of msgrcv_of
msgrcv id size msgtyp flags i n t f =
    let words = words-then (decimal id) _ _ (word_32 id i)
    (words-then (decimal size) _ _ (IsWord-decimal size n)
    (words-then (signed_decimal msgtyp) _ _ (IsWord-signed msgtyp t)
    (words-last (48 ∷ digits 8 false flags) (octal_word flags f)))) in
    record { reads = rw (words.has, read_32 id i, read_64 size n, signed_64-decimal msgtyp t, read_octal flags f) refl; free = words.free }

semget : (key nsems flags : ℕ) → Fits32 key → Fits32 nsems → Fits32 flags → IsReadAs (SemGet key nsems flags)
unfolding call_in call_of
semget key nsems flags k n f =
    let words = words-then (48 ∷ 120 ∷ digits 16 false key) _ _ (key_word key k)
    (words-then (decimal nsems) _ _ (word_32 nsems n)
    (words-last (48 ∷ digits 8 false flags) (octal_word flags f))) in
    record { reads = rw (words.has, read_key key k, read_32 nsems n, read_octal flags f) refl; free = words.free }

semop : (id : ℕ) (ops : List SemOper) → Fits32 id → All OperFits ops → IsReadAs (SemOp id ops)
unfolding call_in call_of
semop id ops i o =
    let words = oper_words (decimal id) ops (word_32 id i) o in
    record { reads = rw (words.has, read_32 id i, read_opers ops o) refl; free = words.free }

semtimedop : (id : ℕ) (ops : List SemOper) (timeout : ℕ) → Fits32 id → All OperFits ops → Fits64 timeout → IsReadAs (SemTimedOp id ops timeout)
unfolding call_in call_of timed_text
semtimedop id ops timeout i o t =
    let words = words-then (decimal id) _ _ (word_32 id i) (oper_words (decimal timeout) ops (IsWord-decimal timeout t) o) in
    record { reads = rw (append_assoc (decimal id) (32 ∷ decimal timeout) (flat_map oper_text ops), words.has, read_32 id i, read_64 timeout t, read_opers ops o) refl; free = rw (append_assoc (decimal id) (32 ∷ decimal timeout) (flat_map oper_text ops)) words.free }

getval : (id num : ℕ) → Fits32 id → Fits32 num → IsReadAs (GetVal id num)
unfolding call_in call_of
getval id num i n =
    let words = words-then (decimal id) _ _ (word_32 id i) (words-last (decimal num) (word_32 num n)) in
    record { reads = rw (words.has, read_32 id i, read_32 num n) refl; free = words.free }

getpid : (id num : ℕ) → Fits32 id → Fits32 num → IsReadAs (GetPid id num)
unfolding call_in call_of
getpid id num i n =
    let words = words-then (decimal id) _ _ (word_32 id i) (words-last (decimal num) (word_32 num n)) in
    record { reads = rw (words.has, read_32 id i, read_32 num n) refl; free = words.free }

getncnt : (id num : ℕ) → Fits32 id → Fits32 num → IsReadAs (GetNcnt id num)
unfolding call_in call_of
getncnt id num i n =
    let words = words-then (decimal id) _ _ (word_32 id i) (words-last (decimal num) (word_32 num n)) in
    record { reads = rw (words.has, read_32 id i, read_32 num n) refl; free = words.free }

getzcnt : (id num : ℕ) → Fits32 id → Fits32 num → IsReadAs (GetZcnt id num)
unfolding call_in call_of
getzcnt id num i n =
    let words = words-then (decimal id) _ _ (word_32 id i) (words-last (decimal num) (word_32 num n)) in
    record { reads = rw (words.has, read_32 id i, read_32 num n) refl; free = words.free }

getall : (id : ℕ) → Fits32 id → IsReadAs (GetAll id)
unfolding call_in call_of
getall id i =
    let words = words-last (decimal id) (word_32 id i) in
    record { reads = rw (words.has, read_32 id i) refl; free = words.free }

shmdt : (id : ℕ) → Fits32 id → IsReadAs (ShmDt id)
unfolding call_in call_of
shmdt id i =
    let words = words-last (decimal id) (word_32 id i) in
    record { reads = rw (words.has, read_32 id i) refl; free = words.free }

-- digits name no client
no_c : (d : ℕ) → digit_value d < 10 → (99 == d) ≡ false
no_c d h = grind (arith, nat_tests)

no_client : (word : List ℕ) → AllDigits 10 word → after_prefix (codes "client:") word ≡ None
no_client [] h = refl
no_client (d ∷ ds) h = rw (no_c d h.0) refl

interrupt : (id : ℕ) → Fits32 id → IsReadAs (Interrupt id)
unfolding call_in call_of
interrupt id i =
    let words = words-last (decimal id) (word_32 id i) in
    let digits = (decimal_is_IsNumeral id (omega arith)).0 in
    record { reads = rw (words.has, no_client (decimal id) digits.1, read_32 id i) refl; free = words.free }

-- a call that names another client
client_word : ℕ → List ℕ
client_word n = codes "client:" ++ decimal n

IsWord-client : (n : ℕ) → Fits32 n → IsWord (client_word n)
unfolding client_word
IsWord-client n h = record { some = omega arith; solid = (word_32 n h).solid }

fork : (child pid : ℕ) → Fits32 child → Fits32 pid → IsReadAs (Fork child pid)
unfolding call_in client_word fork_text
fork child pid c p =
    let words = words-then (codes "fork") _ _ (record { some = omega arith; solid = refl })
    (words-then (client_word child) _ _ (IsWord-client child c) (words-last (decimal pid) (word_32 pid p))) in
    record { reads = ap call_in words.has ∙ rw (read_32 pid p, read_32 child c) refl; free = words.free }

clone : (child : ℕ) → Fits32 child → IsReadAs (Clone child)
unfolding call_in client_word
clone child c =
    let words = words-then (codes "clone") _ _ (record { some = omega arith; solid = refl }) (words-last (client_word child) (IsWord-client child c)) in
    record { reads = ap call_in words.has ∙ rw (read_32 child c) refl; free = words.free }

interrupt_thread : (client : ℕ) → Fits32 client → IsReadAs (InterruptThread client)
unfolding call_in client_word
interrupt_thread client c =
    let words = words-then (codes "interrupt") _ _ (record { some = omega arith; solid = refl }) (words-last (client_word client) (IsWord-client client c)) in
    record { reads = ap call_in words.has ∙ rw (read_32 client c) refl; free = words.free }

kill : (pid : ℕ) → Fits32 pid → IsReadAs (Kill pid)
unfolding call_in call_of
kill pid p =
    let words = words-last (decimal pid) (word_32 pid p) in
    record { reads = rw (words.has, read_32 pid p) refl; free = words.free }

name : (pid : ℕ) → Fits32 pid → IsReadAs (Name pid)
unfolding call_in call_of
name pid p =
    let words = words-last (decimal pid) (word_32 pid p) in
    record { reads = rw (words.has, read_32 pid p) refl; free = words.free }

assume : (creds : Identity) → IdentityFits creds → IsReadAs (Assume creds)
unfolding call_in
assume creds h =
    let words = words-then (codes "assume:") _ _ (record { some = omega arith; solid = refl }) (identity-words creds h) in
    let said = ap (λ text. codes "assume" ++ text) (identity-said creds) in
    record { reads = ap (λ text. call_in (words_of text)) said ∙ ap call_in words.has ∙ rw (identity-read creds h) refl; free = ap (is_free 10) said ∙ words.free }

begin : (pid : ℕ) (creds : Identity) → Fits32 pid → IdentityFits creds → IsReadAs (Begin pid creds)
unfolding call_in numbered_word
begin pid creds p h =
    let words = words-then (codes "begin") _ _ (record { some = omega arith; solid = refl }) (words-then (numbered_word pid) _ _ (IsWord-numbered pid p) (identity-words creds h)) in
    let line = creds_line (ids_handed creds) creds.groups creds.caps in
    let said : call_text (Begin pid creds) ≡ codes "begin " ++ (numbered_word pid ++ 32 ∷ line) =
    ap (λ text. codes "begin " ++ (decimal pid ++ text)) (identity-said creds) ∙ ap (λ text. codes "begin " ++ text) (sym (append_assoc (decimal pid) (58 ∷ []) (32 ∷ line))) in
    record { reads = ap (λ text. call_in (words_of text)) said ∙ ap call_in words.has ∙ rw (read_numbered pid p, identity-read creds h) refl; free = ap (is_free 10) said ∙ words.free }

setval : (id num : ℕ) (value : ℤ) → Fits32 id → Fits32 num → FitsSigned w32 value → IsReadAs (SetVal id num value)
unfolding call_in call_of
setval id num value i n v =
    let words = words-then (decimal id) _ _ (word_32 id i)
    (words-then (decimal num) _ _ (word_32 num n)
    (words-last (signed_decimal value) (IsWord-signed value (wider_32 value v)))) in
    record { reads = rw (append_assoc (decimal id) (32 ∷ decimal num) (32 ∷ signed_decimal value), words.has, read_32 id i, read_32 num n, signed_32-decimal value v) refl; free = rw (append_assoc (decimal id) (32 ∷ decimal num) (32 ∷ signed_decimal value)) words.free }

setall : (id : ℕ) (values : List ℤ) → Fits32 id → All (λ v. FitsSigned w32 v) values → IsReadAs (SetAll id values)
unfolding call_in call_of
setall id values i v =
    let words = value_words (decimal id) values (word_32 id i) v in
    record { reads = rw (words.has, read_32 id i, read_values values v) refl; free = words.free }

shmget : (key size flags : ℕ) → Fits32 key → Fits64 size → Fits32 flags → IsReadAs (ShmGet key size flags)
unfolding call_in call_of
shmget key size flags k n f =
    let words = words-then (48 ∷ 120 ∷ digits 16 false key) _ _ (key_word key k)
    (words-then (decimal size) _ _ (IsWord-decimal size n)
    (words-last (48 ∷ digits 8 false flags) (octal_word flags f))) in
    record { reads = rw (words.has, read_key key k, read_64 size n, read_octal flags f) refl; free = words.free }

shmat : (id flags : ℕ) → Fits32 id → Fits32 flags → IsReadAs (ShmAt id flags)
unfolding call_in call_of
shmat id flags i f =
    let words = words-then (decimal id) _ _ (word_32 id i) (words-last (48 ∷ digits 8 false flags) (octal_word flags f)) in
    record { reads = rw (words.has, read_32 id i, read_octal flags f) refl; free = words.free }

shmread : (att offset len : ℕ) → Fits32 att → Fits64 offset → Fits64 len → IsReadAs (ShmRead att offset len)
unfolding call_in call_of
shmread att offset len a o n =
    let words = words-then (decimal att) _ _ (word_32 att a)
    (words-then (decimal offset) _ _ (IsWord-decimal offset o)
    (words-last (decimal len) (IsWord-decimal len n))) in
    record { reads = rw (words.has, read_32 att a, read_64 offset o, read_64 len n) refl; free = words.free }

shmwrite : (att offset : ℕ) (bytes : List ℕ) → Fits32 att → Fits64 offset → AreBytes bytes → IsReadAs (ShmWrite att offset bytes)
unfolding call_in call_of
shmwrite att offset bytes a o b =
    let words = words-then (decimal att) _ _ (word_32 att a)
    (words-then (decimal offset) _ _ (IsWord-decimal offset o)
    (words-last (120 ∷ 58 ∷ encode_lower bytes) (IsWord-bytes bytes b))) in
    record { reads = rw (words.has, read_32 att a, read_64 offset o, read_bytes bytes b) refl; free = words.free }

stat : (kind : Kind) (id : ℕ) → Fits32 id → IsReadAs (IpcStat kind id)
unfolding call_in call_of
stat kind id i =
    let words = words-then (kind_text kind) _ _ (IsWord-kind kind) (words-last (decimal id) (word_32 id i)) in
    record { reads = rw (words.has, read_kind kind, read_32 id i) refl; free = words.free }

rmid : (kind : Kind) (id : ℕ) → Fits32 id → IsReadAs (IpcRmid kind id)
unfolding call_in call_of
rmid kind id i =
    let words = words-then (kind_text kind) _ _ (IsWord-kind kind) (words-last (decimal id) (word_32 id i)) in
    record { reads = rw (words.has, read_kind kind, read_32 id i) refl; free = words.free }

listing : (kind : Kind) → IsReadAs (Listing kind)
unfolding call_in kind_named
listing Queue = record { reads = refl; free = refl }
listing Sems = record { reads = refl; free = refl }
listing Segment = record { reads = refl; free = refl }

-- the words of a new mode, with the bytes of a queue where some are given
mode_words : (mode : ℕ) (qbytes : Option ℕ) → Fits32 mode → IfSome qbytes Fits64 → HasWords ((48 ∷ digits 8 false mode) ++ qbytes_text qbytes) ((48 ∷ digits 8 false mode) ∷ map decimal (option_to_list qbytes))
mode_words mode None m q = rw (append-nil (digits 8 false mode)) (words-last (48 ∷ digits 8 false mode) (octal_word mode m))
mode_words mode (Some bytes) m q = words-then (48 ∷ digits 8 false mode) _ _ (octal_word mode m) (words-last (decimal bytes) (IsWord-decimal bytes q))

read_qbytes : (qbytes : Option ℕ) → IfSome qbytes Fits64 → qbytes_of (map decimal (option_to_list qbytes)) ≡ Some qbytes
read_qbytes None q = refl
read_qbytes (Some bytes) q = rw (read_64 bytes q) refl

set : (kind : Kind) (id uid gid mode : ℕ) (qbytes : Option ℕ) → Fits32 id → Fits32 uid → Fits32 gid → Fits32 mode → IfSome qbytes Fits64 → IsReadAs (IpcSet kind id uid gid mode qbytes)
unfolding call_in call_of set_of
set kind id uid gid mode qbytes i u g m q =
    let words = words-then (kind_text kind) _ _ (IsWord-kind kind)
    (words-then (decimal id) _ _ (word_32 id i)
    (words-then (decimal uid) _ _ (word_32 uid u)
    (words-then (decimal gid) _ _ (word_32 gid g) (mode_words mode qbytes m q)))) in
    record { reads = rw (append_assoc (kind_text kind) (32 ∷ decimal id) (32 ∷ (decimal uid ++ 32 ∷ (decimal gid ++ 32 ∷ 48 ∷ (digits 8 false mode ++ qbytes_text qbytes)))), words.has, read_kind kind, read_32 id i, read_32 uid u, read_32 gid g, read_octal mode m, read_qbytes qbytes q) refl; free = rw (append_assoc (kind_text kind) (32 ∷ decimal id) (32 ∷ (decimal uid ++ 32 ∷ (decimal gid ++ 32 ∷ 48 ∷ (digits 8 false mode ++ qbytes_text qbytes))))) words.free }

-- new groups, where some are given
groups_word : (groups : List ℕ) → All Fits32 groups → IsWord (codes "groups=" ++ numbers_text groups)
groups_word groups h = record { some = omega arith; solid = solid_groups groups h }

setcreds : (euid egid : ℕ) (groups : Option (List ℕ)) → Fits32 euid → Fits32 egid → IfSome groups (λ gs. All Fits32 gs) → IsReadAs (SetCreds euid egid groups)
unfolding call_in call_of
setcreds euid egid None u g h =
    let words = words-then (decimal euid) _ _ (word_32 euid u) (words-last (decimal egid) (word_32 egid g)) in
    record { reads = rw (append-nil (decimal egid), words.has, read_32 euid u, read_32 egid g) refl; free = rw (append-nil (decimal egid)) words.free }
setcreds euid egid (Some groups) u g h =
    let words = words-then (decimal euid) _ _ (word_32 euid u)
    (words-then (decimal egid) _ _ (word_32 egid g)
    (words-last (codes "groups=" ++ numbers_text groups) (groups_word groups h))) in
    record { reads = rw (words.has, read_32 euid u, read_32 egid g, read_groups groups h) refl; free = words.free }

-- each call
pub call_read : (call : Call) → CallFits call → IsReadAs call
unfolding call_in call_of
call_read (MsgGet key flags) h = msgget key flags h.0 h.1
call_read (MsgSnd id mtype text flags) h = msgsnd id mtype text flags h.0 h.1 h.2 h.3
call_read (MsgRcv id size msgtyp flags) h = msgrcv id size msgtyp flags h.0 h.1 h.2 h.3
call_read (SemGet key nsems flags) h = semget key nsems flags h.0 h.1 h.2
call_read (SemOp id ops) h = semop id ops h.0 h.1
call_read (SemTimedOp id ops timeout) h = semtimedop id ops timeout h.0 h.1 h.2
call_read (GetVal id num) h = getval id num h.0 h.1
call_read (GetPid id num) h = getpid id num h.0 h.1
call_read (GetNcnt id num) h = getncnt id num h.0 h.1
call_read (GetZcnt id num) h = getzcnt id num h.0 h.1
call_read (GetAll id) h = getall id h
call_read (SetVal id num value) h = setval id num value h.0 h.1 h.2
call_read (SetAll id values) h = setall id values h.0 h.1
call_read (ShmGet key size flags) h = shmget key size flags h.0 h.1 h.2
call_read (ShmAt id flags) h = shmat id flags h.0 h.1
call_read (ShmDt att) h = shmdt att h
call_read (ShmRead att offset len) h = shmread att offset len h.0 h.1 h.2
call_read (ShmWrite att offset bytes) h = shmwrite att offset bytes h.0 h.1 h.2
call_read (IpcStat kind id) h = stat kind id h
call_read (IpcSet kind id uid gid mode qbytes) h = set kind id uid gid mode qbytes h.0 h.1 h.2 h.3 h.4
call_read (IpcRmid kind id) h = rmid kind id h
call_read (Listing kind) h = listing kind
call_read (Interrupt pid) h = interrupt pid h
call_read (InterruptThread client) h = interrupt_thread client h
call_read (Kill pid) h = kill pid h
call_read (SetCreds euid egid groups) h = setcreds euid egid groups h.0 h.1 h.2
call_read (Assume creds) h = assume creds h
call_read (Begin pid creds) h = begin pid creds h.0 h.1
call_read (Fork child pid) h = fork child pid h.0 h.1
call_read (Clone child) h = clone child h
call_read (Name pid) h = name pid h
call_read Exec h = record { reads = refl; free = refl }
call_read Exit h = record { reads = refl; free = refl }
