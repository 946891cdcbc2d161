-- The text of a journal is read as that journal: its lines, and what all of them say.
use Rattle.std.proofs.Common.{◌≡◌, ℕ, ◌+◌, ◌<◌, ◌≤◌, ◌^◌, Bool, true, false, ◌&&◌, List, [], ◌∷◌, ◌++◌, length, map, arith, refl, ap, ◌∙◌, codes, append_assoc, length-append, ◌==◌, nat_le}
use Rattle.std.proofs.lemmas.Bool.Decides.{nat_tests}
use Rattle.std.proofs.lemmas.Grind.{flat_map-append}
use Rattle.std.proofs.lemmas.List.{append-nil}
use Rattle.std.proofs.lemmas.List.Elements.{All-append, All-cons, All-head, All-nil, All-tail}
use Rattle.std.specs.List.{All}
use Rattle.std.specs.Prelude.{IsTrue, decimal, flat_map, Option, Some, if◌then◌else◌}
use Rattle.ipc_call.specs.Limits.{are_in_range, is_in_range, most, with_limit}
use Rattle.ipc_call.specs.declared.limits.Limit.{Limit}
use Rattle.ipc_call.specs.declared.limits.Limit.TheVariants.{Slots, Queues, Sets, Segments, FirstSeq, MsgMax, MsgMnb, SemMsl, SemOpm, ShmMax}
use Rattle.ipc_call.specs.declared.limits.Limits.{Limits}
use Rattle.ipc_call.specs.declared.replies.JournalRow.{JournalRow}
use Rattle.ipc_creds.specs.Credentials.{Credentials}
use Rattle.ipc_words.specs.Words.{fields_of, words_of}
use Rattle.ipc_journal_text.proofs.ClientLemmas.{client_ended, client_first, client_line, client_no_limit, client_read}
use Rattle.ipc_journal_text.proofs.CredsLemmas.{before_last-append}
use Rattle.ipc_journal_text.proofs.NumberLemmas.{within-decimal}
use Rattle.ipc_journal_text.proofs.PartLemmas.{word_32}
use Rattle.ipc_journal_text.proofs.RowLemmas.{row_ended, row_first, row_line, row_no_limit, row_read}
use Rattle.ipc_journal_text.proofs.WordLemmas.{IsWord, both, fields-each, is_free, words-last, words-then}
use Rattle.ipc_text.specs.Grammar.{limit_of}
use Rattle.ipc_journal_text.specs.JournalText.{are_alike, clients_text, head_lines, heading_text, limit_text, message_limits, other_limits, row_text, slot_limits, text_of}
use Rattle.ipc_journal_text.specs.Ranges.{CredsFit, Fits32, IsJournal, RowFits}
use Rattle.ipc_journal_text.specs.Reading.{Read, after, is_client, is_limit, read_client, read_limit, read_line, read_lines, read_row, read_text}
use Rattle.ipc_text.specs.Settings.{limit_named, value_of}

-- a limit's name and its line, without its end
limit_name : Limit → List ℕ
limit_name Slots = codes "slots"
limit_name Queues = codes "queues"
limit_name Sets = codes "sets"
limit_name Segments = codes "segments"
limit_name FirstSeq = codes "first-seq"
limit_name MsgMax = codes "msgmax"
limit_name MsgMnb = codes "msgmnb"
limit_name SemMsl = codes "semmsl"
limit_name SemOpm = codes "semopm"
limit_name ShmMax = codes "shmmax"

limit_words : Limit → ℕ → List ℕ
limit_words limit n = limit_name limit ++ (codes " " ++ decimal n)

limit_line : Limit → ℕ → List ℕ
limit_line limit n = codes "limit " ++ limit_words limit n

IsWord-name : (limit : Limit) → IsWord (limit_name limit)
unfolding limit_name
IsWord-name Slots = record { some = omega arith; solid = refl }
IsWord-name Queues = record { some = omega arith; solid = refl }
IsWord-name Sets = record { some = omega arith; solid = refl }
IsWord-name Segments = record { some = omega arith; solid = refl }
IsWord-name FirstSeq = record { some = omega arith; solid = refl }
IsWord-name MsgMax = record { some = omega arith; solid = refl }
IsWord-name MsgMnb = record { some = omega arith; solid = refl }
IsWord-name SemMsl = record { some = omega arith; solid = refl }
IsWord-name SemOpm = record { some = omega arith; solid = refl }
IsWord-name ShmMax = record { some = omega arith; solid = refl }

read_name : (limit : Limit) → limit_named (limit_name limit) ≡ Some limit
unfolding limit_name limit_named
read_name Slots = refl
read_name Queues = refl
read_name Sets = refl
read_name Segments = refl
read_name FirstSeq = refl
read_name MsgMax = refl
read_name MsgMnb = refl
read_name SemMsl = refl
read_name SemOpm = refl
read_name ShmMax = refl

small_most : (limit : Limit) → most limit < 2 ^ 32
small_most Slots = omega arith
small_most Queues = omega arith
small_most Sets = omega arith
small_most Segments = omega arith
small_most FirstSeq = omega arith
small_most MsgMax = omega arith
small_most MsgMnb = omega arith
small_most SemMsl = omega arith
small_most SemOpm = omega arith
small_most ShmMax = omega arith

at_most : (a b : ℕ) → nat_le a b ≡ true → a ≤ b
at_most a b h = grind (arith, nat_tests)

read_value : (limit : Limit) (n : ℕ) → is_in_range limit n ≡ true → value_of limit (decimal n) ≡ Some n
read_value limit n h =
    let parts = both _ (nat_le n (most limit)) h in
    let le = at_most n (most limit) parts.1 in
    let top = small_most limit in
    rw (within-decimal (most limit) n le (omega arith), parts.0) refl

record IsLimitOf (limit : Limit) (n : ℕ) : Type 0 where
  pub reads : limit_of (words_of (limit_words limit n)) ≡ Some (limit, n)
  pub free : is_free 10 (limit_line limit n) ≡ true

limit_read : (limit : Limit) (n : ℕ) → is_in_range limit n ≡ true → IsLimitOf limit n
unfolding limit_words limit_line limit_of
limit_read limit n h =
    let parts = both _ (nat_le n (most limit)) h in
    let le = at_most n (most limit) parts.1 in
    let top = small_most limit in
    let words = words-then (limit_name limit) _ _ (IsWord-name limit) (words-last (decimal n) (word_32 n (omega arith))) in
    record { reads = ap limit_of words.has ∙ rw (read_name limit, read_value limit n h) refl; free = words.free }

-- the lines of a journal: of the slots of each kind, where all are alike and where not; of the other limits
slot_lines : Bool → Limits → List (List ℕ)
slot_lines true l = limit_line Slots l.queues ∷ []
slot_lines false l = limit_line Queues l.queues ∷ limit_line Sets l.sets ∷ limit_line Segments l.segments ∷ []

more_lines : Limits → List (List ℕ)
more_lines l =
    limit_line FirstSeq l.first_seq
    ∷ limit_line MsgMax l.msg_max
    ∷ limit_line MsgMnb l.msg_mnb
    ∷ limit_line SemMsl l.sem_msl
    ∷ limit_line SemOpm l.sem_opm
    ∷ limit_line ShmMax l.shm_max
    ∷ []

limit_lines : Limits → List (List ℕ)
limit_lines l = slot_lines (are_alike l) l ++ more_lines l

client_lines : ℕ → List Credentials → List (List ℕ)
client_lines first [] = []
client_lines first (c ∷ cs) = client_line first c ∷ client_lines (first + 1) cs

lines_behind : Limits → List Credentials → List JournalRow → List (List ℕ)
lines_behind l cs rs = limit_lines l ++ (client_lines 0 cs ++ map row_line rs)

heading_line : List ℕ
heading_line = codes "ipcsh journal 1"

free_heading : is_free 10 heading_line ≡ true
unfolding heading_line
free_heading = refl

ended : List ℕ → List ℕ
ended line = line ++ 10 ∷ []

limit_ended : (limit : Limit) (n : ℕ) → limit_text (limit_name limit) n ≡ ended (limit_line limit n)
unfolding limit_text limit_line limit_words ended
limit_ended limit n = simp append_assoc

slots_by : Bool → Limits → List ℕ
slots_by alike l =
    if alike then limit_text (codes "slots") l.queues
    else limit_text (codes "queues") l.queues ++ (limit_text (codes "sets") l.sets ++ limit_text (codes "segments") l.segments)

slots_ended : (alike : Bool) (l : Limits) → slots_by alike l ≡ flat_map ended (slot_lines alike l)
unfolding slots_by slot_lines limit_name
slots_ended true l = limit_ended Slots l.queues ∙ simp append-nil
slots_ended false l =
    rw (
      ← limit_ended Queues l.queues,
      ← limit_ended Sets l.sets,
      ← limit_ended Segments l.segments,
    ) (simp (append_assoc, append-nil))

more_ended : (l : Limits) → message_limits l ++ other_limits l ≡ flat_map ended (more_lines l)
unfolding message_limits other_limits more_lines limit_name
more_ended l =
    rw (
      ← limit_ended FirstSeq l.first_seq,
      ← limit_ended MsgMax l.msg_max,
      ← limit_ended MsgMnb l.msg_mnb,
      ← limit_ended SemMsl l.sem_msl,
      ← limit_ended SemOpm l.sem_opm,
      ← limit_ended ShmMax l.shm_max,
    ) (simp (append_assoc, append-nil))

limits_ended : (l : Limits) → slot_limits l ++ (message_limits l ++ other_limits l) ≡ flat_map ended (limit_lines l)
unfolding slot_limits slots_by limit_lines
limits_ended l =
    rw (flat_map-append ended (slot_lines (are_alike l) l) (more_lines l), ← slots_ended (are_alike l) l, ← more_ended l) refl

clients_ended : (first : ℕ) (cs : List Credentials) → clients_text first cs ≡ flat_map ended (client_lines first cs)
unfolding client_lines ended
clients_ended first [] = refl
clients_ended first (c ∷ cs) =
    ap (λ t. t ++ clients_text (first + 1) cs) (client_ended first c) ∙ ap (λ t. ended (client_line first c) ++ t) (clients_ended (first + 1) cs)

rows_ended : (rs : List JournalRow) → flat_map row_text rs ≡ flat_map ended (map row_line rs)
unfolding ended
rows_ended [] = refl
rows_ended (r ∷ rs) = rw (row_ended r, rows_ended rs) refl

all_ended : (l : Limits) (cs : List Credentials) (rs : List JournalRow) → text_of l cs rs ≡ flat_map ended (heading_line ∷ lines_behind l cs rs)
unfolding heading_text heading_line ended lines_behind
all_ended l cs rs =
    rw (
      flat_map-append ended (limit_lines l) (client_lines 0 cs ++ map row_line rs),
      flat_map-append ended (client_lines 0 cs) (map row_line rs),
      ← limits_ended l,
      ← clients_ended 0 cs,
      ← rows_ended rs,
    ) (simp append_assoc)

-- lines, each of which a line feed ends, and the same with a line feed between each two and one at the end
joined : List ℕ → List (List ℕ) → List ℕ
joined line lines = line ++ flat_map (λ l. 10 ∷ l) lines

ended_joined : (line : List ℕ) (lines : List (List ℕ)) → flat_map ended (line ∷ lines) ≡ joined line lines ++ 10 ∷ []
unfolding ended joined
ended_joined line [] = rw (append-nil line, append-nil (line ++ 10 ∷ [])) refl
ended_joined line (l ∷ ls) = ap (λ t. ended line ++ t) (ended_joined l ls) ∙ simp append_assoc

map_same : (xs : List (List ℕ)) → map (λ l. l) xs ≡ xs
map_same [] = refl
map_same (x ∷ xs) = ap (λ ys. x ∷ ys) (map_same xs)

joined_fields : (line : List ℕ) (lines : List (List ℕ)) → is_free 10 line ≡ true → All (λ l. is_free 10 l ≡ true) lines → fields_of 10 (joined line lines) ≡ line ∷ lines
unfolding joined
joined_fields line lines h k = (fields-each 10 (λ l. l) line lines h k).has ∙ ap (λ ls. line ∷ ls) (map_same lines)

-- each limit is in its range
record LimitsFit (l : Limits) : Type 0 where
  queues : is_in_range Queues l.queues ≡ true
  sets : is_in_range Sets l.sets ≡ true
  segments : is_in_range Segments l.segments ≡ true
  first_seq : is_in_range FirstSeq l.first_seq ≡ true
  msg_max : is_in_range MsgMax l.msg_max ≡ true
  msg_mnb : is_in_range MsgMnb l.msg_mnb ≡ true
  sem_msl : is_in_range SemMsl l.sem_msl ≡ true
  sem_opm : is_in_range SemOpm l.sem_opm ≡ true
  shm_max : is_in_range ShmMax l.shm_max ≡ true

eight : (a b c d e f g h : Bool) → (a && b && c && d && e && f && g && h) ≡ true → (a ≡ true) × (b ≡ true) × (c ≡ true) × (d ≡ true) × (e ≡ true) × (f ≡ true) × (g ≡ true) × (h ≡ true)
eight true true true true true true true true k = (refl, refl, refl, refl, refl, refl, refl, refl)
eight a b c d e f g h k = cc

limits_fit : (l : Limits) → IsTrue (are_in_range l) → l.first_seq < 2 ^ 16 → LimitsFit l
limits_fit l h k =
    let parts = eight (is_in_range Queues l.queues) (is_in_range Sets l.sets) (is_in_range Segments l.segments) (is_in_range MsgMax l.msg_max) (is_in_range MsgMnb l.msg_mnb) (is_in_range SemMsl l.sem_msl) (is_in_range SemOpm l.sem_opm) (is_in_range ShmMax l.shm_max) h in
    let seq : is_in_range FirstSeq l.first_seq ≡ true = grind (arith, nat_tests) in
    record { queues = parts.0; sets = parts.1; segments = parts.2; first_seq = seq; msg_max = parts.3; msg_mnb = parts.4; sem_msl = parts.5; sem_opm = parts.6; shm_max = parts.7 }

-- no line feed in any of the lines
Free : List ℕ → Type 0
Free line = is_free 10 line ≡ true

record AreFree (lines : List (List ℕ)) : Type 0 where
  all : All Free lines

free-cons : (line : List ℕ) (lines : List (List ℕ)) → is_free 10 line ≡ true → AreFree lines → AreFree (line ∷ lines)
unfolding Free
free-cons line lines h k = record { all = All-cons Free line lines h k.all }

free_limit : (limit : Limit) (n : ℕ) (lines : List (List ℕ)) → is_in_range limit n ≡ true → AreFree lines → AreFree (limit_line limit n ∷ lines)
free_limit limit n lines h k = free-cons (limit_line limit n) lines (limit_read limit n h).free k

free_slots : (alike : Bool) (l : Limits) → LimitsFit l → (lines : List (List ℕ)) → AreFree lines → AreFree (slot_lines alike l ++ lines)
unfolding slot_lines
free_slots true l h lines k = free_limit Slots l.queues _ h.queues k
free_slots false l h lines k = free_limit Queues l.queues _ h.queues (free_limit Sets l.sets _ h.sets (free_limit Segments l.segments _ h.segments k))

free_limits : (l : Limits) → LimitsFit l → AreFree (limit_lines l)
unfolding limit_lines more_lines
free_limits l h =
    free_slots (are_alike l) l h _
    (free_limit FirstSeq l.first_seq _ h.first_seq
    (free_limit MsgMax l.msg_max _ h.msg_max
    (free_limit MsgMnb l.msg_mnb _ h.msg_mnb
    (free_limit SemMsl l.sem_msl _ h.sem_msl
    (free_limit SemOpm l.sem_opm _ h.sem_opm
    (free_limit ShmMax l.shm_max _ h.shm_max (record { all = All-nil Free })))))))

free_clients : (first : ℕ) (cs : List Credentials) → first + length cs ≤ 4096 → All CredsFit cs → AreFree (client_lines first cs)
unfolding client_lines
free_clients first [] h k = record { all = All-nil Free }
free_clients first (c ∷ cs) h k =
    free-cons (client_line first c) (client_lines (first + 1) cs) (client_read first c (omega arith) (All-head CredsFit c cs k)).free (free_clients (first + 1) cs (omega arith) (All-tail CredsFit c cs k))

free_rows : (rs : List JournalRow) → All RowFits rs → AreFree (map row_line rs)
free_rows [] h = record { all = All-nil Free }
free_rows (r ∷ rs) h = free-cons (row_line r) (map row_line rs) (row_read r (All-head RowFits r rs h)).free (free_rows rs (All-tail RowFits r rs h))

-- ---- what the lines say, one after the other

one_line : (number : ℕ) (read next : Read) (line : List ℕ) (lines : List (List ℕ)) → read_line (after number) read line ≡ Some next → read_lines number read (line ∷ lines) ≡ read_lines (after number) next lines
one_line number read next line lines h = rw h refl

limit_set : Read → Limit → ℕ → Read
limit_set read limit n = record read { limits = with_limit read.limits limit n }

limit_step : (read : Read) (limit : Limit) (n : ℕ) → is_in_range limit n ≡ true → read_limit read (limit_line limit n) ≡ Some (limit_set read limit n)
unfolding limit_line limit_set
limit_step read limit n h = rw (limit_read limit n h).reads refl

fresh : Limits → Read
fresh l = record { limits = l; clients = []; rows = [] }

heading_read : (l : Limits) → read_line 1 (fresh l) heading_line ≡ Some (fresh l)
unfolding read_line heading_line
heading_read l = refl

record ReadsAs (number : ℕ) (read : Read) (lines : List (List ℕ)) (result : Option Read) : Type 0 where
  is : read_lines number read lines ≡ result

-- a limit's line is read as one, be it one of the first seven or not
either_way : {A : Type 0} (early : Bool) (x y : A) → (if early then x else (if true then x else y)) ≡ x
either_way true x y = refl
either_way false x y = refl

then_limit : (number : ℕ) (old : Limits) (limit : Limit) (n : ℕ) (lines : List (List ℕ)) (result : Option Read) → 1 ≤ number → is_in_range limit n ≡ true → ReadsAs (after number) (fresh (with_limit old limit n)) lines result → ReadsAs number (fresh old) (limit_line limit n ∷ lines) result
unfolding read_line fresh limit_line limit_set
then_limit number old limit n lines result some h k =
    let behind : (after number == 1) ≡ false = grind (arith, nat_tests) in
    let step : read_line (after number) (fresh old) (limit_line limit n) ≡ Some (fresh (with_limit old limit n)) =
    rw (behind, either_way (nat_le (after number) 8) (read_limit (fresh old) (limit_line limit n)) _) (limit_step (fresh old) limit n h) in
    record { is = one_line number (fresh old) (fresh (with_limit old limit n)) (limit_line limit n) lines step ∙ k.is }

-- the other limits, behind the lines of slots
one_on : (number : ℕ) → 1 ≤ number → 1 ≤ after number
one_on number h = omega arith

six_on : ℕ → ℕ
six_on number = after (after (after (after (after (after number)))))

more_read : (number : ℕ) (old l : Limits) (rest : List (List ℕ)) → 1 ≤ number → LimitsFit l →
    ReadsAs number (fresh old) (more_lines l ++ rest) (read_lines (six_on number) (fresh (record l { queues = old.queues; sets = old.sets; segments = old.segments })) rest)
unfolding more_lines six_on
more_read number old l rest first h =
    let second = one_on number first in
    let third = one_on _ second in
    let fourth = one_on _ third in
    let fifth = one_on _ fourth in
    let sixth = one_on _ fifth in
    then_limit number _ FirstSeq l.first_seq _ _ first h.first_seq
    (then_limit _ _ MsgMax l.msg_max _ _ second h.msg_max
    (then_limit _ _ MsgMnb l.msg_mnb _ _ third h.msg_mnb
    (then_limit _ _ SemMsl l.sem_msl _ _ fourth h.sem_msl
    (then_limit _ _ SemOpm l.sem_opm _ _ fifth h.sem_opm
    (then_limit _ _ ShmMax l.shm_max _ _ sixth h.shm_max (record { is = refl }))))))

-- alike, each kind has as many slots as there are for queues
alike_is : (l : Limits) → are_alike l ≡ true → record l { sets = l.queues; segments = l.queues } ≡ l
alike_is l h =
    let sets : l.queues ≡ l.sets = grind (arith, nat_tests) in
    let segments : l.queues ≡ l.segments = grind (arith, nat_tests) in
    λ i. record l { sets = sets i; segments = segments i }

limits_by : (alike : Bool) (old l : Limits) (rest : List (List ℕ)) → are_alike l ≡ alike → LimitsFit l →
    ReadsAs 1 (fresh old) (slot_lines alike l ++ (more_lines l ++ rest)) (read_lines (if alike then 8 else 10) (fresh l) rest)
unfolding slot_lines six_on
limits_by true old l rest e h =
    then_limit 1 old Slots l.queues _ _ (omega arith) h.queues
    (record { is = (more_read 2 _ l rest (omega arith) h).is ∙ ap (λ k. read_lines 8 (fresh k) rest) (alike_is l e) })
limits_by false old l rest e h =
    then_limit 1 old Queues l.queues _ _ (omega arith) h.queues
    (then_limit 2 _ Sets l.sets _ _ (omega arith) h.sets
    (then_limit 3 _ Segments l.segments _ _ (omega arith) h.segments
    (more_read 4 _ l rest (omega arith) h)))

limits_read : (old l : Limits) (rest : List (List ℕ)) → LimitsFit l → ReadsAs 1 (fresh old) (limit_lines l ++ rest) (read_lines (head_lines l) (fresh l) rest)
unfolding limit_lines
limits_read old l rest h =
    rw (append_assoc (slot_lines (are_alike l) l) (more_lines l) rest) (limits_by (are_alike l) old l rest refl h)

head_read : (old l : Limits) (rest : List (List ℕ)) → LimitsFit l → read_lines 0 (fresh old) (heading_line ∷ (limit_lines l ++ rest)) ≡ read_lines (head_lines l) (fresh l) rest
head_read old l rest h =
    one_line 0 (fresh old) (fresh old) heading_line (limit_lines l ++ rest) (heading_read old) ∙ (limits_read old l rest h).is

-- behind the limits
later : (number : ℕ) → 8 ≤ number → 8 < after number
later number h = omega arith

late_client : (number : ℕ) (read : Read) (line : List ℕ) → 8 < number → is_limit read line ≡ false → is_client read line ≡ true → read_line number read line ≡ read_client read line
unfolding read_line
late_client number read line h d e =
    let first : (number == 1) ≡ false = grind (arith, nat_tests) in
    let limit : nat_le number 8 ≡ false = grind (arith, nat_tests) in
    rw (first, limit, d, e) refl

late_row : (number : ℕ) (read : Read) (line : List ℕ) → 8 < number → is_limit read line ≡ false → is_client read line ≡ false → read_line number read line ≡ read_row read line
unfolding read_line
late_row number read line h d e =
    let first : (number == 1) ≡ false = grind (arith, nat_tests) in
    let limit : nat_le number 8 ≡ false = grind (arith, nat_tests) in
    rw (first, limit, d, e) refl

with_rows : Limits → List Credentials → List JournalRow → Read
with_rows l cs rs = record { limits = l; clients = cs; rows = rs }

client_step : (number : ℕ) (l : Limits) (done : List Credentials) (c : Credentials) (first : ℕ) → 8 ≤ number → length done < 4096 → Fits32 first → CredsFit c → read_line (after number) (with_rows l done []) (client_line first c) ≡ Some (with_rows l (done ++ c ∷ []) [])
unfolding with_rows
client_step number l done c first n d f h =
    let none : is_limit (with_rows l done []) (client_line first c) ≡ false = rw (client_no_limit first c) refl in
    let is : is_client (with_rows l done []) (client_line first c) ≡ true = rw (client_first first c) refl in
    let few : (length done == 4096) ≡ false = grind (arith, nat_tests) in
    late_client (after number) (with_rows l done []) (client_line first c) (later number n) none is ∙ rw (few, (client_read first c f h).reads) refl

row_step : (number : ℕ) (l : Limits) (cs : List Credentials) (done : List JournalRow) (r : JournalRow) → 8 ≤ number → 1 ≤ length cs → RowFits r → read_line (after number) (with_rows l cs done) (row_line r) ≡ Some (with_rows l cs (done ++ r ∷ []))
unfolding with_rows
row_step number l cs done r n c h =
    let none : is_limit (with_rows l cs done) (row_line r) ≡ false = rw (row_no_limit r) refl in
    let is : is_client (with_rows l cs done) (row_line r) ≡ false = rw (row_first r) refl in
    let some : (length cs == 0) ≡ false = grind (arith, nat_tests) in
    late_row (after number) (with_rows l cs done) (row_line r) (later number n) none is ∙ rw (some, (row_read r h).reads) refl

rows_read : (number : ℕ) (l : Limits) (cs : List Credentials) (done rs : List JournalRow) → 8 ≤ number → 1 ≤ length cs → All RowFits rs → read_lines number (with_rows l cs done) (map row_line rs) ≡ Some (with_rows l cs (done ++ rs))
unfolding with_rows
rows_read number l cs done [] n c h = rw (append-nil done) refl
rows_read number l cs done (r ∷ rs) n c h =
    let late = later number n in
    one_line number (with_rows l cs done) (with_rows l cs (done ++ r ∷ [])) (row_line r) (map row_line rs) (row_step number l cs done r n c (All-head RowFits r rs h))
    ∙ rows_read (after number) l cs (done ++ r ∷ []) rs (omega arith) c (All-tail RowFits r rs h)
    ∙ ap (λ t. Some (with_rows l cs t)) (append_assoc done (r ∷ []) rs)

clients_read : (number first : ℕ) (l : Limits) (done cs : List Credentials) (rs : List JournalRow) → 8 ≤ number → first + length cs ≤ 4096 → length done ≡ first → 1 ≤ length (done ++ cs) → All CredsFit cs → All RowFits rs →
    read_lines number (with_rows l done []) (client_lines first cs ++ map row_line rs) ≡ Some (with_rows l (done ++ cs) rs)
unfolding client_lines
clients_read number first l done [] rs n d e some h k = rw (append-nil done) (rows_read number l done [] rs n (rw (append-nil done) at some) k)
clients_read number first l done (c ∷ cs) rs n d e some h k =
    let late = later number n in
    let grown = length-append done (c ∷ []) in
    let all = append_assoc done (c ∷ []) cs in
    one_line number (with_rows l done []) (with_rows l (done ++ c ∷ []) []) (client_line first c) _ (client_step number l done c first n (omega arith) (omega arith) (All-head CredsFit c cs h))
    ∙ clients_read (after number) (first + 1) l (done ++ c ∷ []) cs rs (omega arith) (omega arith) (omega (arith, grown)) (rw all some) (All-tail CredsFit c cs h) k
    ∙ ap (λ t. Some (with_rows l t rs)) all

-- ---- the text of a journal is read as that journal

enough_head : (alike : Bool) → 8 ≤ (if alike then 8 else 10)
enough_head true = omega arith
enough_head false = omega arith

all_read : (old l : Limits) (cs : List Credentials) (rs : List JournalRow) → IsJournal l cs rs → read_lines 0 (fresh old) (heading_line ∷ lines_behind l cs rs) ≡ Some (with_rows l cs rs)
unfolding lines_behind fresh with_rows
all_read old l cs rs h =
    head_read old l (client_lines 0 cs ++ map row_line rs) (limits_fit l h.in_range h.first_seq)
    ∙ clients_read (head_lines l) 0 l [] cs rs (enough_head (are_alike l)) (let few = h.few in omega arith) refl h.some h.clients_fit h.rows_fit

all_free : (l : Limits) (cs : List Credentials) (rs : List JournalRow) → IsJournal l cs rs → AreFree (lines_behind l cs rs)
unfolding lines_behind
all_free l cs rs h =
    let limits = free_limits l (limits_fit l h.in_range h.first_seq) in
    let clients = free_clients 0 cs (let few = h.few in omega arith) h.clients_fit in
    let rows = free_rows rs h.rows_fit in
    record { all = All-append Free (limit_lines l) (client_lines 0 cs ++ map row_line rs) limits.all (All-append Free (client_lines 0 cs) (map row_line rs) clients.all rows.all) }

enough_by : (alike : Bool) (l : Limits) (rest : List (List ℕ)) → nat_le 8 (length (heading_line ∷ ((slot_lines alike l ++ more_lines l) ++ rest))) ≡ true
unfolding slot_lines more_lines
enough_by true l rest = grind (arith, nat_tests)
enough_by false l rest = grind (arith, nat_tests)

enough : (l : Limits) (cs : List Credentials) (rs : List JournalRow) → nat_le 8 (length (heading_line ∷ lines_behind l cs rs)) ≡ true
unfolding lines_behind limit_lines
enough l cs rs = enough_by (are_alike l) l _

pub journal_read : (old l : Limits) (cs : List Credentials) (rs : List JournalRow) → IsJournal l cs rs → read_text (record { limits = old; clients = []; rows = [] }) (text_of l cs rs) ≡ Some (record { limits = l; clients = cs; rows = rs })
unfolding read_text fresh with_rows Free
journal_read old l cs rs h =
    let text = all_ended l cs rs ∙ ended_joined heading_line (lines_behind l cs rs) in
    let fields = joined_fields heading_line (lines_behind l cs rs) free_heading (all_free l cs rs h).all in
    ap (read_text (fresh old)) text
    ∙ rw (before_last-append (joined heading_line (lines_behind l cs rs)) (10 ∷ []) refl, fields, enough l cs rs) (all_read old l cs rs h)
