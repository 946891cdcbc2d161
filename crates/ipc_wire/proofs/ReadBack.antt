-- The bytes of a message are read as that message.
use Rattle.std.proofs.Common.{◌≡◌, ℕ, ◌^◌, ◌<◌, ◌≤◌, Bool, true, false, cond, eqb, ltb, List, ◌++◌, length, Option, Some, None, refl, ap, ◌∙◌, lit<, lit≤, arith}
use Rattle.std.specs.Prelude.{ℤ, pos, negsuc, IfSome, option_and_then}
use Rattle.std.specs.Int.{w32, w64, cast_signed, cast_unsigned}
use Rattle.std.specs.Int.RustNames.{FitsSigned}
use Rattle.std.proofs.lemmas.Bool.{and_from, eq-eqb, le-leb, le-ltb, ne_eqb}
use Rattle.std.proofs.lemmas.Int.{ints, to_z-of_z}
use Rattle.ipc_call.specs.declared.calls.Kind.{Kind}
use Rattle.ipc_call.specs.declared.calls.Kind.TheVariants as kinds
use Rattle.ipc_call.specs.declared.calls.SemOper.{SemOper}
use Rattle.ipc_wire.specs.Layout.{room_bytes, same_words, words_bytes, words_in}
use Rattle.ipc_wire.specs.Laws.{IsReadBack}
use Rattle.ipc_wire.specs.Operations.{code_of, longest, operation_of}
use Rattle.ipc_wire.specs.Ranges.{AskFits, LookFits, RequestFits}
use Rattle.ipc_wire.specs.Requests.{bool_word, code_of_kind, decode, encode, is_request, kind_in, low, meant, payload_of, request_in, timeout_in, timeout_word, words, words_of}
use Rattle.ipc_wire.specs.declared.operations.Operation.{Operation}
use Rattle.ipc_wire.specs.declared.operations.Operation.TheVariants as op
use Rattle.ipc_wire.specs.declared.requests.Ask.{Ask}
use Rattle.ipc_wire.specs.declared.requests.Ask.TheVariants as asks
use Rattle.ipc_wire.specs.declared.requests.Look.{Look}
use Rattle.ipc_wire.specs.declared.requests.Look.TheVariants as looks
use Rattle.ipc_wire.specs.declared.requests.Message.{Message}
use Rattle.ipc_wire.specs.declared.requests.Request.{Request}
use Rattle.ipc_wire.specs.declared.requests.Request.TheVariants.{Hello, Cancel, Fork, Calls, Looks}
use Rattle.ipc_wire.specs.declared.words.Words.{Words}
use Rattle.ipc_wire.proofs.Bytes.{WordsFit, same_refl, words_again}
use Rattle.ipc_wire.proofs.Payloads.{opers_again, opers_length, room_again, values_again, values_length}

low_is : (n : ℕ) → n < 2 ^ 32 → low n ≡ n
low_is n below = omega (arith, below)

kind_again : (kind : Kind) → kind_in (code_of_kind kind) ≡ kind
kind_again kinds.Queue = refl
kind_again kinds.Sems = refl
kind_again kinds.Segment = refl

kind_below : (kind : Kind) → code_of_kind kind < 2 ^ 64
kind_below kinds.Queue = lit< tt
kind_below kinds.Sems = lit< tt
kind_below kinds.Segment = lit< tt

bool_again : (b : Bool) → eqb (bool_word b) 1 ≡ b
bool_again true = refl
bool_again false = refl

bool_below : (b : Bool) → bool_word b < 2 ^ 64
bool_below true = lit< tt
bool_below false = lit< tt

abbrev given : ℕ → Option ℕ
given n = Some n

timeout_again : (t : Option ℕ) → IfSome t (λ n. n < 18446744073709551615) → timeout_in (timeout_word t) ≡ t
timeout_again None below = refl
timeout_again (Some n) below = ap (λ (b : Bool). cond b None (given n)) (ne_eqb n 18446744073709551615 (λ e. omega (arith, below, e)))

timeout_below : (t : Option ℕ) → IfSome t (λ n. n < 18446744073709551615) → timeout_word t < 2 ^ 64
timeout_below None below = lit< tt
timeout_below (Some n) below = omega (arith, below)

mtype_again : (z : ℤ) → FitsSigned w64 z → cast_signed w64 (cast_unsigned w64 z) ≡ z
mtype_again z fits = to_z-of_z w64 z fits

low_cast : (z : ℤ) → FitsSigned w32 z → low (cast_unsigned w64 z) ≡ cast_unsigned w32 z
low_cast (pos n) fits = low_is n (omega (arith, fits.sfits))
low_cast (negsuc n) fits = omega (arith, fits.sfits)

value_again : (z : ℤ) → FitsSigned w32 z → cast_signed w32 (low (cast_unsigned w64 z)) ≡ z
value_again z fits = ap (cast_signed w32) (low_cast z fits) ∙ to_z-of_z w32 z fits

mtype_below : (z : ℤ) → FitsSigned w64 z → cast_unsigned w64 z < 2 ^ 64
mtype_below z fits = omega (arith, ints)

value_below : (z : ℤ) → FitsSigned w32 z → cast_unsigned w64 z < 2 ^ 64
value_below z fits = omega (arith, ints)

code_below : (o : Operation) → code_of o < 2 ^ 32
code_below op.Hello = lit< tt
code_below o = lit< tt

wide : (n : ℕ) → n < 2 ^ 32 → n < 2 ^ 64
wide n below = omega (arith, below)

abbrev none : 0 < 2 ^ 64
none = lit< tt

fit : (o : Operation) (seq a b c d e : ℕ) → seq < 2 ^ 32 → a < 2 ^ 64 → b < 2 ^ 64 → c < 2 ^ 64 → d < 2 ^ 64 → e < 2 ^ 64
    → WordsFit (words o seq a b c d e)
fit o seq a b c d e s ha hb hc hd he =
    record { op = code_below o; seq = s; a = ha; b = hb; c = hc; d = hd; e = he }

abbrev message : ℕ → Request → Message
message seq r = record { seq = seq; request = r }

-- What is asked of a request, by its operation: that its words and its payload mean it again, and that both fit.
record Known (o : Operation) (seq : ℕ) (r : Request) : Type 0 where
  code : operation_of (words_of seq r).op ≡ Some o
  meaning : meant o (words_of seq r) (payload_of r) ≡ r
  is_own : (words_of seq r).seq ≡ seq
  words_fit : WordsFit (words_of seq r)
  payload_fits : length (payload_of r) ≤ longest o

found : (o : Operation) (seq : ℕ) (r : Request) → Known o seq r → request_in (words_of seq r) (payload_of r) o ≡ Some (message seq r)
found o seq r known =
    let w = words_of seq r in
    let p = payload_of r in
    let same : same_words (words_of w.seq r) w ≡ true = ap (λ (s : ℕ). same_words (words_of s r) w) known.is_own ∙ same_refl w in
    let tests : is_request o w p r ≡ true =
    and_from _ _ (and_from _ _ (le-leb _ _ known.payload_fits) same) (eq-eqb _ _ refl) in
    ap (λ (x : Request). cond (is_request o w p x) (Some (message w.seq x)) None) known.meaning
    ∙ ap (λ (b : Bool). cond b (Some (message w.seq r)) None) tests
    ∙ ap (λ (s : ℕ). Some (message s r)) known.is_own

read_back_by : (o : Operation) (m : Message) → Known o m.seq m.request → decode (encode m) ≡ Some m
read_back_by o m known =
    let w = words_of m.seq m.request in
    let p = payload_of m.request in
    let long : ltb (length (encode m)) 48 ≡ false = le-ltb _ _ (omega arith) in
    let read : words_in (words_bytes w ++ p) ≡ w = words_again w p known.words_fit in
    ap (λ (b : Bool). cond b None (option_and_then (λ x. request_in (words_in (encode m)) p x) (operation_of (words_in (encode m)).op))) long
    ∙ ap (λ (v : Words). option_and_then (λ x. request_in v p x) (operation_of v.op)) read
    ∙ ap (λ (x : Option Operation). option_and_then (λ y. request_in w p y) x) known.code
    ∙ found o m.seq m.request known

room_short : (room : Option ℕ) → length (room_bytes room) ≤ 69952
room_short None = lit≤ tt
room_short (Some n) = lit≤ tt

known_hello : (seq : ℕ) (version : ℕ) (token : ℕ) → seq < 2 ^ 32 → RequestFits (Hello version token) → Known op.Hello seq (Hello version token)
known_hello seq version token s h = record {
  code = refl;
  meaning = rw (low_is version h.0) refl;
  is_own = refl;
  words_fit = fit op.Hello seq _ _ _ _ _ s (wide version h.0) h.1 none none none;
  payload_fits = lit≤ tt;
}

known_cancel : (seq : ℕ) (other : ℕ) → seq < 2 ^ 32 → RequestFits (Cancel other) → Known op.Cancel seq (Cancel other)
known_cancel seq other s h = record {
  code = refl;
  meaning = rw (low_is other h) refl;
  is_own = refl;
  words_fit = fit op.Cancel seq _ _ _ _ _ s (wide other h) none none none none;
  payload_fits = lit≤ tt;
}

known_fork : (seq : ℕ) → seq < 2 ^ 32 → RequestFits Fork → Known op.Fork seq Fork
known_fork seq s h = record {
  code = refl;
  meaning = refl;
  is_own = refl;
  words_fit = fit op.Fork seq _ _ _ _ _ s none none none none none;
  payload_fits = lit≤ tt;
}

known_msgget : (seq : ℕ) (key : ℕ) (flags : ℕ) → seq < 2 ^ 32 → AskFits (asks.MsgGet key flags) → Known op.MsgGet seq (Calls (asks.MsgGet key flags))
known_msgget seq key flags s h = record {
  code = refl;
  meaning = rw (low_is key h.0, low_is flags h.1) refl;
  is_own = refl;
  words_fit = fit op.MsgGet seq _ _ _ _ _ s (wide key h.0) (wide flags h.1) none none none;
  payload_fits = lit≤ tt;
}

known_msgsnd : (seq : ℕ) (id : ℕ) (mtype : ℤ) (text : List ℕ) (flags : ℕ) → seq < 2 ^ 32 → AskFits (asks.MsgSnd id mtype text flags) → Known op.MsgSnd seq (Calls (asks.MsgSnd id mtype text flags))
known_msgsnd seq id mtype text flags s h = record {
  code = refl;
  meaning = rw (mtype_again mtype h.1, low_is flags h.3) refl;
  is_own = refl;
  words_fit = fit op.MsgSnd seq _ _ _ _ _ s h.0 (mtype_below mtype h.1) (wide flags h.3) none none;
  payload_fits = h.2;
}

known_msgrcv : (seq : ℕ) (id : ℕ) (size : ℕ) (msgtyp : ℤ) (flags : ℕ) → seq < 2 ^ 32 → AskFits (asks.MsgRcv id size msgtyp flags) → Known op.MsgRcv seq (Calls (asks.MsgRcv id size msgtyp flags))
known_msgrcv seq id size msgtyp flags s h = record {
  code = refl;
  meaning = rw (mtype_again msgtyp h.2, low_is flags h.3) refl;
  is_own = refl;
  words_fit = fit op.MsgRcv seq _ _ _ _ _ s h.0 h.1 (mtype_below msgtyp h.2) (wide flags h.3) none;
  payload_fits = lit≤ tt;
}

known_semget : (seq : ℕ) (key : ℕ) (nsems : ℕ) (flags : ℕ) → seq < 2 ^ 32 → AskFits (asks.SemGet key nsems flags) → Known op.SemGet seq (Calls (asks.SemGet key nsems flags))
known_semget seq key nsems flags s h = record {
  code = refl;
  meaning = rw (low_is key h.0, low_is nsems h.1, low_is flags h.2) refl;
  is_own = refl;
  words_fit = fit op.SemGet seq _ _ _ _ _ s (wide key h.0) (wide nsems h.1) (wide flags h.2) none none;
  payload_fits = lit≤ tt;
}

known_semop : (seq : ℕ) (id : ℕ) (opers : List SemOper) → seq < 2 ^ 32 → AskFits (asks.SemOp id opers) → Known op.SemOp seq (Calls (asks.SemOp id opers))
known_semop seq id opers s h = record {
  code = refl;
  meaning = rw (opers_again opers h.1) refl;
  is_own = refl;
  words_fit = fit op.SemOp seq _ _ _ _ _ s h.0 none none none none;
  payload_fits = omega (arith, h.2, opers_length opers);
}

known_semtimedop : (seq : ℕ) (id : ℕ) (opers : List SemOper) (timeout : Option ℕ) → seq < 2 ^ 32 → AskFits (asks.SemTimedOp id opers timeout) → Known op.SemTimedOp seq (Calls (asks.SemTimedOp id opers timeout))
known_semtimedop seq id opers timeout s h = record {
  code = refl;
  meaning = rw (opers_again opers h.1, timeout_again timeout h.3) refl;
  is_own = refl;
  words_fit = fit op.SemTimedOp seq _ _ _ _ _ s h.0 (timeout_below timeout h.3) none none none;
  payload_fits = omega (arith, h.2, opers_length opers);
}

known_getval : (seq : ℕ) (id : ℕ) (num : ℕ) → seq < 2 ^ 32 → AskFits (asks.GetVal id num) → Known op.GetVal seq (Calls (asks.GetVal id num))
known_getval seq id num s h = record {
  code = refl;
  meaning = rw (low_is num h.1) refl;
  is_own = refl;
  words_fit = fit op.GetVal seq _ _ _ _ _ s h.0 (wide num h.1) none none none;
  payload_fits = lit≤ tt;
}

known_getpid : (seq : ℕ) (id : ℕ) (num : ℕ) → seq < 2 ^ 32 → AskFits (asks.GetPid id num) → Known op.GetPid seq (Calls (asks.GetPid id num))
known_getpid seq id num s h = record {
  code = refl;
  meaning = rw (low_is num h.1) refl;
  is_own = refl;
  words_fit = fit op.GetPid seq _ _ _ _ _ s h.0 (wide num h.1) none none none;
  payload_fits = lit≤ tt;
}

known_getncnt : (seq : ℕ) (id : ℕ) (num : ℕ) → seq < 2 ^ 32 → AskFits (asks.GetNcnt id num) → Known op.GetNcnt seq (Calls (asks.GetNcnt id num))
known_getncnt seq id num s h = record {
  code = refl;
  meaning = rw (low_is num h.1) refl;
  is_own = refl;
  words_fit = fit op.GetNcnt seq _ _ _ _ _ s h.0 (wide num h.1) none none none;
  payload_fits = lit≤ tt;
}

known_getzcnt : (seq : ℕ) (id : ℕ) (num : ℕ) → seq < 2 ^ 32 → AskFits (asks.GetZcnt id num) → Known op.GetZcnt seq (Calls (asks.GetZcnt id num))
known_getzcnt seq id num s h = record {
  code = refl;
  meaning = rw (low_is num h.1) refl;
  is_own = refl;
  words_fit = fit op.GetZcnt seq _ _ _ _ _ s h.0 (wide num h.1) none none none;
  payload_fits = lit≤ tt;
}

known_getall : (seq : ℕ) (id : ℕ) → seq < 2 ^ 32 → AskFits (asks.GetAll id) → Known op.GetAll seq (Calls (asks.GetAll id))
known_getall seq id s h = record {
  code = refl;
  meaning = refl;
  is_own = refl;
  words_fit = fit op.GetAll seq _ _ _ _ _ s h none none none none;
  payload_fits = lit≤ tt;
}

known_setval : (seq : ℕ) (id : ℕ) (num : ℕ) (value : ℤ) → seq < 2 ^ 32 → AskFits (asks.SetVal id num value) → Known op.SetVal seq (Calls (asks.SetVal id num value))
known_setval seq id num value s h = record {
  code = refl;
  meaning = rw (low_is num h.1, value_again value h.2) refl;
  is_own = refl;
  words_fit = fit op.SetVal seq _ _ _ _ _ s h.0 (wide num h.1) (value_below value h.2) none none;
  payload_fits = lit≤ tt;
}

known_setall : (seq : ℕ) (id : ℕ) (values : List ℤ) → seq < 2 ^ 32 → AskFits (asks.SetAll id values) → Known op.SetAll seq (Calls (asks.SetAll id values))
known_setall seq id values s h = record {
  code = refl;
  meaning = rw (values_again values h.1) refl;
  is_own = refl;
  words_fit = fit op.SetAll seq _ _ _ _ _ s h.0 none none none none;
  payload_fits = omega (arith, h.2, values_length values);
}

known_shmget : (seq : ℕ) (key : ℕ) (size : ℕ) (flags : ℕ) → seq < 2 ^ 32 → AskFits (asks.ShmGet key size flags) → Known op.ShmGet seq (Calls (asks.ShmGet key size flags))
known_shmget seq key size flags s h = record {
  code = refl;
  meaning = rw (low_is key h.0, low_is flags h.2) refl;
  is_own = refl;
  words_fit = fit op.ShmGet seq _ _ _ _ _ s (wide key h.0) h.1 (wide flags h.2) none none;
  payload_fits = lit≤ tt;
}

known_shmat : (seq : ℕ) (id : ℕ) (flags : ℕ) → seq < 2 ^ 32 → AskFits (asks.ShmAt id flags) → Known op.ShmAt seq (Calls (asks.ShmAt id flags))
known_shmat seq id flags s h = record {
  code = refl;
  meaning = rw (low_is flags h.1) refl;
  is_own = refl;
  words_fit = fit op.ShmAt seq _ _ _ _ _ s h.0 (wide flags h.1) none none none;
  payload_fits = lit≤ tt;
}

known_shmdt : (seq : ℕ) (att : ℕ) → seq < 2 ^ 32 → AskFits (asks.ShmDt att) → Known op.ShmDt seq (Calls (asks.ShmDt att))
known_shmdt seq att s h = record {
  code = refl;
  meaning = rw (low_is att h) refl;
  is_own = refl;
  words_fit = fit op.ShmDt seq _ _ _ _ _ s (wide att h) none none none none;
  payload_fits = lit≤ tt;
}

known_ipcstat : (seq : ℕ) (kind : Kind) (id : ℕ) → seq < 2 ^ 32 → AskFits (asks.IpcStat kind id) → Known op.IpcStat seq (Calls (asks.IpcStat kind id))
known_ipcstat seq kind id s h = record {
  code = refl;
  meaning = rw (kind_again kind) refl;
  is_own = refl;
  words_fit = fit op.IpcStat seq _ _ _ _ _ s (kind_below kind) h none none none;
  payload_fits = lit≤ tt;
}

known_ipcset : (seq : ℕ) (kind : Kind) (id : ℕ) (uid : ℕ) (gid : ℕ) (mode : ℕ) (room : Option ℕ) → seq < 2 ^ 32 → AskFits (asks.IpcSet kind id uid gid mode room) → Known op.IpcSet seq (Calls (asks.IpcSet kind id uid gid mode room))
known_ipcset seq kind id uid gid mode room s h = record {
  code = refl;
  meaning = rw (kind_again kind, low_is uid h.1, low_is gid h.2, low_is mode h.3, room_again room h.4) refl;
  is_own = refl;
  words_fit = fit op.IpcSet seq _ _ _ _ _ s (kind_below kind) h.0 (wide uid h.1) (wide gid h.2) (wide mode h.3);
  payload_fits = room_short room;
}

known_ipcrmid : (seq : ℕ) (kind : Kind) (id : ℕ) → seq < 2 ^ 32 → AskFits (asks.IpcRmid kind id) → Known op.IpcRmid seq (Calls (asks.IpcRmid kind id))
known_ipcrmid seq kind id s h = record {
  code = refl;
  meaning = rw (kind_again kind) refl;
  is_own = refl;
  words_fit = fit op.IpcRmid seq _ _ _ _ _ s (kind_below kind) h none none none;
  payload_fits = lit≤ tt;
}

known_nsems : (seq : ℕ) (id : ℕ) → seq < 2 ^ 32 → LookFits (looks.Nsems id) → Known op.Nsems seq (Looks (looks.Nsems id))
known_nsems seq id s h = record {
  code = refl;
  meaning = refl;
  is_own = refl;
  words_fit = fit op.Nsems seq _ _ _ _ _ s h none none none none;
  payload_fits = lit≤ tt;
}

known_at : (seq : ℕ) (kind : Kind) (slot : ℕ) (any : Bool) → seq < 2 ^ 32 → LookFits (looks.At kind slot any) → Known op.At seq (Looks (looks.At kind slot any))
known_at seq kind slot any s h = record {
  code = refl;
  meaning = rw (kind_again kind, low_is slot h, bool_again any) refl;
  is_own = refl;
  words_fit = fit op.At seq _ _ _ _ _ s (kind_below kind) (wide slot h) (bool_below any) none none;
  payload_fits = lit≤ tt;
}

known_totals : (seq : ℕ) (kind : Kind) → seq < 2 ^ 32 → LookFits (looks.Totals kind) → Known op.Totals seq (Looks (looks.Totals kind))
known_totals seq kind s h = record {
  code = refl;
  meaning = rw (kind_again kind) refl;
  is_own = refl;
  words_fit = fit op.Totals seq _ _ _ _ _ s (kind_below kind) none none none none;
  payload_fits = lit≤ tt;
}

read_back_ask : (seq : ℕ) (ask : Ask) → seq < 2 ^ 32 → AskFits ask → decode (encode (message seq (Calls ask))) ≡ Some (message seq (Calls ask))
read_back_ask seq (asks.MsgGet key flags) s h = read_back_by op.MsgGet _ (known_msgget seq key flags s h)
read_back_ask seq (asks.MsgSnd id mtype text flags) s h = read_back_by op.MsgSnd _ (known_msgsnd seq id mtype text flags s h)
read_back_ask seq (asks.MsgRcv id size msgtyp flags) s h = read_back_by op.MsgRcv _ (known_msgrcv seq id size msgtyp flags s h)
read_back_ask seq (asks.SemGet key nsems flags) s h = read_back_by op.SemGet _ (known_semget seq key nsems flags s h)
read_back_ask seq (asks.SemOp id opers) s h = read_back_by op.SemOp _ (known_semop seq id opers s h)
read_back_ask seq (asks.SemTimedOp id opers timeout) s h = read_back_by op.SemTimedOp _ (known_semtimedop seq id opers timeout s h)
read_back_ask seq (asks.GetVal id num) s h = read_back_by op.GetVal _ (known_getval seq id num s h)
read_back_ask seq (asks.GetPid id num) s h = read_back_by op.GetPid _ (known_getpid seq id num s h)
read_back_ask seq (asks.GetNcnt id num) s h = read_back_by op.GetNcnt _ (known_getncnt seq id num s h)
read_back_ask seq (asks.GetZcnt id num) s h = read_back_by op.GetZcnt _ (known_getzcnt seq id num s h)
read_back_ask seq (asks.GetAll id) s h = read_back_by op.GetAll _ (known_getall seq id s h)
read_back_ask seq (asks.SetVal id num value) s h = read_back_by op.SetVal _ (known_setval seq id num value s h)
read_back_ask seq (asks.SetAll id values) s h = read_back_by op.SetAll _ (known_setall seq id values s h)
read_back_ask seq (asks.ShmGet key size flags) s h = read_back_by op.ShmGet _ (known_shmget seq key size flags s h)
read_back_ask seq (asks.ShmAt id flags) s h = read_back_by op.ShmAt _ (known_shmat seq id flags s h)
read_back_ask seq (asks.ShmDt att) s h = read_back_by op.ShmDt _ (known_shmdt seq att s h)
read_back_ask seq (asks.IpcStat kind id) s h = read_back_by op.IpcStat _ (known_ipcstat seq kind id s h)
read_back_ask seq (asks.IpcSet kind id uid gid mode room) s h = read_back_by op.IpcSet _ (known_ipcset seq kind id uid gid mode room s h)
read_back_ask seq (asks.IpcRmid kind id) s h = read_back_by op.IpcRmid _ (known_ipcrmid seq kind id s h)

read_back_look : (seq : ℕ) (look : Look) → seq < 2 ^ 32 → LookFits look → decode (encode (message seq (Looks look))) ≡ Some (message seq (Looks look))
read_back_look seq (looks.Nsems id) s h = read_back_by op.Nsems _ (known_nsems seq id s h)
read_back_look seq (looks.At kind slot any) s h = read_back_by op.At _ (known_at seq kind slot any s h)
read_back_look seq (looks.Totals kind) s h = read_back_by op.Totals _ (known_totals seq kind s h)

read_back_request : (seq : ℕ) (r : Request) → seq < 2 ^ 32 → RequestFits r → decode (encode (message seq r)) ≡ Some (message seq r)
read_back_request seq (Hello version token) s h = read_back_by op.Hello _ (known_hello seq version token s h)
read_back_request seq (Cancel other) s h = read_back_by op.Cancel _ (known_cancel seq other s h)
read_back_request seq Fork s h = read_back_by op.Fork _ (known_fork seq s h)
read_back_request seq (Calls ask) s h = read_back_ask seq ask s h
read_back_request seq (Looks look) s h = read_back_look seq look s h

pub read_back : IsReadBack
read_back m fits = read_back_request m.seq m.request fits.seq fits.request
