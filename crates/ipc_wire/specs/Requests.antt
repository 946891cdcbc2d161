-- The bytes of each request, and the request of bytes.
use Rattle.std.specs.Prelude.{ℕ, ◌==◌, ◌%◌, ◌^◌, Bool, ◌&&◌, List, [], ◌++◌, length, drop, Option, None, Some, option_and_then, nat_lt, nat_le, if◌then◌else◌}
use Rattle.std.specs.List.{flat_map}
use Rattle.std.specs.Int.{w32, w64, cast_signed, cast_unsigned}
use Rattle.ipc_call.specs.declared.calls.Kind.{Kind}
use Rattle.ipc_call.specs.declared.calls.Kind.TheVariants as kinds
use Rattle.ipc_wire.specs.declared.operations.Operation.{Operation}
use Rattle.ipc_wire.specs.declared.operations.Operation.TheVariants as op
use Rattle.ipc_wire.specs.declared.requests.Ask.{Ask}
use Rattle.ipc_wire.specs.declared.requests.Ask.TheVariants as asks
use Rattle.ipc_wire.specs.declared.requests.Look.{Look}
use Rattle.ipc_wire.specs.declared.requests.Look.TheVariants as looks
use Rattle.ipc_wire.specs.declared.requests.Message.{Message}
use Rattle.ipc_wire.specs.declared.requests.Request.{Request}
use Rattle.ipc_wire.specs.declared.requests.Request.TheVariants.{Hello, Cancel, Fork, Calls, Looks}
use Rattle.ipc_wire.specs.declared.words.Words.{Words}
use Rattle.ipc_wire.specs.Layout.{words_bytes, words_in, same_words, oper_bytes, opers_in, value_bytes, values_in, room_bytes, room_in}
use Rattle.ipc_wire.specs.Operations.{code_of, operation_of, longest}

abbrev pub code_of_kind : Kind → ℕ
code_of_kind kinds.Queue = 0
code_of_kind kinds.Sems = 1
code_of_kind kinds.Segment = 2

-- no timeout is the greatest number of 64 bits
abbrev pub timeout_word : Option ℕ → ℕ
timeout_word None = 18446744073709551615
timeout_word (Some timeout) = timeout

abbrev pub bool_word : Bool → ℕ
bool_word b = if b then 1 else 0

abbrev pub words : Operation → ℕ → ℕ → ℕ → ℕ → ℕ → ℕ → Words
words o seq a b c d e = record { op = code_of o; seq = seq; a = a; b = b; c = c; d = d; e = e }

-- The words of each request. What it has no use for is 0.
abbrev pub ask_words : ℕ → Ask → Words
ask_words seq (asks.MsgGet key flags) = words op.MsgGet seq key flags 0 0 0
ask_words seq (asks.MsgSnd id mtype text flags) = words op.MsgSnd seq id (cast_unsigned w64 mtype) flags 0 0
ask_words seq (asks.MsgRcv id size msgtyp flags) = words op.MsgRcv seq id size (cast_unsigned w64 msgtyp) flags 0
ask_words seq (asks.SemGet key nsems flags) = words op.SemGet seq key nsems flags 0 0
ask_words seq (asks.SemOp id opers) = words op.SemOp seq id 0 0 0 0
ask_words seq (asks.SemTimedOp id opers timeout) = words op.SemTimedOp seq id (timeout_word timeout) 0 0 0
ask_words seq (asks.GetVal id num) = words op.GetVal seq id num 0 0 0
ask_words seq (asks.GetPid id num) = words op.GetPid seq id num 0 0 0
ask_words seq (asks.GetNcnt id num) = words op.GetNcnt seq id num 0 0 0
ask_words seq (asks.GetZcnt id num) = words op.GetZcnt seq id num 0 0 0
ask_words seq (asks.GetAll id) = words op.GetAll seq id 0 0 0 0
ask_words seq (asks.SetVal id num value) = words op.SetVal seq id num (cast_unsigned w64 value) 0 0
ask_words seq (asks.SetAll id values) = words op.SetAll seq id 0 0 0 0
ask_words seq (asks.ShmGet key size flags) = words op.ShmGet seq key size flags 0 0
ask_words seq (asks.ShmAt id flags) = words op.ShmAt seq id flags 0 0 0
ask_words seq (asks.ShmDt att) = words op.ShmDt seq att 0 0 0 0
ask_words seq (asks.IpcStat kind id) = words op.IpcStat seq (code_of_kind kind) id 0 0 0
ask_words seq (asks.IpcSet kind id uid gid mode room) = words op.IpcSet seq (code_of_kind kind) id uid gid mode
ask_words seq (asks.IpcRmid kind id) = words op.IpcRmid seq (code_of_kind kind) id 0 0 0

abbrev pub look_words : ℕ → Look → Words
look_words seq (looks.Nsems id) = words op.Nsems seq id 0 0 0 0
look_words seq (looks.At kind slot any) = words op.At seq (code_of_kind kind) slot (bool_word any) 0 0
look_words seq (looks.Totals kind) = words op.Totals seq (code_of_kind kind) 0 0 0 0

abbrev pub words_of : ℕ → Request → Words
words_of seq (Hello version token) = words op.Hello seq version token 0 0 0
words_of seq (Cancel other) = words op.Cancel seq other 0 0 0 0
words_of seq Fork = words op.Fork seq 0 0 0 0 0
words_of seq (Calls ask) = ask_words seq ask
words_of seq (Looks look) = look_words seq look

abbrev pub payload_of : Request → List ℕ
payload_of (Calls (asks.MsgSnd id mtype text flags)) = text
payload_of (Calls (asks.SemOp id opers)) = flat_map oper_bytes opers
payload_of (Calls (asks.SemTimedOp id opers timeout)) = flat_map oper_bytes opers
payload_of (Calls (asks.SetAll id values)) = flat_map value_bytes values
payload_of (Calls (asks.IpcSet kind id uid gid mode room)) = room_bytes room
payload_of _ = []

-- the bytes of a message
abbrev pub encode : Message → List ℕ
encode m = words_bytes (words_of m.seq m.request) ++ payload_of m.request

-- the low 32 bits
abbrev pub low : ℕ → ℕ
low n = n % 2 ^ 32

abbrev pub kind_in : ℕ → Kind
kind_in n = if n == 0 then kinds.Queue else if n == 1 then kinds.Sems else kinds.Segment

abbrev pub timeout_in : ℕ → Option ℕ
timeout_in n = if n == 18446744073709551615 then None else Some n

-- What the words and the payload of an operation mean, if they are those of a request.
abbrev pub meant : Operation → Words → List ℕ → Request
meant op.Hello w p = Hello (low w.a) w.b
meant op.Cancel w p = Cancel (low w.a)
meant op.Fork w p = Fork
meant op.MsgGet w p = Calls (asks.MsgGet (low w.a) (low w.b))
meant op.MsgSnd w p = Calls (asks.MsgSnd w.a (cast_signed w64 w.b) p (low w.c))
meant op.MsgRcv w p = Calls (asks.MsgRcv w.a w.b (cast_signed w64 w.c) (low w.d))
meant op.SemGet w p = Calls (asks.SemGet (low w.a) (low w.b) (low w.c))
meant op.SemOp w p = Calls (asks.SemOp w.a (opers_in p))
meant op.SemTimedOp w p = Calls (asks.SemTimedOp w.a (opers_in p) (timeout_in w.b))
meant op.GetVal w p = Calls (asks.GetVal w.a (low w.b))
meant op.GetPid w p = Calls (asks.GetPid w.a (low w.b))
meant op.GetNcnt w p = Calls (asks.GetNcnt w.a (low w.b))
meant op.GetZcnt w p = Calls (asks.GetZcnt w.a (low w.b))
meant op.GetAll w p = Calls (asks.GetAll w.a)
meant op.SetVal w p = Calls (asks.SetVal w.a (low w.b) (cast_signed w32 (low w.c)))
meant op.SetAll w p = Calls (asks.SetAll w.a (values_in p))
meant op.ShmGet w p = Calls (asks.ShmGet (low w.a) w.b (low w.c))
meant op.ShmAt w p = Calls (asks.ShmAt w.a (low w.b))
meant op.ShmDt w p = Calls (asks.ShmDt (low w.a))
meant op.IpcStat w p = Calls (asks.IpcStat (kind_in w.a) w.b)
meant op.IpcSet w p = Calls (asks.IpcSet (kind_in w.a) w.b (low w.c) (low w.d) (low w.e) (room_in p))
meant op.IpcRmid w p = Calls (asks.IpcRmid (kind_in w.a) w.b)
meant op.Nsems w p = Looks (looks.Nsems w.a)
meant op.At w p = Looks (looks.At (kind_in w.a) (low w.b) (w.c == 1))
meant op.Totals w p = Looks (looks.Totals (kind_in w.a))

-- They are those of a request where it has just these words, and a payload of just this length.
abbrev pub is_request : Operation → Words → List ℕ → Request → Bool
is_request o w p r = nat_le (length p) (longest o) && same_words (words_of w.seq r) w && length (payload_of r) == length p

abbrev pub request_in : Words → List ℕ → Operation → Option Message
request_in w p o =
    if is_request o w p (meant o w p) then Some (record { seq = w.seq; request = meant o w p }) else None

-- the message of bytes; None where they are no request
abbrev pub decode : List ℕ → Option Message
decode bytes =
    if nat_lt (length bytes) 48 then None
    else option_and_then (λ o. request_in (words_in bytes) (drop 48 bytes) o) (operation_of (words_in bytes).op)
