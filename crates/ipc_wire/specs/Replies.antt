-- The bytes of each reply.
use Rattle.std.specs.Prelude.{ℕ, ◌+◌, Bool, List, [], ◌∷◌, ◌++◌, if◌then◌else◌}
use Rattle.std.specs.List.{flat_map}
use Rattle.std.specs.Int.{Width, w16, w32, w64, cast_unsigned, to_le_bytes}
use Rattle.ipc_abi.specs.Rules.{code_of_rule}
use Rattle.ipc_call.specs.Rules.{number_of}
use Rattle.ipc_call.specs.declared.perms.Perm.{Perm}
use Rattle.ipc_call.specs.declared.replies.Answer.{Answer}
use Rattle.ipc_call.specs.declared.replies.Answer.TheVariants as answers
use Rattle.ipc_call.specs.declared.replies.Status.{Status}
use Rattle.ipc_call.specs.declared.replies.Status.TheVariants as statuses
use Rattle.ipc_wire.specs.declared.told.Head.{Head}
use Rattle.ipc_wire.specs.declared.told.Hindrance.{Hindrance}
use Rattle.ipc_wire.specs.declared.told.Hindrance.TheVariants.{NoClientLeft, Memory, TooManyOfUser, TooManyForks}
use Rattle.ipc_wire.specs.declared.told.Told.{Told}
use Rattle.ipc_wire.specs.declared.told.Told.TheVariants.{Client, Token, Granted, Refused, Hindered, Nsems, At, Totals}

abbrev pub granted : ℕ → ℕ → ℕ → ℕ → ℕ → Head
granted seq sort v0 v1 v2 = record { seq = seq; error = 0; rule = 0; sort = sort; v0 = v0; v1 = v1; v2 = v2 }

-- with the number of the error and the code of the rule
abbrev pub refused : ℕ → ℕ → ℕ → Head
refused seq error rule = record { seq = seq; error = error; rule = rule; sort = 0; v0 = 0; v1 = 0; v2 = 0 }

-- size: of the segment that was attached
abbrev pub answer_head : ℕ → ℕ → Answer → Head
answer_head seq size (answers.Id id) = granted seq 1 id 0 0
answer_head seq size answers.Done = granted seq 2 0 0 0
answer_head seq size (answers.Message mtype text) = granted seq 3 (cast_unsigned w64 mtype) 0 0
answer_head seq size (answers.Status status) = granted seq 4 0 0 0
answer_head seq size (answers.Value value) = granted seq 5 value 0 0
answer_head seq size (answers.Values values) = granted seq 6 0 0 0
answer_head seq size (answers.Attached number) = granted seq 7 number size 0
answer_head seq size (answers.Bytes bytes) = granted seq 8 0 0 0
answer_head seq size (answers.Rows rows) = granted seq 9 0 0 0

-- The server's own refusals have the codes behind those of rules. EAGAIN is 11, ENOMEM 12.
abbrev pub hindrance_head : ℕ → Hindrance → Head
hindrance_head seq NoClientLeft = refused seq 11 42
hindrance_head seq Memory = refused seq 12 43
hindrance_head seq TooManyOfUser = refused seq 11 44
hindrance_head seq TooManyForks = refused seq 11 45

abbrev pub head_of : ℕ → Told → Head
head_of seq (Client client) = granted seq 10 client 0 0
head_of seq (Token token) = granted seq 11 token 0 0
head_of seq (Nsems n) = granted seq 12 n 0 0
head_of seq (At id status) = granted seq 13 id 0 0
head_of seq (Totals highest objects amount) = granted seq 14 highest objects amount
head_of seq (Granted answer size) = answer_head seq size answer
head_of seq (Refused rule) = refused seq (number_of rule) (code_of_rule rule)
head_of seq (Hindered hindrance) = hindrance_head seq hindrance

-- numbers of a width, one behind the other
unfoldable pub numbers_bytes : Width → List ℕ → List ℕ
numbers_bytes w ns = flat_map (to_le_bytes w) ns

abbrev pub head_bytes : Head → List ℕ
head_bytes h =
    numbers_bytes w32 (h.seq ∷ h.error ∷ h.rule ∷ h.sort ∷ []) ++ numbers_bytes w64 (h.v0 ∷ h.v1 ∷ h.v2 ∷ [])

abbrev pub perm_bytes : Perm → ℕ → List ℕ
perm_bytes p mode = numbers_bytes w64 (p.key ∷ p.uid ∷ p.gid ∷ p.cuid ∷ p.cgid ∷ mode ∷ [])

-- the mode of a segment that goes with its last attachment has SHM_DEST, which is 512
abbrev pub marked_mode : Bool → ℕ → ℕ
marked_mode is_marked mode = if is_marked then mode + 512 else mode

-- each field is a number of 64 bits
unfoldable pub status_bytes : Status → List ℕ
status_bytes (statuses.Queue q) =
    perm_bytes q.perm q.perm.mode
    ++ numbers_bytes w64 (q.cbytes ∷ q.qnum ∷ q.qbytes ∷ q.lspid ∷ q.lrpid ∷ q.stime ∷ q.rtime ∷ q.ctime ∷ [])
status_bytes (statuses.Set s) = perm_bytes s.perm s.perm.mode ++ numbers_bytes w64 (s.nsems ∷ s.otime ∷ s.ctime ∷ [])
status_bytes (statuses.Segment s) =
    perm_bytes s.perm (marked_mode s.is_marked s.perm.mode)
    ++ numbers_bytes w64 (s.size ∷ s.nattch ∷ s.cpid ∷ s.lpid ∷ s.atime ∷ s.dtime ∷ s.ctime ∷ [])

abbrev pub answer_payload : Answer → List ℕ
answer_payload (answers.Message mtype text) = text
answer_payload (answers.Status status) = status_bytes status
answer_payload (answers.Values values) = numbers_bytes w16 values
answer_payload (answers.Bytes bytes) = bytes
answer_payload _ = []

abbrev pub payload_told : Told → List ℕ
payload_told (Granted answer size) = answer_payload answer
payload_told (At id status) = status_bytes status
payload_told _ = []

-- the bytes of a reply to the request of this number
abbrev pub reply_bytes : ℕ → Told → List ℕ
reply_bytes seq told = head_bytes (head_of seq told) ++ payload_told told
