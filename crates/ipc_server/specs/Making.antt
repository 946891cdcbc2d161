-- The calls that clients make, and how their connections are told what they came to.
use Rattle.std.specs.Prelude.{ℕ, ◌+◌, ◌==◌, ◌&&◌, nat_lt, Bool, not, List, [], ◌∷◌, ◌++◌, length, map, filter, Option, None, Some, Result, Ok, Err, is_some, if◌then◌else◌, slice_index_or}
use Rattle.std.specs.List.{list_any}
use Rattle.ipc_call.specs.declared.calls.Call.{Call}
use Rattle.ipc_call.specs.declared.replies.Answer.{Answer}
use Rattle.ipc_call.specs.declared.replies.Answer.TheVariants.{Attached}
use Rattle.ipc_call.specs.declared.replies.Reply.{Reply}
use Rattle.ipc_call.specs.declared.replies.Reply.TheVariants as entered
use Rattle.ipc_call.specs.declared.replies.Reply.TheVariants.{Entered}
use Rattle.ipc_history.specs.History.{next_step, with_event}
use Rattle.ipc_model.specs.Decision.{Outcome}
use Rattle.ipc_model.specs.Segments.{segment_at}
use Rattle.ipc_model.specs.State.{Segment, State, is_waiting, process_at}
use Rattle.ipc_model.specs.Step.{Event, Stepped}
use Rattle.ipc_objects.specs.declared.object.Object.{Object}
use Rattle.ipc_server.specs.declared.outputs.Output.{Output}
use Rattle.ipc_server.specs.declared.outputs.Output.TheVariants as outputs
use Rattle.ipc_server.specs.declared.outputs.Pass.TheVariants as pass
use Rattle.ipc_server.specs.declared.peers.Conn.{Conn}
use Rattle.ipc_server.specs.declared.peers.Conn.TheVariants.{Absent, Member}
use Rattle.ipc_server.specs.declared.peers.Role.{Role}
use Rattle.ipc_server.specs.declared.peers.Role.TheVariants.{Free, Lent}
use Rattle.ipc_server.specs.Going.{Went, and_then, says, stays}
use Rattle.ipc_server.specs.Servers.{Server, conn_at, state, with_conn}
use Rattle.ipc_space.specs.Spaces.{other_replies, own_reply}
use Rattle.ipc_wire.specs.declared.told.Hindrance.TheVariants as hindrance
use Rattle.ipc_wire.specs.declared.told.Told.{Told}
use Rattle.ipc_wire.specs.declared.told.Told.TheVariants as told
use Rattle.shm_seg.specs.Attachments.{attachment_at}
use Rattle.shm_seg.specs.declared.attachments.Attachment.{Attachment}

abbrev pub event : ℕ → ℕ → Call → Event
event now client call = record { client = client; now = now; call = call }

-- the client makes the call as the next event of the history, and what that comes to
abbrev pub made : ℕ → ℕ → Call → Server → Server
made now client call s = record s { history = with_event s.history (event now client call) }

abbrev pub result : ℕ → ℕ → Call → Server → Stepped
result now client call s = next_step s.history (event now client call)

-- it is a client, and none of its calls waits
abbrev pub may_make : Server → ℕ → Bool
may_make s client = nat_lt client (length s.history.clients) && not (is_waiting (state s) client)

abbrev pub reply : ℕ → ℕ → Told → Output
reply conn seq what = outputs.Reply conn seq what pass.Nothing

abbrev pub replies : ℕ → ℕ → Told → Server → Went
replies conn seq what s = says (reply conn seq what) s

abbrev pub told_by : Outcome → Told
told_by (Ok answer) = told.Granted answer 0
told_by (Err rule) = told.Refused rule

-- what a reply tells
abbrev pub told_of : Reply → Told
told_of (Entered place turn outcome) = told_by outcome
told_of entered.Memory = told.Hindered hindrance.Memory

-- the connection to which a client is lent, if that is there still, and the number of the request that waited
abbrev pub asked_on : ℕ → Conn → Option (ℕ × ℕ)
asked_on conn (Member peer client seq) = Some (conn, seq)
asked_on conn other = None

abbrev pub asked_as : List Conn → Role → Option (ℕ × ℕ)
asked_as conns (Lent conn) = asked_on conn (slice_index_or conns conn Absent)
asked_as conns role = None

abbrev pub asked : List Conn → List Role → ℕ → Option (ℕ × ℕ)
asked conns roles client = asked_as conns (slice_index_or roles client Free)

-- a waiting call that ends is told there
abbrev pub reply_on : Reply → Option (ℕ × ℕ) → List Output
reply_on what None = []
reply_on what (Some on) = reply on.0 on.1 (told_of what) ∷ []

abbrev pub reply_told : List Conn → List Role → ℕ → Reply → List Output
reply_told conns roles client what = reply_on what (asked conns roles client)

abbrev pub replies_told : List Conn → List Role → List (ℕ × Reply) → List Output
replies_told conns roles [] = []
replies_told conns roles (to ∷ tos) = reply_told conns roles to.0 to.1 ++ replies_told conns roles tos

-- the replies of the event that the client's call is
abbrev pub others_told : ℕ → ℕ → Call → Server → List (ℕ × Reply)
others_told now client call s = other_replies (length s.history.events + 1) (result now client call s).ended

abbrev pub own_told : ℕ → ℕ → Call → Server → Option Reply
own_told now client call s = own_reply (length s.history.events + 1) (result now client call s).own

-- the client makes the call, and the waiting calls that end are told
abbrev pub applies : ℕ → ℕ → Call → Server → Went
applies now client call s =
    record { server = made now client call s; outputs = replies_told s.conns s.roles (others_told now client call s) }

-- a call of the server's own or of a process as such, whose answer nobody is told
abbrev pub makes : ℕ → ℕ → Call → Server → Went
makes now client call s = if may_make s client then applies now client call s else stays s

-- the size of a segment in bytes, 0 where there is none
abbrev pub size_in : Option (Object Segment) → ℕ
size_in None = 0
size_in (Some segment) = length segment.contents.bytes

abbrev pub size_of : Server → ℕ → ℕ
size_of s segment = size_in (segment_at (state s).shared segment)

-- the memory of a segment is made where it wasn't
abbrev pub with_memory : ℕ → Server → Went
with_memory segment s =
    if list_any (λ own. own == segment) s.memory then stays s
    else says (outputs.Make segment (size_of s segment)) (record s { memory = s.memory ++ segment ∷ [] })

abbrev pub attached_reply : ℕ → ℕ → ℕ → Attachment → Server → Output
attached_reply conn seq number a s =
    outputs.Reply conn seq (told.Granted (Attached number) (size_of s a.segment)) (pass.Memory a.segment (not a.is_read_only))

-- what was attached under a number is passed with the reply
abbrev pub passes : ℕ → ℕ → ℕ → Option Attachment → Server → Went
passes conn seq number None s = says (reply conn seq (told.Granted (Attached number) 0)) s
passes conn seq number (Some a) s = and_then (with_memory a.segment s) (says (attached_reply conn seq number a s))

abbrev pub passes_attached : ℕ → ℕ → ℕ → ℕ → Server → Went
passes_attached conn client seq number s =
    passes conn seq number (attachment_at (state s).shared.attached (process_at (state s) client) number) s

-- the number of the connection's last request
abbrev pub under : ℕ → Conn → Conn
under seq (Member peer client before) = Member peer client seq
under seq conn = conn

-- the attachment that is told of
abbrev pub attached_by : Answer → Option ℕ
attached_by (Attached number) = Some number
attached_by answer = None

abbrev pub attached_in : Told → Option ℕ
attached_in (told.Granted answer size) = attached_by answer
attached_in other = None

abbrev pub says_told : ℕ → ℕ → ℕ → Told → Option ℕ → Server → Went
says_told conn client seq what None s = replies conn seq what s
says_told conn client seq what (Some number) s = passes_attached conn client seq number s

-- its own call is answered, or waits under the number of its request
abbrev pub answers_told : ℕ → ℕ → ℕ → Option Reply → Server → Went
answers_told conn client seq None s = stays (with_conn s conn (under seq (conn_at s conn)))
answers_told conn client seq (Some what) s = says_told conn client seq (told_of what) (attached_in (told_of what)) s

-- a call that a connection asks
abbrev pub asks : ℕ → ℕ → ℕ → ℕ → Call → Server → Went
asks now conn client seq call s =
    if may_make s client then and_then (applies now client call s) (answers_told conn client seq (own_told now client call s))
    else stays s

-- the memory of segments that are no more goes
abbrev pub is_in : State → ℕ → Bool
is_in s segment = is_some (segment_at s.shared segment)

abbrev pub drops : State → List ℕ → List Output
drops s memory = map (λ segment. outputs.Drop segment) (filter (λ segment. not (is_in s segment)) memory)

abbrev pub sweeps : Server → Went
sweeps s = record { server = record s { memory = filter (is_in (state s)) s.memory }; outputs = drops (state s) s.memory }
