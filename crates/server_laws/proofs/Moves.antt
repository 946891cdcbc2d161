-- What every step is made of. A law of all steps is one of these few, and of one after another.
use Rattle.std.proofs.Common.{◌≡◌, ℕ, ◌+◌, Bool, true, false, List, ◌++◌, Option, Some, None, Ok, Err, refl, ap, ◌∙◌, length}
use Rattle.std.specs.Prelude.{◌&&◌, ◌==◌, nat_le, not, if◌then◌else◌, slice_index_or}
use Rattle.std.specs.List.{list_any}
use Rattle.ipc_call.specs.declared.calls.Call.{Call}
use Rattle.ipc_call.specs.declared.calls.Call.TheVariants as calls
use Rattle.ipc_call.specs.declared.replies.Answer.{Answer}
use Rattle.ipc_call.specs.declared.replies.Answer.TheVariants.{Attached}
use Rattle.ipc_creds.specs.Credentials.{Credentials, groups_max}
use Rattle.ipc_model.specs.Decision.{Outcome}
use Rattle.ipc_model.specs.State.{creds_at, is_waiting, process_at}
use Rattle.ipc_namespace.specs.Looking.{soonest}
use Rattle.ipc_server.specs.declared.outputs.Closing.{Closing}
use Rattle.ipc_server.specs.declared.outputs.Closing.TheVariants as why
use Rattle.ipc_server.specs.declared.outputs.Output.{Output}
use Rattle.ipc_server.specs.declared.outputs.Output.TheVariants as outputs
use Rattle.ipc_server.specs.declared.outputs.Pass.TheVariants as pass
use Rattle.ipc_server.specs.declared.peers.Conn.{Conn}
use Rattle.ipc_server.specs.declared.peers.Conn.TheVariants.{Absent, Silent, Member}
use Rattle.ipc_server.specs.declared.peers.Peer.{Peer}
use Rattle.ipc_server.specs.declared.peers.Role.{Role}
use Rattle.ipc_server.specs.declared.peers.Role.TheVariants.{Lead, Lent, Child}
use Rattle.ipc_server.specs.declared.peers.Sender.{Sender}
use Rattle.ipc_server.specs.declared.peers.Supply.{Supply}
use Rattle.ipc_server.specs.declared.peers.Supply.TheVariants.{Enough, Short, Unread}
use Rattle.ipc_server.specs.Going.{Went, and_then, says, stays}
use Rattle.ipc_server.specs.Lives.{announces, bar, begins, closes, closes_all, comes_forth, connects, connects_unless, departs, departs_if, dies, ends, enters, executes, fork_bar, forks_unless, grows_up, has_attached, has_room, hello, hindered, identity_of, interrupts, is_begun, is_grown_up, is_let_in, is_member_of, joins, kills, leaves, lends, member_in, more_of, pid_of_child, supervisor, wonders}
use Rattle.ipc_server.specs.Looks.{look_told}
use Rattle.ipc_server.specs.Making.{answers_told, applies, attached_by, attached_reply, made, makes, may_make, own_told, passes, reply, result, says_told, under, with_memory}
use Rattle.ipc_server.specs.Servers.{Server, child_of, conn_at, free_after, free_client, lead_of, peer_in, state, with_conn, with_role}
use Rattle.ipc_server.specs.Steps.{Closed, Connected, Ended, Event, ForkLost, Mapped, Sent, Tick, first, hears, is_due, is_sender, meanwhile, next, served, serves, takes}
use Rattle.ipc_space.specs.Spaces.{own_reply}
use Rattle.ipc_wire.specs.Calls.{call_of}
use Rattle.ipc_wire.specs.Requests.{decode}
use Rattle.ipc_wire.specs.declared.requests.Message.{Message}
use Rattle.ipc_wire.specs.declared.requests.Request.{Request}
use Rattle.ipc_wire.specs.declared.requests.Request.TheVariants.{Hello, Cancel, Fork, Calls, Looks}
use Rattle.ipc_wire.specs.declared.told.Hindrance.{Hindrance}
use Rattle.ipc_wire.specs.declared.told.Hindrance.TheVariants as hindrance
use Rattle.ipc_wire.specs.declared.told.Told.TheVariants as told
use Rattle.shm_seg.specs.Attachments.{attachment_at}
use Rattle.shm_seg.specs.declared.attachments.Attachment.{Attachment}

-- it neither makes nor drops memory, nor passes any
abbrev pub is_plain : Output → Bool
is_plain (outputs.Make segment size) = false
is_plain (outputs.Drop segment) = false
is_plain (outputs.Reply conn seq what (pass.Memory segment is_writable)) = false
is_plain output = true

-- one after the other
abbrev pub joined : Went → Went → Went
joined v w = record { server = w.server; outputs = v.outputs ++ w.outputs }

-- all but the reply that passes memory
pub data Moves : Server → Went → Type 0 where
  still : (s : Server) → Moves s (stays s)
  tells : (s : Server) (output : Output) → is_plain output ≡ true → Moves s (says output s)
  makes_one : (s : Server) (now client : ℕ) (call : Call) → may_make s client ≡ true → Moves s (applies now client call s)
  goes : (s : Server) (conn : ℕ) → Moves s (stays (with_conn s conn Absent))
  comes : (s : Server) (conn pid : ℕ) (c : Credentials) → bar s conn pid c ≡ None → Moves s (stays (with_conn s conn (Silent (record { pid = pid; creds = c }))))
  joins_in : (s : Server) (conn : ℕ) (peer : Peer) (client seq : ℕ) → conn_at s conn ≡ Silent peer → Moves s (stays (with_conn s conn (Member peer client seq)))
  waits_on : (s : Server) (conn seq : ℕ) → Moves s (stays (with_conn s conn (under seq (conn_at s conn))))
  turns : (s : Server) (client : ℕ) (role : Role) → Moves s (stays (with_role s client role))
  keeps : (s : Server) (segment : ℕ) → Moves s (with_memory segment s)
  goes_all : (s : Server) (pid : ℕ) → Moves s (closes_all pid s)
  followed : {s : Server} {v w : Went} → Moves s v → Moves v.server w → Moves s (joined v w)

-- what an event leads to before memory of segments goes: a reply that passes memory comes last, and is what the call of a
-- connection came to
pub data Serves : Server → Went → Type 0 where
  plainly : {s : Server} {w : Went} → Moves s w → Serves s w
  passing : (s : Server) (now conn client seq : ℕ) (call : Call) (peer : Peer) (before number : ℕ) (a : Attachment)
      → may_make s client ≡ true → conn_at s conn ≡ Member peer client before
      → (result now client call s).own ≡ Some (Ok (Attached number))
      → attachment_at (state (made now client call s)).shared.attached (process_at (state (made now client call s)) client) number ≡ Some a
      → Serves s (and_then (applies now client call s) (λ t. and_then (with_memory a.segment t) (says (attached_reply conn seq number a t))))

-- by a test, and one after another
by_test : {s : Server} {v w : Went} (b : Bool) → Moves s v → Moves s w → Moves s (if b then v else w)
by_test true m n = m
by_test false m n = n

and_moves : {s : Server} {v : Went} (go : Server → Went) → Moves s v → ((t : Server) → Moves t (go t)) → Moves s (and_then v go)
and_moves {s} {v} go m moves = followed m (moves v.server)

-- a call made where that may be
by_may : (now client : ℕ) (call : Call) (s : Server) (b : Bool) → may_make s client ≡ b → Moves s (if b then applies now client call s else stays s)
by_may now client call s true may = makes_one s now client call may
by_may now client call s false may = still s

makes_moves : (now client : ℕ) (call : Call) (s : Server) → Moves s (makes now client call s)
makes_moves now client call s = by_may now client call s (may_make s client) refl

interrupts_moves : (now client : ℕ) (s : Server) → Moves s (interrupts now client s)
interrupts_moves now client s = by_test (is_waiting (state s) client) (makes_moves now supervisor (calls.InterruptThread client) s) (still s)

hindered_moves : (conn seq : ℕ) (why : Hindrance) (s : Server) → Moves s (hindered conn seq why s)
hindered_moves conn seq why s = tells s (reply conn seq (told.Hindered why)) refl

-- the end of a connection
wonders_moves : (pid : ℕ) (lead : Option ℕ) (s : Server) → Moves s (wonders pid lead s)
wonders_moves pid None s = still s
wonders_moves pid (Some lead) s = by_test (not (list_any (is_member_of pid) s.conns) && has_attached s lead) (tells s (outputs.Ask pid) refl) (still s)

departs_moves : (now pid client : ℕ) (s : Server) → Moves s (departs now pid client s)
departs_moves now pid client s =
    and_moves (λ s. and_then (makes now client calls.Exit s) (λ s. wonders pid (lead_of s pid) s)) (interrupts_moves now client s)
    (λ t. and_moves (λ s. wonders pid (lead_of s pid) s) (makes_moves now client calls.Exit t) (λ u. wonders_moves pid (lead_of u pid) u))

departs_if_moves : (now : ℕ) (member : Option (ℕ × ℕ)) (s : Server) → Moves s (departs_if now member s)
departs_if_moves now None s = still s
departs_if_moves now (Some member) s = departs_moves now member.0 member.1 s

leaves_moves : (now conn : ℕ) (c : Conn) (s : Server) → Moves s (leaves now conn c s)
leaves_moves now conn c s = followed (goes s conn) (departs_if_moves now (member_in c) (with_conn s conn Absent))

closes_moves : (now conn : ℕ) (why : Closing) (s : Server) → Moves s (closes now conn why s)
closes_moves now conn why s = and_moves (λ s. leaves now conn (conn_at s conn) s) (tells s (outputs.Close conn why) refl) (λ t. leaves_moves now conn (conn_at t conn) t)

-- the beginning of one
unless_moves : (conn pid : ℕ) (c : Credentials) (s : Server) (o : Option Closing) → bar s conn pid c ≡ o → Moves s (connects_unless o conn (record { pid = pid; creds = c }) s)
unless_moves conn pid c s (Some why) is = tells s (outputs.Close conn why) refl
unless_moves conn pid c s None is = comes s conn pid c is

connects_moves : (conn pid : ℕ) (c : Credentials) (s : Server) → Moves s (connects conn pid c s)
connects_moves conn pid c s = by_test (not (nat_le (length c.groups) groups_max)) (tells s (outputs.Close conn why.TooManyGroups) refl) (unless_moves conn pid c s (bar s conn pid c) refl)

-- its first message
conns_made : (now client : ℕ) (call : Call) (s : Server) (b : Bool) → (if b then applies now client call s else stays s).server.conns ≡ s.conns
conns_made now client call s true = refl
conns_made now client call s false = refl

pub conns_kept : (now client : ℕ) (call : Call) (s : Server) → (makes now client call s).server.conns ≡ s.conns
conns_kept now client call s = conns_made now client call s (may_make s client)

silent_kept : (now client : ℕ) (call : Call) (s : Server) (conn : ℕ) (peer : Peer) → conn_at s conn ≡ Silent peer → conn_at (makes now client call s).server conn ≡ Silent peer
silent_kept now client call s conn peer silent = ap (λ cs. slice_index_or cs conn Absent) (conns_kept now client call s) ∙ silent

module _ (now conn : ℕ) (peer : Peer) (seq : ℕ) where
  let_in_moves : (client : ℕ) (s : Server) → conn_at s conn ≡ Silent peer → Moves s (is_let_in conn peer seq client s)
  let_in_moves client s silent =
      let there = with_conn s conn (Member peer client seq) in
      followed (joins_in s conn peer client seq silent) (followed (turns there client (Lent conn)) (tells (with_role there client (Lent conn)) (reply conn seq (told.Client client)) refl))

  lends_moves : (lead client : ℕ) (s : Server) → conn_at s conn ≡ Silent peer → Moves s (lends now conn peer seq lead client s)
  lends_moves lead client s silent =
      let cloned = (makes now lead (calls.Clone client) s).server in
      let clones = silent_kept now lead (calls.Clone client) s conn peer silent in
      let assumed = (makes now client (calls.Assume (identity_of peer.creds)) cloned).server in
      followed (makes_moves now lead (calls.Clone client) s) (followed (makes_moves now client (calls.Assume (identity_of peer.creds)) cloned)
      (let_in_moves client assumed (silent_kept now client (calls.Assume (identity_of peer.creds)) cloned conn peer clones)))

  joins_moves : (lead : ℕ) (client : Option ℕ) (s : Server) → conn_at s conn ≡ Silent peer → Moves s (joins now conn peer seq lead client s)
  joins_moves lead None s silent = hindered_moves conn seq hindrance.NoClientLeft s
  joins_moves lead (Some client) s silent = by_test (has_room s peer.creds.euid 1) (lends_moves lead client s silent) (hindered_moves conn seq hindrance.TooManyOfUser s)

  begun_moves : (lead client : ℕ) (s : Server) → conn_at s conn ≡ Silent peer → Moves s (is_begun now conn peer seq lead client s)
  begun_moves lead client s silent =
      let begins = calls.Begin peer.pid (identity_of peer.creds) in
      let begun = (makes now lead begins s).server in
      followed (followed (makes_moves now lead begins s) (turns begun lead Lead)) (lends_moves lead client (with_role begun lead Lead) (silent_kept now lead begins s conn peer silent))

  begins_moves : (lead client : Option ℕ) (s : Server) → conn_at s conn ≡ Silent peer → Moves s (begins now conn peer seq lead client s)
  begins_moves (Some lead) (Some client) s silent = by_test (has_room s peer.creds.euid 2) (begun_moves lead client s silent) (hindered_moves conn seq hindrance.TooManyOfUser s)
  begins_moves (Some lead) None s silent = hindered_moves conn seq hindrance.NoClientLeft s
  begins_moves None client s silent = hindered_moves conn seq hindrance.NoClientLeft s

  enters_moves : (lead : Option ℕ) (s : Server) → conn_at s conn ≡ Silent peer → Moves s (enters now conn peer seq lead s)
  enters_moves (Some lead) s silent = joins_moves lead (free_client s) s silent
  enters_moves None s silent = begins_moves (free_client s) (free_after (free_client s) s) s silent

  grown_moves : (child client : ℕ) (s : Server) → conn_at s conn ≡ Silent peer → Moves s (is_grown_up now conn peer seq child client s)
  grown_moves child client s silent =
      let named = (makes now child (calls.Name peer.pid) s).server in
      let names = silent_kept now child (calls.Name peer.pid) s conn peer silent in
      let assumes = calls.Assume (identity_of peer.creds) in
      let assumed = (makes now child assumes named).server in
      followed (followed (makes_moves now child (calls.Name peer.pid) s) (followed (makes_moves now child assumes named) (turns assumed child Lead)))
      (lends_moves child client (with_role assumed child Lead) (silent_kept now child assumes named conn peer names))

  grows_moves : (child : ℕ) (client : Option ℕ) (s : Server) → conn_at s conn ≡ Silent peer → Moves s (grows_up now conn peer seq child client s)
  grows_moves child None s silent = hindered_moves conn seq hindrance.NoClientLeft s
  grows_moves child (Some client) s silent = by_test (has_room s peer.creds.euid (more_of (creds_at (state s) child).euid peer.creds.euid)) (grown_moves child client s silent) (hindered_moves conn seq hindrance.TooManyOfUser s)

  forth_moves : (child lead : Option ℕ) (s : Server) → conn_at s conn ≡ Silent peer → Moves s (comes_forth now conn peer seq child lead s)
  forth_moves (Some child) None s silent = grows_moves child (free_client s) s silent
  forth_moves (Some child) (Some lead) s silent = closes_moves now conn why.BadToken s
  forth_moves None lead s silent = closes_moves now conn why.BadToken s

  hello_moves : (version token : ℕ) (s : Server) → conn_at s conn ≡ Silent peer → Moves s (hello now conn peer seq version token s)
  hello_moves version token s silent = by_test (not (version == 1)) (closes_moves now conn why.BadVersion s)
      (by_test (token == 0) (enters_moves (lead_of s peer.pid) s silent) (forth_moves (child_of s token) (lead_of s peer.pid) s silent))

  first_moves : (request : Request) (s : Server) → conn_at s conn ≡ Silent peer → Moves s (first now conn peer seq request s)
  first_moves (Hello version token) s silent = hello_moves version token s silent
  first_moves (Cancel other) s silent = closes_moves now conn why.OutOfTurn s
  first_moves Fork s silent = closes_moves now conn why.OutOfTurn s
  first_moves (Calls ask) s silent = closes_moves now conn why.OutOfTurn s
  first_moves (Looks look) s silent = closes_moves now conn why.OutOfTurn s

-- a fork
announces_moves : (now conn euid seq token : ℕ) (lead child : Option ℕ) (s : Server) → Moves s (announces now conn euid seq token lead child s)
announces_moves now conn euid seq token (Some lead) (Some child) s =
    let forked = (makes now lead (calls.Fork child (pid_of_child child)) s).server in
    followed (makes_moves now lead (calls.Fork child (pid_of_child child)) s)
    (followed (turns forked child (Child token euid)) (tells (with_role forked child (Child token euid)) (outputs.Reply conn seq (told.Token token) (pass.Fork token)) refl))
announces_moves now conn euid seq token (Some lead) None s = hindered_moves conn seq hindrance.NoClientLeft s
announces_moves now conn euid seq token None child s = hindered_moves conn seq hindrance.NoClientLeft s

forks_moves : (o : Option Hindrance) (now conn pid euid seq token : ℕ) (s : Server) → Moves s (forks_unless o now conn pid euid seq token s)
forks_moves (Some why) now conn pid euid seq token s = hindered_moves conn seq why s
forks_moves None now conn pid euid seq token s = announces_moves now conn euid seq token (lead_of s pid) (free_client s) s

-- the end of a process
dies_moves : (now : ℕ) (child : Option ℕ) (s : Server) → Moves s (dies now child s)
dies_moves now None s = still s
dies_moves now (Some child) s = makes_moves now supervisor (calls.Kill (pid_of_child child)) s

kills_moves : (now pid : ℕ) (lead : Option ℕ) (s : Server) → Moves s (kills now pid lead s)
kills_moves now pid None s = still s
kills_moves now pid (Some lead) s = makes_moves now supervisor (calls.Kill pid) s

ends_moves : (now pid : ℕ) (s : Server) → Moves s (ends now pid s)
ends_moves now pid s = and_moves (λ s. kills now pid (lead_of s pid) s) (goes_all s pid) (λ t. kills_moves now pid (lead_of t pid) t)

executes_moves : (now pid : ℕ) (lead : Option ℕ) (s : Server) → Moves s (executes now pid lead s)
executes_moves now pid None s = still s
executes_moves now pid (Some lead) s = by_test (list_any (is_member_of pid) s.conns) (still s) (makes_moves now lead calls.Exec s)

-- a call of a connection
by_serving : {s : Server} {v w : Went} (b : Bool) → Serves s v → Serves s w → Serves s (if b then v else w)
by_serving true m n = m
by_serving false m n = n

module _ (now conn client seq : ℕ) (call : Call) (s : Server) (may : may_make s client ≡ true) (peer : Peer) (before : ℕ) (there : conn_at s conn ≡ Member peer client before) where
  abbrev t : Server
  t = made now client call s

  number_serves : (number : ℕ) → (result now client call s).own ≡ Some (Ok (Attached number)) → (o : Option Attachment)
      → attachment_at (state t).shared.attached (process_at (state t) client) number ≡ o → Serves s (and_then (applies now client call s) (passes conn seq number o))
  number_serves number own None is = plainly (followed (makes_one s now client call may) (tells t (reply conn seq (told.Granted (Attached number) 0)) refl))
  number_serves number own (Some a) is = passing s now conn client seq call peer before number a may there own is

  answer_serves : (answer : Answer) → (result now client call s).own ≡ Some (Ok answer)
      → Serves s (and_then (applies now client call s) (says_told conn client seq (told.Granted answer 0) (attached_by answer)))
  answer_serves (Attached number) own = number_serves number own (attachment_at (state t).shared.attached (process_at (state t) client) number) refl
  answer_serves answer own = plainly (followed (makes_one s now client call may) (tells t (reply conn seq (told.Granted answer 0)) refl))

  own_serves : (o : Option Outcome) → (result now client call s).own ≡ o
      → Serves s (and_then (applies now client call s) (answers_told conn client seq (own_reply (length s.history.events + 1) o)))
  own_serves None own = plainly (followed (makes_one s now client call may) (waits_on t conn seq))
  own_serves (Some (Ok answer)) own = answer_serves answer own
  own_serves (Some (Err rule)) own = plainly (followed (makes_one s now client call may) (tells t (reply conn seq (told.Refused rule)) refl))

by_asking : (now conn client seq : ℕ) (call : Call) (s : Server) (peer : Peer) (before : ℕ) → conn_at s conn ≡ Member peer client before → (b : Bool) → may_make s client ≡ b
    → Serves s (if b then and_then (applies now client call s) (answers_told conn client seq (own_told now client call s)) else stays s)
by_asking now conn client seq call s peer before there true may = own_serves now conn client seq call s may peer before there (result now client call s).own refl
by_asking now conn client seq call s peer before there false may = plainly (still s)

-- the messages of a connection
next_serves : (now conn : ℕ) (peer : Peer) (client token seq before : ℕ) (request : Request) (s : Server) → conn_at s conn ≡ Member peer client before
    → Serves s (next now conn peer client token seq request s)
next_serves now conn peer client token seq before (Hello version other) s there = plainly (closes_moves now conn why.OutOfTurn s)
next_serves now conn peer client token seq before (Cancel other) s there = plainly (still s)
next_serves now conn peer client token seq before Fork s there = plainly (forks_moves (fork_bar s peer.creds.euid token) now conn peer.pid peer.creds.euid seq token s)
next_serves now conn peer client token seq before (Calls ask) s there = by_asking now conn client seq (call_of ask) s peer before there (may_make s client) refl
next_serves now conn peer client token seq before (Looks look) s there = plainly (tells s (reply conn seq (look_told s peer look)) refl)

meanwhile_moves : (now conn client seq : ℕ) (request : Request) (s : Server) → Moves s (meanwhile now conn client seq request s)
meanwhile_moves now conn client seq (Cancel other) s = by_test (other == seq) (interrupts_moves now client s) (still s)
meanwhile_moves now conn client seq (Hello version token) s = closes_moves now conn why.TwoRequests s
meanwhile_moves now conn client seq Fork s = closes_moves now conn why.TwoRequests s
meanwhile_moves now conn client seq (Calls ask) s = closes_moves now conn why.TwoRequests s
meanwhile_moves now conn client seq (Looks look) s = closes_moves now conn why.TwoRequests s

takes_serves : (now conn token : ℕ) (m : Message) (c : Conn) (s : Server) → conn_at s conn ≡ c → Serves s (takes now conn token m c s)
takes_serves now conn token m Absent s is = plainly (still s)
takes_serves now conn token m (Silent peer) s is = plainly (first_moves now conn peer m.seq m.request s is)
takes_serves now conn token m (Member peer client seq) s is =
    by_serving (is_waiting (state s) client) (plainly (meanwhile_moves now conn client seq m.request s)) (next_serves now conn peer client token m.seq seq m.request s is)

served_serves : (supply : Supply) (now conn token : ℕ) (m : Option Message) (s : Server) → Serves s (served supply now conn token m s)
served_serves Unread now conn token m s = plainly (closes_moves now conn why.Memory s)
served_serves Enough now conn token None s = plainly (closes_moves now conn why.NoRequest s)
served_serves Short now conn token None s = plainly (closes_moves now conn why.NoRequest s)
served_serves Enough now conn token (Some m) s = takes_serves now conn token m (conn_at s conn) s refl
served_serves Short now conn token (Some m) s = plainly (hindered_moves conn m.seq hindrance.Memory s)

hears_serves : (supply : Supply) (now conn : ℕ) (sender : Sender) (bytes : List ℕ) (token : ℕ) (peer : Option Peer) (s : Server) → Serves s (hears supply now conn sender bytes token peer s)
hears_serves supply now conn sender bytes token None s = plainly (still s)
hears_serves supply now conn sender bytes token (Some peer) s =
    by_serving (is_sender peer sender) (served_serves supply now conn token (decode bytes) s) (plainly (closes_moves now conn why.AnotherSender s))

-- what each event leads to
pub serves_by : (supply : Supply) (now : ℕ) (e : Event) (s : Server) → Serves s (serves supply now e s)
serves_by supply now (Connected conn pid creds) s = plainly (connects_moves conn pid creds s)
serves_by supply now (Sent conn sender bytes token) s = hears_serves supply now conn sender bytes token (peer_in (conn_at s conn)) s
serves_by supply now (Closed conn) s = plainly (leaves_moves now conn (conn_at s conn) s)
serves_by supply now (Mapped pid is_mapped) s = plainly (by_test is_mapped (still s) (executes_moves now pid (lead_of s pid) s))
serves_by supply now (Ended pid) s = plainly (ends_moves now pid s)
serves_by supply now (ForkLost token) s = plainly (dies_moves now (child_of s token) s)
serves_by supply now Tick s = plainly (by_test (is_due now (soonest (state s).parked)) (makes_moves now supervisor (calls.Interrupt 0) s) (still s))
