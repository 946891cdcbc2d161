-- How connections begin and end, and with them threads and processes.
use Rattle.std.specs.Prelude.{ℕ, ◌+◌, ◌==◌, ◌&&◌, ◌||◌, nat_le, nat_lt, Bool, true, false, not, List, [], ◌∷◌, length, map, filter, Option, None, Some, is_some, if◌then◌else◌, slice_index_or}
use Rattle.std.specs.List.{list_any, range_with_len}
use Rattle.ipc_call.specs.declared.calls.Call.{Call}
use Rattle.ipc_call.specs.declared.calls.Call.TheVariants as calls
use Rattle.ipc_call.specs.declared.calls.Identity.{Identity}
use Rattle.ipc_creds.specs.Credentials.{Credentials, groups_max}
use Rattle.ipc_model.specs.State.{State, creds_at, is_waiting, process_at}
use Rattle.ipc_server.specs.declared.outputs.Closing.{Closing}
use Rattle.ipc_server.specs.declared.outputs.Closing.TheVariants as why
use Rattle.ipc_server.specs.declared.outputs.Output.{Output}
use Rattle.ipc_server.specs.declared.outputs.Output.TheVariants as outputs
use Rattle.ipc_server.specs.declared.outputs.Pass.TheVariants as pass
use Rattle.ipc_server.specs.declared.peers.Conn.{Conn}
use Rattle.ipc_server.specs.declared.peers.Conn.TheVariants.{Absent, Silent, Member}
use Rattle.ipc_server.specs.declared.peers.Peer.{Peer}
use Rattle.ipc_server.specs.declared.peers.Role.TheVariants.{Lead, Lent, Child}
use Rattle.ipc_server.specs.Going.{Went, and_then, says, stays}
use Rattle.ipc_server.specs.Making.{makes, reply, replies}
use Rattle.ipc_server.specs.Servers.{Server, announced_by, child_of, children, conn_at, count, free_after, free_client, has_user, is_child, is_member, is_of, is_process, is_silent, lead_of, of_user, peer_in, state, with_conn, with_role}
use Rattle.ipc_wire.specs.declared.told.Hindrance.{Hindrance}
use Rattle.ipc_wire.specs.declared.told.Hindrance.TheVariants as hindrance
use Rattle.ipc_wire.specs.declared.told.Told.TheVariants as told
use Rattle.shm_seg.specs.Attachments.{attachment_at}

-- client 0 makes the calls of the server itself
abbrev pub supervisor : ℕ
supervisor = 0

abbrev pub identity_of : Credentials → Identity
identity_of c = record {
  euid = c.euid;
  egid = c.egid;
  groups = c.groups;
  caps = c.caps;
  ruid = c.ruid;
  suid = c.suid;
  rgid = c.rgid;
  sgid = c.sgid;
}

-- the pid of a child that was announced, until its first message tells its own: none that the kernel gives
abbrev pub pid_of_child : ℕ → ℕ
pid_of_child client = 2147483648 + client

abbrev pub hindered : ℕ → ℕ → Hindrance → Server → Went
hindered conn seq why s = replies conn seq (told.Hindered why) s

-- THE END OF A CONNECTION

-- what a client waits for ends
abbrev pub interrupts : ℕ → ℕ → Server → Went
interrupts now client s =
    if is_waiting (state s) client then makes now supervisor (calls.InterruptThread client) s else stays s

-- some connection of the process has a client
abbrev pub is_member_of : ℕ → Conn → Bool
is_member_of pid conn = is_member conn && is_of (is_process pid) conn

-- the client's process has something attached
unfoldable pub has_any : State → ℕ → Bool
has_any s client =
    list_any (λ number. is_some (attachment_at s.shared.attached (process_at s client) number)) (range_with_len 0 4096)

abbrev pub has_attached : Server → ℕ → Bool
has_attached s client = has_any (state s) client

-- where that was its process's last, and it has something attached, whether it is mapped is to be found out
abbrev pub wonders_of : ℕ → ℕ → Server → Went
wonders_of pid lead s =
    if not (list_any (is_member_of pid) s.conns) && has_attached s lead then says (outputs.Ask pid) s else stays s

abbrev pub wonders : ℕ → Option ℕ → Server → Went
wonders pid None s = stays s
wonders pid (Some lead) s = wonders_of pid lead s

-- the pid and the client of a connection to which one is lent
abbrev pub member_in : Conn → Option (ℕ × ℕ)
member_in Absent = None
member_in (Silent peer) = None
member_in (Member peer client seq) = Some (peer.pid, client)

-- what the client of a connection waits for ends, which nobody is told, and its thread
abbrev pub departs : ℕ → ℕ → ℕ → Server → Went
departs now pid client s =
    and_then (interrupts now client s) (λ s.
    and_then (makes now client calls.Exit s) (λ s.
    wonders pid (lead_of s pid) s))

abbrev pub departs_if : ℕ → Option (ℕ × ℕ) → Server → Went
departs_if now None s = stays s
departs_if now (Some member) s = departs now member.0 member.1 s

-- the connection is there no more
abbrev pub leaves : ℕ → ℕ → Conn → Server → Went
leaves now conn c s = departs_if now (member_in c) (with_conn s conn Absent)

-- the server itself closes it
abbrev pub closes : ℕ → ℕ → Closing → Server → Went
closes now conn why s = and_then (says (outputs.Close conn why) s) (λ s. leaves now conn (conn_at s conn) s)

-- THE BEGINNING OF A CONNECTION

-- why a connection may not be: of a number that is free, and of any
abbrev pub new_bar : Server → ℕ → ℕ → Option Closing
new_bar s pid euid =
    if not (nat_lt 0 pid && nat_lt pid 2147483648) then Some why.BadPid
    else if nat_le s.bounds.silent (count is_silent s.conns) then Some why.TooManySilent
    else if nat_le s.bounds.conns_of_user (count (is_of (has_user euid)) s.conns) then Some why.TooManyOfUser
    else if nat_le s.bounds.silent_of_user (count (λ conn. is_silent conn && is_of (has_user euid) conn) s.conns) then Some why.TooManySilentOfUser
    else None

-- there may be a connection of this number, and there is none
abbrev pub is_free : Server → ℕ → Bool
is_free s conn = nat_lt conn (length s.conns) && not (is_some (peer_in (conn_at s conn)))

abbrev pub bar : Server → ℕ → ℕ → Credentials → Option Closing
bar s conn pid c = if is_free s conn then new_bar s pid c.euid else Some why.BadNumber

abbrev pub connects_unless : Option Closing → ℕ → Peer → Server → Went
connects_unless (Some why) conn peer s = says (outputs.Close conn why) s
connects_unless None conn peer s = stays (with_conn s conn (Silent peer))

-- a connection of a process with these credentials. One with too many groups is closed: who is cut out of a group could gain by
-- the bits of others
abbrev pub connects : ℕ → ℕ → Credentials → Server → Went
connects conn pid c s =
    if not (nat_le (length c.groups) groups_max) then says (outputs.Close conn why.TooManyGroups) s
    else connects_unless (bar s conn pid c) conn (record { pid = pid; creds = c }) s

-- THE FIRST MESSAGE

-- the connection has the client, and is told so
abbrev pub is_let_in : ℕ → Peer → ℕ → ℕ → Server → Went
is_let_in conn peer seq client s =
    says (reply conn seq (told.Client client)) (with_role (with_conn s conn (Member peer client seq)) client (Lent conn))

-- a client is lent to the connection: a thread of the process with the credentials of its peer
abbrev pub lends : ℕ → ℕ → Peer → ℕ → ℕ → ℕ → Server → Went
lends now conn peer seq lead client s =
    and_then (makes now lead (calls.Clone client) s) (λ s.
    and_then (makes now client (calls.Assume (identity_of peer.creds)) s) (λ s.
    is_let_in conn peer seq client s))

-- the user may have so many clients more
abbrev pub has_room : Server → ℕ → ℕ → Bool
has_room s euid more = nat_le (of_user s euid + more) s.bounds.clients_of_user

-- of a process that is there
abbrev pub joins : ℕ → ℕ → Peer → ℕ → ℕ → Option ℕ → Server → Went
joins now conn peer seq lead None s = hindered conn seq hindrance.NoClientLeft s
joins now conn peer seq lead (Some client) s =
    if has_room s peer.creds.euid 1 then lends now conn peer seq lead client s
    else hindered conn seq hindrance.TooManyOfUser s

-- of one that isn't: it begins, with a lead
abbrev pub founds : ℕ → ℕ → Identity → ℕ → Server → Went
founds now pid identity lead s =
    and_then (makes now lead (calls.Begin pid identity) s) (λ s. stays (with_role s lead Lead))

abbrev pub is_begun : ℕ → ℕ → Peer → ℕ → ℕ → ℕ → Server → Went
is_begun now conn peer seq lead client s =
    and_then (founds now peer.pid (identity_of peer.creds) lead s) (λ s. lends now conn peer seq lead client s)

abbrev pub begins : ℕ → ℕ → Peer → ℕ → Option ℕ → Option ℕ → Server → Went
begins now conn peer seq (Some lead) (Some client) s =
    if has_room s peer.creds.euid 2 then is_begun now conn peer seq lead client s
    else hindered conn seq hindrance.TooManyOfUser s
begins now conn peer seq lead client s = hindered conn seq hindrance.NoClientLeft s

abbrev pub enters : ℕ → ℕ → Peer → ℕ → Option ℕ → Server → Went
enters now conn peer seq (Some lead) s = joins now conn peer seq lead (free_client s) s
enters now conn peer seq None s = begins now conn peer seq (free_client s) (free_after (free_client s) s) s

-- of a child that was announced: it tells its number and its credentials, and is the lead of its process
abbrev pub shows_up : ℕ → ℕ → Identity → ℕ → Server → Went
shows_up now pid identity child s =
    and_then (makes now child (calls.Name pid) s) (λ s.
    and_then (makes now child (calls.Assume identity) s) (λ s.
    stays (with_role s child Lead)))

-- the child counts among its announcer's clients already
abbrev pub more_of : ℕ → ℕ → ℕ
more_of euid other = if euid == other then 1 else 2

abbrev pub is_grown_up : ℕ → ℕ → Peer → ℕ → ℕ → ℕ → Server → Went
is_grown_up now conn peer seq child client s =
    and_then (shows_up now peer.pid (identity_of peer.creds) child s) (λ s. lends now conn peer seq child client s)

abbrev pub grows_up : ℕ → ℕ → Peer → ℕ → ℕ → Option ℕ → Server → Went
grows_up now conn peer seq child None s = hindered conn seq hindrance.NoClientLeft s
grows_up now conn peer seq child (Some client) s =
    if has_room s peer.creds.euid (more_of (creds_at (state s) child).euid peer.creds.euid) then
    is_grown_up now conn peer seq child client s
    else hindered conn seq hindrance.TooManyOfUser s

abbrev pub comes_forth : ℕ → ℕ → Peer → ℕ → Option ℕ → Option ℕ → Server → Went
comes_forth now conn peer seq (Some child) None s = grows_up now conn peer seq child (free_client s) s
comes_forth now conn peer seq child lead s = closes now conn why.BadToken s

abbrev pub hello : ℕ → ℕ → Peer → ℕ → ℕ → ℕ → Server → Went
hello now conn peer seq version token s =
    if not (version == 1) then closes now conn why.BadVersion s
    else if token == 0 then enters now conn peer seq (lead_of s peer.pid) s
    else comes_forth now conn peer seq (child_of s token) (lead_of s peer.pid) s

-- A FORK

-- why it may not be
abbrev pub fork_bar : Server → ℕ → ℕ → Option Hindrance
fork_bar s euid token =
    if nat_le s.bounds.forks (children s is_child) then Some hindrance.TooManyForks
    else if nat_le s.bounds.forks_of_user (children s (announced_by euid)) then Some hindrance.TooManyForks
    else if not (has_room s euid 1) then Some hindrance.TooManyOfUser
    else if token == 0 || is_some (child_of s token) then Some hindrance.TooManyForks
    else None

-- the child is announced, and the connection is told its token
abbrev pub grants_fork : ℕ → ℕ → ℕ → ℕ → ℕ → Server → Went
grants_fork conn seq token child euid s =
    says (outputs.Reply conn seq (told.Token token) (pass.Fork token)) (with_role s child (Child token euid))

abbrev pub announces : ℕ → ℕ → ℕ → ℕ → ℕ → Option ℕ → Option ℕ → Server → Went
announces now conn euid seq token (Some lead) (Some child) s =
    and_then (makes now lead (calls.Fork child (pid_of_child child)) s) (λ s. grants_fork conn seq token child euid s)
announces now conn euid seq token lead free s = hindered conn seq hindrance.NoClientLeft s

abbrev pub forks_unless : Option Hindrance → ℕ → ℕ → ℕ → ℕ → ℕ → ℕ → Server → Went
forks_unless (Some why) now conn pid euid seq token s = hindered conn seq why s
forks_unless None now conn pid euid seq token s = announces now conn euid seq token (lead_of s pid) (free_client s) s

abbrev pub forks : ℕ → ℕ → ℕ → ℕ → ℕ → ℕ → Server → Went
forks now conn pid euid seq token s = forks_unless (fork_bar s euid token) now conn pid euid seq token s

-- the child is not to come
abbrev pub dies : ℕ → Option ℕ → Server → Went
dies now None s = stays s
dies now (Some child) s = makes now supervisor (calls.Kill (pid_of_child child)) s

-- THE END OF A PROCESS

abbrev pub without : (Conn → Bool) → Conn → Conn
without test conn = if test conn then Absent else conn

-- those of a process are closed, by number from this one on
abbrev pub closed_one : Bool → ℕ → List Output → List Output
closed_one true conn rest = outputs.Close conn why.Ended ∷ rest
closed_one false conn rest = rest

abbrev pub closed_from : ℕ → ℕ → List Conn → List Output
closed_from pid conn [] = []
closed_from pid conn (c ∷ cs) = closed_one (is_of (is_process pid) c) conn (closed_from pid (conn + 1) cs)

-- all connections of a process are closed
abbrev pub closes_all : ℕ → Server → Went
closes_all pid s = record {
  server = record s { conns = map (without (is_of (is_process pid))) s.conns };
  outputs = closed_from pid 0 s.conns;
}

abbrev pub kills : ℕ → ℕ → Option ℕ → Server → Went
kills now pid None s = stays s
kills now pid (Some lead) s = makes now supervisor (calls.Kill pid) s

abbrev pub ends : ℕ → ℕ → Server → Went
ends now pid s = and_then (closes_all pid s) (λ s. kills now pid (lead_of s pid) s)

-- a process without connections has nothing mapped: it has become another program
abbrev pub executes_of : ℕ → ℕ → ℕ → Server → Went
executes_of now pid lead s = if list_any (is_member_of pid) s.conns then stays s else makes now lead calls.Exec s

abbrev pub executes : ℕ → ℕ → Option ℕ → Server → Went
executes now pid None s = stays s
executes now pid (Some lead) s = executes_of now pid lead s
