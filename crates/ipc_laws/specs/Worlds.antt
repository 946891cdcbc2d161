-- What a client can see of a state, states that it can't tell apart, and events out of its sight.
use Rattle.std.specs.Prelude.{◌≡◌, ℕ, ◌==◌, ◌≤◌, nat_lt, ◌⊎◌, Bool, true, false, not, ◌&&◌, ◌||◌, if◌then◌else◌}
use Rattle.std.specs.Prelude.{List, [], ◌∷◌, ◌++◌, map, filter, length, replicate}
use Rattle.std.specs.Prelude.{Option, Some, None, option_map, unwrap_or}
use Rattle.std.specs.List.{list_all}
use Rattle.std.specs.FinMap as finite
use Rattle.ipc_call.specs.declared.calls.Call.{Call}
use Rattle.ipc_call.specs.declared.calls.Call.TheVariants.{MsgSnd, MsgRcv, SemOp, SemTimedOp, GetVal, GetPid, GetNcnt, GetZcnt}
use Rattle.ipc_call.specs.declared.calls.Call.TheVariants.{GetAll, SetVal, SetAll, ShmRead, ShmWrite, IpcStat, Listing}
use Rattle.ipc_call.specs.declared.calls.Kind.{Kind}
use Rattle.ipc_call.specs.declared.calls.Kind.TheVariants as kinds
use Rattle.ipc_call.specs.declared.perms.Perm.{Perm}
use Rattle.ipc_call.specs.declared.replies.Completion.{Completion}
use Rattle.ipc_creds.specs.Credentials.{Credentials, acting_as, cap_ipc_owner, cap_setgid, cap_setuid, has_capability, own_groups, own_users}
use Rattle.ipc_perm.specs.Access.{controls, rights_of}
use Rattle.ipc_ids.specs.Table.{Table}
use Rattle.ipc_ids.specs.Images.{map_entries}
use Rattle.ipc_objects.specs.declared.object.Object.{Object}
use Rattle.sem_set.specs.Sets.{zeroed}
use Rattle.shm_seg.specs.Attachments.{Attached, attach_count, attachment_at}
use Rattle.ipc_model.specs.State.{Queue, Queues, Segment, SemSet, Sems, Shared, State, creds_at, process_at}
use Rattle.ipc_model.specs.Decision.{Outcome}
use Rattle.ipc_model.specs.Decide.{hands_in, waits_at}
use Rattle.ipc_model.specs.Step.{Event, Stepped, step}
use Rattle.ipc_history.specs.History.{AreLegalFrom, run_from}
use Rattle.ipc_history.specs.Waits.{AreInTime, AreNotReady, WaitOnce}

-- no right on an object, no control of it, and no capability that overrides rights
abbrev pub is_shut : Credentials → Perm → Bool
is_shut c p =
    not (rights_of c p).read && not (rights_of c p).alter && not (controls c p) && not (has_capability c cap_ipc_owner)

-- as any user and group that the client may become; one that may become any is closed out of nothing
unfoldable pub is_closed : Credentials → Perm → Bool
is_closed c p =
    not (has_capability c cap_setuid || has_capability c cap_setgid)
    && list_all (λ u. list_all (λ g. is_shut (acting_as c u g) p) (own_groups c)) (own_users c)

-- the process has the segment attached
abbrev pub has_attached : Attached → ℕ → ℕ → Bool
has_attached attached process id = nat_lt 0 (attach_count (finite.retain_keys attached (λ h. h.client == process)) id)

-- of the contents of a hidden object nothing is left but how many semaphores or bytes it has, which a get that asks for no
-- right tells, whether a segment is marked, which decides whether it goes with a process, and what no event out of sight
-- changes: msg_qbytes, and a segment's creator
abbrev pub blank_queue : Queue → Queue
blank_queue queue =
    record { messages = []; qbytes = queue.qbytes; last_sender = 0; last_receiver = 0; send_time = 0; receive_time = 0 }

abbrev pub blank_set : SemSet → SemSet
blank_set set = record { semaphores = replicate (length set.semaphores) zeroed; op_time = 0 }

abbrev pub blank_segment : Segment → Segment
blank_segment segment = record {
  bytes = replicate (length segment.bytes) 0;
  is_marked = segment.is_marked;
  creator = segment.creator;
  last = 0;
  attach_time = 0;
  detach_time = 0;
}

-- a hidden object has its permissions still, which decide who is denied
abbrev pub blank : {X : Type 0} → (X → X) → Object X → Object X
blank empty object = record { perm = object.perm; change_time = 0; contents = empty object.contents }

abbrev pub masked : {X : Type 0} → (X → X) → (ℕ → Perm → Bool) → ℕ → Object X → Object X
masked empty hides id object = if hides id object.perm then blank empty object else object

abbrev pub all_masked : {X : Type 0} → (X → X) → (ℕ → Perm → Bool) → Table (Object X) → Table (Object X)
all_masked empty hides t = map_entries (masked empty hides) t

-- the object of the identifier is there, and hidden
abbrev pub is_hidden_in : {X : Type 0} → (ℕ → Perm → Bool) → Table (Object X) → ℕ → Bool
is_hidden_in hides t id = unwrap_or (option_map (λ object. hides id object.perm) (finite.get t.objects id)) false

-- of a thread of this process with these credentials
module _ (process : ℕ) (c : Credentials) where
  -- a queue or a set is hidden where it is closed to the client. Its own undo entries on a closed set don't bring that
  -- into sight: exit adds them to values that it is never told
  abbrev pub hides_closed : ℕ → Perm → Bool
  hides_closed id perm = is_closed c perm

  -- a segment that its process has attached it sees, whatever has become of its permissions
  abbrev pub hides_segment : Attached → ℕ → Perm → Bool
  hides_segment attached id perm = is_closed c perm && not (has_attached attached process id)

  abbrev pub is_hidden : State → Kind → ℕ → Bool
  is_hidden s kinds.Queue id = is_hidden_in hides_closed s.queues id
  is_hidden s kinds.Sems id = is_hidden_in hides_closed s.sems.sets id
  is_hidden s kinds.Segment id = is_hidden_in (hides_segment s.shared.attached) s.shared.segments id

  abbrev pub is_hidden_at : State → Option (Kind × ℕ) → Bool
  is_hidden_at s at = unwrap_or (option_map (λ at. is_hidden s at.0 at.1) at) false

  abbrev pub blur_queues : Queues → Queues
  blur_queues queues = all_masked blank_queue hides_closed queues

  -- the undo entries on hidden sets are left out, those of every client
  abbrev pub blur_sems : Sems → Sems
  blur_sems sems = record {
    sets = all_masked blank_set hides_closed sems.sets;
    undo = finite.retain_keys sems.undo (λ key. not (is_hidden_in hides_closed sems.sets key.set));
  }

  -- who has attached what is seen by all: it decides whether a removed segment stays
  abbrev pub blur_shared : Shared → Shared
  blur_shared shared = record shared {
    segments = all_masked blank_segment (hides_segment shared.attached) shared.segments;
  }

  -- the state as the client can see it: hidden objects are blank, and the calls that wait at one are left out (where no
  -- waiting call is ready, none of those is the client's own: it would be refused)
  abbrev pub blur_by : State → State
  blur_by s = record s {
    queues = blur_queues s.queues;
    sems = blur_sems s.sems;
    shared = blur_shared s.shared;
    parked = filter (λ w. not (is_hidden_at s (waits_at w.call))) s.parked;
  }

abbrev pub blur : ℕ → State → State
blur client s = blur_by (process_at s client) (creds_at s client) s

-- the client can't tell the states apart
abbrev pub Agree : ℕ → State → State → Type 0
Agree client s t = blur client s ≡ blur client t

-- how the client's own calls came out, one entry for each of its events: None where the call waits
abbrev pub own_by : ℕ → Event → Stepped → List (Option Outcome)
own_by client e stepped = if e.client == client then stepped.own ∷ [] else []

abbrev pub own_from : ℕ → State → List Event → List (Option Outcome)
own_from client s [] = []
own_from client s (e ∷ es) = own_by client e (step s e) ++ own_from client (step s e).state es

-- how its waiting calls ended
abbrev pub ends_of : ℕ → List Completion → List Outcome
ends_of client ended = map (λ e. e.outcome) (filter (λ e. e.client == client) ended)

abbrev pub ends_from : ℕ → State → List Event → List Outcome
ends_from client s [] = []
ends_from client s (e ∷ es) = ends_of client (step s e).ended ++ ends_from client (step s e).state es

-- a call that tells something, and changes nothing
abbrev pub only_reads : Call → Bool
only_reads (GetVal id num) = true
only_reads (GetPid id num) = true
only_reads (GetNcnt id num) = true
only_reads (GetZcnt id num) = true
only_reads (GetAll id) = true
only_reads (ShmRead att offset len) = true
only_reads (IpcStat kind id) = true
only_reads (Listing kind) = true
only_reads call = false

-- the object of which a call of a client changes the contents, and nothing else
abbrev pub contents_at : State → ℕ → Call → Option (Kind × ℕ)
contents_at s client (MsgSnd id mtype text flags) = Some (kinds.Queue, id)
contents_at s client (MsgRcv id size msgtyp flags) = Some (kinds.Queue, id)
contents_at s client (SemOp id ops) = Some (kinds.Sems, id)
contents_at s client (SemTimedOp id ops timeout) = Some (kinds.Sems, id)
contents_at s client (SetVal id num value) = Some (kinds.Sems, id)
contents_at s client (SetAll id values) = Some (kinds.Sems, id)
contents_at s client (ShmWrite att offset bytes) =
    option_map (λ a. (kinds.Segment, a.segment)) (attachment_at s.shared.attached (process_at s client) att)
contents_at s client call = None

-- a thread of this process with these credentials sees nothing of what another's call does
abbrev pub is_unseen : ℕ → Credentials → State → ℕ → Call → Bool
is_unseen process c s other call = only_reads call || is_hidden_at process c s (contents_at s other call)

-- an event out of the client's sight: a call of another, which reads, or changes the contents of an object that is
-- hidden from the client, at a time that doesn't move the clock. Not so the calls that create, remove, attach or detach,
-- that set permissions, that interrupt, by which threads and processes begin and end: what they change may be in sight
pub record IsOutOfSight (client : ℕ) (s : State) (e : Event) : Type 0 where
  pub other : (e.client == client) ≡ false
  pub unseen : is_unseen (process_at s client) (creds_at s client) s e.client e.call ≡ true
  pub early : e.now ≤ s.clock

-- the client's own event, which hands in no credentials: the law is of a thread's life from one such to the next
abbrev pub IsOwn : ℕ → Event → Type 0
IsOwn client e = ((e.client == client) ≡ true) × (hands_in e.call ≡ false)

abbrev pub AreOutOfSight : ℕ → State → List Event → Type 0
AreOutOfSight client s [] = Unit {0}
AreOutOfSight client s (e ∷ es) =
    (IsOwn client e ⊎ IsOutOfSight client s e) × AreOutOfSight client (step s e).state es

abbrev pub own_events : ℕ → List Event → List Event
own_events client es = filter (λ e. e.client == client) es

-- as every legal history leaves a state: no waiting call is ready, none has reached its deadline, and no client waits
-- twice
pub record IsSettled (s : State) : Type 0 where
  pub not_ready : AreNotReady s
  pub in_time : AreInTime s
  pub once : WaitOnce s

-- two settled states that the client can't tell apart, and a legal list of events from each: the client's own events
-- are the same, and all others are out of its sight
pub record AreTwoWorlds (client : ℕ) (s t : State) (es fs : List Event) : Type 0 where
  pub settled : IsSettled s × IsSettled t
  pub agree : Agree client s t
  pub legal : AreLegalFrom s es × AreLegalFrom t fs
  pub unseen : AreOutOfSight client s es × AreOutOfSight client t fs
  pub same : own_events client es ≡ own_events client fs

-- the client is told the same in both, and can't tell apart what they lead to
pub record IsUnaware (client : ℕ) (s t : State) (es fs : List Event) : Type 0 where
  pub own : own_from client s es ≡ own_from client t fs
  pub ends : ends_from client s es ≡ ends_from client t fs
  pub agree : Agree client (run_from s es) (run_from t fs)
  pub settled : IsSettled (run_from s es) × IsSettled (run_from t fs)
