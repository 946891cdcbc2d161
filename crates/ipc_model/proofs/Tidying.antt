-- Every call and every event leaves a state tidy: a line for each call.
use Rattle.std.proofs.Common.{◌≡◌, ◌≢◌, ℕ, zero, suc, ◌+◌, ◌<◌, ◌≤◌, Bool, true, false, cond, List, [], ◌∷◌, length, refl, sym, arith, ◌∙◌, Option, Some, None}
use Rattle.std.specs.Prelude.{◌==◌, ◌||◌, is_some, map, nat_le, nat_lt, not, slice_get, if◌then◌else◌}
use Rattle.std.specs.List.{AllByRecursion, find, list_any}
use Rattle.std.specs.FinMap as finite
use Rattle.std.proofs.lemmas.Bool.{false≢true, true≢false}
use Rattle.std.proofs.lemmas.Bool.Decides.{nat_tests}
use Rattle.std.proofs.lemmas.Option.{none-some, option_and_then_some, slice_get_within}
use Rattle.ipc_call.specs.declared.calls.Call.{Call}
use Rattle.ipc_call.specs.declared.calls.Call.TheVariants.{MsgGet, MsgSnd, MsgRcv, SemGet, SemOp, SemTimedOp, GetVal, GetPid, GetNcnt, GetZcnt, GetAll, SetVal, SetAll, ShmGet, ShmAt, ShmDt, ShmRead, ShmWrite, Exit, IpcStat, IpcSet, IpcRmid, Listing, Interrupt, SetCreds, Assume, Begin, Fork, Clone, Name, Exec, Kill, InterruptThread}
use Rattle.ipc_call.specs.declared.calls.Identity.{Identity}
use Rattle.ipc_call.specs.declared.calls.Kind.{Kind}
use Rattle.ipc_call.specs.declared.calls.Kind.TheVariants as kinds
use Rattle.ipc_call.specs.declared.calls.SemOper.{SemOper}
use Rattle.ipc_call.specs.declared.replies.Answer.{Answer}
use Rattle.ipc_call.specs.declared.replies.Answer.TheVariants.{Done}
use Rattle.ipc_call.specs.declared.replies.Waiting.{Waiting}
use Rattle.ipc_call.specs.declared.rules.Rule.TheVariants.{BadId, BadPid, ClientInUse, Ended, NoClient, NoProcess, NotAttached, PidInUse, TooManyAttached, TooManyGroups}
use Rattle.ipc_call.specs.declared.settings.Settings.{Settings}
use Rattle.ipc_creds.specs.Credentials.{Credentials, became, groups_max}
use Rattle.ipc_perm.specs.Access.{Resource, SameUser, SetGroups}
use Rattle.ipc_ids.specs.Table.{Table}
use Rattle.ipc_objects.specs.declared.object.Object.{Object}
use Rattle.sem_undo.specs.Entries.{adj_of}
use Rattle.shm_seg.specs.Attachments.{attachment_at, free_number}
use Rattle.ipc_model.specs.State.{Caller, Limits, Queues, Segment, SemSet, Sems, Shared, State, Thread, caller, creds_at, first_threads, has_exited, has_pid, is_running, opening, pid_at, process_at}
use Rattle.ipc_model.specs.Decision.{Decision, Granted, Refused, Waits}
use Rattle.ipc_model.specs.Plan.{Needs, Plan, on_part, ◌⨾◌}
use Rattle.ipc_model.specs.Plan as plans
use Rattle.ipc_model.specs.Gets.{Get, get, get_queue, get_segment, get_set, getting_segment, getting_set, new_object, object_of_key}
use Rattle.ipc_model.specs.Messages.{receive_message, send_message}
use Rattle.ipc_model.specs.Semaphores.{get_all, get_pid, get_value, operate, operated, set_all, set_at, set_value, trial_checks}
use Rattle.ipc_model.specs.Segments.{after_fork, attach, behind, detach, read_bytes, segment_at, write_bytes}
use Rattle.ipc_model.specs.Processes.{after_exec, all_ended, as_process, begin, credentials_of, ended, fork, free_client, if_ended, is_other, is_process, name, process_ended, renamed, to_signal, with_client, with_creds}
use Rattle.ipc_model.specs.Controls.{is_within, perm_of, removed, status_of, with_set}
use Rattle.ipc_model.specs.Decide.{begins, decide, decide_call, get_waiting, is_late, is_negative, is_zero, may_call, part_plan, plan_alive}
use Rattle.ipc_model.specs.Step.{Event, Moved, begun, cancelled_by, end_waiting, ended_by, first_ready, moved_by, settle, settle_from, state_by, step, without}
use Rattle.ipc_model.specs.Tidy.{AreFiled, AreOwed, IsLive, IsTidy, Runs, thread_in}
use Rattle.ipc_model.proofs.Calls.{Ends-getting}
use Rattle.ipc_model.proofs.Filing.{filed-attached, filed-changed, filed-ended, filed-fork, filed-number, filed-on, filed-put, filed-removed}
use Rattle.ipc_model.proofs.Granting.{Grants, grants-check, grants-found, grants-grant, grants-passes}
use Rattle.ipc_model.proofs.Late.{late-granted}
use Rattle.ipc_model.proofs.Owing.{owed-kept, owed-lowered, owed-on, owed-without}
use Rattle.ipc_model.proofs.Plans.{Ends, Ends-decision, Ends-found, Ends-on, Ends-order, IfGranted}
use Rattle.ipc_model.proofs.Staying.{free-ended}
use Rattle.ipc_model.proofs.Threads.{all-gone, no-pid, numbered-alone, numbered-begun, numbered-ended, numbered-gone, numbered-renamed, own-pid, runs-alone, runs-apart, runs-begun, runs-below, runs-gone, runs-left, runs-new, runs-of, runs-renamed, with-alone, with-begun, with-gone}

turned : (b : Bool) → not b ≡ true → b ≡ false
turned true is = absurd (false≢true is)
turned false is = refl

-- a call that asks for a pid
abbrev asks_pid : Call → Bool
asks_pid (Begin p creds) = true
asks_pid (Fork child p) = true
asks_pid (Name p) = true
asks_pid call = false

-- a client that is free is one of the namespace's
pub free-there : (s : State) (c : ℕ) (t : Thread) → free_client s c ≡ Some t → c < length s.threads
free-there s c t is = option_and_then_some if_ended (slice_get s.threads c) t is (λ x at got. slice_get_within s.threads c x at)

-- what is granted is tidy
abbrev pub Kept : Answer → State → Type 0
Kept answer new = IsTidy new

module _ (s : State) (client : ℕ) (tidy : IsTidy s) where
  abbrev me : Caller
  me = caller s client

  abbrev own : ℕ
  own = process_at s client

  -- whatever the plan changes of queues
  any-queues : (p : Plan Queues) → Ends Kept (on_part (λ queues. record s { queues = queues }) p)
  any-queues (check ⨾ rest) = any-queues rest
  any-queues (plans.Refuse rule plain) = tt
  any-queues (plans.Grant answer new) = tidy

  on-sems : (p : Plan Sems) → Ends (λ answer u. AreOwed s.threads u.undo) p → Ends Kept (on_part (λ sems. record s { sems = sems }) p)
  on-sems (check ⨾ rest) ends = on-sems rest ends
  on-sems (plans.Refuse rule plain) ends = tt
  on-sems (plans.Grant answer new) ends = record { numbered = tidy.numbered; owed = ends; filed = tidy.filed }

  -- whatever it changes of the sets alone
  any-sets : (p : Plan (Table (Object SemSet))) → Ends (λ answer u. AreOwed s.threads u.undo) (on_part (λ sets. record s.sems { sets = sets }) p)
  any-sets (check ⨾ rest) = any-sets rest
  any-sets (plans.Refuse rule plain) = tt
  any-sets (plans.Grant answer new) = tidy.owed

  on-shared : (p : Plan Shared) → Ends (λ answer u. AreFiled s.threads u) p → Ends Kept (on_part (λ shared. record s { shared = shared }) p)
  on-shared (check ⨾ rest) ends = on-shared rest ends
  on-shared (plans.Refuse rule plain) ends = tt
  on-shared (plans.Grant answer new) ends = record { numbered = tidy.numbered; owed = tidy.owed; filed = ends }

  -- a call on one set
  on-set : (id : ℕ) (rest : Object SemSet → Plan Sems)
      → ((set : Object SemSet) → set_at s.sems id ≡ Some set → Ends (λ answer u. AreOwed s.threads u.undo) (rest set))
      → Ends (λ answer u. AreOwed s.threads u.undo) (plans.found (set_at s.sems id) BadId tt rest)
  on-set id rest keeps = Ends-found (λ answer u. AreOwed s.threads u.undo) (set_at s.sems id) BadId tt rest keeps

  set-tidy : (kind : Kind) (id : ℕ) (new : Settings) → IsTidy (with_set s kind id new)
  set-tidy kinds.Queue id new = tidy
  set-tidy kinds.Sems id new = tidy
  set-tidy kinds.Segment id new = record { numbered = tidy.numbered; owed = tidy.owed; filed = filed-changed s.threads s.shared tidy.filed id _ }

  removed-tidy : (kind : Kind) (id : ℕ) → IsTidy (removed s kind id)
  removed-tidy kinds.Queue id = tidy
  removed-tidy kinds.Sems id = record { numbered = tidy.numbered; owed = owed-kept s.threads s.sems.undo tidy.owed _; filed = tidy.filed }
  removed-tidy kinds.Segment id = record { numbered = tidy.numbered; owed = tidy.owed; filed = filed-removed s.threads s.shared tidy.filed id }

  -- a thread ends, and with the last one its process
  exit-tidy : (running : Bool) → is_running (ended s client) own ≡ running
      → IsTidy (cond running (ended s client) (process_ended (ended s client) me))
  exit-tidy true is = record {
    numbered = numbered-gone s.threads client s.next tidy.numbered;
    owed = owed-on s.threads s.sems.undo tidy.owed (with-gone s.threads client) (runs-left s.threads client is);
    filed = filed-on s.threads (with-gone s.threads client) s.shared (runs-left s.threads client is) tidy.filed;
  }
  exit-tidy false is = record {
    numbered = numbered-gone s.threads client s.next tidy.numbered;
    owed = owed-without s.threads s.sems.undo tidy.owed (with-gone s.threads client) own (runs-gone s.threads client);
    filed = filed-ended s.threads (with-gone s.threads client) me s.shared (runs-gone s.threads client) tidy.filed;
  }

  kill-tidy : (t : Thread) → IsTidy (process_ended (all_ended s t.process) (as_process me t))
  kill-tidy t = record {
    numbered = numbered-ended s.threads t.process s.next tidy.numbered;
    owed = owed-without s.threads s.sems.undo tidy.owed (all-gone s.threads t.process) t.process (runs-apart s.threads t.process);
    filed = filed-ended s.threads (all-gone s.threads t.process) (as_process me t) s.shared (runs-apart s.threads t.process) tidy.filed;
  }

  -- a client begins that is free
  module _ (child : ℕ) (t : Thread) (is : free_client s child ≡ Some t) (process p : ℕ) where
    abbrev later : List Thread
    later = with-begun s.threads child (free-there s child t is) (free-ended s child t is) process p

    still : (q : ℕ) → Runs s.threads q → Runs later q
    still = runs-begun s.threads child (free-there s child t is) (free-ended s child t is) process p

    begun-tidy : (next : ℕ) (d : Credentials) (shared : Shared) → s.next ≤ next → process < next → 0 < p
        → ((c : ℕ) → IsLive s.threads c → pid_at s c ≡ p → process_at s c ≡ process)
        → AreFiled later shared → IsTidy (record (with_client s child process p d) { next = next; shared = shared })
    begun-tidy next d shared le lt some apart filed = record {
      numbered = numbered-begun s.threads child (free-there s child t is) (free-ended s child t is) process p s.next next le lt some apart tidy.numbered;
      owed = owed-on s.threads s.sems.undo tidy.owed later still;
      filed = filed;
    }

    -- of a new process, under a pid that no process has
    new-tidy : (d : Credentials) (shared : Shared) → process ≡ s.next → nat_lt 0 p ≡ true → not (is_process s p) ≡ true → AreFiled later shared
        → IsTidy (record (with_client s child process p d) { next = s.next + 1; shared = shared })
    new-tidy d shared first some none filed =
        let shown : 0 < p = grind (arith, nat_tests) in
        begun-tidy (s.next + 1) d shared (omega arith) (omega (arith, first)) shown (λ c live same. absurd (no-pid s.threads p c (turned (is_process s p) none) live same)) filed

  begin-tidy : (p : ℕ) (creds : Identity) → Grants (creds_at s client) IsTidy (begin s me p creds)
  begin-tidy p creds =
      let c = creds_at s client in
      grants-found IsTidy c (free_client s client) ClientInUse tt (λ t is.
      grants-passes IsTidy c (nat_lt 0 p) BadPid tt (λ some.
      grants-check IsTidy c (plans.Passes (nat_le (length creds.groups) groups_max) TooManyGroups tt) (
      grants-passes IsTidy c (not (is_process s p)) PidInUse tt (λ none.
      grants-grant IsTidy c Done _ (new-tidy client t is s.next p (credentials_of creds) s.shared refl some none
      (filed-on s.threads (later client t is s.next p) s.shared (still client t is s.next p) tidy.filed))))))

  fork-tidy : (child p : ℕ) → Grants (creds_at s client) IsTidy (fork s me child p)
  fork-tidy child p =
      let c = creds_at s client in
      grants-passes IsTidy c (nat_lt 0 p) BadPid tt (λ some.
      grants-check IsTidy c (plans.Passes (nat_lt child (length s.threads)) NoClient tt) (
      grants-found IsTidy c (free_client s child) ClientInUse tt (λ t is.
      grants-passes IsTidy c (not (is_process s p)) PidInUse tt (λ none.
      grants-grant IsTidy c Done _ (new-tidy child t is s.next p c (after_fork s.shared me s.next) refl some none
      (filed-fork (later child t is s.next p) me s.next (runs-new s.threads child (free-there s child t is) (free-ended s child t is) s.next p) s.shared
      (filed-on s.threads (later child t is s.next p) s.shared (still child t is s.next p) tidy.filed)))))))

  renamed-tidy : (p : ℕ) → nat_lt 0 p ≡ true → not (list_any (is_other own p) s.threads) ≡ true → IsTidy (record s { threads = map (renamed own p) s.threads })
  renamed-tidy p some none =
      let shown : 0 < p = grind (arith, nat_tests) in
      record {
        numbered = numbered-renamed own p s.threads s.next shown (λ d live same. own-pid s.threads own p d (turned (list_any (is_other own p) s.threads) none) live same) tidy.numbered;
        owed = owed-on s.threads s.sems.undo tidy.owed (map (renamed own p) s.threads) (runs-renamed own p s.threads);
        filed = filed-on s.threads (map (renamed own p) s.threads) s.shared (runs-renamed own p s.threads) tidy.filed;
      }

  name-tidy : (p : ℕ) → Grants (creds_at s client) IsTidy (name s me p)
  name-tidy p =
      let c = creds_at s client in
      grants-passes IsTidy c (nat_lt 0 p) BadPid tt (λ some.
      grants-passes IsTidy c (not (list_any (is_other own p) s.threads)) PidInUse tt (λ none.
      grants-grant IsTidy c Done _ (renamed-tidy p some none)))

  -- each call of a client that lives, but those that ask for a pid
  module _ (lives : IsLive s.threads client) where
    runs : Runs s.threads own
    runs = runs-of s.threads client lives

    operating : (id : ℕ) (ops : List SemOper) → Ends Kept (on_part (λ sems. record s { sems = sems }) (operate s.limits s.sems me id ops))
    operating id ops =
        on-sems (operate s.limits s.sems me id ops) (on-set id _ (λ set there.
        Ends-order (λ answer u. AreOwed s.threads u.undo) (trial_checks set.contents.semaphores (adj_of s.sems.undo own id) [] ops) (plans.Grant Done (operated s.sems me id ops set.contents))
        (owed-lowered s.threads s.sems.undo tidy.owed own id ops runs)))

    clone-tidy : (child : ℕ) (t : Thread) → free_client s child ≡ Some t → IsTidy (with_client s child own (pid_at s client) (creds_at s client))
    clone-tidy child t is =
        begun-tidy child t is own (pid_at s client) s.next (creds_at s client) s.shared (omega arith) (runs-below s.threads s.next own tidy.numbered runs)
        (tidy.numbered.shown client lives) (λ d live same. tidy.numbered.once d client live lives same)
        (filed-on s.threads (later child t is own (pid_at s client)) s.shared (still child t is own (pid_at s client)) tidy.filed)

    exec-tidy : IsTidy (after_exec s me)
    exec-tidy = record {
      numbered = numbered-alone s.threads client lives s.next tidy.numbered;
      owed = owed-on s.threads s.sems.undo tidy.owed (with-alone s.threads client lives) (runs-alone s.threads client lives);
      filed = filed-ended s.threads (with-alone s.threads client lives) me s.shared (λ q is ne. runs-alone s.threads client lives q is) tidy.filed;
    }

    tidy-ends : (call : Call) → asks_pid call ≡ false → Ends Kept (plan_alive s client call)
    unfolding part_plan
    tidy-ends (Begin p creds) other = absurd (true≢false other)
    tidy-ends (Fork child p) other = absurd (true≢false other)
    tidy-ends (Name p) other = absurd (true≢false other)
    tidy-ends (MsgGet key flags) other = any-queues (get_queue s.limits s.queues me (record { key = key; flags = flags }))
    tidy-ends (MsgSnd id mtype text flags) other = any-queues (send_message s.limits s.queues me id (record { message = record { mtype = mtype; text = text }; flags = flags }))
    tidy-ends (MsgRcv id size msgtyp flags) other = any-queues (receive_message s.queues me id (record { size = size; msgtyp = msgtyp; flags = flags }))
    tidy-ends (SemGet key nsems flags) other =
        let asked : Get = record { key = key; flags = flags } in
        on-sems (get_set s.limits s.sems me asked nsems) (any-sets (get s.sems.sets me asked (getting_set nsems)))
    tidy-ends (SemOp id ops) other = operating id ops
    tidy-ends (SemTimedOp id ops timeout) other = operating id ops
    tidy-ends (GetVal id num) other = on-sems (get_value s.sems id num) (on-set id _ (λ set is. tidy.owed))
    tidy-ends (GetPid id num) other = on-sems (get_pid s.sems id num) (on-set id _ (λ set is. tidy.owed))
    tidy-ends (GetNcnt id num) other = on-sems (get_waiting s id num (is_negative num)) (on-set id _ (λ set is. tidy.owed))
    tidy-ends (GetZcnt id num) other = on-sems (get_waiting s id num (is_zero num)) (on-set id _ (λ set is. tidy.owed))
    tidy-ends (GetAll id) other = on-sems (get_all s.sems id) (on-set id _ (λ set is. tidy.owed))
    tidy-ends (SetVal id num value) other = on-sems (set_value s.sems me id num value) (on-set id _ (λ set is. owed-kept s.threads s.sems.undo tidy.owed _))
    tidy-ends (SetAll id values) other = on-sems (set_all s.sems me id values) (on-set id _ (λ set is. owed-kept s.threads s.sems.undo tidy.owed _))
    tidy-ends (ShmGet key size flags) other =
        let asked : Get = record { key = key; flags = flags } in
        let a = s.shared in
        let put : Table (Object Segment) → Shared = λ segments. record a { segments = segments } in
        let getting = getting_segment s.limits (pid_at s client) size in
        on-shared (get_segment s.limits a me asked size) (Ends-on put (λ answer u. AreFiled s.threads u) (get a.segments me asked getting)
        (Ends-getting a.segments me asked getting (λ t. AreFiled s.threads (put t)) tidy.filed (λ id is. filed-put s.threads a tidy.filed id (new_object me asked.key asked.flags getting.new)) (object_of_key a.segments key)))
    tidy-ends (ShmAt id flags) other =
        on-shared (attach s.shared me id flags) (Ends-found _ (segment_at s.shared id) BadId tt _ (λ segment there. Ends-found _ (free_number s.shared.attached own) TooManyAttached tt _ (λ number free.
        filed-attached s.threads s.shared tidy.filed me id flags number segment there free runs)))
    tidy-ends (ShmDt att) other =
        on-shared (detach s.shared me att) (Ends-found _ (attachment_at s.shared.attached own att) NotAttached tt _ (λ of there. filed-number s.threads s.shared tidy.filed me att (Some of)))
    tidy-ends (ShmRead att offset len) other = on-shared (read_bytes s.shared me att offset len) (Ends-found _ (behind s.shared own att) NotAttached tt _ (λ there is. tidy.filed))
    tidy-ends (ShmWrite att offset bytes) other =
        on-shared (write_bytes s.shared me att offset bytes) (Ends-found _ (behind s.shared own att) NotAttached tt _ (λ there is. filed-changed s.threads s.shared tidy.filed there.0.segment _))
    tidy-ends (IpcStat kind id) other = Ends-found Kept (status_of s kind id) BadId tt _ (λ told is. tidy)
    tidy-ends (IpcSet kind id uid gid mode qbytes) other =
        let new : Settings = record { uid = uid; gid = gid; mode = mode; qbytes = qbytes } in
        Ends-found Kept (perm_of s kind id) BadId tt _ (λ perm is.
        Ends-order Kept (if is_within s qbytes then [] else Needs Resource ∷ []) (plans.Grant Done (with_set s kind id new)) (set-tidy kind id new))
    tidy-ends (IpcRmid kind id) other = Ends-found Kept (perm_of s kind id) BadId tt _ (λ perm is. removed-tidy kind id)
    tidy-ends (Listing kind) other = tidy
    tidy-ends (Interrupt p) other = Ends-order Kept (to_signal s me p) (plans.Grant Done s) tidy
    tidy-ends (InterruptThread target) other = Ends-found Kept (slice_get s.threads target) NoClient tt _ (λ t is.
        Ends-order Kept (if t.pid == pid_at s client then [] else Needs (SameUser (creds_at s target).euid) ∷ []) (plans.Grant Done s) tidy)
    tidy-ends (Kill p) other = Ends-found Kept (find (has_pid p) s.threads) NoProcess tt _ (λ t is.
        Ends-order Kept (to_signal s me p) (plans.Grant Done (process_ended (all_ended s t.process) (as_process me t))) (kill-tidy t))
    tidy-ends (SetCreds euid egid groups) other =
        Ends-order Kept (if is_some groups then Needs SetGroups ∷ [] else []) (plans.Grant Done (with_creds s client (became euid egid groups (creds_at s client)))) tidy
    tidy-ends (Assume creds) other = tidy
    tidy-ends (Clone child) other = Ends-found Kept (free_client s child) ClientInUse tt _ (λ t is. clone-tidy child t is)
    tidy-ends Exec other = exec-tidy
    tidy-ends Exit other = exit-tidy (is_running (ended s client) own) refl

-- a caller that doesn't begin lives
living-caller : (s : State) (client : ℕ) (call : Call) → begins call ≡ false → may_call s client call ≡ true → has_exited s client ≡ false
living-caller s client call other may = by (begins call) (has_exited s client) other may
  where
    by : (b gone : Bool) → b ≡ false → b || not gone ≡ true → gone ≡ false
    by b false other may = refl
    by true true other may = absurd (true≢false other)
    by false true other may = absurd (false≢true may)

-- each call that asks for a pid, by its plan
module _ (s : State) (client : ℕ) (tidy : IsTidy s) where
  tidy-begin : (p : ℕ) (creds : Identity) → Grants (creds_at s client) IsTidy (plan_alive s client (Begin p creds))
  unfolding part_plan
  tidy-begin p creds = begin-tidy s client tidy p creds

  tidy-fork : (child p : ℕ) → Grants (creds_at s client) IsTidy (plan_alive s client (Fork child p))
  unfolding part_plan
  tidy-fork child p = fork-tidy s client tidy child p

  tidy-name : (p : ℕ) → Grants (creds_at s client) IsTidy (plan_alive s client (Name p))
  unfolding part_plan
  tidy-name p = name-tidy s client tidy p

  tidy-plan : (call : Call) → may_call s client call ≡ true → Grants (creds_at s client) IsTidy (plan_alive s client call)
  tidy-plan (Begin p creds) may = tidy-begin p creds
  tidy-plan (Fork child p) may = tidy-fork child p
  tidy-plan (Name p) may = tidy-name p
  tidy-plan call may = record { granted = Ends-decision (creds_at s client) Kept (plan_alive s client call) (tidy-ends s client tidy (living-caller s client call refl may) call refl) }

  pub tidy-decide : (call : Call) → IfGranted Kept (decide s client call)
  tidy-decide call = (grants-passes IsTidy (creds_at s client) (may_call s client call) Ended tt (λ may. tidy-plan call may)).granted

-- before the first event: process and pid of each client by its number
first-below : (n next : ℕ) (cs : List Credentials) → n + length cs ≤ next → AllByRecursion (λ t. t.process < next) (first_threads n cs)
unfolding first_threads
first-below n next [] le = tt
first-below n next (c ∷ cs) le = (omega (arith, le), first-below (n + 1) next cs (omega (arith, le)))

first-shown : (n : ℕ) (cs : List Credentials) (client : ℕ) → IsLive (first_threads n cs) client
    → (thread_in (first_threads n cs) client).pid ≡ (thread_in (first_threads n cs) client).process + 1
unfolding first_threads
first-shown n [] client live = absurd (true≢false live)
first-shown n (c ∷ cs) zero live = refl
first-shown n (c ∷ cs) (suc client) live = first-shown (n + 1) cs client live

pub tidy-opening : (limits : Limits) (clients : List Credentials) → IsTidy (opening limits clients)
tidy-opening limits clients = record {
  numbered = record {
    below = first-below 0 (length clients) clients (omega arith);
    shown = λ c live. let is = first-shown 0 clients c live in omega (arith, is);
    once = λ c d live also same. let one = first-shown 0 clients c live in let other = first-shown 0 clients d also in omega (arith, one, other, same);
  };
  owed = λ key adj there. absurd (none-some adj (sym (finite.get-empty _ _) ∙ there));
  filed = λ process number a there. absurd (none-some a (sym (finite.get-empty _ _) ∙ there));
}

-- and each event: neither the clock nor who waits is in question
tidy-ended_by : (s : State) (client : ℕ) (d : Decision State) → IfGranted Kept d → IsTidy s → IsTidy (ended_by s client d).state
tidy-ended_by s client (Refused rule) keeps tidy = tidy
tidy-ended_by s client Waits keeps tidy = tidy
tidy-ended_by s client (Granted answer new) keeps tidy = keeps

pub tidy-end_waiting : (s : State) (w : Waiting) → IsTidy s → IsTidy (end_waiting s w).state
tidy-end_waiting s w tidy = let rest = without s w.client in tidy-ended_by rest w.client (decide rest w.client w.call) (tidy-decide rest w.client tidy w.call) tidy

tidy-settle_from : (go : State → Moved) → ((t : State) → IsTidy t → IsTidy (go t).state) → (s : State) (o : Option Waiting) → IsTidy s
    → IsTidy (settle_from go s o).state
tidy-settle_from go goes s None tidy = tidy
tidy-settle_from go goes s (Some w) tidy = goes (end_waiting s w).state (tidy-end_waiting s w tidy)

tidy-settle : (n : ℕ) (s : State) → IsTidy s → IsTidy (settle n s).state
tidy-settle zero s tidy = tidy
tidy-settle (suc n) s tidy = tidy-settle_from (settle n) (tidy-settle n) s (first_ready s) tidy

tidy-state_by : (s : State) (client : ℕ) (call : Call) (d : Decision State) → IfGranted Kept d → IsTidy s → IsTidy (state_by s client call d)
tidy-state_by s client call (Refused rule) keeps tidy = tidy
tidy-state_by s client call Waits keeps tidy = tidy
tidy-state_by s client call (Granted answer new) keeps tidy = keeps

tidy-cancelled_by : (s : State) (call : Call) (d : Decision State) → IsTidy s → IsTidy (cancelled_by s call d).state
tidy-cancelled_by s call (Refused rule) tidy = tidy
tidy-cancelled_by s call Waits tidy = tidy
tidy-cancelled_by s call (Granted answer new) tidy = tidy

pub tidy-moved : (s : State) (client : ℕ) (call : Call) → IsTidy s → IsTidy (moved_by s client call).state
tidy-moved s client call tidy =
    let d = decide_call s client call in
    tidy-cancelled_by (state_by s client call d) call d (tidy-state_by s client call d (late-granted Kept (is_late s call) (decide s client call) (tidy-decide s client tidy call)) tidy)

pub tidy-step : (s : State) (e : Event) → IsTidy s → IsTidy (step s e).state
tidy-step s e tidy =
    let now = begun s e.now in
    let moved = (moved_by now e.client e.call).state in
    tidy-settle (length moved.parked) moved (tidy-moved now e.client e.call tidy)
