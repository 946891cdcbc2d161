-- What the grant of a call leaves as it was: each object that the call doesn't touch, to the calls of other clients that
-- wait there.
use Rattle.std.proofs.Common.{◌≡◌, ◌≢◌, ℕ, zero, suc, Bool, true, false, cond, eqb, get_or, set, List, [], ◌∷◌, refl, sym, ap, ◌∙◌, Option, Some, None}
use Rattle.std.specs.Prelude.{◌==◌, ◌&&◌, ◌+◌, is_some, map, pos, option_and_then, option_map, slice_get, unwrap_or, if◌then◌else◌}
use Rattle.std.specs.FinMap as finite
use Rattle.std.specs.List.{find}
use Rattle.std.proofs.lemmas.Bool.{eqb-false, false≢true, true≢false}
use Rattle.std.proofs.lemmas.Option.{none-some}
use Rattle.std.proofs.lemmas.List.{get_or-set_other}
use Rattle.ipc_call.specs.declared.settings.Receive.{Receive}
use Rattle.ipc_call.specs.declared.calls.Call.{Call}
use Rattle.ipc_call.specs.declared.calls.Call.TheVariants.{MsgGet, MsgSnd, MsgRcv, SemGet, SemOp, SemTimedOp, GetVal, GetPid, GetNcnt, GetZcnt, GetAll, SetVal, SetAll, ShmGet, ShmAt, ShmDt, ShmRead, ShmWrite, Exit, IpcStat, IpcSet, IpcRmid, Listing, Interrupt, SetCreds, Assume, Begin, Fork, Clone, Name, Exec, Kill, InterruptThread}
use Rattle.ipc_call.specs.declared.calls.Kind.{Kind}
use Rattle.ipc_call.specs.declared.calls.Kind.TheVariants as kinds
use Rattle.ipc_call.specs.declared.calls.SemOper.{SemOper}
use Rattle.ipc_call.specs.declared.settings.Settings.{Settings}
use Rattle.ipc_call.specs.declared.replies.Answer.TheVariants.{Done}
use Rattle.ipc_call.specs.declared.rules.Rule.TheVariants.{BadId, ClientInUse, NoClient, NoProcess}
use Rattle.ipc_creds.specs.Credentials.{Credentials, became, executed}
use Rattle.ipc_ids.specs.Table.{Table, next_id, with_object}
use Rattle.ipc_ids.proofs.Images.{get-entries}
use Rattle.ipc_ids.proofs.Sound.{get-insert-other, get-remove-other}
use Rattle.ipc_objects.specs.declared.object.Object.{Object}
use Rattle.ipc_objects.specs.Objects.{changed, with_contents}
use Rattle.ipc_perm.specs.Access.{Resource, SameUser, SetGroups}
use Rattle.msg_queue.specs.declared.messages.Message.{Message}
use Rattle.sem_set.specs.declared.set.Semaphore.{Semaphore}
use Rattle.sem_set.specs.Exits.{any_from}
use Rattle.sem_undo.specs.Entries.{adj_of}
use Rattle.sem_undo.proofs.Entries.{key}
use Rattle.ipc_model.specs.State.{Caller, Queue, Queues, SemSet, Sems, Shared, State, Thread, caller, creds_at, has_exited, has_pid, is_running, no_thread, nobody, pid_at, process_at, thread_at}
use Rattle.ipc_model.specs.Plan.{Needs, Plan, found, on_part, ◌⨾◌}
use Rattle.ipc_model.specs.Plan as plans
use Rattle.ipc_model.specs.Cancelled.{is_same}
use Rattle.ipc_model.specs.Gets.{get, get_queue, get_segment, get_set, getting_queue, getting_set, object_of_key, Get}
use Rattle.ipc_model.specs.Messages.{chosen, queue_at, receive_found, receive_message, send_found, send_message, take_chosen, Send}
use Rattle.ipc_model.specs.Semaphores.{after_exit, set_after_exit, get_all, get_pid, get_value, operate, operated, set_all, set_at, set_value, trial_checks, with_values}
use Rattle.ipc_model.specs.Processes.{after_exec, all_ended, as_process, credentials_of, ended, free_client, if_ended, process_ended, renamed, to_signal, with_client, with_creds}
use Rattle.ipc_model.specs.Controls.{is_within, perm_of, removed, status_of, with_set, without_set}
use Rattle.ipc_model.specs.Decide.{get_waiting, is_negative, is_zero, part_plan, plan}
use Rattle.ipc_model.specs.Segments.{after_fork, attach, detach, read_bytes, write_bytes}
use Rattle.ipc_model.specs.Touched.{is_id, owes, thread_owes, touches}
use Rattle.ipc_model.proofs.Stays.{AreLiving, IsSeenAlike, Stays}
use Rattle.ipc_model.proofs.Apart.{changed-apart, cleared-apart, exited-none, left-alone, none-runs, lowered-apart, renamed-process, without-apart}
use Rattle.ipc_model.proofs.Calls.{Ends-getting}
use Rattle.ipc_model.proofs.Plans.{Ends, Ends-found, Ends-order}

off : (a b : Bool) → a && b ≡ false → a ≡ true → b ≡ false
off true b h is = h
off false b h is = absurd (false≢true is)

-- identifiers that aren't equal, the other way around
apart : (a b : ℕ) → eqb a b ≡ false → b ≢ a
apart a b h e = eqb-false a b h (sym e)

-- a client that is free has ended
pub free-ended : (s : State) (c : ℕ) (t : Thread) → free_client s c ≡ Some t → has_exited s c ≡ true
free-ended s c t is = by s.threads c is
  where
    here : (x : Thread) → if_ended x ≡ Some t → x.has_ended ≡ true
    here x is = got x.has_ended is
      where
        got : (b : Bool) → cond b (Some x) None ≡ Some t → b ≡ true
        got true is = refl
        got false is = absurd (none-some t is)

    by : (ts : List Thread) (n : ℕ) → option_and_then if_ended (slice_get ts n) ≡ Some t → (get_or ts n no_thread).has_ended ≡ true
    by [] n is = refl
    by (x ∷ ts) zero is = here x is
    by (x ∷ ts) (suc n) is = by ts n is

module _ (s : State) (client : ℕ) (kind : Kind) (at : ℕ) where
  abbrev KeepsQueue : Queues → Type 0
  KeepsQueue u = is_same kinds.Queue kind ≡ true → queue_at u at ≡ queue_at s.queues at

  abbrev KeepsSet : Sems → Type 0
  KeepsSet u = is_same kinds.Sems kind ≡ true → (set_at u at ≡ set_at s.sems at) × ((c : ℕ) → c ≢ client → has_exited s c ≡ false → (num : ℕ) → adj_of u.undo (process_at s c) at num ≡ adj_of s.sems.undo (process_at s c) at num)

  abbrev Kept : State → Type 0
  Kept new = Stays s client kind at new

  seen : (new : State) → KeepsQueue new.queues → KeepsSet new.sems → IsSeenAlike kind at client s new
  seen new queue set = by kind queue set
    where
      by : (k : Kind) → (is_same kinds.Queue k ≡ true → queue_at new.queues at ≡ queue_at s.queues at)
          → (is_same kinds.Sems k ≡ true → (set_at new.sems at ≡ set_at s.sems at) × ((c : ℕ) → c ≢ client → has_exited s c ≡ false → (num : ℕ) → adj_of new.sems.undo (process_at s c) at num ≡ adj_of s.sems.undo (process_at s c) at num))
          → IsSeenAlike k at client s new
      by kinds.Queue queue set = queue refl
      by kinds.Sems queue set = ((set refl).0, λ c ne living num. (set refl).1 c ne living.0 num)
      by kinds.Segment queue set = tt

  queue-same : KeepsQueue s.queues
  queue-same is = refl

  set-same : KeepsSet s.sems
  set-same is = (refl, λ c ne living num. refl)

  stays-same : Kept s
  stays-same = record { limits = refl; creds = λ c ne living. refl; process = λ c ne living. refl; object = seen s queue-same set-same }

  stays-queues : (u : Queues) → KeepsQueue u → Kept (record s { queues = u })
  stays-queues u keeps = record { limits = refl; creds = λ c ne living. refl; process = λ c ne living. refl; object = seen (record s { queues = u }) keeps set-same }

  stays-sems : (u : Sems) → KeepsSet u → Kept (record s { sems = u })
  stays-sems u keeps = record { limits = refl; creds = λ c ne living. refl; process = λ c ne living. refl; object = seen (record s { sems = u }) queue-same keeps }

  stays-shared : (u : Shared) → Kept (record s { shared = u })
  stays-shared u = record { limits = refl; creds = λ c ne living. refl; process = λ c ne living. refl; object = seen (record s { shared = u }) queue-same set-same }

  -- setcreds changes the caller's credentials
  stays-creds : (d : Credentials) → Kept (with_creds s client d)
  stays-creds d = record {
    limits = refl;
    creds = λ c ne living. get_or-set_other s.clients client c d nobody ne;
    process = λ c ne living. refl;
    object = seen (with_creds s client d) queue-same set-same;
  }

  module _ {X : Type 0} (put : X → State) (P : X → Type 0) (keeps : (x : X) → P x → Kept (put x)) where
    part : (p : Plan X) → Ends (λ answer x. P x) p → Ends (λ answer new. Kept new) (on_part put p)
    part (check ⨾ rest) ends = part rest ends
    part (plans.Refuse rule plain) ends = tt
    part (plans.Grant answer new) ends = keeps new ends

  on-queues : (p : Plan Queues) → Ends (λ answer u. KeepsQueue u) p → Ends (λ answer new. Kept new) (on_part (λ queues. record s { queues = queues }) p)
  on-queues p ends = part (λ queues. record s { queues = queues }) KeepsQueue stays-queues p ends

  on-sems : (p : Plan Sems) → Ends (λ answer u. KeepsSet u) p → Ends (λ answer new. Kept new) (on_part (λ sems. record s { sems = sems }) p)
  on-sems p ends = part (λ sems. record s { sems = sems }) KeepsSet stays-sems p ends

  -- whatever the plan changes of segments
  any-shared : (p : Plan Shared) → Ends (λ answer new. Kept new) (on_part (λ shared. record s { shared = shared }) p)
  any-shared (check ⨾ rest) = any-shared rest
  any-shared (plans.Refuse rule plain) = tt
  any-shared (plans.Grant answer new) = stays-shared new

  on-sets : (p : Plan (Table (Object SemSet))) → Ends (λ answer t. is_same kinds.Sems kind ≡ true → finite.get t.objects at ≡ set_at s.sems at) p → Ends (λ answer u. KeepsSet u) (on_part (λ sets. record s.sems { sets = sets }) p)
  on-sets (check ⨾ rest) ends = on-sets rest ends
  on-sets (plans.Refuse rule plain) ends = tt
  on-sets (plans.Grant answer new) ends = λ is. (ends is, λ c ne living num. refl)

  entry : (u : Sems) (c num : ℕ) → finite.get u.undo (key c at num) ≡ finite.get s.sems.undo (key c at num) → adj_of u.undo c at num ≡ adj_of s.sems.undo c at num
  entry u c num same = ap (λ o. unwrap_or o (pos 0)) same

  -- another object
  abbrev Elsewhere : Kind → ℕ → Type 0
  Elsewhere of id = is_same of kind && eqb id at ≡ false

  elsewhere : (of : Kind) (id : ℕ) → Elsewhere of id → is_same of kind ≡ true → at ≢ id
  elsewhere of id other is = apart id at (off (is_same of kind) (eqb id at) other is)

  values-kept : (now id : ℕ) (semaphores : List Semaphore) (which : ℕ → Bool) → Elsewhere kinds.Sems id → KeepsSet (with_values s.sems now id semaphores which)
  values-kept now id semaphores which other is =
      let no = elsewhere kinds.Sems id other is in
      (changed-apart s.sems.sets id at _ no, λ c ne living num. entry (with_values s.sems now id semaphores which) (process_at s c) num (cleared-apart s.sems.undo id which (key (process_at s c) at num) no))

  queue-changed : (id : ℕ) (f : Object Queue → Object Queue) → Elsewhere kinds.Queue id → KeepsQueue (changed s.queues id f)
  queue-changed id f other is = changed-apart s.queues id at f (elsewhere kinds.Queue id other is)

  new-apart : {X : Type 0} (t : Table (Object X)) (id : ℕ) (x : Object X) (b : Bool) → b && is_id (next_id t) at ≡ false → next_id t ≡ Some id → b ≡ true → finite.get (with_object t id x).objects at ≡ finite.get t.objects at
  new-apart t id x b other is on =
      get-insert-other t.objects id x at (apart id at (ap (λ o. is_id o at) (sym is) ∙ off b (is_id (next_id t) at) other on))

  sent : (id : ℕ) (asked : Send) (queue : Option (Object Queue)) → Elsewhere kinds.Queue id → Ends (λ answer u. KeepsQueue u) (send_found s.queues (caller s client) id asked queue)
  sent id asked None other = tt
  sent id asked (Some queue) other = queue-changed id _ other

  taken : (id : ℕ) (asked : Receive) (queue : Queue) (found : Option (ℕ × Message)) → Elsewhere kinds.Queue id → Ends (λ answer u. KeepsQueue u) (on_part (with_contents s.queues id) (take_chosen (caller s client) asked queue found))
  taken id asked queue None other = tt
  taken id asked queue (Some found) other = queue-changed id _ other

  received : (id : ℕ) (asked : Receive) (queue : Option (Object Queue)) → Elsewhere kinds.Queue id → Ends (λ answer u. KeepsQueue u) (receive_found s.queues (caller s client) id asked queue)
  received id asked None other = tt
  received id asked (Some queue) other = taken id asked queue.contents (chosen queue.contents.messages asked) other

  -- a call on one set
  on-set : (id : ℕ) (rest : Object SemSet → Plan Sems) → ((set : Object SemSet) → set_at s.sems id ≡ Some set → Ends (λ answer u. KeepsSet u) (rest set)) → Ends (λ answer u. KeepsSet u) (found (set_at s.sems id) BadId tt rest)
  on-set id rest keeps = Ends-found (λ answer u. KeepsSet u) (set_at s.sems id) BadId tt rest keeps

  operated-kept : (id : ℕ) (ops : List SemOper) (set : SemSet) → Elsewhere kinds.Sems id → KeepsSet (operated s.sems (caller s client) id ops set)
  operated-kept id ops set other is =
      let no = elsewhere kinds.Sems id other is in
      (changed-apart s.sems.sets id at _ no, λ c ne living num. entry (operated s.sems (caller s client) id ops set) (process_at s c) num (lowered-apart (process_at s client) id ops s.sems.undo (key (process_at s c) at num) no))

  operating : (id : ℕ) (ops : List SemOper) → Elsewhere kinds.Sems id → Ends (λ answer new. Kept new) (on_part (λ sems. record s { sems = sems }) (operate s.limits s.sems (caller s client) id ops))
  operating id ops other =
      on-sems (operate s.limits s.sems (caller s client) id ops) (on-set id _ (λ set there.
      Ends-order (λ answer u. KeepsSet u) (trial_checks set.contents.semaphores (adj_of s.sems.undo (process_at s client) id) [] ops) (plans.Grant Done (operated s.sems (caller s client) id ops set.contents))
      (operated-kept id ops set.contents other)))

  put-kept : (of : Kind) (id : ℕ) (new : Settings) → Elsewhere of id → Kept (with_set s of id new)
  put-kept kinds.Queue id new other = stays-queues _ (queue-changed id _ other)
  put-kept kinds.Sems id new other = stays-sems _ (λ is. (changed-apart s.sems.sets id at _ (elsewhere kinds.Sems id other is), λ c ne living num. refl))
  put-kept kinds.Segment id new other = stays-shared _

  gone-kept : (of : Kind) (id : ℕ) → Elsewhere of id → Kept (removed s of id)
  gone-kept kinds.Queue id other = stays-queues _ (λ is. get-remove-other s.queues.objects id at (elsewhere kinds.Queue id other is))
  gone-kept kinds.Sems id other = stays-sems _ (λ is.
      let no = elsewhere kinds.Sems id other is in
      (get-remove-other s.sems.sets.objects id at no, λ c ne living num. entry (without_set s.sems id) (process_at s c) num (cleared-apart s.sems.undo id (λ _. true) (key (process_at s c) at num) no)))
  gone-kept kinds.Segment id other = stays-shared _

  -- a process ends, of which no client that lives is a thread
  abbrev own : ℕ
  own = process_at s client

  module _ (who : Caller) (new : State) (others : (c : ℕ) → c ≢ client → AreLiving s new c → process_at s c ≢ who.process) (owed : is_same kinds.Sems kind && owes s.sems who.process at ≡ false)
      (queues : new.queues ≡ s.queues) (sems : new.sems ≡ after_exit s.sems who) where
    set-kept : is_same kinds.Sems kind ≡ true → set_at (after_exit s.sems who) at ≡ set_at s.sems at
    set-kept is = get-entries (set_after_exit s.sems who) s.sems.sets at ∙ by (off (is_same kinds.Sems kind) (owes s.sems who.process at) owed is) (set_at s.sems at) refl
      where
        by : owes s.sems who.process at ≡ false → (o : Option (Object SemSet)) → set_at s.sems at ≡ o → option_map (set_after_exit s.sems who at) (set_at s.sems at) ≡ set_at s.sems at
        by none None is = rw is refl
        by none (Some set) is = rw is (ap (λ (x : Object SemSet). Some x) (exited-none s.sems who at set (
            ap (λ (o : Option (Object SemSet)). unwrap_or (option_map (λ (set : Object SemSet). any_from (adj_of s.sems.undo who.process at) 0 set.contents.semaphores) o) false) (sym is) ∙ none
            )))

    process-seen : IsSeenAlike kind at client s new
    process-seen = by kind set-kept
      where
        by : (k : Kind) → (is_same kinds.Sems k ≡ true → set_at (after_exit s.sems who) at ≡ set_at s.sems at) → IsSeenAlike k at client s new
        by kinds.Queue set = ap (λ (u : Queues). queue_at u at) queues
        by kinds.Sems set = (
          ap (λ (u : Sems). set_at u at) sems ∙ set refl,
          λ c ne living num. ap (λ (u : Sems). adj_of u.undo (process_at s c) at num) sems ∙ entry (after_exit s.sems who) (process_at s c) num (without-apart s.sems.undo who.process (key (process_at s c) at num) (others c ne living)),
        )
        by kinds.Segment set = tt

  -- the end of a thread; of the last one that of the process, where another client is of another process
  abbrev rest : State
  rest = ended s client

  thread-other : (thread : Thread) (c : ℕ) → c ≢ client → get_or (set s.threads client thread) c no_thread ≡ thread_at s c
  thread-other thread c ne = get_or-set_other s.threads client c thread no_thread ne

  of-another : is_running rest own ≡ false → (c : ℕ) → c ≢ client → has_exited s c ≡ false → process_at s c ≢ own
  of-another none c ne living is =
      let same : thread_at rest c ≡ thread_at s c = thread-other (record (thread_at s client) { has_ended = true }) c ne in
      none-runs rest.threads own c none (ap (λ (t : Thread). t.has_ended) same ∙ living) (ap (λ (t : Thread). t.process) same ∙ is)

  exit-kept : is_same kinds.Sems kind && owes s.sems own at ≡ false → (running : Bool) → is_running rest own ≡ running → Kept (cond running rest (process_ended rest (caller s client)))
  exit-kept other true is = record {
    limits = refl;
    creds = λ c ne living. refl;
    process = λ c ne living. ap (λ (t : Thread). t.process) (thread-other _ c ne);
    object = seen rest queue-same set-same;
  }
  exit-kept other false is = record {
    limits = refl;
    creds = λ c ne living. refl;
    process = λ c ne living. ap (λ (t : Thread). t.process) (thread-other _ c ne);
    object = process-seen (caller s client) (process_ended rest (caller s client)) (λ c ne living. of-another is c ne living.0) other refl refl;
  }

  -- the end of the process that is found
  kill-kept : (found : Thread) → is_same kinds.Sems kind && owes s.sems found.process at ≡ false → Kept (process_ended (all_ended s found.process) (as_process (caller s client) found))
  kill-kept found other = record {
    limits = refl;
    creds = λ c ne living. refl;
    process = λ c ne living. ap (λ (t : Thread). t.process) (left-alone s.threads found.process c living.1).0;
    object = process-seen (as_process (caller s client) found) (process_ended (all_ended s found.process) (as_process (caller s client) found)) (λ c ne living. (left-alone s.threads found.process c living.1).1) other refl refl;
  }

  -- exec
  exec-kept : Kept (after_exec s (caller s client))
  exec-kept = record {
    limits = refl;
    creds = λ c ne living. get_or-set_other s.clients client c (executed (creds_at s client)) nobody ne;
    process = λ c ne living.
        let there = get_or-set_other (all_ended s own).threads client c (thread_at s client) no_thread ne in
        ap (λ (t : Thread). t.process) (there ∙ (left-alone s.threads own c (sym (ap (λ (t : Thread). t.has_ended) there) ∙ living.1)).0);
    object = seen (after_exec s (caller s client)) queue-same set-same;
  }

  -- the process takes another pid
  name-kept : (p : ℕ) → Kept (record s { threads = map (renamed own p) s.threads })
  name-kept p = record {
    limits = refl;
    creds = λ c ne living. refl;
    process = λ c ne living. renamed-process s.threads own p c;
    object = seen (record s { threads = map (renamed own p) s.threads }) queue-same set-same;
  }

  -- a client that has ended begins, and the segments change
  begun-kept : (child process p next : ℕ) (d : Credentials) (shared : Shared) → ((c : ℕ) → c ≢ client → has_exited s c ≡ false → c ≢ child) → Kept (record (with_client s child process p d) { next = next; shared = shared })
  begun-kept child process p next d shared ne-child = record {
    limits = refl;
    creds = λ c ne living. get_or-set_other s.clients child c d nobody (ne-child c ne living.0);
    process = λ c ne living. ap (λ (t : Thread). t.process) (get_or-set_other s.threads child c (record { process = process; pid = p; has_ended = false }) no_thread (ne-child c ne living.0));
    object = seen (record (with_client s child process p d) { next = next; shared = shared }) queue-same set-same;
  }

  -- a client that hasn't ended isn't one that has
  not-child : (child : ℕ) (t : Thread) → free_client s child ≡ Some t → (c : ℕ) → c ≢ client → has_exited s c ≡ false → c ≢ child
  not-child child t is c ne living e = true≢false (sym (free-ended s child t is) ∙ sym (ap (λ (n : ℕ). has_exited s n) e) ∙ living)

  -- each call
  pub stays : (call : Call) → touches s client call kind at ≡ false → Ends (λ answer new. Kept new) (plan s client call)
  unfolding part_plan
  stays (MsgGet key flags) other =
      let asked : Get = record { key = key; flags = flags } in
      let who = caller s client in
      on-queues (get_queue s.limits s.queues who asked)
      (Ends-getting s.queues who asked (getting_queue s.limits) KeepsQueue queue-same (λ id is on. new-apart s.queues id _ (is_same kinds.Queue kind) other is on) (object_of_key s.queues key))
  stays (MsgSnd id mtype text flags) other =
      let asked : Send = record { message = record { mtype = mtype; text = text }; flags = flags } in
      on-queues (send_message s.limits s.queues (caller s client) id asked) (sent id asked (queue_at s.queues id) other)
  stays (MsgRcv id size msgtyp flags) other =
      let asked : Receive = record { size = size; msgtyp = msgtyp; flags = flags } in
      on-queues (receive_message s.queues (caller s client) id asked) (received id asked (queue_at s.queues id) other)
  stays (SemGet key nsems flags) other =
      let asked : Get = record { key = key; flags = flags } in
      let who = caller s client in
      let sets = s.sems.sets in
      on-sems (get_set s.limits s.sems who asked nsems)
      (on-sets (get sets who asked (getting_set nsems))
      (Ends-getting sets who asked (getting_set nsems) (λ t. is_same kinds.Sems kind ≡ true → finite.get t.objects at ≡ set_at s.sems at) (λ is. refl) (λ id is on. new-apart sets id _ (is_same kinds.Sems kind) other is on) (object_of_key sets key)))
  stays (SemOp id ops) other = operating id ops other
  stays (SemTimedOp id ops timeout) other = operating id ops other
  stays (GetVal id num) other = on-sems (get_value s.sems id num) (on-set id _ (λ set is. set-same))
  stays (GetPid id num) other = on-sems (get_pid s.sems id num) (on-set id _ (λ set is. set-same))
  stays (GetNcnt id num) other = on-sems (get_waiting s id num (is_negative num)) (on-set id _ (λ set is. set-same))
  stays (GetZcnt id num) other = on-sems (get_waiting s id num (is_zero num)) (on-set id _ (λ set is. set-same))
  stays (GetAll id) other = on-sems (get_all s.sems id) (on-set id _ (λ set is. set-same))
  stays (SetVal id num value) other = on-sems (set_value s.sems (caller s client) id num value) (on-set id _ (λ set there. values-kept s.clock id _ _ other))
  stays (SetAll id values) other = on-sems (set_all s.sems (caller s client) id values) (on-set id _ (λ set there. values-kept s.clock id _ _ other))
  stays (ShmGet key size flags) other =
      let asked : Get = record { key = key; flags = flags } in
      any-shared (get_segment s.limits s.shared (caller s client) asked size)
  stays (ShmAt id flags) other = any-shared (attach s.shared (caller s client) id flags)
  stays (ShmDt att) other = any-shared (detach s.shared (caller s client) att)
  stays (ShmRead att offset len) other = any-shared (read_bytes s.shared (caller s client) att offset len)
  stays (ShmWrite att offset bytes) other = any-shared (write_bytes s.shared (caller s client) att offset bytes)
  stays (IpcStat of id) other = Ends-found (λ answer new. Kept new) (status_of s of id) BadId tt _ (λ told is. stays-same)
  stays (IpcSet of id uid gid mode qbytes) other =
      let new : Settings = record { uid = uid; gid = gid; mode = mode; qbytes = qbytes } in
      Ends-found (λ answer new. Kept new) (perm_of s of id) BadId tt _ (λ perm is.
      Ends-order (λ answer new. Kept new) (if is_within s qbytes then [] else Needs Resource ∷ []) (plans.Grant Done (with_set s of id new)) (put-kept of id new other))
  stays (IpcRmid of id) other = Ends-found (λ answer new. Kept new) (perm_of s of id) BadId tt _ (λ perm is. gone-kept of id other)
  stays (Listing of) other = stays-same
  stays (Interrupt p) other = Ends-order (λ answer new. Kept new) (to_signal s (caller s client) p) (plans.Grant Done s) stays-same
  stays (InterruptThread target) other = Ends-found (λ answer new. Kept new) (slice_get s.threads target) NoClient tt _ (λ t is.
      Ends-order (λ answer new. Kept new) (if t.pid == pid_at s client then [] else Needs (SameUser (creds_at s target).euid) ∷ []) (plans.Grant Done s) stays-same)
  stays (Kill p) other = Ends-found (λ answer new. Kept new) (find (has_pid p) s.threads) NoProcess tt _ (λ t is.
      Ends-order (λ answer new. Kept new) (to_signal s (caller s client) p) (plans.Grant Done (process_ended (all_ended s t.process) (as_process (caller s client) t)))
      (kill-kept t (ap (λ (o : Option Thread). is_same kinds.Sems kind && thread_owes s.sems at o) (sym is) ∙ other)))
  stays (SetCreds euid egid groups) other =
      let new = became euid egid groups (creds_at s client) in
      Ends-order (λ answer new. Kept new) (if is_some groups then Needs SetGroups ∷ [] else []) (plans.Grant Done (with_creds s client new)) (stays-creds new)
  stays (Assume creds) other = stays-creds (credentials_of creds)
  stays (Begin p creds) other = Ends-found (λ answer new. Kept new) (free_client s client) ClientInUse tt _ (λ t is. begun-kept client s.next p (s.next + 1) (credentials_of creds) s.shared (λ c ne living. ne))
  stays (Fork child p) other = Ends-found (λ answer new. Kept new) (free_client s child) ClientInUse tt _ (λ t is. begun-kept child s.next p (s.next + 1) (creds_at s client) (after_fork s.shared (caller s client) s.next) (not-child child t is))
  stays (Clone child) other = Ends-found (λ answer new. Kept new) (free_client s child) ClientInUse tt _ (λ t is. begun-kept child own (pid_at s client) s.next (creds_at s client) s.shared (not-child child t is))
  stays (Name p) other = name-kept p
  stays Exec other = exec-kept
  stays Exit other = exit-kept other (is_running rest own) refl
