-- Each call of the client itself comes out alike in a state and in its blur: a line for each call.
use Rattle.std.proofs.Common.{◌≡◌, ◌≢◌, ⊎_elim, ℕ, Bool, true, false, cond, List, [], ◌∷◌, refl, sym, ap, ◌∙◌, subst, ℤ, Some, None}
use Rattle.std.specs.Prelude.{◌==◌, ◌+◌, not, ◌&&◌, length, map, nat_le, nat_lt, is_some, option_map, unwrap_or, slice_get, slice_set, if◌then◌else◌}
use Rattle.std.specs.List.{count_by, find, list_any}
use Rattle.std.proofs.lemmas.Bool.{cases_eq, eqb-true, true≢false}
use Rattle.ipc_call.specs.declared.calls.Call.{Call}
use Rattle.ipc_call.specs.declared.calls.Call.TheVariants.{MsgGet, MsgSnd, MsgRcv, SemGet, SemOp, SemTimedOp, GetVal, GetPid, GetNcnt, GetZcnt, GetAll, SetVal, SetAll, ShmGet, ShmAt, ShmDt, ShmRead, ShmWrite, Exit, IpcStat, IpcSet, IpcRmid, Listing, Interrupt, SetCreds, Assume, Begin, Fork, Clone, Name, Exec, Kill, InterruptThread}
use Rattle.ipc_call.specs.declared.calls.Kind.TheVariants as kinds
use Rattle.ipc_call.specs.declared.calls.SemOper.{SemOper}
use Rattle.ipc_call.specs.declared.replies.Answer.TheVariants.{Done}
use Rattle.ipc_call.specs.declared.rules.Rule.TheVariants.{BadPid, ClientInUse, Ended, NoClient, NoProcess, PidInUse, TooManyGroups}
use Rattle.ipc_creds.specs.Credentials.{Credentials, became, groups_max}
use Rattle.ipc_perm.specs.Access.{BecomeGroup, BecomeUser, SameUser, SetGroups}
use Rattle.ipc_objects.specs.declared.object.Object.{Object}
use Rattle.sem_set.specs.Sets.{pid_of as last_of, value_of}
use Rattle.sem_undo.specs.Entries.{adj_of}
use Rattle.ipc_model.specs.State.{Caller, Queues, SemSet, Sems, Shared, State, Thread, caller, creds_at, has_pid, is_running, pid_at, process_at}
use Rattle.ipc_model.specs.Plan.{Needs, Passes, Plan}
use Rattle.ipc_model.specs.Gets.{getting_queue, Get}
use Rattle.ipc_model.specs.Semaphores.{after_exit, set_at, stopping, stopping_on}
use Rattle.ipc_model.specs.Segments.{after_detaches, after_fork}
use Rattle.ipc_model.specs.Processes.{after_exec, all_ended, as_process, credentials_of, ended, free_client, is_other, is_process, process_ended, renamed, to_signal, with_client, with_creds}
use Rattle.ipc_model.specs.Decide.{OnQueues, OnSems, OnShared, get_waiting, is_negative, is_stopped_at, is_zero, may_call, part_plan, plan, plan_alive, waits_at, waits_for, whole}
use Rattle.ipc_laws.specs.Worlds.{blank_queue, blank_set, blur_by, blur_shared, hides_closed, is_hidden, is_hidden_at}
use Rattle.ipc_laws.proofs.Controls.{own-list, own-remove, own-set, own-stat}
use Rattle.ipc_laws.proofs.Lists.{count-kept}
use Rattle.ipc_laws.proofs.Pairs.{Both, both-check, both-found, both-grant, both-on, both-order}
use Rattle.ipc_laws.proofs.Parts.{both-get}
use Rattle.ipc_laws.proofs.Queues as queues
use Rattle.ipc_laws.proofs.Segments as segments
use Rattle.ipc_laws.proofs.Sets as sets
use Rattle.ipc_laws.proofs.Sight.{IsAlike, dim, dim-twice, lift-queues, lift-sems, lift-shared, same-state, sight}
use Rattle.ipc_laws.proofs.Tables.{get-seen, hidden-at}

-- GETNCNT and GETZCNT of a set in sight: all that wait at it are in sight
module _ (client : ℕ) (c : Credentials) (s : State) (id : ℕ) (seen : sets.hid client c s.sems id ≡ false) (which : SemOper → Bool) where
  abbrev blurred : State
  blurred = blur_by client c s

  stops : (who : ℕ) (ops : List SemOper) → stopping blurred.sems who id ops ≡ stopping s.sems who id ops
  stops who ops =
      ap (λ o. unwrap_or (option_map (λ (set : Object SemSet). stopping_on (adj_of blurred.sems.undo who id) ops set.contents.semaphores) o) None) (get-seen blank_set (hides_closed client c) s.sems.sets id seen)
      ∙ ap (λ (adj : ℕ → ℤ). unwrap_or (option_map (λ (set : Object SemSet). stopping_on adj ops set.contents.semaphores) (set_at s.sems id)) None) (sym (sets.same-adj client c s.sems who id seen))

  waits-same : (who : ℕ) (call : Call) → waits_for blurred.sems id which who call ≡ waits_for s.sems id which who call
  waits-same who (SemOp other ops) = ap (λ o. other == id && is_stopped_at which o) (stops who ops)
  waits-same who call = refl

  waits-never : (who : ℕ) (call : Call) → not (is_hidden_at client c s (waits_at call)) ≡ false → waits_for s.sems id which who call ≡ false
  waits-never who (SemOp other ops) unseen = by (other == id) refl
    where
      by : (b : Bool) → (other == id) ≡ b → (b && is_stopped_at which (stopping s.sems who id ops)) ≡ false
      by true is = absurd (true≢false (sym (ap not (ap (sets.hid client c s.sems) (eqb-true other id is) ∙ seen)) ∙ unseen))
      by false is = refl
  waits-never who call unseen = refl

  pub count-same : count_by (λ w. waits_for s.sems id which (process_at s w.client) w.call) s.parked ≡ count_by (λ w. waits_for blurred.sems id which (process_at s w.client) w.call) blurred.parked
  count-same = sym (count-kept (λ w. waits_for s.sems id which (process_at s w.client) w.call) (λ w. waits_for blurred.sems id which (process_at s w.client) w.call) (sight client c s)
      (λ w yes. waits-same (process_at s w.client) w.call) (λ w unseen. waits-never (process_at s w.client) w.call unseen) s.parked)

module _ (client : ℕ) (s : State) where
  abbrev c : Credentials
  c = creds_at s client

  abbrev home : ℕ
  home = process_at s client

  abbrev b : State
  b = blur_by home c s

  abbrev R : State → State → Type 0
  R new later = IsAlike home c s new later

  on-queues : {p : Plan Queues} {q : Plan Queues} → Both c (queues.IsAlike home c s.queues) p q → Both c R (whole s (OnQueues p)) (whole b (OnQueues q))
  on-queues both = both-on (queues.IsAlike home c s.queues) R (λ u. record s { queues = u }) (λ v. record b { queues = v }) (lift-queues home c s) c both

  on-sems : {p q : Plan Sems} → Both c (sets.IsAlike home c s.sems) p q → Both c R (whole s (OnSems p)) (whole b (OnSems q))
  on-sems both = both-on (sets.IsAlike home c s.sems) R (λ u. record s { sems = u }) (λ v. record b { sems = v }) (lift-sems home c s) c both

  on-shared : {p q : Plan Shared} → Both c (segments.IsAlike home c s.shared) p q → Both c R (whole s (OnShared p)) (whole b (OnShared q))
  on-shared both = both-on (segments.IsAlike home c s.shared) R (λ u. record s { shared = u }) (λ v. record b { shared = v }) (lift-shared home c s) c both

  own-waiting : (id num : ℕ) (which : SemOper → Bool) → Both c (sets.IsAlike home c s.sems) (get_waiting s id num which) (get_waiting b id num which)
  own-waiting id num which = sets.own-look home c s.sems id num _ _ (λ o there isnt. count-same home c s id (hidden-at (hides_closed home c) s.sems.sets id (Some o) there ∙ isnt) which)

  -- the parts, and what stands beside them
  own-parts : (new later : State) → new.queues ≡ s.queues → sets.IsAlike home c s.sems new.sems later.sems → dim home c new ≡ dim home c later → R new later
  own-parts new later queues on_sems same = (same, (λ q is. ap (λ (u : Queues). is_hidden home c (record s { queues = u }) kinds.Queue q) queues ∙ is, on_sems.1))

  abbrev me : Caller
  me = caller s client

  own-ended : R (ended s client) (ended b client)
  own-ended = own-parts (ended s client) (ended b client) refl (sets.same-sems home c s.sems) (λ i. record (dim-twice home c s i) { threads = (ended s client).threads })

  own-process : R (process_ended (ended s client) me) (process_ended (ended b client) me)
  own-process = own-parts (process_ended (ended s client) me) (process_ended (ended b client) me) refl on_sems
      (λ i. record (dim-twice home c s i) { threads = (ended s client).threads; sems = on_sems.0 i; shared = on_shared.0 i })
    where
      on_sems : sets.IsAlike home c s.sems (after_exit s.sems me) (after_exit b.sems me)
      on_sems = sets.own-exit home c s.sems me

      on_shared : segments.IsAlike home c s.shared (after_detaches s.shared me) (after_detaches b.shared me)
      on_shared = segments.own-exit home c client (pid_at s client) c s.clock s.shared

  own-exit : (running : Bool) → R (cond running (ended s client) (process_ended (ended s client) me)) (cond running (ended b client) (process_ended (ended b client) me))
  own-exit true = own-ended
  own-exit false = own-process

  own-begun : (child q p next : ℕ) (d : Credentials) (u v : Shared) → segments.IsAlike home c s.shared u v
      → R (record (with_client s child q p d) { next = next; shared = u }) (record (with_client b child q p d) { next = next; shared = v })
  own-begun child q p next d u v on_shared =
      own-parts (record (with_client s child q p d) { next = next; shared = u }) (record (with_client b child q p d) { next = next; shared = v }) refl (sets.same-sems home c s.sems)
      (λ i. record (dim-twice home c s i) { clients = (with_client s child q p d).clients; threads = (with_client s child q p d).threads; next = next; shared = on_shared.0 i })

  own-named : (p : ℕ) → R (record s { threads = map (renamed home p) s.threads }) (record b { threads = map (renamed home p) s.threads })
  own-named p = own-parts (record s { threads = map (renamed home p) s.threads }) (record b { threads = map (renamed home p) s.threads }) refl (sets.same-sems home c s.sems)
      (λ i. record (dim-twice home c s i) { threads = map (renamed home p) s.threads })

  own-creds : (new : Credentials) → R (with_creds s client new) (with_creds b client new)
  own-creds new = (λ i. record (dim-twice home c s i) { clients = slice_set s.clients client new }, (λ q is. is, λ q is. is))

  own-exec : R (after_exec s me) (after_exec b me)
  own-exec = own-parts (after_exec s me) (after_exec b me) refl (sets.same-sems home c s.sems)
      (λ i. record (dim-twice home c s i) {
        clients = (after_exec s me).clients;
        threads = (after_exec s me).threads;
        shared = (segments.own-exit home c client (pid_at s client) c s.clock s.shared).0 i;
      })

  -- the end of a process, its own or another
  module _ (t : Thread) where
    abbrev victim : Caller
    victim = as_process me t

    kill-sems : sets.IsAlike home c s.sems (after_exit s.sems victim) (after_exit b.sems victim)
    kill-sems = sets.own-exit home c s.sems victim

    abbrev IsLeft : ℕ → Type 0
    IsLeft q = blur_shared home c (after_detaches s.shared (record victim { process = q })) ≡ blur_shared home c (after_detaches b.shared (record victim { process = q }))

    kill-shared : IsLeft t.process
    kill-shared = ⊎_elim
        (λ (same : t.process ≡ home). subst IsLeft (sym same) (segments.own-exit home c client t.pid c s.clock s.shared).0)
        (λ (other : t.process ≢ home). segments.other-exit home c victim other s.shared)
        (cases_eq t.process home)

    own-kill : R (process_ended (all_ended s t.process) victim) (process_ended (all_ended b t.process) victim)
    own-kill = own-parts (process_ended (all_ended s t.process) victim) (process_ended (all_ended b t.process) victim) refl kill-sems
        (λ i. record (dim-twice home c s i) { threads = (all_ended s t.process).threads; sems = kill-sems.0 i; shared = kill-shared i })

  own-alive : (call : Call) → Both c R (plan_alive s client call) (plan_alive b client call)
  unfolding part_plan
  own-alive (MsgGet key flags) =
      let asked : Get = record { key = key; flags = flags } in
      on-queues (both-get blank_queue (hides_closed home c) s.queues (λ x. refl) c (getting_queue s.limits) (λ x. refl) (caller s client) asked)
  own-alive (MsgSnd id mtype text flags) = on-queues (queues.own-send home c s.queues (caller s client) id s.limits (record { message = record { mtype = mtype; text = text }; flags = flags }))
  own-alive (MsgRcv id size msgtyp flags) = on-queues (queues.own-receive home c s.queues (caller s client) id (record { size = size; msgtyp = msgtyp; flags = flags }))
  own-alive (SemGet key nsems flags) =
      let asked : Get = record { key = key; flags = flags } in
      on-sems (sets.own-get home c s.sems s.limits (caller s client) asked nsems)
  own-alive (SemOp id ops) = on-sems (sets.own-operate home c s.sems id (caller s client) ops s.limits)
  own-alive (SemTimedOp id ops timeout) = on-sems (sets.own-operate home c s.sems id (caller s client) ops s.limits)
  own-alive (GetVal id num) = on-sems (sets.own-look home c s.sems id num (λ ss. value_of ss num) (λ ss. value_of ss num) (λ o there isnt. refl))
  own-alive (GetPid id num) = on-sems (sets.own-look home c s.sems id num (λ ss. last_of ss num) (λ ss. last_of ss num) (λ o there isnt. refl))
  own-alive (GetNcnt id num) = on-sems (own-waiting id num (is_negative num))
  own-alive (GetZcnt id num) = on-sems (own-waiting id num (is_zero num))
  own-alive (GetAll id) = on-sems (sets.own-all home c s.sems id)
  own-alive (SetVal id num value) = on-sems (sets.own-set home c s.sems id (caller s client) num value)
  own-alive (SetAll id values) = on-sems (sets.own-set_all home c s.sems id (caller s client) values)
  own-alive (ShmGet key size flags) =
      let asked : Get = record { key = key; flags = flags } in
      on-shared (segments.own-get home c s.shared s.limits (caller s client) asked size)
  own-alive (ShmAt id flags) = on-shared (segments.own-attach home c s.shared client (pid_at s client) c s.clock id flags)
  own-alive (ShmDt att) = on-shared (segments.own-detach home c s.shared client (pid_at s client) c s.clock att)
  own-alive (ShmRead att offset len) = on-shared (segments.own-read home c s.shared client (pid_at s client) c s.clock att offset len)
  own-alive (ShmWrite att offset bytes) = on-shared (segments.own-write home c s.shared client (pid_at s client) c s.clock att offset bytes)
  own-alive (IpcStat kind id) = own-stat home c s kind id
  own-alive (IpcSet kind id uid gid mode qbytes) = own-set home c s kind id (record { uid = uid; gid = gid; mode = mode; qbytes = qbytes })
  own-alive (IpcRmid kind id) = own-remove home c s kind id
  own-alive (Listing kind) = own-list home c s client (pid_at s client) s.clock kind
  own-alive (Interrupt p) = both-check R c (Passes (is_process s p) NoProcess tt) (both-order R c (to_signal s me p) (both-grant R c Done s b (same-state home c s)))
  own-alive (InterruptThread target) = both-found R c (slice_get s.threads target) NoClient tt (λ t is.
      both-check R c (Passes (not t.has_ended) NoProcess tt)
      (both-order R c (if t.pid == pid_at s client then [] else Needs (SameUser (creds_at s target).euid) ∷ []) (both-grant R c Done s b (same-state home c s))))
  own-alive (Kill p) = both-found R c (find (has_pid p) s.threads) NoProcess tt (λ t is. both-order R c (to_signal s me p) (both-grant R c Done _ _ (own-kill t)))
  own-alive (SetCreds euid egid groups) =
      let new = became euid egid groups c in
      both-check R c (Passes (nat_le (length (unwrap_or groups [])) groups_max) TooManyGroups tt) (both-check R c (Needs (BecomeUser euid)) (both-check R c (Needs (BecomeGroup egid))
      (both-order R c (if is_some groups then Needs SetGroups ∷ [] else []) (both-grant R c Done (with_creds s client new) (with_creds b client new) (own-creds new)))))
  own-alive (Assume creds) = both-check R c (Passes (nat_le (length creds.groups) groups_max) TooManyGroups tt) (both-grant R c Done _ _ (own-creds (credentials_of creds)))
  own-alive (Begin p creds) = both-found R c (free_client s client) ClientInUse tt (λ t is.
      both-check R c (Passes (nat_lt 0 p) BadPid tt) (both-check R c (Passes (nat_le (length creds.groups) groups_max) TooManyGroups tt)
      (both-check R c (Passes (not (is_process s p)) PidInUse tt)
      (both-grant R c Done _ _ (own-begun client s.next p (s.next + 1) (credentials_of creds) s.shared b.shared (segments.same-shared home c s.shared))))))
  own-alive (Fork child p) = both-check R c (Passes (nat_lt 0 p) BadPid tt) (both-check R c (Passes (nat_lt child (length s.threads)) NoClient tt)
      (both-found R c (free_client s child) ClientInUse tt (λ t is. both-check R c (Passes (not (is_process s p)) PidInUse tt)
      (both-grant R c Done _ _ (own-begun child s.next p (s.next + 1) c (after_fork s.shared me s.next) (after_fork b.shared me s.next)
      (segments.own-fork home c client (pid_at s client) c s.clock s.next s.shared))))))
  own-alive (Clone child) = both-check R c (Passes (nat_lt child (length s.threads)) NoClient tt) (both-found R c (free_client s child) ClientInUse tt (λ t is.
      both-grant R c Done _ _ (own-begun child home (pid_at s client) s.next c s.shared b.shared (segments.same-shared home c s.shared))))
  own-alive (Name p) = both-check R c (Passes (nat_lt 0 p) BadPid tt) (both-check R c (Passes (not (list_any (is_other home p) s.threads)) PidInUse tt)
      (both-grant R c Done _ _ (own-named p)))
  own-alive Exec = both-grant R c Done _ _ own-exec
  own-alive Exit = both-grant R c Done _ _ (own-exit (is_running (ended s client) home))

  own-plan : (call : Call) → Both c R (plan s client call) (plan b client call)
  own-plan call = both-check R c (Passes (may_call s client call) Ended tt) (own-alive call)

-- with the client's process and credentials by other names
pub own-alike : (client p : ℕ) (d : Credentials) (s : State) (call : Call) → creds_at s client ≡ d → process_at s client ≡ p → Both d (IsAlike p d s) (plan s client call) (plan (blur_by p d s) client call)
own-alike client p d s call is at =
    subst (λ e. Both e (IsAlike p e s) (plan s client call) (plan (blur_by p e s) client call)) is
    (subst (λ q. Both (creds_at s client) (IsAlike q (creds_at s client) s) (plan s client call) (plan (blur_by q (creds_at s client) s) client call)) at (own-plan client s call))
