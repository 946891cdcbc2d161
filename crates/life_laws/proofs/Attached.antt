-- What a process has attached stays, but by few calls: a line for each call.
use Rattle.std.proofs.Common.{◌≡◌, ℕ, ◌+◌, zero, suc, Bool, true, false, cond, set, [], ◌∷◌, refl, sym, ap, subst, ◌∙◌, Option, Some, None}
use Rattle.std.specs.Prelude.{◌==◌, ◌&&◌, is_some, not, slice_get, if◌then◌else◌}
use Rattle.std.specs.List.{find, list_any}
use Rattle.std.proofs.lemmas.Bool.{eq-eqb, false≢true, true≢false}
use Rattle.std.proofs.lemmas.Option.{none-some}
use Rattle.ipc_call.specs.declared.calls.Call.{Call}
use Rattle.ipc_call.specs.declared.calls.Call.TheVariants.{ShmGet, ShmAt, ShmDt, ShmRead, ShmWrite, IpcStat, IpcSet, IpcRmid, Listing, Interrupt, InterruptThread, SetCreds, Assume, Begin, Fork, Clone, Name, Exec, Exit, Kill}
use Rattle.ipc_call.specs.declared.calls.Kind.{Kind}
use Rattle.ipc_call.specs.declared.calls.Kind.TheVariants as kinds
use Rattle.ipc_call.specs.declared.replies.Answer.{Answer}
use Rattle.ipc_call.specs.declared.replies.Answer.TheVariants.{Done}
use Rattle.ipc_call.specs.declared.rules.Rule.TheVariants.{BadId, ClientInUse, Ended, NoClient, NoProcess, NotAttached, TooManyAttached}
use Rattle.ipc_call.specs.declared.settings.Settings.{Settings}
use Rattle.ipc_objects.specs.declared.object.Object.{Object}
use Rattle.ipc_perm.specs.Access.{Resource, SameUser, SetGroups}
use Rattle.shm_seg.specs.declared.attachments.Attachment.{Attachment}
use Rattle.shm_seg.specs.Attachments.{attachment_at, free_number, shmseg, without_attachment}
use Rattle.shm_seg.proofs.Changes.{attached_apart, detached_apart, free_there}
use Rattle.ipc_model.specs.State.{Caller, Segment, Shared, State, Thread, caller, creds_at, has_pid, is_running, pid_at, process_at, runs, thread_at}
use Rattle.ipc_model.specs.Decision.{Decision, Granted, Refused, Waits}
use Rattle.ipc_model.specs.Plan.{Needs, Plan, ◌⨾◌}
use Rattle.ipc_model.specs.Plan as plans
use Rattle.ipc_model.specs.Gets.{Get, get, get_segment, getting_segment}
use Rattle.ipc_model.specs.Segments.{attach, attachment_to, behind, copied, detach, detached, detached_from, copied_from, left_segment, read_bytes, segment_at, with_copy, without_number, write_bytes}
use Rattle.ipc_model.specs.Controls.{is_within, perm_of, removed, status_of, with_set}
use Rattle.ipc_model.specs.Processes.{all_ended, as_process, ended, free_client, process_ended, to_signal}
use Rattle.ipc_model.specs.Decide.{OnQueues, OnSems, OnShared, OnState, PartPlan, decide, decide_call, is_late, may_call, part_plan, plan_alive, whole}
use Rattle.ipc_model.specs.Step.{Event, begun, moved_as}
use Rattle.ipc_model.proofs.Late.{late-granted}
use Rattle.ipc_model.proofs.Plans.{Ends, Ends-decision, Ends-found, Ends-on, Ends-order, IfGranted}
use Rattle.ipc_history.specs.History.{History, run, with_event}
use Rattle.life_laws.specs.Filed.{detaches, is_of}
use Rattle.life_laws.specs.Lives.{gone}
use Rattle.life_laws.proofs.Steps.{run-with}
use Rattle.life_laws.proofs.Waits.{can-run, same-step}

each-end : {X : Type 0} (P : Answer → X → Type 0) → ((answer : Answer) (x : X) → P answer x) → (p : Plan X) → Ends P p
each-end P all (check ⨾ rest) = each-end P all rest
each-end P all (plans.Refuse rule plain) = tt
each-end P all (plans.Grant answer new) = all answer new

-- a plan of queues or of sets
abbrev is_beside : PartPlan → Bool
is_beside (OnQueues p) = true
is_beside (OnSems p) = true
is_beside (OnShared p) = false
is_beside (OnState p) = false

-- the process has this attached under this number
module _ (process number : ℕ) (a : Attachment) where
  abbrev pub Has : Shared → Type 0
  Has shared = attachment_at shared.attached process number ≡ Some a

  has-left : (b : Shared) (who : Caller) (id : ℕ) (o : Option (Object Segment)) → Has b → Has (left_segment b who id o)
  has-left b who id None has = has
  has-left b who id (Some segment) has = has

  -- another attachment goes
  has-detached : (b : Shared) (who : Caller) (n : ℕ) (o : Option Attachment) → (who.process ≡ process → n ≡ number → ⊥) → Has b → Has (without_number b who n o)
  has-detached b who n None apart has = has
  has-detached b who n (Some of) apart has =
      has-left (record b { attached = without_attachment b.attached who.process n }) who of.segment (segment_at b of.segment)
      (detached_apart b.attached who.process n process number (λ same e. apart (sym same) (sym e)) ∙ has)

  -- all of another process
  has-each : (left n : ℕ) (who : Caller) (b : Shared) → (who.process ≡ process → ⊥) → Has b → Has (detached_from left n who b)
  unfolding detached_from
  has-each zero n who b apart has = has
  has-each (suc left) n who b apart has =
      has-each left (n + 1) who (detached b who n) apart (has-detached b who n (attachment_at b.attached who.process n) (λ same e. apart same) has)

  -- a copy comes under a number that is free
  has-copy : (b : Shared) (who : Caller) (child n : ℕ) (parents childs : Option Attachment) → attachment_at b.attached child n ≡ childs → Has b → Has (with_copy b who child n parents childs)
  has-copy b who child n None childs is has = has
  has-copy b who child n (Some of) (Some other) is has = has
  has-copy b who child n (Some of) None is has =
      attached_apart b.attached child n of process number
      (λ same e. let here : attachment_at b.attached process number ≡ attachment_at b.attached child n = λ i. attachment_at b.attached (same i) (e i) in none-some a (sym is ∙ sym here ∙ has))
      ∙ has

  has-copies : (left n : ℕ) (who : Caller) (child : ℕ) (b : Shared) → Has b → Has (copied_from left n who child b)
  unfolding copied_from
  has-copies zero n who child b has = has
  has-copies (suc left) n who child b has =
      has-copies left (n + 1) who child (copied b who child n)
      (has-copy b who child n (attachment_at b.attached who.process n) (attachment_at b.attached child n) refl has)

  module _ (s : State) (client : ℕ) (has : Has s.shared) where
    abbrev me : Caller
    me = caller s client

    abbrev own : ℕ
    own = process_at s client

    abbrev To : Answer → State → Type 0
    To answer new = Has new.shared

    on-shared : (p : Plan Shared) → Ends (λ answer u. Has u) p → Ends To (whole s (OnShared p))
    on-shared p ends = Ends-on (λ shared. record s { shared = shared }) To p ends

    has-beside : (p : PartPlan) → is_beside p ≡ true → Ends To (whole s p)
    has-beside (OnQueues p) is = Ends-on (λ queues. record s { queues = queues }) To p (each-end _ (λ answer x. has) p)
    has-beside (OnSems p) is = Ends-on (λ sems. record s { sems = sems }) To p (each-end _ (λ answer x. has) p)
    has-beside (OnShared p) is = absurd (false≢true is)
    has-beside (OnState p) is = absurd (false≢true is)

    has-set : (kind : Kind) (id : ℕ) (new : Settings) → To Done (with_set s kind id new)
    has-set kinds.Queue id new = has
    has-set kinds.Sems id new = has
    has-set kinds.Segment id new = has

    has-removed : (kind : Kind) (id : ℕ) → To Done (removed s kind id)
    has-removed kinds.Queue id = has
    has-removed kinds.Sems id = has
    has-removed kinds.Segment id = has

    -- a thread ends beside others of its process, or is of another one
    has-exit : (running : Bool) → is_running (ended s client) own ≡ running → detaches s.threads client Exit process number ≡ false
        → To Done (cond running (ended s client) (process_ended (ended s client) me))
    has-exit true is off = has
    has-exit false is off = has-each shmseg 0 me s.shared (λ same.
        let last : list_any (runs process) (set s.threads client (gone (thread_at s client))) ≡ false = ap (λ (q : ℕ). list_any (runs q) (set s.threads client (gone (thread_at s client)))) (sym same) ∙ is in
        true≢false (sym (λ i. eq-eqb own process same i && not (last i)) ∙ off)) has

    has-ends : (call : Call) → detaches s.threads client call process number ≡ false → Ends To (plan_alive s client call)
    unfolding part_plan
    has-ends (ShmGet key size flags) off =
        let asked : Get = record { key = key; flags = flags } in
        let getting = getting_segment s.limits (pid_at s client) size in
        on-shared (get_segment s.limits s.shared me asked size)
        (Ends-on (λ segments. record s.shared { segments = segments }) (λ answer u. Has u) (get s.shared.segments me asked getting) (each-end _ (λ answer x. has) (get s.shared.segments me asked getting)))
    has-ends (ShmAt id flags) off =
        on-shared (attach s.shared me id flags) (Ends-found _ (segment_at s.shared id) BadId tt _ (λ segment there. Ends-found _ (free_number s.shared.attached own) TooManyAttached tt _ (λ n free.
        attached_apart s.shared.attached own n (attachment_to id flags) process number
        (λ same e.
        let here : attachment_at s.shared.attached process number ≡ attachment_at s.shared.attached own n = λ i. attachment_at s.shared.attached (same i) (e i) in
        none-some a (sym (free_there s.shared.attached own n free) ∙ sym here ∙ has))
        ∙ has)))
    has-ends (ShmDt att) off =
        on-shared (detach s.shared me att) (Ends-found _ (attachment_at s.shared.attached own att) NotAttached tt _ (λ of there.
        has-detached s.shared me att (Some of) (λ same e. true≢false (sym (λ i. eq-eqb own process same i && eq-eqb att number e i) ∙ off)) has))
    has-ends (ShmRead att offset len) off =
        on-shared (read_bytes s.shared me att offset len) (Ends-found _ (behind s.shared own att) NotAttached tt _ (λ there is. has))
    has-ends (ShmWrite att offset bytes) off =
        on-shared (write_bytes s.shared me att offset bytes) (Ends-found _ (behind s.shared own att) NotAttached tt _ (λ there is. has))
    has-ends (IpcStat kind id) off = Ends-found To (status_of s kind id) BadId tt _ (λ told is. has)
    has-ends (IpcSet kind id uid gid mode qbytes) off =
        let new : Settings = record { uid = uid; gid = gid; mode = mode; qbytes = qbytes } in
        Ends-found To (perm_of s kind id) BadId tt _ (λ perm is.
        Ends-order To (if is_within s qbytes then [] else Needs Resource ∷ []) (plans.Grant Done (with_set s kind id new)) (has-set kind id new))
    has-ends (IpcRmid kind id) off = Ends-found To (perm_of s kind id) BadId tt _ (λ perm is. has-removed kind id)
    has-ends (Listing kind) off = has
    has-ends (Interrupt p) off = Ends-order To (to_signal s me p) (plans.Grant Done s) has
    has-ends (InterruptThread target) off = Ends-found To (slice_get s.threads target) NoClient tt _ (λ t is.
        Ends-order To (if t.pid == pid_at s client then [] else Needs (SameUser (creds_at s target).euid) ∷ []) (plans.Grant Done s) has)
    has-ends (Kill p) off = Ends-found To (find (has_pid p) s.threads) NoProcess tt _ (λ t is.
        Ends-order To (to_signal s me p) (plans.Grant Done (process_ended (all_ended s t.process) (as_process me t)))
        (has-each shmseg 0 (as_process me t) s.shared (λ same. true≢false (sym (eq-eqb t.process process same) ∙ sym (ap (λ (o : Option Thread). is_of process o) is) ∙ off)) has))
    has-ends (SetCreds euid egid groups) off = Ends-order To (if is_some groups then Needs SetGroups ∷ [] else []) _ has
    has-ends (Assume creds) off = has
    has-ends (Begin p creds) off = Ends-found To (free_client s client) ClientInUse tt _ (λ t is. has)
    has-ends (Fork child p) off = Ends-found To (free_client s child) ClientInUse tt _ (λ t is. has-copies shmseg 0 me s.next s.shared has)
    has-ends (Clone child) off = Ends-found To (free_client s child) ClientInUse tt _ (λ t is. has)
    has-ends (Name p) off = has
    has-ends Exec off = has-each shmseg 0 me s.shared (λ same. true≢false (sym (eq-eqb own process same) ∙ off)) has
    has-ends Exit off = has-exit (is_running (ended s client) own) refl off
    has-ends call off = has-beside (part_plan s me call) refl

    has-decide : (call : Call) → detaches s.threads client call process number ≡ false → IfGranted To (decide s client call)
    has-decide call off = Ends-decision (creds_at s client) To (plans.Passes (may_call s client call) Ended tt ⨾ plan_alive s client call) (has-ends call off)

    has-moved : (call : Call) (d : Decision State) → IfGranted To d → Has (moved_as s client call d).state.shared
    has-moved call (Refused rule) to = has
    has-moved call Waits to = has
    has-moved call (Granted answer new) to = to

  pub attached-stays : (h : History) (e : Event) → attachment_at (run h).shared.attached process number ≡ Some a → detaches (run h).threads e.client e.call process number ≡ false
      → attachment_at (run (with_event h e)).shared.attached process number ≡ Some a
  attached-stays h e has off =
      let now = begun (run h) e.now in
      subst (λ (t : State). Has t.shared) (sym (run-with h e))
      (subst Has (sym ((same-step (run h) e (can-run h)).shared))
      (has-moved now e.client has e.call (decide_call now e.client e.call)
      (late-granted (λ answer new. Has new.shared) (is_late now e.call) (decide now e.client e.call) (has-decide now e.client has e.call off))))
