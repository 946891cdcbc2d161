-- Few calls end a segment: the grant of any other leaves each that is there, and none changes how many bytes one has.
use Rattle.std.proofs.Common.{◌≡◌, ◌≤◌, ℕ, zero, suc, ◌+◌, ◌-◌, ◌++◌, arith, Bool, true, false, cond, List, [], ◌∷◌, length, refl, sym, ap, ◌∙◌, ⊎_elim, Option, Some, None}
use Rattle.std.specs.Prelude.{take, drop, ◌==◌, ◌&&◌, not, if◌then◌else◌, is_none, is_some, option_map, slice_get}
use Rattle.std.specs.FinMap as finite
use Rattle.std.specs.List.{find}
use Rattle.std.proofs.lemmas.Bool.{and_parts, cases_eq, false≢true, true≢false}
use Rattle.std.proofs.lemmas.Bool.Decides.{nat_tests}
use Rattle.std.proofs.lemmas.List.{length-append, length-take-le, length-drop}
use Rattle.std.proofs.lemmas.Option.{none-some, same_Some}
use Rattle.ipc_call.specs.declared.calls.Call.{Call}
use Rattle.ipc_call.specs.declared.calls.Call.TheVariants.{MsgSnd, MsgRcv, SemOp, SemTimedOp, ShmGet, ShmAt, ShmDt, ShmRead, ShmWrite, Exit, IpcStat, IpcSet, IpcRmid, Listing, Interrupt, SetCreds, Assume, Begin, Fork, Clone, Name, Exec, Kill, InterruptThread}
use Rattle.ipc_call.specs.declared.calls.Kind.{Kind}
use Rattle.ipc_call.specs.declared.calls.Kind.TheVariants as kinds
use Rattle.ipc_call.specs.declared.replies.Answer.{Answer}
use Rattle.ipc_call.specs.declared.replies.Answer.TheVariants.{Done}
use Rattle.ipc_call.specs.declared.rules.Rule.TheVariants.{BadId, ClientInUse, Ended, NoClient, NoProcess, NotAttached, OutOfSegment, TooManyAttached}
use Rattle.ipc_call.specs.declared.settings.Settings.{Settings}
use Rattle.ipc_perm.specs.Access.{Resource, SameUser, SetGroups, Writable}
use Rattle.ipc_ids.specs.Table.{Table, id_at, is_retired, is_usable, least_from, next_id, object_at, with_object, without_object}
use Rattle.ipc_ids.proofs.Least.{least_found}
use Rattle.ipc_ids.proofs.Sound.{get-insert-other, get-insert-same, get-remove-other, get-remove-same}
use Rattle.ipc_objects.specs.declared.object.Object.{Object}
use Rattle.ipc_objects.specs.Objects.{changed, with_contents, with_perm}
use Rattle.shm_seg.specs.declared.attachments.Attachment.{Attachment}
use Rattle.shm_seg.specs.Attachments.{attach_count, attachment_at, free_number, shmseg, without_attachment}
use Rattle.shm_seg.specs.Segments.{lies_within, overwritten}
use Rattle.ipc_model.specs.State.{Caller, Segment, Shared, State, caller, creds_at, has_pid, is_running, pid_at, process_at}
use Rattle.ipc_model.specs.Plan.{Needs, Passes, Plan, ◌⨾◌}
use Rattle.ipc_model.specs.Plan as plans
use Rattle.ipc_model.specs.Gets.{Get, get, get_segment, getting_segment, new_object, object_of_key}
use Rattle.ipc_model.specs.Segments.{attach, attached_by, behind, copied, copied_from, detach, detached, detached_by, detached_from, ends_segments, left_segment, read_bytes, segment_at, with_bytes, with_copy, without_number, write_bytes}
use Rattle.ipc_model.specs.Processes.{all_ended, as_process, ended, free_client, process_ended, to_signal}
use Rattle.ipc_model.specs.Controls.{is_within, marked, perm_of, status_of, with_new_owner, with_set, without_segment}
use Rattle.ipc_model.specs.Decide.{OnQueues, OnSems, OnShared, OnState, PartPlan, can_wait, decide, decide_call, is_late, may_call, part_plan, plan_alive, whole}
use Rattle.ipc_model.proofs.Calls.{Ends-getting, behind-there}
use Rattle.ipc_model.proofs.Granting.{Grants, grants-check, grants-found, grants-grant, grants-on, grants-passes}
use Rattle.ipc_model.proofs.Late.{late-granted}
use Rattle.ipc_model.proofs.Plans.{Ends, Ends-decision, Ends-found, Ends-on, Ends-order, IfGranted}

abbrev pub Segments : Type 0
Segments = Table (Object Segment)

abbrev pub long : Object Segment → ℕ
long o = length o.contents.bytes

-- each segment of the first is in the second, with as many bytes
pub record Lasts (t u : Segments) : Type 0 where
  pub each : (id : ℕ) (x : Object Segment) → finite.get t.objects id ≡ Some x → (y : Object Segment) × (finite.get u.objects id ≡ Some y) × (long y ≡ long x)

lasts-same : (t : Segments) → Lasts t t
lasts-same t = record { each = λ id x is. (x, is, refl) }

lasts-on : (t u v : Segments) → Lasts t u → Lasts u v → Lasts t v
lasts-on t u v first second = record {
  each = λ id x is. let one = first.each id x is in let two = second.each id one.0 one.1 in (two.0, two.1, two.2 ∙ one.2);
}

module _ (t : Segments) (id : ℕ) where
  -- an object comes in the place of one with as many bytes
  module _ (x y : Object Segment) (there : finite.get t.objects id ≡ Some x) (same : long y ≡ long x) where
    lasts-put : Lasts t (with_object t id y)
    lasts-put = record {
      each = λ j z is. ⊎_elim
          (λ (e : j ≡ id). (
            y,
            ap (λ n. finite.get (with_object t id y).objects n) e ∙ get-insert-same t.objects id y,
            same ∙ ap (λ (o : Object Segment). long o) (same_Some x z (sym there ∙ ap (λ n. finite.get t.objects n) (sym e) ∙ is)),
          ))
          (λ (ne : j ≡ id → ⊥). (z, get-insert-other t.objects id y j ne ∙ is, refl))
          (cases_eq j id);
    }

    was-put : Lasts (with_object t id y) t
    was-put = record {
      each = λ j z is. ⊎_elim
          (λ (e : j ≡ id). (
            x,
            ap (λ n. finite.get t.objects n) e ∙ there,
            sym same ∙ ap (λ (o : Object Segment). long o) (same_Some y z (sym (get-insert-same t.objects id y) ∙ ap (λ n. finite.get (with_object t id y).objects n) (sym e) ∙ is)),
          ))
          (λ (ne : j ≡ id → ⊥). (z, sym (get-insert-other t.objects id y j ne) ∙ is, refl))
          (cases_eq j id);
    }

  module _ (f : Object Segment → Object Segment) (keeps : (x : Object Segment) → finite.get t.objects id ≡ Some x → long (f x) ≡ long x) where
    lasts-changed : Lasts t (changed t id f)
    lasts-changed = by (finite.get t.objects id) refl
      where
        by : (o : Option (Object Segment)) → finite.get t.objects id ≡ o → Lasts t (with_perm t id f o)
        by None is = lasts-same t
        by (Some x) is = lasts-put x (f x) is (keeps x is)

    was-changed : Lasts (changed t id f) t
    was-changed = by (finite.get t.objects id) refl
      where
        by : (o : Option (Object Segment)) → finite.get t.objects id ≡ o → Lasts (with_perm t id f o) t
        by None is = lasts-same t
        by (Some x) is = was-put x (f x) is (keeps x is)

  lasts-new : (y : Object Segment) → finite.get t.objects id ≡ None → Lasts t (with_object t id y)
  lasts-new y free = record {
    each = λ j z is. ⊎_elim
        (λ (e : j ≡ id). absurd (none-some z (sym free ∙ ap (λ n. finite.get t.objects n) (sym e) ∙ is)))
        (λ (ne : j ≡ id → ⊥). (z, get-insert-other t.objects id y j ne ∙ is, refl))
        (cases_eq j id);
  }

  was-left : Lasts (without_object t id) t
  was-left = record {
    each = λ j z is. ⊎_elim
        (λ (e : j ≡ id). absurd (none-some z (sym (get-remove-same t.objects id) ∙ ap (λ n. finite.get (without_object t id).objects n) (sym e) ∙ is)))
        (λ (ne : j ≡ id → ⊥). (z, sym (get-remove-other t.objects id j ne) ∙ is, refl))
        (cases_eq j id);
  }

-- no object has the identifier of the next
next_free : (t : Segments) (id : ℕ) → next_id t ≡ Some id → finite.get t.objects id ≡ None
next_free t id is = by (least_from (λ slot. is_usable t slot) t.slots 0) refl is
  where
    none : (o : Option (Object Segment)) → is_none o ≡ true → o ≡ None
    none None is = refl
    none (Some x) is = absurd (false≢true is)

    by : (o : Option ℕ) → least_from (λ slot. is_usable t slot) t.slots 0 ≡ o → option_map (λ slot. id_at t slot) o ≡ Some id → finite.get t.objects id ≡ None
    by None found is = absurd (none-some id is)
    by (Some slot) found is =
        ap (λ n. finite.get t.objects n) (sym (same_Some (id_at t slot) id is))
        ∙ none (object_at t slot) (and_parts (not (is_retired t slot)) (is_none (object_at t slot)) (least_found (λ slot. is_usable t slot) t.slots 0 slot found).0).1

-- shmwrite
pub written-long : (offset : ℕ) (new old : List ℕ) → lies_within offset (length new) old ≡ true → length (overwritten offset new old) ≡ length old
written-long offset new old fits =
    let within : offset + length new ≤ length old = grind (arith, nat_tests) in
    let front = length-take-le offset old (omega (arith, within)) in
    let back = length-drop (offset + length new) old in
    let middle = length-append (take offset old) new in
    let whole = length-append (take offset old ++ new) (drop (offset + length new) old) in
    whole ∙ sum (length (take offset old)) (length new) (length (drop (offset + length new) old)) (length (take offset old ++ new)) (length old) offset front middle back within
  where
    sum : (x y z xy n k : ℕ) → x ≡ k → xy ≡ x + y → z ≡ n - (k + y) → k + y ≤ n → xy + z ≡ n
    sum x y z xy n k front middle back within = omega (arith, front, middle, back, within)

-- shmdt, exec, and the end of a process
was-segment : (b : Shared) (who : Caller) (id : ℕ) (o : Option (Object Segment)) → segment_at b id ≡ o → Lasts (left_segment b who id o).segments b.segments
was-segment b who id None is = lasts-same b.segments
was-segment b who id (Some segment) is = by (segment.contents.is_marked && attach_count b.attached id == 0)
  where
    by : (gone : Bool) → Lasts (cond gone (without_object b.segments id) (with_contents b.segments id (detached_by who segment.contents))) b.segments
    by true = was-left b.segments id
    by false = was-changed b.segments id (λ (o : Object Segment). record o { contents = detached_by who segment.contents }) (λ x at. ap (λ (o : Object Segment). long o) (same_Some segment x (sym is ∙ at)))

was-number : (a : Shared) (who : Caller) (number : ℕ) (o : Option Attachment) → Lasts (without_number a who number o).segments a.segments
was-number a who number None = lasts-same a.segments
was-number a who number (Some of) = was-segment (record a { attached = without_attachment a.attached who.process number }) who of.segment (segment_at a of.segment) refl

was-each : (left number : ℕ) (who : Caller) (a : Shared) → Lasts (detached_from left number who a).segments a.segments
unfolding detached_from
was-each zero number who a = lasts-same a.segments
was-each (suc left) number who a =
    let first = detached a who number in
    lasts-on (detached_from left (number + 1) who first).segments first.segments a.segments (was-each left (number + 1) who first) (was-number a who number (attachment_at a.attached who.process number))

-- IPC_RMID
was-removed : (a : Shared) (id : ℕ) → Lasts (without_segment a id).segments a.segments
was-removed a id = by (attach_count a.attached id == 0)
  where
    by : (b : Bool) → Lasts (cond b (without_object a.segments id) (changed a.segments id marked)) a.segments
    by true = was-left a.segments id
    by false = was-changed a.segments id marked (λ x is. refl)

-- fork
lasts-copy : (a : Shared) (who : Caller) (child number : ℕ) (parents childs : Option Attachment) → Lasts a.segments (with_copy a who child number parents childs).segments
lasts-copy a who child number None childs = lasts-same a.segments
lasts-copy a who child number (Some of) (Some other) = lasts-same a.segments
lasts-copy a who child number (Some of) None = lasts-changed a.segments of.segment (λ (o : Object Segment). record o { contents = attached_by who o.contents }) (λ x is. refl)

lasts-copies : (left number : ℕ) (who : Caller) (child : ℕ) (a : Shared) → Lasts a.segments (copied_from left number who child a).segments
unfolding copied_from
lasts-copies zero number who child a = lasts-same a.segments
lasts-copies (suc left) number who child a =
    let first = copied a who child number in
    lasts-on a.segments first.segments (copied_from left (number + 1) who child first).segments
    (lasts-copy a who child number (attachment_at a.attached who.process number) (attachment_at a.attached child number)) (lasts-copies left (number + 1) who child first)

-- of a call that may end segments, those that are there were there; of another, those that were there are there
abbrev pub Goes : Bool → Segments → Segments → Type 0
Goes true t u = Lasts u t
Goes false t u = Lasts t u

pub goes-same : (may : Bool) (t : Segments) → Goes may t t
goes-same true t = lasts-same t
goes-same false t = lasts-same t

abbrev pub Goes-to : Bool → State → State → Type 0
Goes-to may s new = Goes may s.shared.segments new.shared.segments

each-end : {X : Type 0} (P : Answer → X → Type 0) → ((answer : Answer) (x : X) → P answer x) → (p : Plan X) → Ends P p
each-end P all (check ⨾ rest) = each-end P all rest
each-end P all (plans.Refuse rule plain) = tt
each-end P all (plans.Grant answer new) = all answer new

-- a plan of queues or of sets
abbrev is_beside : PartPlan → Bool
is_beside (OnQueues p) = true
is_beside (OnSems p) = true
is_beside (OnShared p) = false
is_beside (OnState p) = false

abbrev pub KeepsShared : State → Answer → State → Type 0
KeepsShared s answer new = new.shared ≡ s.shared

beside-part : (s : State) (p : PartPlan) → is_beside p ≡ true → Ends (KeepsShared s) (whole s p)
beside-part s (OnQueues p) is = Ends-on (λ queues. record s { queues = queues }) (KeepsShared s) p (each-end _ (λ answer x. refl) p)
beside-part s (OnSems p) is = Ends-on (λ sems. record s { sems = sems }) (KeepsShared s) p (each-end _ (λ answer x. refl) p)
beside-part s (OnShared p) is = absurd (false≢true is)
beside-part s (OnState p) is = absurd (false≢true is)

module _ (s : State) (client : ℕ) where
  abbrev me : Caller
  me = caller s client

  abbrev own : ℕ
  own = process_at s client

  -- a call that may wait is of queues or sets
  waits-alive : (call : Call) → can_wait call ≡ true → Ends (KeepsShared s) (plan_alive s client call)
  unfolding part_plan
  waits-alive (MsgSnd id mtype text flags) can = beside-part s (part_plan s me (MsgSnd id mtype text flags)) refl
  waits-alive (MsgRcv id size msgtyp flags) can = beside-part s (part_plan s me (MsgRcv id size msgtyp flags)) refl
  waits-alive (SemOp id ops) can = beside-part s (part_plan s me (SemOp id ops)) refl
  waits-alive (SemTimedOp id ops timeout) can = beside-part s (part_plan s me (SemTimedOp id ops timeout)) refl
  waits-alive call can = absurd (true≢false (sym can))

  pub waits-keeps : (call : Call) → can_wait call ≡ true → IfGranted (KeepsShared s) (decide s client call)
  waits-keeps call can = Ends-decision (creds_at s client) (KeepsShared s) (plans.Passes (may_call s client call) Ended tt ⨾ plan_alive s client call) (waits-alive call can)

  abbrev pub To : Bool → Answer → State → Type 0
  To may answer new = Goes-to may s new

  on-shared : (may : Bool) (p : Plan Shared) → Ends (λ answer u. Goes may s.shared.segments u.segments) p → Ends (To may) (whole s (OnShared p))
  on-shared may p ends = Ends-on (λ shared. record s { shared = shared }) (To may) p ends

  goes-beside : (p : PartPlan) → is_beside p ≡ true → Ends (To false) (whole s p)
  goes-beside (OnQueues p) is = Ends-on (λ queues. record s { queues = queues }) (To false) p (each-end _ (λ answer x. lasts-same s.shared.segments) p)
  goes-beside (OnSems p) is = Ends-on (λ sems. record s { sems = sems }) (To false) p (each-end _ (λ answer x. lasts-same s.shared.segments) p)
  goes-beside (OnShared p) is = absurd (false≢true is)
  goes-beside (OnState p) is = absurd (false≢true is)

  goes-set : (kind : Kind) (id : ℕ) (new : Settings) → Goes-to false s (with_set s kind id new)
  goes-set kinds.Queue id new = lasts-same s.shared.segments
  goes-set kinds.Sems id new = lasts-same s.shared.segments
  goes-set kinds.Segment id new = lasts-changed s.shared.segments id (with_new_owner s.clock new) (λ x is. refl)

  goes-exit : (running : Bool) → Goes-to true s (cond running (ended s client) (process_ended (ended s client) me))
  goes-exit true = lasts-same s.shared.segments
  goes-exit false = was-each shmseg 0 me s.shared

  abbrev is_write : Call → Bool
  is_write (ShmWrite att offset bytes) = true
  is_write call = false

  -- each call but shmwrite, of which a check tells how many bytes it may write
  goes-ends : (call : Call) → is_write call ≡ false → Ends (To (ends_segments call)) (plan_alive s client call)
  unfolding part_plan
  goes-ends (ShmWrite att offset bytes) other = absurd (true≢false other)
  goes-ends (ShmGet key size flags) other =
      let asked : Get = record { key = key; flags = flags } in
      let a = s.shared in
      let put : Segments → Shared = λ segments. record a { segments = segments } in
      let getting = getting_segment s.limits (pid_at s client) size in
      on-shared false (get_segment s.limits a me asked size) (Ends-on put (λ answer u. Lasts a.segments u.segments) (get a.segments me asked getting)
      (Ends-getting a.segments me asked getting (λ t. Lasts a.segments t) (lasts-same a.segments)
      (λ id is. lasts-new a.segments id (new_object me asked.key asked.flags getting.new) (next_free a.segments id is)) (object_of_key a.segments key)))
  goes-ends (ShmAt id flags) other =
      on-shared false (attach s.shared me id flags) (Ends-found _ (segment_at s.shared id) BadId tt _ (λ segment there. Ends-found _ (free_number s.shared.attached own) TooManyAttached tt _ (λ number free.
      lasts-changed s.shared.segments id (λ (o : Object Segment). record o { contents = attached_by me segment.contents }) (λ x at. ap (λ (o : Object Segment). long o) (same_Some segment x (sym there ∙ at))))))
  goes-ends (ShmDt att) other =
      on-shared true (detach s.shared me att) (Ends-found _ (attachment_at s.shared.attached own att) NotAttached tt _ (λ of there. was-number s.shared me att (Some of)))
  goes-ends (ShmRead att offset len) other =
      on-shared false (read_bytes s.shared me att offset len) (Ends-found _ (behind s.shared own att) NotAttached tt _ (λ there is. lasts-same s.shared.segments))
  goes-ends (IpcStat kind id) other = Ends-found (To false) (status_of s kind id) BadId tt _ (λ told is. lasts-same s.shared.segments)
  goes-ends (IpcSet kind id uid gid mode qbytes) other =
      let new : Settings = record { uid = uid; gid = gid; mode = mode; qbytes = qbytes } in
      Ends-found (To false) (perm_of s kind id) BadId tt _ (λ perm is.
      Ends-order (To false) (if is_within s qbytes then [] else Needs Resource ∷ []) (plans.Grant Done (with_set s kind id new)) (goes-set kind id new))
  goes-ends (IpcRmid kinds.Queue id) other = Ends-found (To false) (perm_of s kinds.Queue id) BadId tt _ (λ perm is. lasts-same s.shared.segments)
  goes-ends (IpcRmid kinds.Sems id) other = Ends-found (To false) (perm_of s kinds.Sems id) BadId tt _ (λ perm is. lasts-same s.shared.segments)
  goes-ends (IpcRmid kinds.Segment id) other = Ends-found (To true) (perm_of s kinds.Segment id) BadId tt _ (λ perm is. was-removed s.shared id)
  goes-ends (Listing kind) other = lasts-same s.shared.segments
  goes-ends (Interrupt p) other = Ends-order (To false) (to_signal s me p) (plans.Grant Done s) (lasts-same s.shared.segments)
  goes-ends (InterruptThread target) other = Ends-found (To false) (slice_get s.threads target) NoClient tt _ (λ t is.
      Ends-order (To false) (if t.pid == pid_at s client then [] else Needs (SameUser (creds_at s target).euid) ∷ []) (plans.Grant Done s) (lasts-same s.shared.segments))
  goes-ends (Kill p) other = Ends-found (To true) (find (has_pid p) s.threads) NoProcess tt _ (λ t is.
      Ends-order (To true) (to_signal s me p) (plans.Grant Done (process_ended (all_ended s t.process) (as_process me t))) (was-each shmseg 0 (as_process me t) s.shared))
  goes-ends (SetCreds euid egid groups) other = Ends-order (To false) (if is_some groups then Needs SetGroups ∷ [] else []) _ (lasts-same s.shared.segments)
  goes-ends (Assume creds) other = lasts-same s.shared.segments
  goes-ends (Begin p creds) other = Ends-found (To false) (free_client s client) ClientInUse tt _ (λ t is. lasts-same s.shared.segments)
  goes-ends (Fork child p) other = Ends-found (To false) (free_client s child) ClientInUse tt _ (λ t is. lasts-copies shmseg 0 me s.next s.shared)
  goes-ends (Clone child) other = Ends-found (To false) (free_client s child) ClientInUse tt _ (λ t is. lasts-same s.shared.segments)
  goes-ends (Name p) other = lasts-same s.shared.segments
  goes-ends Exec other = was-each shmseg 0 me s.shared
  goes-ends Exit other = goes-exit (is_running (ended s client) own)
  goes-ends call other = goes-beside (part_plan s me call) refl

  goes-write : (att offset : ℕ) (bytes : List ℕ) → Grants (creds_at s client) (Goes-to false s) (plan_alive s client (ShmWrite att offset bytes))
  unfolding part_plan
  goes-write att offset bytes =
      let c = creds_at s client in
      let a = s.shared in
      let P : Shared → Type 0 = λ u. Lasts a.segments u.segments in
      grants-on (Goes-to false s) c (λ shared. record s { shared = shared }) {p = write_bytes a me att offset bytes} (
      grants-found P c (behind a own att) NotAttached tt (λ there is.
      let found = behind-there a own att there.0 there.1 is in
      grants-check P c (Needs (Writable there.0.is_read_only)) (
      grants-passes P c (lies_within offset (length bytes) there.1.contents.bytes) OutOfSegment tt (λ fits.
      grants-grant P c Done (with_bytes a there.0.segment there.1.contents offset bytes)
      (lasts-changed a.segments there.0.segment (λ (o : Object Segment). record o { contents = record there.1.contents { bytes = overwritten offset bytes there.1.contents.bytes } })
      (λ x at. written-long offset bytes there.1.contents.bytes fits ∙ ap (λ (o : Object Segment). long o) (same_Some there.1 x (sym found ∙ at))))))))

  goes-plan : (call : Call) → Grants (creds_at s client) (Goes-to (ends_segments call) s) (plan_alive s client call)
  goes-plan (ShmWrite att offset bytes) = goes-write att offset bytes
  goes-plan call = record { granted = Ends-decision (creds_at s client) (To (ends_segments call)) (plan_alive s client call) (goes-ends call refl) }

  pub goes-call : (call : Call) → IfGranted (To (ends_segments call)) (decide_call s client call)
  goes-call call =
      late-granted (To (ends_segments call)) (is_late s call) (decide s client call)
      (grants-check (Goes-to (ends_segments call) s) (creds_at s client) (Passes (may_call s client call) Ended tt) (goes-plan call)).granted
