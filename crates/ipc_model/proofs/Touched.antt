-- A call that waits on an object that an event doesn't touch is ready after it if it was before. So the earliest that is
-- ready is found among those that were touched.
use Rattle.std.proofs.Common.{◌≡◌, ◌≢◌, ℕ, Bool, true, false, cond, eqb, List, [], ◌∷◌, length, refl, sym, ap, subst, ◌∙◌, ⊎_elim, Option, Some, None}
use Rattle.std.specs.Prelude.{◌&&◌, ◌||◌, is_some, not, pos, int_le, nat_le, nat_lt}
use Rattle.std.specs.FinMap as finite
use Rattle.std.specs.List.{AllByRecursion, find, filter}
use Rattle.std.proofs.lemmas.Bool.{cases_Bool, eqb-true, false≢true, true≢false}
use Rattle.std.proofs.lemmas.Option.{none-some, same_Some}
use Rattle.ipc_objects.specs.Objects.{with_contents}
use Rattle.ipc_call.specs.declared.settings.Receive.{Receive}
use Rattle.ipc_call.specs.declared.calls.Call.{Call}
use Rattle.ipc_call.specs.declared.calls.Call.TheVariants.{MsgSnd, MsgRcv, SemOp, SemTimedOp}
use Rattle.ipc_call.specs.declared.calls.Kind.{Kind}
use Rattle.ipc_call.specs.declared.calls.Kind.TheVariants as kinds
use Rattle.ipc_call.specs.declared.calls.SemOper.{SemOper}
use Rattle.ipc_call.specs.declared.replies.Answer.TheVariants.{Done}
use Rattle.ipc_call.specs.declared.replies.Waiting.{Waiting}
use Rattle.ipc_call.specs.declared.rules.Rule.TheVariants.{BadId, BadType, Ended, NoOperations, SemOutOfSet, TextTooLong, TooManyOperations}
use Rattle.ipc_ids.specs.Table.{Table, next_id}
use Rattle.ipc_objects.specs.declared.object.Object.{Object}
use Rattle.ipc_perm.specs.Access.{Permission, to_read}
use Rattle.msg_queue.specs.declared.messages.Message.{Message}
use Rattle.sem_set.specs.Trials.{are_in}
use Rattle.sem_undo.specs.Entries.{adj_of}
use Rattle.ipc_model.specs.State.{Caller, Queue, Queues, SemSet, Sems, State, caller, creds_at, process_at}
use Rattle.ipc_model.specs.Decision.{proceeds}
use Rattle.ipc_model.specs.Plan.{Grant, Needs, Passes, Plan, decision, in_order, on_part, ◌⨾◌}
use Rattle.ipc_model.specs.Cancelled.{is_same, waits_on}
use Rattle.ipc_model.specs.Messages.{chosen, queue_at, receive_found, receive_message, send_found, send_message, take_chosen, Send}
use Rattle.ipc_model.specs.Semaphores.{operate, operate_found, operated, set_at, trial_checks, wanted_by}
use Rattle.ipc_model.specs.Decide.{OnQueues, OnSems, begins, decide, may_call, part_plan, plan, plan_alive, waits_at, whole}
use Rattle.ipc_model.specs.Step.{first_ready, is_ready}
use Rattle.ipc_model.specs.Touched.{is_id}
use Rattle.ipc_model.proofs.Stays.{AreLiving, IsSeenAlike, Stays}
use Rattle.ipc_model.proofs.Apart.{next-free}
use Rattle.ipc_model.proofs.Alike.{blank, blank-found, blank-on, blank-order, proceeds-alike}
use Rattle.ipc_model.proofs.Plans.{never_waits, proceeds-never}

-- plans over the same object are the same but for what they grant
send-seen : (a b : Queues) (who other : Caller) (id : ℕ) (asked : Send) (queue : Option (Object Queue)) → blank (send_found a who id asked queue) ≡ blank (send_found b other id asked queue)
send-seen a b who other id asked queue = blank-found queue BadId tt _ _ (λ queue. refl)

take-seen : (a b : Queues) (who other : Caller) (id : ℕ) (asked : Receive) (queue : Queue) (taken : Option (ℕ × Message)) → blank (on_part (with_contents a id) (take_chosen who asked queue taken)) ≡ blank (on_part (with_contents b id) (take_chosen other asked queue taken))
take-seen a b who other id asked queue None = refl
take-seen a b who other id asked queue (Some taken) = refl

module _ (s new : State) (client c : ℕ) (kind : Kind) (at : ℕ) (stays : Stays s client kind at new) (other : c ≢ client) (living : AreLiving s new c) where
  queues-seen : (p q : Plan Queues) → blank p ≡ blank q → blank (whole new (OnQueues p)) ≡ blank (whole s (OnQueues q))
  queues-seen p q same = blank-on (λ queues. record new { queues = queues }) p ∙ same ∙ sym (blank-on (λ queues. record s { queues = queues }) q)

  sems-seen : (p q : Plan Sems) → blank p ≡ blank q → blank (whole new (OnSems p)) ≡ blank (whole s (OnSems q))
  sems-seen p q same = blank-on (λ sems. record new { sems = sems }) p ∙ same ∙ sym (blank-on (λ sems. record s { sems = sems }) q)

  queue-same : (id : ℕ) → is_same kinds.Queue kind && eqb id at ≡ true → queue_at new.queues id ≡ queue_at s.queues id
  queue-same id on = by kind stays.object on
    where
      by : (k : Kind) → IsSeenAlike k at client s new → is_same kinds.Queue k && eqb id at ≡ true → queue_at new.queues id ≡ queue_at s.queues id
      by kinds.Queue seen on = subst (λ (i : ℕ). queue_at new.queues i ≡ queue_at s.queues i) (sym (eqb-true id at on)) seen
      by kinds.Sems seen on = absurd (false≢true on)
      by kinds.Segment seen on = absurd (false≢true on)

  set-same : (id : ℕ) → is_same kinds.Sems kind && eqb id at ≡ true → (set_at new.sems id ≡ set_at s.sems id) × (adj_of new.sems.undo (process_at new c) id ≡ adj_of s.sems.undo (process_at s c) id)
  set-same id on = by kind stays.object on
    where
      by : (k : Kind) → IsSeenAlike k at client s new → is_same kinds.Sems k && eqb id at ≡ true → (set_at new.sems id ≡ set_at s.sems id) × (adj_of new.sems.undo (process_at new c) id ≡ adj_of s.sems.undo (process_at s c) id)
      by kinds.Queue seen on = absurd (false≢true on)
      by kinds.Sems seen on =
          subst (λ (i : ℕ). (set_at new.sems i ≡ set_at s.sems i) × (adj_of new.sems.undo (process_at new c) i ≡ adj_of s.sems.undo (process_at s c) i)) (sym (eqb-true id at on))
          (seen.0, ap (λ (p : ℕ). adj_of new.sems.undo p at) (stays.process c other living) ∙ (λ i num. seen.1 c other living num i))
      by kinds.Segment seen on = absurd (false≢true on)

  operate-seen : (id : ℕ) (ops : List SemOper) → is_same kinds.Sems kind && eqb id at ≡ true
      → blank (whole new (OnSems (operate new.limits new.sems (caller new c) id ops))) ≡ blank (whole s (OnSems (operate s.limits s.sems (caller s c) id ops)))
  operate-seen id ops on =
      let same = set-same id on in
      sems-seen (operate new.limits new.sems (caller new c) id ops) (operate s.limits s.sems (caller s c) id ops)
      ((λ i. Passes (nat_lt 0 (length ops)) NoOperations tt ⨾ Passes (nat_le (length ops) (stays.limits i).sem_opm) TooManyOperations tt ⨾ blank (operate_found new.sems (caller new c) id ops (same.0 i)))
      ∙ ap (λ p. Passes (nat_lt 0 (length ops)) NoOperations tt ⨾ Passes (nat_le (length ops) s.limits.sem_opm) TooManyOperations tt ⨾ p)
      (blank-found (set_at s.sems id) BadId tt _ _ (λ (set : Object SemSet).
      ap (λ p. Needs (Permission set.perm (wanted_by ops)) ⨾ Passes (are_in set.contents.semaphores ops) SemOutOfSet tt ⨾ p)
      (ap (λ adj. blank (in_order (trial_checks set.contents.semaphores adj [] ops) (Grant Done (operated new.sems (caller new c) id ops set.contents)))) same.1 ∙ blank-order (trial_checks set.contents.semaphores (adj_of s.sems.undo (process_at s c) id) [] ops) (Grant Done (operated new.sems (caller new c) id ops set.contents)) (Grant Done (operated s.sems (caller s c) id ops set.contents)) refl))))

  alive-seen : (call : Call) → waits_on kind at call ≡ true → blank (plan_alive new c call) ≡ blank (plan_alive s c call)
  unfolding part_plan
  alive-seen (MsgSnd id mtype text flags) on =
      let asked : Send = record { message = record { mtype = mtype; text = text }; flags = flags } in
      queues-seen (send_message new.limits new.queues (caller new c) id asked) (send_message s.limits s.queues (caller s c) id asked)
      ((λ i. Passes (int_le (pos 1) mtype) BadType tt ⨾ Passes (nat_le (length text) (stays.limits i).msg_max) TextTooLong tt ⨾ blank (send_found new.queues (caller new c) id asked (queue-same id on i)))
      ∙ ap (λ p. Passes (int_le (pos 1) mtype) BadType tt ⨾ Passes (nat_le (length text) s.limits.msg_max) TextTooLong tt ⨾ p) (send-seen new.queues s.queues (caller new c) (caller s c) id asked (queue_at s.queues id)))
  alive-seen (MsgRcv id size msgtyp flags) on =
      let asked : Receive = record { size = size; msgtyp = msgtyp; flags = flags } in
      queues-seen (receive_message new.queues (caller new c) id asked) (receive_message s.queues (caller s c) id asked)
      (ap (λ o. blank (receive_found new.queues (caller new c) id asked o)) (queue-same id on)
      ∙ blank-found (queue_at s.queues id) BadId tt _ _ (λ (queue : Object Queue).
      ap (λ p. Needs (Permission queue.perm to_read) ⨾ p)
      (take-seen new.queues s.queues (caller new c) (caller s c) id asked queue.contents (chosen queue.contents.messages asked))))
  alive-seen (SemOp id ops) on = operate-seen id ops on
  alive-seen (SemTimedOp id ops timeout) on = operate-seen id ops on
  alive-seen call on = absurd (false≢true on)

-- so such a call can proceed or waits as before
pub stays_alike : (s new : State) (client c : ℕ) (kind : Kind) (at : ℕ) → Stays s client kind at new → c ≢ client → AreLiving s new c → (call : Call) → waits_on kind at call ≡ true → proceeds (decide new c call) ≡ proceeds (decide s c call)
stays_alike s new client c kind at stays other living call on =
    ap (λ d. proceeds (decision d (plan new c call))) (stays.creds c other living)
    ∙ proceeds-alike (creds_at s c) (plan new c call) (plan s c call)
    ((λ i. Passes (begins call || not ((living.1 ∙ sym living.0) i)) Ended tt ⨾ blank (plan_alive new c call))
    ∙ ap (λ p. Passes (may_call s c call) Ended tt ⨾ p) (alive-seen s new client c kind at stays other living call on))

-- the object on which a call waits is there
abbrev pub is_there : State → Kind → ℕ → Bool
is_there s kinds.Queue id = is_some (queue_at s.queues id)
is_there s kinds.Sems id = is_some (set_at s.sems id)
is_there s kinds.Segment id = false

-- where the object isn't there, the plan of a call on it doesn't wait
module _ (s : State) (client : ℕ) where
  sent-nowhere : (id : ℕ) (asked : Send) → queue_at s.queues id ≡ None → never_waits (whole s (OnQueues (send_message s.limits s.queues (caller s client) id asked))) ≡ true
  sent-nowhere id asked none = ap (λ o. never_waits (on_part (λ queues. record s { queues = queues }) (send_found s.queues (caller s client) id asked o))) none

  received-nowhere : (id : ℕ) (asked : Receive) → queue_at s.queues id ≡ None → never_waits (whole s (OnQueues (receive_message s.queues (caller s client) id asked))) ≡ true
  received-nowhere id asked none = ap (λ o. never_waits (on_part (λ queues. record s { queues = queues }) (receive_found s.queues (caller s client) id asked o))) none

  operated-nowhere : (id : ℕ) (ops : List SemOper) → set_at s.sems id ≡ None → never_waits (whole s (OnSems (operate s.limits s.sems (caller s client) id ops))) ≡ true
  operated-nowhere id ops none = ap (λ o. never_waits (on_part (λ sems. record s { sems = sems }) (operate_found s.sems (caller s client) id ops o))) none

  refused-nowhere : (call : Call) → proceeds (decide s client call) ≡ false → never_waits (plan s client call) ≡ true → ⊥
  refused-nowhere call waits never = true≢false (sym (proceeds-never (creds_at s client) (plan s client call) never) ∙ waits)

  there-or : {X : Type 0} (o : Option X) → (o ≡ None → ⊥) → is_some o ≡ true
  there-or None not_none = absurd (not_none refl)
  there-or (Some x) not_none = refl

  pub waits-there : (call : Call) → proceeds (decide s client call) ≡ false → (kind : Kind) (at : ℕ) → waits_at call ≡ Some (kind, at) → is_there s kind at ≡ true
  unfolding part_plan
  waits-there (MsgSnd id mtype text flags) waits kind at is =
      subst (λ (p : Kind × ℕ). is_there s p.0 p.1 ≡ true) (same_Some (kinds.Queue, id) (kind, at) is)
      (there-or (queue_at s.queues id) (λ none. refused-nowhere (MsgSnd id mtype text flags) waits (sent-nowhere id (record { message = record { mtype = mtype; text = text }; flags = flags }) none)))
  waits-there (MsgRcv id size msgtyp flags) waits kind at is =
      let asked : Receive = record { size = size; msgtyp = msgtyp; flags = flags } in
      subst (λ (p : Kind × ℕ). is_there s p.0 p.1 ≡ true) (same_Some (kinds.Queue, id) (kind, at) is)
      (there-or (queue_at s.queues id) (λ none. refused-nowhere (MsgRcv id size msgtyp flags) waits (received-nowhere id asked none)))
  waits-there (SemOp id ops) waits kind at is =
      subst (λ (p : Kind × ℕ). is_there s p.0 p.1 ≡ true) (same_Some (kinds.Sems, id) (kind, at) is)
      (there-or (set_at s.sems id) (λ none. refused-nowhere (SemOp id ops) waits (operated-nowhere id ops none)))
  waits-there (SemTimedOp id ops timeout) waits kind at is =
      subst (λ (p : Kind × ℕ). is_there s p.0 p.1 ≡ true) (same_Some (kinds.Sems, id) (kind, at) is)
      (there-or (set_at s.sems id) (λ none. refused-nowhere (SemTimedOp id ops timeout) waits (operated-nowhere id ops none)))
  waits-there call waits kind at is = absurd (none-some (kind, at) is)

-- so no call waits on the object that a get creates
pub unawaited : {X : Type 0} (t : Table X) (id : ℕ) → is_id (next_id t) id ≡ true → is_some (finite.get t.objects id) ≡ true → ⊥
unawaited {X} t id new there = by (next_id t) refl new
  where
    by : (o : Option ℕ) → next_id t ≡ o → is_id o id ≡ true → ⊥
    by None is new = false≢true new
    by (Some other) is new = false≢true (sym (ap (λ o. is_some o) (next-free t id (is ∙ ap (λ (n : ℕ). Some n) (eqb-true other id new)))) ∙ there)

-- the earliest that is ready is one that waits where something was touched
pub first-touched : (touched : Waiting → Bool) (test : Waiting → Bool) (ws : List Waiting) → AllByRecursion (λ w. touched w ≡ false → test w ≡ false) ws → find test ws ≡ find test (filter touched ws)
first-touched touched test [] quiet = refl
first-touched touched test (w ∷ ws) quiet =
    ⊎_elim
    (λ (on : touched w ≡ true). rw on (ap (λ o. cond (test w) (Some w) o) (first-touched touched test ws quiet.1)))
    (λ (off : touched w ≡ false). let no : test w ≡ false = quiet.0 off in rw (off, no) (first-touched touched test ws quiet.1))
    (cases_Bool (touched w))

pub ready_touched : (touched : Waiting → Bool) (s : State) → AllByRecursion (λ w. touched w ≡ false → is_ready s w ≡ false) s.parked → first_ready s ≡ find (is_ready s) (filter touched s.parked)
ready_touched touched s quiet = first-touched touched (is_ready s) s.parked quiet
