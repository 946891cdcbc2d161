-- What a call that may wait needs: the right on its object that its plan asks for, and nothing more.
use Rattle.std.proofs.Common.{◌≡◌, ℕ, ℤ, List, [], ◌∷◌, ◌++◌, refl, ap, ◌∙◌, Option, Some, None}
use Rattle.std.specs.Prelude.{option_map, unwrap_or}
use Rattle.ipc_call.specs.declared.calls.Call.TheVariants.{MsgSnd, MsgRcv, SemOp, SemTimedOp}
use Rattle.ipc_call.specs.declared.calls.SemOper.{SemOper}
use Rattle.ipc_call.specs.declared.perms.Perm.{Perm}
use Rattle.ipc_call.specs.declared.replies.Answer.TheVariants.{Done}
use Rattle.ipc_call.specs.declared.settings.Receive.{Receive}
use Rattle.ipc_perm.specs.Access.{Need, Permission, to_alter, to_read}
use Rattle.ipc_perm.specs.declared.access.Want.{Want}
use Rattle.ipc_objects.specs.Objects.{with_contents}
use Rattle.ipc_objects.specs.declared.object.Object.{Object}
use Rattle.msg_queue.specs.declared.messages.Message.{Message}
use Rattle.sem_set.specs.declared.set.Semaphore.{Semaphore}
use Rattle.sem_undo.specs.Entries.{adj_of}
use Rattle.ipc_model.specs.State.{Caller, Queue, Queues, SemSet, Sems, State, caller}
use Rattle.ipc_model.specs.Plan.{Grant, Plan, in_order, needs_in, on_part}
use Rattle.ipc_model.specs.Controls.{perm_in}
use Rattle.ipc_model.specs.Messages.{Send, chosen, queue_at, receive_found, receive_message, send_found, send_message, take_chosen}
use Rattle.ipc_model.specs.Semaphores.{operate, operate_found, operated, set_at, trial_checks, wanted_by}
use Rattle.ipc_model.specs.Decide.{needs, part_plan}
use Rattle.ipc_model.proofs.Plans.{needs-on}

-- the right on an object with these permissions, where there is one
abbrev pub needs_for : Want → Option Perm → List Need
needs_for want o = unwrap_or (option_map (λ perm. Permission perm want ∷ []) o) []

-- a call on messages, whatever it finds
module _ (queues : Queues) (who : Caller) (id : ℕ) where
  pub taken-needs : (asked : Receive) (queue : Queue) (taken : Option (ℕ × Message)) → needs_in (on_part (with_contents queues id) (take_chosen who asked queue taken)) ≡ []
  taken-needs asked queue None = refl
  taken-needs asked queue (Some taken) = refl

  pub received-needs : (asked : Receive) (queue : Option (Object Queue)) → needs_in (receive_found queues who id asked queue) ≡ needs_for to_read (option_map (λ q. q.perm) queue)
  received-needs asked None = refl
  received-needs asked (Some queue) = ap (λ ns. Permission queue.perm to_read ∷ ns) (taken-needs asked queue.contents (chosen queue.contents.messages asked))

  pub sent-needs : (asked : Send) (queue : Option (Object Queue)) → needs_in (send_found queues who id asked queue) ≡ needs_for to_alter (option_map (λ q. q.perm) queue)
  sent-needs asked None = refl
  sent-needs asked (Some queue) = refl

-- a trial needs nothing more
pub tried-needs : {X : Type 0} (sems : List Semaphore) (adj : ℕ → ℤ) (earlier ops : List SemOper) (p : Plan X) → needs_in (in_order (trial_checks sems adj earlier ops) p) ≡ needs_in p
tried-needs sems adj earlier [] p = refl
tried-needs sems adj earlier (o ∷ os) p = tried-needs sems adj (earlier ++ o ∷ []) os p

pub operated-needs : (sems : Sems) (who : Caller) (id : ℕ) (ops : List SemOper) (set : Option (Object SemSet)) → needs_in (operate_found sems who id ops set) ≡ needs_for (wanted_by ops) (option_map (λ o. o.perm) set)
operated-needs sems who id ops None = refl
operated-needs sems who id ops (Some set) =
    ap (λ ns. Permission set.perm (wanted_by ops) ∷ ns) (tried-needs set.contents.semaphores (adj_of sems.undo who.process id) [] ops (Grant Done (operated sems who id ops set.contents)))

-- each call that may wait
module _ (s : State) (client id : ℕ) where
  abbrev operates-needs : List SemOper → Type 0
  operates-needs ops = needs_in (on_part (λ sems. record s { sems = sems }) (operate s.limits s.sems (caller s client) id ops)) ≡ needs_for (wanted_by ops) (perm_in s.sems.sets id)

  by-operations : (ops : List SemOper) → operates-needs ops
  by-operations ops = needs-on (λ sems. record s { sems = sems }) (operate s.limits s.sems (caller s client) id ops) ∙ operated-needs s.sems (caller s client) id ops (set_at s.sems id)

  pub sender-needs : (mtype : ℤ) (text : List ℕ) (flags : ℕ) → needs s client (MsgSnd id mtype text flags) ≡ needs_for to_alter (perm_in s.queues id)
  unfolding part_plan
  sender-needs mtype text flags =
      let asked : Send = record { message = record { mtype = mtype; text = text }; flags = flags } in
      needs-on (λ queues. record s { queues = queues }) (send_message s.limits s.queues (caller s client) id asked) ∙ sent-needs s.queues (caller s client) id asked (queue_at s.queues id)

  pub receiver-needs : (size : ℕ) (msgtyp : ℤ) (flags : ℕ) → needs s client (MsgRcv id size msgtyp flags) ≡ needs_for to_read (perm_in s.queues id)
  unfolding part_plan
  receiver-needs size msgtyp flags =
      let asked : Receive = record { size = size; msgtyp = msgtyp; flags = flags } in
      needs-on (λ queues. record s { queues = queues }) (receive_message s.queues (caller s client) id asked) ∙ received-needs s.queues (caller s client) id asked (queue_at s.queues id)

  pub operator-needs : (ops : List SemOper) → needs s client (SemOp id ops) ≡ needs_for (wanted_by ops) (perm_in s.sems.sets id)
  unfolding part_plan
  operator-needs ops = by-operations ops

  pub timed-needs : (ops : List SemOper) (timeout : ℕ) → needs s client (SemTimedOp id ops timeout) ≡ needs_for (wanted_by ops) (perm_in s.sems.sets id)
  unfolding part_plan
  timed-needs ops timeout = by-operations ops
