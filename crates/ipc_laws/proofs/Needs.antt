-- What a waiting call needs, and so which waiting calls a grant cancels, is the same of a state and of its blur.
use Rattle.std.proofs.Common.{◌≡◌, ℕ, Bool, refl, sym, ap, ◌∙◌, Option, Some, None}
use Rattle.std.specs.Prelude.{option_map, if◌then◌else◌}
use Rattle.std.specs.FinMap as finite
use Rattle.ipc_call.specs.declared.calls.Call.{Call}
use Rattle.ipc_call.specs.declared.calls.Call.TheVariants.{IpcSet, MsgSnd, MsgRcv, SemOp, SemTimedOp}
use Rattle.ipc_call.specs.declared.calls.Kind.{Kind}
use Rattle.ipc_call.specs.declared.perms.Perm.{Perm}
use Rattle.ipc_call.specs.declared.replies.Waiting.{Waiting}
use Rattle.ipc_creds.specs.Credentials.{Credentials}
use Rattle.ipc_perm.specs.Access.{to_alter, to_read}
use Rattle.ipc_ids.specs.Table.{Table}
use Rattle.ipc_objects.specs.declared.object.Object.{Object}
use Rattle.ipc_model.specs.State.{State, creds_at}
use Rattle.ipc_model.specs.Controls.{perm_in}
use Rattle.ipc_model.specs.Semaphores.{wanted_by}
use Rattle.ipc_model.specs.Decide.{needs}
use Rattle.ipc_model.specs.Cancelled.{cancelled, first_denial, waits_on}
use Rattle.ipc_model.proofs.Needs.{needs_for, operator-needs, receiver-needs, sender-needs, timed-needs}
use Rattle.ipc_laws.specs.Worlds.{all_masked, blank_queue, blank_set, hides_closed, masked}
use Rattle.ipc_laws.proofs.Sight.{dim}
use Rattle.ipc_laws.proofs.Tables.{get-masked, perm-masked}

-- permissions are seen as they are
pub perm-all : {X : Type 0} (empty : X → X) (hides : ℕ → Perm → Bool) (t : Table (Object X)) (id : ℕ) → perm_in (all_masked empty hides t) id ≡ perm_in t id
perm-all {X} empty hides t id = ap (option_map (λ (o : Object X). o.perm)) (get-masked empty hides t id) ∙ by (finite.get t.objects id)
  where
    by : (o : Option (Object X)) → option_map (λ (o : Object X). o.perm) (option_map (λ (o : Object X). masked empty hides id o) o) ≡ option_map (λ (o : Object X). o.perm) o
    by None = refl
    by (Some o) = ap (λ (p : Perm). Some p) (perm-masked empty hides id o)

module _ (client : ℕ) (c : Credentials) (s : State) where
  abbrev dimmed : State
  dimmed = dim client c s

  set-dim : (kind : Kind) (id who : ℕ) (call : Call) → (if waits_on kind id call then first_denial (creds_at s who) (needs dimmed who call) else None) ≡ (if waits_on kind id call then first_denial (creds_at s who) (needs s who call) else None)
  set-dim kind id who (MsgSnd at mtype text flags) =
      ap (λ ns. if waits_on kind id (MsgSnd at mtype text flags) then first_denial (creds_at s who) ns else None)
      (sender-needs dimmed who at mtype text flags ∙ ap (needs_for to_alter) (perm-all blank_queue (hides_closed client c) s.queues at) ∙ sym (sender-needs s who at mtype text flags))
  set-dim kind id who (MsgRcv at size msgtyp flags) =
      ap (λ ns. if waits_on kind id (MsgRcv at size msgtyp flags) then first_denial (creds_at s who) ns else None)
      (receiver-needs dimmed who at size msgtyp flags ∙ ap (needs_for to_read) (perm-all blank_queue (hides_closed client c) s.queues at) ∙ sym (receiver-needs s who at size msgtyp flags))
  set-dim kind id who (SemOp at ops) =
      ap (λ ns. if waits_on kind id (SemOp at ops) then first_denial (creds_at s who) ns else None)
      (operator-needs dimmed who at ops ∙ ap (needs_for (wanted_by ops)) (perm-all blank_set (hides_closed client c) s.sems.sets at) ∙ sym (operator-needs s who at ops))
  set-dim kind id who (SemTimedOp at ops timeout) =
      ap (λ ns. if waits_on kind id (SemTimedOp at ops timeout) then first_denial (creds_at s who) ns else None)
      (timed-needs dimmed who at ops timeout ∙ ap (needs_for (wanted_by ops)) (perm-all blank_set (hides_closed client c) s.sems.sets at) ∙ sym (timed-needs s who at ops timeout))
  set-dim kind id who call = refl

  pub cancelled-dim : (call : Call) (w : Waiting) → cancelled dimmed call w ≡ cancelled s call w
  cancelled-dim (IpcSet kind id uid gid mode qbytes) w = set-dim kind id w.client w.call
  cancelled-dim call w = refl
