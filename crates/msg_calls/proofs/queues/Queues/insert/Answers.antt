use Rattle.std.proofs.Common.{◌≡◌, ℕ, refl, sym, ap, ◌∙◌, Some, None, Option}
use Rattle.std.specs.Prelude.{is_some, option_map}
use Rattle.std.proofs.lemmas.Option.{none-some}
use Rattle.ipc_ids.specs.Table.{Table, find_object, next_id, with_object}
use Rattle.ipc_objects.specs.declared.object.Object.{Object}
use Rattle.ipc_objects.specs.Objects.{has_key}
use Rattle.ipc_objects.specs.Seen.{seen}
use Rattle.ipc_objects.proofs.Seen.{find-seen, inserted-seen, next_id-seen}
use Rattle.ipc_model.specs.State.{Queue}
use Rattle.msg_calls.specs.WithRoom.{QueueWithRoom, queue_of, queues_of}
use Rattle.msg_calls.proofs.Holding.{IfOk-map, room-inserted}
use Rattle.msg_calls.proofs.queues.Queues.insert.Goals as goal

-- what isn't found among what is seen isn't there
absent : (o : Option (ℕ × Object QueueWithRoom)) → option_map {U = ℕ × Object Queue} (λ (found : ℕ × Object QueueWithRoom). (found.0, seen queue_of found.1)) o ≡ None → o ≡ None
absent None none = refl
absent (Some found) none = absurd (none-some (found.0, seen queue_of found.1) (sym none))

module _ (t now : Table (Object QueueWithRoom)) (view : t ≡ now) where
  next : next_id t ≡ next_id (queues_of now)
  next = sym (next_id-seen queue_of t) ∙ ap (λ (u : Table (Object QueueWithRoom)). next_id (queues_of u)) view

  free : (key : ℕ) → find_object (has_key key) (queues_of now) ≡ None → find_object (has_key key) t ≡ None
  free key none = absent (find_object (has_key key) t) (sym (find-seen queue_of t key) ∙ ap (λ (u : Table (Object QueueWithRoom)). find_object (has_key key) (queues_of u)) view ∙ none)

pub insert-requires-clause-slot : goal.insert-requires-clause-slot
insert-requires-clause-slot c = ap (λ (o : Option ℕ). is_some o) (next c.self.inside.objects c.args.self.now c.self.view_is) ∙ c.requires.slot

pub insert-requires-clause-free : goal.insert-requires-clause-free
insert-requires-clause-free c = free c.self.inside.objects c.args.self.now c.self.view_is c.args.queue.perm.key c.requires.free

pub returns-clause-id : goal.returns-clause-id
returns-clause-id c = IfOk-map c.insert.result _ _ (λ id is. sym (next c.self.inside.objects c.args.self.now c.self.view_is) ∙ is) c.insert.ensures.id

pub returns-clause-ok : goal.returns-clause-ok
returns-clause-ok c =
    IfOk-map c.insert.result _ _ (λ id is. ap (λ (t : Table (Object QueueWithRoom)). queues_of t) is ∙ inserted-seen queue_of c.self.inside.objects id c.args.queue ∙ ap (λ (t : Table (Object QueueWithRoom)). with_object (queues_of t) id (seen queue_of c.args.queue)) c.self.view_is) c.insert.ensures.ok

pub returns-clause-room : goal.returns-clause-room
returns-clause-room c =
    room-inserted c.self.inside.objects c.args.self.now c.self.view_is c.insert.result c.insert.new.self c.args.queue c.requires.unreserved c.insert.ensures.id c.insert.ensures.ok c.insert.ensures.err
