-- The queues with their reserved places: what is seen of one, and what a change of one leaves of the table.
use Rattle.std.proofs.Common.{◌≡◌, ℕ, ◌+◌, ◌<◌, refl, sym, ap, subst, ◌∙◌, arith, true, Option, Some, None, ⊎_elim}
use Rattle.std.specs.Prelude.{◌==◌, option_map, unwrap_or, Result, Ok, Err, OnErr, IfOk, IsSome, IfSome, is_some}
use Rattle.std.specs.Ordering.{nat_cmp}
use Rattle.std.specs.FinMap as map
use Rattle.std.proofs.lemmas.Bool.{cases_eq, eq-eqb, false≢true, ne_eqb}
use Rattle.std.proofs.lemmas.Option.{none-some, same_Some}
use Rattle.ipc_ids.specs.Table.{Table, empty_table, next_id, with_object, without_object}
use Rattle.ipc_ids.proofs.Sound.{get-insert-other, get-insert-same, get-remove-other, get-remove-same}
use Rattle.ipc_model.specs.State.{Queue, Queues}
use Rattle.ipc_call.specs.declared.settings.Settings.{Settings}
use Rattle.ipc_model.specs.Controls.{owner_in, with_settings}
use Rattle.ipc_model.specs.Messages.{queue_at}
use Rattle.ipc_objects.specs.declared.object.Object.{Object}
use Rattle.ipc_objects.specs.declared.object.Owner.{Owner}
use Rattle.ipc_objects.specs.Objects.{changed, contents_of, with_contents, with_owner, with_perm}
use Rattle.ipc_objects.specs.Seen.{seen}
use Rattle.ipc_objects.proofs.Seen.{changed-twice, contents-hidden, contents-kept, contents-new, contents-other, contents-seen, contents_of-seen, get-seen, next_id-free, owned-seen, there-seen}
use Rattle.msg_calls.specs.WithRoom.{QueueWithRoom, one_if, queue_of, queues_of, room}

-- how many places are reserved, where the queue isn't looked at otherwise
abbrev held_places : Option QueueWithRoom → ℕ
held_places o = unwrap_or (option_map (λ (held : QueueWithRoom). held.reserved) o) 0

-- what the table was, as the code has it and as the contract tells it
module _ (t now : Table (Object QueueWithRoom)) (view : t ≡ now) where
  pub queue-at : (id : ℕ) → option_map (seen queue_of) (map.get t.objects id) ≡ queue_at (queues_of now) id
  queue-at id = sym (get-seen queue_of t id) ∙ ap (λ (u : Table (Object QueueWithRoom)). queue_at (queues_of u) id) view

  pub there-of : (id : ℕ) → IsSome (queue_at (queues_of now) id) → IsSome (map.get t.objects id)
  there-of id some = sym (there-seen queue_of t id) ∙ ap (λ (u : Table (Object QueueWithRoom)). is_some (queue_at (queues_of u) id)) view ∙ some

  pub not-absent : (id : ℕ) → None ≡ contents_of t id → IsSome (queue_at (queues_of now) id) → ⊥
  not-absent id absent some = by (map.get t.objects id) absent (there-of id some)
    where
      by : (o : Option (Object QueueWithRoom)) → None ≡ option_map (λ (object : Object QueueWithRoom). object.contents) o → is_some o ≡ true → ⊥
      by None is some = false≢true some
      by (Some object) is some = none-some object.contents is

  pub room-of : (j : ℕ) → room t j ≡ room now j
  room-of j = ap (λ (u : Table (Object QueueWithRoom)). room u j) view

  -- the contents of one queue
  module _ (id : ℕ) (old : QueueWithRoom) (there : Some old ≡ contents_of t id) where
    room-old : (j : ℕ) → j ≡ id → room t j ≡ old.reserved
    room-old j same = ap (λ n. room t n) same ∙ ap held_places (sym there)

    pub reserved-of : 0 < room now id → 0 < old.reserved
    reserved-of some = subst (λ n. 0 < n) (sym (room-of id) ∙ room-old id refl) some

    pub contents-at : contents_of (queues_of now) id ≡ Some old.queue
    contents-at = ap (λ (u : Table (Object QueueWithRoom)). contents_of (queues_of u) id) (sym view) ∙ contents_of-seen queue_of t id ∙ ap (option_map queue_of) (sym there)

    -- what is said of the queue of the identifier is said of its contents
    pub told-of : (P : Queue → Type 0) → P old.queue → IfSome (queue_at (queues_of now) id) (λ queue. P queue.contents)
    told-of P told = subst (λ o. IfSome o (λ (queue : Object Queue). P queue.contents)) (queue-at id) (by (map.get t.objects id) there)
      where
        by : (o : Option (Object QueueWithRoom)) → Some old ≡ option_map (λ (object : Object QueueWithRoom). object.contents) o → IfSome (option_map (seen queue_of) o) (λ queue. P queue.contents)
        by None is = tt
        by (Some object) is = subst (λ (held : QueueWithRoom). P held.queue) (same_Some old object.contents is) told

    pub told-back : (P : Queue → Type 0) → IfSome (queue_at (queues_of now) id) (λ queue. P queue.contents) → P old.queue
    told-back P told = by (map.get t.objects id) there (subst (λ o. IfSome o (λ (queue : Object Queue). P queue.contents)) (sym (queue-at id)) told)
      where
        by : (o : Option (Object QueueWithRoom)) → Some old ≡ option_map (λ (object : Object QueueWithRoom). object.contents) o → IfSome (option_map (seen queue_of) o) (λ queue. P queue.contents) → P old.queue
        by None is told = absurd (none-some old (sym is))
        by (Some object) is told = subst (λ (held : QueueWithRoom). P held.queue) (sym (same_Some old object.contents is)) told

    -- a queue that changes, with its places
    module _ (new : QueueWithRoom) where
      pub changed-queues : queues_of (with_contents t id new) ≡ with_contents (queues_of now) id new.queue
      changed-queues = contents-seen queue_of t id new ∙ ap (λ (u : Table (Object QueueWithRoom)). with_contents (queues_of u) id new.queue) view

      pub same-queues : new.queue ≡ old.queue → queues_of (with_contents t id new) ≡ queues_of now
      same-queues same = contents-hidden queue_of t id old new (sym there) same ∙ ap (λ (u : Table (Object QueueWithRoom)). queues_of u) view

      -- IPC_SET: the queue has its msg_qbytes, and then its owner
      pub changed-settings : (settings : Settings) (owner : Owner) (time : ℕ) → owner ≡ owner_in settings → new.queue ≡ record old.queue { qbytes = unwrap_or settings.qbytes old.queue.qbytes }
          → queues_of (changed (with_contents t id new) id (λ o. with_owner o owner time)) ≡ changed (queues_of now) id (with_settings time settings)
      changed-settings settings owner time owned set =
          owned-seen queue_of (with_contents t id new) id owner time ∙ ap (λ (q : Queues). changed q id (λ o. with_owner o owner time)) changed-queues
          ∙ changed-twice (queues_of now) id (λ o. record o { contents = new.queue }) (λ o. with_owner o owner time)
          ∙ ap (λ o. with_perm (queues_of now) id both o) (sym (queue-at id)) ∙ by (map.get t.objects id) there ∙ ap (λ o. with_perm (queues_of now) id (with_settings time settings) o) (queue-at id)
        where
          both : Object Queue → Object Queue
          both o = with_owner (record o { contents = new.queue }) owner time

          by : (o : Option (Object QueueWithRoom)) → Some old ≡ option_map (λ (object : Object QueueWithRoom). object.contents) o
              → with_perm (queues_of now) id both (option_map (seen queue_of) o) ≡ with_perm (queues_of now) id (with_settings time settings) (option_map (seen queue_of) o)
          by None is = refl
          by (Some object) is = ap (λ (o : Object Queue). with_object (queues_of now) id o)
              (ap (λ (who : Owner). with_owner (record (seen queue_of object) { contents = new.queue }) who time) owned
              ∙ ap (λ (q : Queue). record (with_owner (seen queue_of object) (owner_in settings) time) { contents = q }) (set ∙ ap (λ (held : QueueWithRoom). record held.queue { qbytes = unwrap_or settings.qbytes held.queue.qbytes }) (same_Some old object.contents is)))

      room-here : (j : ℕ) → j ≡ id → room (with_contents t id new) j ≡ new.reserved
      room-here j same = ap (λ n. room (with_contents t id new) n) same ∙ ap held_places (contents-new t id new old (sym there))

      room-else : (j : ℕ) → (j ≡ id → ⊥) → room (with_contents t id new) j ≡ room t j
      room-else j ne = ap held_places (contents-other t id new j ne)

      pub room-same : new.reserved ≡ old.reserved → (j : ℕ) → room (with_contents t id new) j ≡ room now j
      room-same same j = ⊎_elim (λ (e : j ≡ id). room-here j e ∙ same ∙ sym (room-old j e)) (λ (ne : j ≡ id → ⊥). room-else j ne) (cases_eq j id) ∙ room-of j

      pub room-more : new.reserved ≡ old.reserved + 1 → (j : ℕ) → room (with_contents t id new) j ≡ room now j + one_if (j == id)
      room-more more j = ⊎_elim
          (λ (e : j ≡ id). room-here j e ∙ more ∙ ap (λ n. n + 1) (sym (room-old j e)) ∙ ap (λ b. room t j + one_if b) (sym (eq-eqb j id e)))
          (λ (ne : j ≡ id → ⊥). let zero_more : room t j ≡ room t j + 0 = omega arith in room-else j ne ∙ zero_more ∙ ap (λ b. room t j + one_if b) (sym (ne_eqb j id ne)))
          (cases_eq j id) ∙ ap (λ n. n + one_if (j == id)) (room-of j)

      pub room-less : new.reserved + 1 ≡ old.reserved → (j : ℕ) → room (with_contents t id new) j + one_if (j == id) ≡ room now j
      room-less less j = ⊎_elim
          (λ (e : j ≡ id). ap (λ b. room (with_contents t id new) j + one_if b) (eq-eqb j id e) ∙ ap (λ n. n + 1) (room-here j e) ∙ less ∙ sym (room-old j e))
          (λ (ne : j ≡ id → ⊥). let zero_more : room (with_contents t id new) j + 0 ≡ room (with_contents t id new) j = omega arith in ap (λ b. room (with_contents t id new) j + one_if b) (ne_eqb j id ne) ∙ zero_more ∙ room-else j ne)
          (cases_eq j id) ∙ room-of j

  abbrev places_at : Option (Object QueueWithRoom) → ℕ
  places_at o = held_places (option_map (λ (object : Object QueueWithRoom). object.contents) o)

  -- a queue that comes, without a reserved place
  room-new : (id : ℕ) (object : Object QueueWithRoom) → map.get t.objects id ≡ None → object.contents.reserved ≡ 0 → (j : ℕ) → room (with_object t id object) j ≡ room t j
  room-new id object absent none j = ⊎_elim
      (λ (e : j ≡ id). ap (λ n. room (with_object t id object) n) e ∙ ap places_at (get-insert-same t.objects id object) ∙ none ∙ sym (ap places_at absent) ∙ ap (λ n. room t n) (sym e))
      (λ (ne : j ≡ id → ⊥). ap places_at (get-insert-other t.objects id object j ne))
      (cases_eq j id)

  pub room-inserted : {E : Type 0} (r : Result ℕ E) (new : Table (Object QueueWithRoom)) (object : Object QueueWithRoom) → object.contents.reserved ≡ 0
      → IfOk r (λ id. next_id t ≡ Some id) → IfOk r (λ id. new ≡ with_object t id object) → OnErr r (new ≡ t) → (j : ℕ) → room new j ≡ room now j
  room-inserted (Ok id) new object none next is err j = ap (λ (u : Table (Object QueueWithRoom)). room u j) is ∙ room-new id object (next_id-free t id next) none j ∙ room-of j
  room-inserted (Err e) new object none next is err j = ap (λ (u : Table (Object QueueWithRoom)). room u j) err ∙ room-of j

  -- a queue that leaves, without a reserved place
  pub room-gone : (id : ℕ) → room now id ≡ 0 → (j : ℕ) → room (without_object t id) j ≡ room now j
  room-gone id none j = ⊎_elim
      (λ (e : j ≡ id). ap (λ n. room (without_object t id) n) e ∙ ap places_at (get-remove-same t.objects id) ∙ sym (room-of id ∙ none) ∙ ap (λ n. room t n) (sym e))
      (λ (ne : j ≡ id → ⊥). ap places_at (get-remove-other t.objects id j ne))
      (cases_eq j id) ∙ room-of j

-- the owner of a queue and its places
pub room-owned : (t : Table (Object QueueWithRoom)) (id : ℕ) (owner : Owner) (time : ℕ) (j : ℕ) → room (changed t id (λ o. with_owner o owner time)) j ≡ room t j
room-owned t id owner time j = ap held_places (contents-kept t id (λ o. with_owner o owner time) (λ object. refl) j)

-- what is seen of a queue that was found
pub seen-of : {B : Type 0} (at : B → Object QueueWithRoom) (o : Option (ℕ × B)) → option_map {U = ℕ × Object Queue} (λ (found : ℕ × B). (found.0, seen queue_of (at found.1))) o
    ≡ option_map {U = ℕ × Object Queue} (λ (found : ℕ × Object QueueWithRoom). (found.0, seen queue_of found.1)) (option_map {U = ℕ × Object QueueWithRoom} (λ (found : ℕ × B). (found.0, at found.1)) o)
seen-of at None = refl
seen-of at (Some found) = refl

pub room-empty : (slots first_seq id : ℕ) → room (empty_table slots first_seq) id ≡ 0
room-empty slots first_seq id = ap (λ (o : Option (Object QueueWithRoom)). held_places (option_map (λ (object : Object QueueWithRoom). object.contents) o)) (map.get-empty nat_cmp id)

pub IfOk-map : {A E : Type 0} (r : Result A E) (P Q : A → Type 0) → ((x : A) → P x → Q x) → IfOk r P → IfOk r Q
IfOk-map (Ok x) P Q f p = f x p
IfOk-map (Err e) P Q f p = tt
