-- A table of which a part is hidden: searches and changes of what is seen of it.
use Rattle.std.proofs.Common.{◌≡◌, ℕ, Bool, false, refl, sym, ap, ◌∙◌, Option, Some, None, ⊎_elim}
use Rattle.std.specs.Prelude.{true, not, ◌&&◌, is_none, is_some, option_map, option_and_then, unwrap_or}
use Rattle.std.specs.FinMap as map
use Rattle.std.proofs.lemmas.Bool.{cases_eq, false≢true}
use Rattle.std.proofs.lemmas.Option.{none-some, same_Some}
use Rattle.ipc_ids.specs.Table.{Table, empty_table, find_object, holds_at, id_at, id_in, ids_of, is_retired, is_usable, least_from, next_id, object_at, with_object, without_object}
use Rattle.ipc_ids.proofs.Ids.{same_maps}
use Rattle.ipc_ids.proofs.Least.{least_found}
use Rattle.ipc_ids.proofs.Images.{get-image, image-empty, image-with, image-without, next_id-image}
use Rattle.ipc_ids.proofs.Listed.{id_in-image, ids_of-image}
use Rattle.ipc_ids.proofs.Sound.{get-insert-other, get-insert-same}
use Rattle.ipc_objects.specs.declared.object.Object.{Object}
use Rattle.ipc_objects.specs.declared.object.Owner.{Owner}
use Rattle.ipc_objects.specs.Objects.{changed, contents_of, has_key, with_contents, with_owner, with_perm}
use Rattle.ipc_objects.specs.Seen.{all_seen, seen}

-- an object that is put back leaves the table as it was
pub insert-same : {X : Type 0} (t : Table X) (id : ℕ) (x : X) → map.get t.objects id ≡ Some x → with_object t id x ≡ t
insert-same {X} t id x there = ap (λ (objects : _). record t { objects = objects }) (same_maps (map.insert t.objects id x) t.objects (λ j. ⊎_elim
    (λ (same : j ≡ id). ap (λ n. map.get (map.insert t.objects id x) n) same ∙ get-insert-same t.objects id x ∙ sym there ∙ ap (λ n. map.get t.objects n) (sym same))
    (λ (ne : j ≡ id → ⊥). get-insert-other t.objects id x j ne)
    (cases_eq j id)))

-- of two objects that are put at one identifier the later one stays
pub insert-twice : {X : Type 0} (t : Table X) (id : ℕ) (x y : X) → with_object (with_object t id x) id y ≡ with_object t id y
insert-twice {X} t id x y = ap (λ (objects : _). record t { objects = objects }) (same_maps (map.insert (map.insert t.objects id x) id y) (map.insert t.objects id y) (λ j. ⊎_elim
    (λ (same : j ≡ id). ap (λ n. map.get (map.insert (map.insert t.objects id x) id y) n) same ∙ get-insert-same (map.insert t.objects id x) id y ∙ sym (get-insert-same t.objects id y) ∙ ap (λ n. map.get (map.insert t.objects id y) n) (sym same))
    (λ (ne : j ≡ id → ⊥). get-insert-other (map.insert t.objects id x) id y j ne ∙ get-insert-other t.objects id x j ne ∙ sym (get-insert-other t.objects id y j ne))
    (cases_eq j id)))

-- no object has the identifier of the next one
module _ {X : Type 0} (t : Table X) where
  usable-free : (retired : Bool) (o : Option X) → not retired && is_none o ≡ true → o ≡ None
  usable-free retired None is = refl
  usable-free true (Some x) is = absurd (false≢true is)
  usable-free false (Some x) is = absurd (false≢true is)

  next_id-from : (id : ℕ) (o : Option ℕ) → o ≡ least_from (λ slot. is_usable t slot) t.slots 0 → option_map (λ slot. id_at t slot) o ≡ Some id → map.get t.objects id ≡ None
  next_id-from id None same is = absurd (none-some id is)
  next_id-from id (Some slot) same is =
      ap (λ n. map.get t.objects n) (sym (same_Some (id_at t slot) id is)) ∙ usable-free (is_retired t slot) (object_at t slot) (least_found (λ slot. is_usable t slot) t.slots 0 slot (sym same)).0

  pub next_id-free : (id : ℕ) → next_id t ≡ Some id → map.get t.objects id ≡ None
  next_id-free id is = next_id-from id (least_from (λ slot. is_usable t slot) t.slots 0) refl is

some-map : {X Y : Type 0} (f : X → Y) (o : Option X) → is_some (option_map f o) ≡ is_some o
some-map f None = refl
some-map f (Some x) = refl

-- contents that are written are those that are found, and no other object changes
module _ {X : Type 0} (t : Table (Object X)) (id : ℕ) (new : X) where
  pub contents-new : (old : X) → contents_of t id ≡ Some old → contents_of (with_contents t id new) id ≡ Some new
  contents-new old there = by (map.get t.objects id) there
    where
      by : (o : Option (Object X)) → option_map (λ (object : Object X). object.contents) o ≡ Some old → contents_of (with_perm t id (λ object. record object { contents = new }) o) id ≡ Some new
      by None none = absurd (none-some old none)
      by (Some object) some = ap (option_map (λ (object : Object X). object.contents)) (get-insert-same t.objects id (record object { contents = new }))

  pub contents-other : (j : ℕ) → (j ≡ id → ⊥) → contents_of (with_contents t id new) j ≡ contents_of t j
  contents-other j ne = by (map.get t.objects id)
    where
      by : (o : Option (Object X)) → contents_of (with_perm t id (λ object. record object { contents = new }) o) j ≡ contents_of t j
      by None = refl
      by (Some object) = ap (option_map (λ (object : Object X). object.contents)) (get-insert-other t.objects id (record object { contents = new }) j ne)

  pub contents-same : contents_of t id ≡ Some new → with_contents t id new ≡ t
  contents-same there = by (map.get t.objects id) refl there
    where
      by : (o : Option (Object X)) → map.get t.objects id ≡ o → option_map (λ (object : Object X). object.contents) o ≡ Some new → with_perm t id (λ object. record object { contents = new }) o ≡ t
      by None is none = refl
      by (Some object) is some = ap (λ x. with_object t id (record object { contents = x })) (sym (same_Some object.contents new some)) ∙ insert-same t id object is

-- two changes of one object
pub changed-twice : {X : Type 0} (t : Table (Object X)) (id : ℕ) (first second : Object X → Object X) → changed (changed t id first) id second ≡ changed t id (λ object. second (first object))
changed-twice {X} t id first second = by (map.get t.objects id) refl
  where
    by : (o : Option (Object X)) → map.get t.objects id ≡ o → changed (with_perm t id first o) id second ≡ with_perm t id (λ object. second (first object)) o
    by None is = ap (with_perm t id second) is
    by (Some object) is = ap (with_perm (with_object t id (first object)) id second) (get-insert-same t.objects id (first object)) ∙ insert-twice t id (first object) (second (first object))

-- a change of one object: the same objects are there, and where it keeps the contents, so are those of each
module _ {X : Type 0} (t : Table (Object X)) (id : ℕ) (change : Object X → Object X) where
  pub changed-there : is_some (map.get (changed t id change).objects id) ≡ is_some (map.get t.objects id)
  changed-there = by (map.get t.objects id) refl
    where
      by : (o : Option (Object X)) → map.get t.objects id ≡ o → is_some (map.get (with_perm t id change o).objects id) ≡ is_some o
      by None is = ap (λ (o : Option (Object X)). is_some o) is
      by (Some object) is = ap (λ (o : Option (Object X)). is_some o) (get-insert-same t.objects id (change object))

  pub contents-kept : ((object : Object X) → (change object).contents ≡ object.contents) → (j : ℕ) → contents_of (changed t id change) j ≡ contents_of t j
  contents-kept kept j = by (map.get t.objects id) refl
    where
      by : (o : Option (Object X)) → map.get t.objects id ≡ o → contents_of (with_perm t id change o) j ≡ contents_of t j
      by None is = refl
      by (Some object) is = ⊎_elim
          (λ (same : j ≡ id). ap (λ n. contents_of (with_object t id (change object)) n) same ∙ ap (option_map (λ (object : Object X). object.contents)) (get-insert-same t.objects id (change object)) ∙ ap (λ x. Some x) (kept object)
          ∙ ap (option_map (λ (object : Object X). object.contents)) (sym is) ∙ ap (λ n. contents_of t n) (sym same))
          (λ (ne : j ≡ id → ⊥). ap (option_map (λ (object : Object X). object.contents)) (get-insert-other t.objects id (change object) j ne))
          (cases_eq j id)

module _ {X Y : Type 0} (f : X → Y) where
  pub empty-seen : (slots first_seq : ℕ) → all_seen f (empty_table slots first_seq) ≡ empty_table slots first_seq
  empty-seen slots first_seq = image-empty (seen f) slots first_seq

  module _ (t : Table (Object X)) where
    pub next_id-seen : next_id (all_seen f t) ≡ next_id t
    next_id-seen = next_id-image (seen f) t

    pub id_in-seen : (slot : ℕ) → id_in (all_seen f t) slot ≡ id_in t slot
    id_in-seen slot = id_in-image (seen f) t slot

    pub ids_of-seen : ids_of (all_seen f t) ≡ ids_of t
    ids_of-seen = ids_of-image (seen f) t

    pub inserted-seen : (id : ℕ) (object : Object X) → all_seen f (with_object t id object) ≡ with_object (all_seen f t) id (seen f object)
    inserted-seen id object = image-with (seen f) t id object

    pub removed-seen : (id : ℕ) → all_seen f (without_object t id) ≡ without_object (all_seen f t) id
    removed-seen id = image-without (seen f) t id

    pub get-seen : (id : ℕ) → map.get (all_seen f t).objects id ≡ option_map (seen f) (map.get t.objects id)
    get-seen id = get-image (seen f) t.objects id

    -- the same objects are there
    pub there-seen : (id : ℕ) → is_some (map.get (all_seen f t).objects id) ≡ is_some (map.get t.objects id)
    there-seen id = ap (λ o. is_some o) (get-seen id) ∙ some-map (seen f) (map.get t.objects id)

    -- permissions are seen as they are
    pub perm-seen : (id : ℕ) → option_map (λ (object : Object Y). object.perm) (map.get (all_seen f t).objects id) ≡ option_map (λ (object : Object X). object.perm) (map.get t.objects id)
    perm-seen id = ap (option_map (λ (object : Object Y). object.perm)) (get-seen id) ∙ by (map.get t.objects id)
      where
        by : (o : Option (Object X)) → option_map (λ (object : Object Y). object.perm) (option_map (seen f) o) ≡ option_map (λ (object : Object X). object.perm) o
        by None = refl
        by (Some object) = refl

    pub contents_of-seen : (id : ℕ) → contents_of (all_seen f t) id ≡ option_map f (contents_of t id)
    contents_of-seen id = ap (option_map (λ (object : Object Y). object.contents)) (get-seen id) ∙ by (map.get t.objects id)
      where
        by : (o : Option (Object X)) → option_map (λ (object : Object Y). object.contents) (option_map (seen f) o) ≡ option_map f (option_map (λ (object : Object X). object.contents) o)
        by None = refl
        by (Some object) = refl

    -- a change that what is seen follows
    pub changed-seen : (id : ℕ) (change : Object X → Object X) (shown : Object Y → Object Y) → ((object : Object X) → seen f (change object) ≡ shown (seen f object))
        → all_seen f (changed t id change) ≡ changed (all_seen f t) id shown
    changed-seen id change shown alike = by (map.get t.objects id) ∙ ap (with_perm (all_seen f t) id shown) (sym (get-seen id))
      where
        by : (o : Option (Object X)) → all_seen f (with_perm t id change o) ≡ with_perm (all_seen f t) id shown (option_map (seen f) o)
        by None = refl
        by (Some object) = inserted-seen id (change object) ∙ ap (λ (o : Object Y). with_object (all_seen f t) id o) (alike object)

    pub owned-seen : (id : ℕ) (owner : Owner) (now : ℕ) → all_seen f (changed t id (λ o. with_owner o owner now)) ≡ changed (all_seen f t) id (λ o. with_owner o owner now)
    owned-seen id owner now = changed-seen id (λ o. with_owner o owner now) (λ o. with_owner o owner now) (λ object. refl)

    pub contents-seen : (id : ℕ) (x : X) → all_seen f (with_contents t id x) ≡ with_contents (all_seen f t) id (f x)
    contents-seen id x = changed-seen id (λ o. record o { contents = x }) (λ o. record o { contents = f x }) (λ object. refl)

    -- a change of what is hidden alone
    pub contents-hidden : (id : ℕ) (old new : X) → contents_of t id ≡ Some old → f new ≡ f old → all_seen f (with_contents t id new) ≡ all_seen f t
    contents-hidden id old new there same = contents-seen id new ∙ ap (λ y. with_contents (all_seen f t) id y) same ∙ contents-same (all_seen f t) id (f old) (contents_of-seen id ∙ ap (option_map f) there)

    -- a search by key finds the same objects
    pub find-seen : (key : ℕ) → find_object (has_key key) (all_seen f t) ≡ option_map {U = ℕ × Object Y} (λ (found : ℕ × Object X). (found.0, seen f found.1)) (find_object (has_key key) t)
    find-seen key =
        ap (λ (test : ℕ → Bool). option_and_then (λ slot. option_map {U = ℕ × Object Y} (λ object. (id_at t slot, object)) (object_at (all_seen f t) slot)) (least_from test t.slots 0))
        (λ i slot. (ap (λ o. unwrap_or (option_map (has_key key) o) false) (get-seen (id_at t slot)) ∙ holds (object_at t slot)) i)
        ∙ by (least_from (λ slot. holds_at (has_key key) t slot) t.slots 0)
      where
        holds : (o : Option (Object X)) → unwrap_or (option_map (has_key key) (option_map (seen f) o)) false ≡ unwrap_or (option_map (has_key key) o) false
        holds None = refl
        holds (Some object) = refl

        at : (id : ℕ) (o : Option (Object X)) → option_map {U = ℕ × Object Y} (λ object. (id, object)) (option_map (seen f) o)
            ≡ option_map {U = ℕ × Object Y} (λ (found : ℕ × Object X). (found.0, seen f found.1)) (option_map {U = ℕ × Object X} (λ object. (id, object)) o)
        at id None = refl
        at id (Some object) = refl

        by : (o : Option ℕ) → option_and_then (λ slot. option_map {U = ℕ × Object Y} (λ object. (id_at t slot, object)) (object_at (all_seen f t) slot)) o
            ≡ option_map {U = ℕ × Object Y} (λ (found : ℕ × Object X). (found.0, seen f found.1)) (option_and_then (λ slot. option_map {U = ℕ × Object X} (λ object. (id_at t slot, object)) (object_at t slot)) o)
        by None = refl
        by (Some slot) = ap (option_map {U = ℕ × Object Y} (λ object. (id_at t slot, object))) (get-seen (id_at t slot)) ∙ at (id_at t slot) (object_at t slot)
