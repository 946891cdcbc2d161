-- The objects of one kind, by identifier and by key.
use Rattle.std.specs.Prelude.{◌≡◌, ℕ, ◌==◌, ◌&&◌, Bool, true, not, if◌then◌else◌}
use Rattle.std.specs.Prelude.{Option, Some, None, option_map}
use Rattle.std.specs.Ordering.{nat_cmp}
use Rattle.std.specs.FinMap as map
use Rattle.ipc_ids.specs.Table.{Table, IsSound, with_object}
use Rattle.ipc_objects.specs.declared.object.Object.{Object}
use Rattle.ipc_objects.specs.declared.object.Owner.{Owner}

-- the key of an object stands in its ipc_perm; 0 is IPC_PRIVATE, by which none is found
abbrev pub has_key : {X : Type 0} → ℕ → Object X → Bool
has_key key object = not (key == 0) && object.perm.key == key

-- an object that has the key is the one that was found, so no two have it
abbrev pub IsOnly : {X : Type 0} → Table (Object X) → ℕ → Option ℕ → Type 0
IsOnly {X} t key found =
    (id : ℕ) (object : Object X) → map.get t.objects id ≡ Some object → has_key key object ≡ true → found ≡ Some id

-- IPC_SET of an object of any kind, at a time in seconds: key, creator and contents stay
abbrev pub with_owner : {X : Type 0} → Object X → Owner → ℕ → Object X
with_owner object owner now = record object {
  perm = record object.perm { uid = owner.uid; gid = owner.gid; mode = owner.mode };
  change_time = now;
}

abbrev pub without_key : {X : Type 0} → Object X → Object X
without_key object = record object { perm = record object.perm { key = 0 } }

-- the object, where there is one, changes
abbrev pub with_perm : {X : Type 0} → Table (Object X) → ℕ → (Object X → Object X) → Option (Object X)
    → Table (Object X)
with_perm t id change None = t
with_perm t id change (Some object) = with_object t id (change object)

-- the object of the identifier changes, where there is one
abbrev pub changed : {X : Type 0} → Table (Object X) → ℕ → (Object X → Object X) → Table (Object X)
changed t id change = with_perm t id change (map.get t.objects id)

-- the contents of the object of the identifier
abbrev pub contents_of : {X : Type 0} → Table (Object X) → ℕ → Option X
contents_of t id = option_map (λ object. object.contents) (map.get t.objects id)

-- the object of the identifier, where there is one, has these contents
abbrev pub with_contents : {X : Type 0} → Table (Object X) → ℕ → X → Table (Object X)
with_contents t id x = changed t id (λ object. record object { contents = x })

-- a new key is bound, unless it is 0
abbrev pub with_key : map.FinMap nat_cmp ℕ → ℕ → ℕ → map.FinMap nat_cmp ℕ
with_key keys key id = if key == 0 then keys else map.insert keys key id

-- each key but 0 is bound exactly to the object that has it
pub record AreKeyed {X : Type 0} (t : Table (Object X)) (keys : map.FinMap nat_cmp ℕ) : Type 0 where
  pub sound : IsSound t
  pub private : map.get keys 0 ≡ None
  pub bound : (key id : ℕ) → map.get keys key ≡ Some id
      → (object : Object X) × (map.get t.objects id ≡ Some object) × (object.perm.key ≡ key)
  pub keyed : (id : ℕ) (object : Object X) → map.get t.objects id ≡ Some object → (object.perm.key ≡ 0 → ⊥)
      → map.get keys object.perm.key ≡ Some id
