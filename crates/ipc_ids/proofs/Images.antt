-- A table and its image: look-ups, changes, and the next identifier.
use Rattle.std.proofs.Common.{◌≡◌, ℕ, Bool, true, false, cond, List, [], ◌∷◌, map, refl, sym, ap, arith, ◌∙◌, subst, Option, Some, None}
use Rattle.std.specs.Prelude.{◌&&◌, not, T, is_none, nat_eq, option_map}
use Rattle.std.specs.Ordering.{nat_cmp, is_lt, eq_by_cmp}
use Rattle.std.specs.FinMap as finite
use Rattle.ipc_ids.specs.Images.{image, map_entries, map_values}
use Rattle.ipc_ids.specs.Table.{Table, empty_table, id_at, is_retired, is_usable, least_from, next_id, object_at, with_object, without_object}
use Rattle.ipc_ids.proofs.Ids.{get-inserted, get-removed, same_maps, tied_eq}

-- a list of entries whose values are replaced, each by its key
module _ {X Y : Type 0} (f : ℕ → X → Y) where
  abbrev replaced : List (ℕ × X) → List (ℕ × Y)
  replaced es = map (λ (e : ℕ × X). (e.0, f e.0 e.1)) es

  below-replaced : (x : ℕ) (es : List (ℕ × X)) → finite.Entries.below_all nat_cmp x (replaced es) ≡ finite.Entries.below_all nat_cmp x es
  below-replaced x [] = refl
  below-replaced x (e ∷ es) = ap (λ b. is_lt (nat_cmp x e.0) && b) (below-replaced x es)

  sorted-replaced : (es : List (ℕ × X)) → finite.is_sorted nat_cmp (replaced es) ≡ finite.is_sorted nat_cmp es
  sorted-replaced [] = refl
  sorted-replaced (e ∷ es) = λ i. below-replaced e.0 es i && sorted-replaced es i

  find-replaced : (q : ℕ) (es : List (ℕ × X)) → finite.find nat_cmp q (replaced es) ≡ option_map (f q) (finite.find nat_cmp q es)
  find-replaced q [] = refl
  find-replaced q (e ∷ es) = ap (λ o. cond (eq_by_cmp nat_cmp q e.0) (Some (f e.0 e.1)) o) (find-replaced q es) ∙ by_test (eq_by_cmp nat_cmp q e.0) refl e.1 (finite.find nat_cmp q es)
    where
      by_test : (b : Bool) → eq_by_cmp nat_cmp q e.0 ≡ b → (x : X) (o : Option X) → cond b (Some (f e.0 x)) (option_map (f q) o) ≡ option_map (f q) (cond b (Some x) o)
      by_test true is x o = let same : e.0 ≡ q = let tied : nat_eq q e.0 ≡ true = sym (tied_eq q e.0) ∙ is in grind arith in ap (λ k. Some (f k x)) same
      by_test false is x o = refl

  get-replaced : (m : finite.FinMap nat_cmp X) (q : ℕ) → finite.get {R = nat_cmp} (finite.from_sorted (replaced (finite.entries m))) q ≡ option_map (f q) (finite.get m q)
  get-replaced m q =
      finite.get-from_sorted nat_cmp (replaced (finite.entries m)) q (subst T (sym (sorted-replaced (finite.entries m))) (finite.entries_sorted m))
      ∙ find-replaced q (finite.entries m) ∙ ap (option_map (f q)) (sym (finite.get-entries m q))

  pub get-entries : (t : Table X) (q : ℕ) → finite.get (map_entries f t).objects q ≡ option_map (f q) (finite.get t.objects q)
  get-entries t q = get-replaced t.objects q

module _ {X Y : Type 0} (f : X → Y) where
  pub get-image : (m : finite.FinMap nat_cmp X) (q : ℕ) → finite.get (map_values f m) q ≡ option_map f (finite.get m q)
  get-image m q = get-replaced (λ _. f) m q

  map-cond-some : (b : Bool) (x : X) (o : Option X) → option_map f (cond b (Some x) o) ≡ cond b (Some (f x)) (option_map f o)
  map-cond-some true x o = refl
  map-cond-some false x o = refl

  map-cond-none : (b : Bool) (o : Option X) → option_map f (cond b None o) ≡ cond b None (option_map f o)
  map-cond-none true o = refl
  map-cond-none false o = refl

  objects-with : (m : finite.FinMap nat_cmp X) (id : ℕ) (x : X) → map_values f (finite.insert m id x) ≡ finite.insert (map_values f m) id (f x)
  objects-with m id x = same_maps _ _ (λ q.
      get-image (finite.insert m id x) q ∙ ap (option_map f) (get-inserted m id x q) ∙ map-cond-some _ x (finite.get m q)
      ∙ sym (get-inserted (map_values f m) id (f x) q ∙ ap (λ o. cond (nat_eq id q) (Some (f x)) o) (get-image m q)))

  objects-without : (m : finite.FinMap nat_cmp X) (id : ℕ) → map_values f (finite.remove m id) ≡ finite.remove (map_values f m) id
  objects-without m id = same_maps _ _ (λ q.
      get-image (finite.remove m id) q ∙ ap (option_map f) (get-removed m id q) ∙ map-cond-none _ (finite.get m q)
      ∙ sym (get-removed (map_values f m) id q ∙ ap (λ o. cond (nat_eq id q) None o) (get-image m q)))

  pub image-empty : (slots first_seq : ℕ) → image f (empty_table slots first_seq) ≡ empty_table slots first_seq
  image-empty slots first_seq = ap (λ (m : finite.FinMap nat_cmp Y). record { slots = slots; first_seq = first_seq; seqs = finite.empty; objects = m })
      (same_maps _ _ (λ q. get-image finite.empty q ∙ ap (option_map f) (finite.get-empty nat_cmp q) ∙ sym (finite.get-empty nat_cmp q)))

  module _ (t : Table X) where
    pub image-with : (id : ℕ) (x : X) → image f (with_object t id x) ≡ with_object (image f t) id (f x)
    image-with id x = ap (λ (m : finite.FinMap nat_cmp Y). record { slots = t.slots; first_seq = t.first_seq; seqs = t.seqs; objects = m }) (objects-with t.objects id x)

    pub image-without : (id : ℕ) → image f (without_object t id) ≡ without_object (image f t) id
    image-without id = ap (λ (m : finite.FinMap nat_cmp Y). record { slots = t.slots; first_seq = t.first_seq; seqs = (without_object t id).seqs; objects = m }) (objects-without t.objects id)

    none-image : (o : Option X) → is_none (option_map f o) ≡ is_none o
    none-image None = refl
    none-image (Some x) = refl

    usable-image : (slot : ℕ) → is_usable (image f t) slot ≡ is_usable t slot
    usable-image slot = ap (λ b. not (is_retired t slot) && b) (ap is_none (get-image t.objects (id_at t slot)) ∙ none-image (object_at t slot))

    -- the next object gets the same identifier
    pub next_id-image : next_id (image f t) ≡ next_id t
    next_id-image = ap (λ (test : ℕ → Bool). option_map (λ slot. id_at t slot) (least_from test t.slots 0)) (λ i slot. usable-image slot i)
