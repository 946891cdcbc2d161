-- The finite map that the entries of a tree are.
use Rattle.std.proofs.Common.{◌≡◌, ◌∙◌, ◌+◌, ap, arith, refl, sym, cond, List, [], ◌∷◌, length, inl, inr}
use Rattle.std.specs.Prelude.{Option, Some, None, IsSome, is_some}
use Rattle.std.specs.declared.cmp.Ordering.TheVariants.{Less}
use Rattle.std.specs.Ordering.{is_eq}
use Rattle.std.specs.Cmp.{eq_by_cmp_equiv}
use Rattle.std.specs.List.{AllByRecursion}
use Rattle.std.specs.List.Sorted.{IsStrictlySortedBy}
use Rattle.std.specs.Borrow.{MutBor}
use Rattle.std.specs.Option.{ghost_name_of, option_copied_mut}
use borrow.Follows.Closed.{read_of}
use Rattle.std.specs.BTreeMap as tree
use Rattle.std.specs.Map.{keys_of, lookup}
use Rattle.std.specs.FinMap as finite
use Rattle.std.proofs.lemmas.Map.Keys.{sorted_head, sorted_tail}
use Rattle.client_map.specs.Keys.{Key, key_cmp}
use Rattle.client_map.proofs.Orders.{key_same, key_total}

module _ {X : Type 0} where
  abbrev pub map_of : List (Key × X) → finite.FinMap key_cmp X
  map_of es = finite.from_entries es

  abbrev pub entry_at : List (Key × X) → Key → Option X
  entry_at es k = lookup (tree.is_at (key_cmp k)) es

  pub get_map : (es : List (Key × X)) (k : Key) → finite.get (map_of es) k ≡ entry_at es k
  get_map es k = finite.get-from_entries key_total es k

  -- entries that differ at a key
  module _ (es es' : List (Key × X)) (k : Key) (w : Option X) (is : (q : Key) → entry_at es' q ≡ cond (is_eq (key_cmp k q)) w (entry_at es q)) where
    changed : (q : Key) → finite.get (map_of es') q ≡ cond (is_eq (key_cmp q k)) w (finite.get (map_of es) q)
    changed q =
        get_map es' q ∙ is q
        ∙ ap (λ b. cond b w (entry_at es q)) ((eq_by_cmp_equiv key_total).symm k q)
        ∙ ap (cond (is_eq (key_cmp q k)) w) (sym (get_map es q))

    pub map_put : (v : X) → w ≡ Some v → map_of es' ≡ finite.insert (map_of es) k v
    map_put v e = finite.same_map key_total key_same _ _ (λ q.
        changed q ∙ ap (λ u. cond (is_eq (key_cmp q k)) u (finite.get (map_of es) q)) e ∙ sym (finite.get-insert key_total (map_of es) k v q))

    pub map_gone : w ≡ None → map_of es' ≡ finite.remove (map_of es) k
    map_gone e = finite.same_map key_total key_same _ _ (λ q.
        changed q ∙ ap (λ u. cond (is_eq (key_cmp q k)) u (finite.get (map_of es) q)) e ∙ sym (finite.get-remove key_total (map_of es) k q))

  -- how many they are
  pub len_map : (es : List (Key × X)) → IsStrictlySortedBy key_cmp (keys_of es) → finite.len (map_of es) ≡ length es
  len_map [] sorted = finite.len-empty key_cmp X
  len_map (e ∷ es) sorted =
      finite.len-insert key_total (map_of es) e.0 e.1
      ∙ ap (λ o. cond (is_some o) (finite.len (map_of es)) (finite.len (map_of es) + 1)) (get_map es e.0 ∙ fresh es (sorted_head key_cmp e.0 (keys_of es) sorted))
      ∙ (let rest = len_map es (sorted_tail key_cmp e.0 (keys_of es) sorted) in omega arith)
    where
      fresh : (fs : List (Key × X)) → AllByRecursion (λ k. key_cmp e.0 k ≡ Less) (keys_of fs) → entry_at fs e.0 ≡ None
      fresh [] below = refl
      fresh (f ∷ fs) below = ap (λ r. cond (is_eq r) (Some f.1) (entry_at fs e.0)) below.0 ∙ fresh fs below.1

  -- what stands there once a borrow of it ends
  pub lent : {D : Type 0} (r : Option (MutBor X)) (F G : X → D) (v u : D) → (IsSome (option_copied_mut r) → (w : X) → F w ≡ G w) → v ≡ u → read_of (ghost_name_of r) F v ≡ read_of (ghost_name_of r) G u
  lent None F G v u some none = λ i. inr (none i)
  lent (Some b) F G v u some none = λ i. inl (b.ghost_name, λ w. some refl w i)
