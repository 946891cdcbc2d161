-- Finite maps over an order in which only equal keys tie: what is there after a change at a key.
use Rattle.std.proofs.Common.{◌≡◌, ◌∙◌, ap, refl, subst, sym, Bool, true, false, cond}
use Rattle.std.specs.Prelude.{T, Option, Some, None}
use Rattle.std.specs.declared.cmp.Ordering.{Ordering}
use Rattle.std.specs.declared.cmp.Ordering.TheVariants.{Less, Equal, Greater}
use Rattle.std.specs.Ordering.{eq_by_cmp, is_eq, nat_cmp, ordering_then}
use Rattle.std.specs.Cmp.{IsTotalOrder}
use Rattle.std.specs.FinMap as finite
use Rattle.std.proofs.lemmas.Bool.{false_from_ne_true, true≢false}
use Rattle.std.proofs.lemmas.Cmp.{nat_cmp_total, on_total, then_total, tied_itself}
use Rattle.client_map.specs.Keys.{Key, key, key_cmp}

pub then_equal : (r s : Ordering) → ordering_then r s ≡ Equal → (r ≡ Equal) × (s ≡ Equal)
then_equal Less s is = absurd (subst (λ r. T (is_eq r)) (sym is) tt)
then_equal Equal s is = (refl, is)
then_equal Greater s is = absurd (subst (λ r. T (is_eq r)) (sym is) tt)

equal_of : (r : Ordering) → is_eq r ≡ true → r ≡ Equal
equal_of Less is = absurd (true≢false (sym is))
equal_of Equal is = refl
equal_of Greater is = absurd (true≢false (sym is))

pub settled : {A : Type 0} (b : Bool) (w o : A) → (b ≡ true → w ≡ o) → cond b w o ≡ o
settled true w o is = is refl
settled false w o is = refl

shadowed : {A : Type 0} (b : Bool) (w u o : A) → cond b w (cond b u o) ≡ cond b w o
shadowed true w u o = refl
shadowed false w u o = refl

module _ {K : Type 0} {R : K → K → Ordering} (o : IsTotalOrder R) where
  pub itself : (a : K) → is_eq (R a a) ≡ true
  itself a = ap is_eq (tied_itself o a)

  module _ (same : finite.IsAntisymmetric R) where
    pub equal_keys : (a b : K) → is_eq (R a b) ≡ true → a ≡ b
    equal_keys a b is = same a b (equal_of _ is)

    pub keys_differ : (a b : K) → (a ≡ b → ⊥) → is_eq (R a b) ≡ false
    keys_differ a b ne = false_from_ne_true _ (λ is. ne (equal_keys a b is))

    module _ {X : Type 0} (m : finite.FinMap R X) (k : K) where
      pub get_put : (v : X) → finite.get (finite.insert m k v) k ≡ Some v
      get_put v = finite.get-insert o m k v k ∙ ap (λ b. cond b (Some v) (finite.get m k)) (itself k)

      pub get_put_apart : (v : X) (q : K) → (q ≡ k → ⊥) → finite.get (finite.insert m k v) q ≡ finite.get m q
      get_put_apart v q ne = finite.get-insert o m k v q ∙ ap (λ b. cond b (Some v) (finite.get m q)) (keys_differ q k ne)

      pub get_gone : finite.get (finite.remove m k) k ≡ None
      get_gone = finite.get-remove o m k k ∙ ap (λ b. cond b None (finite.get m k)) (itself k)

      pub get_gone_apart : (q : K) → (q ≡ k → ⊥) → finite.get (finite.remove m k) q ≡ finite.get m q
      get_gone_apart q ne = finite.get-remove o m k q ∙ ap (λ b. cond b None (finite.get m q)) (keys_differ q k ne)

      as_before : (w : Option X) → finite.get m k ≡ w → (q : K) → cond (eq_by_cmp R q k) w (finite.get m q) ≡ finite.get m q
      as_before w there q =
          settled (eq_by_cmp R q k) w (finite.get m q) (λ is. sym there ∙ ap (finite.get m) (sym (equal_keys q k is)))

      -- what is taken out and put back
      pub put_gone : (v : X) → finite.get m k ≡ Some v → finite.insert (finite.remove m k) k v ≡ m
      put_gone v there = finite.same_map o same _ _ (λ q.
          finite.get-insert o (finite.remove m k) k v q
          ∙ ap (cond (eq_by_cmp R q k) (Some v)) (finite.get-remove o m k q)
          ∙ shadowed (eq_by_cmp R q k) (Some v) None (finite.get m q)
          ∙ as_before (Some v) there q)

      -- what is put where nothing is and taken out again
      pub gone_put : (v : X) → finite.get m k ≡ None → finite.remove (finite.insert m k v) k ≡ m
      gone_put v none = finite.same_map o same _ _ (λ q.
          finite.get-remove o (finite.insert m k v) k q
          ∙ ap (cond (eq_by_cmp R q k) None) (finite.get-insert o m k v q)
          ∙ shadowed (eq_by_cmp R q k) None (Some v) (finite.get m q)
          ∙ as_before None none q)

      pub gone_none : finite.get m k ≡ None → finite.remove m k ≡ m
      gone_none none = finite.same_map o same _ _ (λ q. finite.get-remove o m k q ∙ as_before None none q)

-- keys of a client and a number
pub key_total : IsTotalOrder key_cmp
key_total = then_total (on_total (λ (k : Key). k.client) nat_cmp_total) (on_total (λ (k : Key). k.number) nat_cmp_total)

pub key_same : finite.IsAntisymmetric key_cmp
key_same a b is =
    let both = then_equal (nat_cmp a.client b.client) (nat_cmp a.number b.number) is in
    λ i. key (finite.nat_cmp-IsAntisymmetric a.client b.client both.0 i) (finite.nat_cmp-IsAntisymmetric a.number b.number both.1 i)
