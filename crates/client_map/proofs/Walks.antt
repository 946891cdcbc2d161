-- The entries of a map from a number of a client on, in order.
use Rattle.std.proofs.Common.{◌≡◌, ◌∙◌, ℕ, ◌+◌, ◌<◌, ◌≤◌, ap, arith, refl, subst, sym, Bool, true, false, cond, List, [], ◌∷◌, ⊎_elim}
use Rattle.std.specs.Prelude.{◌&&◌, Some, None, IsSome}
use Rattle.std.specs.declared.cmp.Ordering.{Ordering}
use Rattle.std.specs.declared.cmp.Ordering.TheVariants.{Less, Equal, Greater}
use Rattle.std.specs.declared.ops.Bound.{Bound}
use Rattle.std.specs.declared.ops.Bound.TheVariants.{Excluded, Included, Unbounded}
use Rattle.std.specs.Ordering.{is_eq, is_gt, is_le, is_lt, nat_cmp, ordering_then}
use Rattle.std.specs.Cmp.{nat_cmp_is, ranked}
use Rattle.std.specs.List.{filter}
use Rattle.std.specs.List.Sorted.{IsStrictlySortedBy}
use Rattle.std.specs.BTreeMap as tree
use Rattle.std.specs.BTreeMap.Range.{entries_between, range_contains}
use Rattle.std.specs.Map.{keys_of}
use Rattle.std.specs.FinMap as finite
use Rattle.std.proofs.lemmas.Bool.{cases_eq, true≢false}
use Rattle.std.proofs.lemmas.Bool.Decides.{nat_tests}
use Rattle.std.proofs.lemmas.List.Kept.{IsStrictlySortedBy-filter}
use Rattle.std.proofs.lemmas.Map.{lookup-none}
use Rattle.std.proofs.lemmas.Map.Entries.{lookup-filter-keys, lookup_head, none_below_head}
use Rattle.std.proofs.lemmas.Map.Keys.{sorted_head, sorted_tail}
use Rattle.client_map.specs.Keys.{Key, key, key_cmp}
use Rattle.client_map.proofs.Orders.{equal_keys, itself, key_same, key_total, keys_differ}
use Rattle.client_map.proofs.Trees.{entry_at, get_map, map_of}

-- keys in order
not_above : (n m : ℕ) → n < m → is_gt (nat_cmp (n + 1) m) ≡ false
not_above n m h = grind (arith, nat_tests)

not_below : (n m : ℕ) → n ≤ m → is_gt (nat_cmp n m) ≡ false
not_below n m h = grind (arith, nat_tests, h)

not_gt : (n m : ℕ) → is_gt (nat_cmp n m) ≡ false → n ≤ m
not_gt n m h = grind (arith, nat_tests, h)

next : (r : Ordering) (n m : ℕ) → ordering_then r (nat_cmp n m) ≡ Less → is_gt (ordering_then r (nat_cmp (n + 1) m)) ≡ false
next Less n m e = refl
next Equal n m e = not_above n m (ranked n m Less (sym e))
next Greater n m e = absurd (true≢false (ap is_gt e))

less_of : (r : Ordering) → is_eq r ≡ false → is_gt r ≡ false → r ≡ Less
less_of Less e g = refl
less_of Equal e g = absurd (true≢false e)
less_of Greater e g = absurd (true≢false g)

less_client : (a b : ℕ) (r s q : Ordering) → nat_cmp a b ≡ q → is_gt (ordering_then q r) ≡ false → (b ≡ a → ⊥) → ordering_then q s ≡ Less
less_client a b r s Less e low ne = refl
less_client a b r s Equal e low ne = absurd (ne (sym (ranked a b Equal (sym e))))
less_client a b r s Greater e low ne = absurd (true≢false low)

le_first : (client n k : ℕ) → n ≤ k → is_gt (key_cmp (key client n) (key client k)) ≡ false
le_first client n k l =
    ap (λ r. is_gt (ordering_then r (nat_cmp n k))) (sym (nat_cmp_is client client Equal refl)) ∙ not_below n k l

-- the first of these is no less than a number of the client
abbrev pub IsFrom : {X : Type 0} → ℕ → ℕ → List (Key × X) → Type 0
IsFrom client n [] = Unit {0}
IsFrom client n (e ∷ es) = is_gt (key_cmp (key client n) e.0) ≡ false

-- these are the entries of a map from a number of a client on
pub record Walk {X : Type 0} (m : finite.FinMap key_cmp X) (client n : ℕ) (es : List (Key × X)) : Type 0 where
  pub sorted : IsStrictlySortedBy key_cmp (keys_of es)
  pub low : IsFrom client n es
  pub rest : (k : ℕ) → n ≤ k → finite.get m (key client k) ≡ entry_at es (key client k)

-- the keys from a bound on
abbrev within : Bound Key → Key → Bool
within bound k = range_contains key_cmp bound Unbounded k

-- the entries from a bound on
abbrev pub entries_from : {X : Type 0} → Bound Key → List (Key × X) → List (Key × X)
entries_from bound es = entries_between key_cmp bound Unbounded es

le_within : (r : Ordering) → is_gt r ≡ false → (is_le r && true) ≡ true
le_within Less h = refl
le_within Equal h = refl
le_within Greater h = absurd (true≢false h)

at_or_after : (r : Ordering) → (is_le r && true) ≡ true → is_gt r ≡ false
at_or_after Less h = refl
at_or_after Equal h = refl
at_or_after Greater h = absurd (true≢false (sym h))

after : (r : Ordering) → (is_lt r && true) ≡ true → r ≡ Less
after Less h = refl
after Equal h = absurd (true≢false (sym h))
after Greater h = absurd (true≢false (sym h))

-- a bound that lets in no key before a number of a client, and its keys from that number on
module _ {X : Type 0} (bound : Bound Key) (client n : ℕ) (low : (k : Key) → within bound k ≡ true → is_gt (key_cmp (key client n) k) ≡ false) (inside : (k : ℕ) → n ≤ k → within bound (key client k) ≡ true) where
  keys_from : (es : List (Key × X)) → keys_of (entries_from bound es) ≡ filter (within bound) (keys_of es)
  keys_from [] = refl
  keys_from (e ∷ es) = step (within bound e.0) (keys_from es)
    where
      step : (b : Bool) → keys_of (entries_from bound es) ≡ filter (within bound) (keys_of es) → keys_of (cond b (e ∷ entries_from bound es) (entries_from bound es)) ≡ cond b (e.0 ∷ filter (within bound) (keys_of es)) (filter (within bound) (keys_of es))
      step true rest = ap (λ ks. e.0 ∷ ks) rest
      step false rest = rest

  first_low : (es : List (Key × X)) → IsFrom client n (entries_from bound es)
  first_low [] = tt
  first_low (e ∷ es) = step (within bound e.0) refl (first_low es)
    where
      step : (b : Bool) → within bound e.0 ≡ b → IsFrom client n (entries_from bound es) → IsFrom client n (cond b (e ∷ entries_from bound es) (entries_from bound es))
      step true is rest = low e.0 is
      step false is rest = rest

  walk_own : (es : List (Key × X)) → IsStrictlySortedBy key_cmp (keys_of es) → Walk (map_of es) client n (entries_from bound es)
  walk_own es sorted = record {
    sorted = subst (λ ks. IsStrictlySortedBy key_cmp ks) (sym (keys_from es)) (IsStrictlySortedBy-filter key_cmp (within bound) (keys_of es) sorted);
    low = first_low es;
    rest = λ k l.
        get_map es (key client k)
        ∙ sym (lookup-filter-keys (tree.is_at (key_cmp (key client k))) (within bound) true (λ h is. ap (within bound) (sym (equal_keys key_total key_same (key client k) h is)) ∙ inside k l) es);
  }

  walk_of : (es fs : List (Key × X)) (m : finite.FinMap key_cmp X) → map_of es ≡ m → IsStrictlySortedBy key_cmp (keys_of es) → fs ≡ entries_from bound es → Walk m client n fs
  walk_of es fs m is sorted from =
      subst (λ gs. Walk m client n gs) (sym from) (subst (λ o. Walk o client n (entries_from bound es)) is (walk_own es sorted))

lt_later : (client n k : ℕ) → n + 1 ≤ k → (is_lt (key_cmp (key client n) (key client k)) && true) ≡ true
lt_later client n k l =
    ap (λ r. is_lt (ordering_then r (nat_cmp n k)) && true) (sym (nat_cmp_is client client Equal refl))
    ∙ ap (λ r. is_lt r && true) (sym (nat_cmp_is n k Less (omega (arith, l))))

module _ {X : Type 0} (client : ℕ) (es fs : List (Key × X)) (m : finite.FinMap key_cmp X) (is : map_of es ≡ m) (sorted : IsStrictlySortedBy key_cmp (keys_of es)) where
  pub walk_from : (n : ℕ) → fs ≡ entries_from (Included (key client n)) es → Walk m client n fs
  walk_from n from = walk_of (Included (key client n)) client n (λ k h. at_or_after (key_cmp (key client n) k) h) (λ k l. le_within _ (le_first client n k l)) es fs m is sorted from

  pub walk_after : (n : ℕ) → fs ≡ entries_from (Excluded (key client n)) es → Walk m client (n + 1) fs
  walk_after n from =
      walk_of (Excluded (key client n)) client (n + 1)
      (λ k h. next (nat_cmp client k.client) n k.number (after (key_cmp (key client n) k) h))
      (λ k l. lt_later client n k l) es fs m is sorted from

module _ {X : Type 0} (m : finite.FinMap key_cmp X) (client n : ℕ) (e : Key × X) (es : List (Key × X)) (walk : Walk m client n (e ∷ es)) where
  -- nothing is below the head
  below : (k : ℕ) → n ≤ k → key_cmp (key client k) e.0 ≡ Less → finite.get m (key client k) ≡ None
  below k l less =
      walk.rest k l ∙ lookup-none (tree.is_at (key_cmp (key client k))) (e ∷ es) (none_below_head key_total (key client k) e es walk.sorted less)

  pub none_before : e.0.client ≡ client → (k : ℕ) → n ≤ k → k < e.0.number → finite.get m (key client k) ≡ None
  none_before same k l less =
      below k l (ap (λ r. ordering_then r (nat_cmp k e.0.number)) (sym (nat_cmp_is client e.0.client Equal (sym same))) ∙ sym (nat_cmp_is k e.0.number Less less))

  pub none_of : (e.0.client ≡ client → ⊥) → (k : ℕ) → n ≤ k → finite.get m (key client k) ≡ None
  none_of ne k l =
      below k l (less_client client e.0.client (nat_cmp n e.0.number) (nat_cmp k e.0.number) (nat_cmp client e.0.client) refl walk.low ne)

  pub none_at : (e.0.client ≡ client → e.0.number ≡ n → ⊥) → finite.get m (key client n) ≡ None
  none_at apart =
      below n (omega arith) (less_of _ (keys_differ key_total key_same (key client n) e.0 (λ is. apart (sym (ap (λ (k : Key). k.client) is)) (sym (ap (λ (k : Key). k.number) is)))) walk.low)

  -- a head of this client is no less than the number
  pub head_from : e.0.client ≡ client → n ≤ e.0.number
  head_from same =
      not_gt n e.0.number (ap (λ r. is_gt (ordering_then r (nat_cmp n e.0.number))) (nat_cmp_is client e.0.client Equal (sym same)) ∙ walk.low)

  -- the head is there
  pub head_there : e.0.client ≡ client → n ≤ e.0.number → IsSome (finite.get m (key client e.0.number))
  head_there same l =
      let here : e.0 ≡ key client e.0.number = λ i. key (same i) e.0.number in
      subst (λ o. IsSome o) (sym (walk.rest e.0.number l ∙ lookup_head (tree.is_at (key_cmp (key client e.0.number))) e es (ap (λ k. is_eq (key_cmp (key client e.0.number) k)) here ∙ itself key_total (key client e.0.number)))) refl

  pub taken_next : e.0.client ≡ client → e.0.number ≡ n → ((k : ℕ) → k < n → IsSome (finite.get m (key client k))) → (k : ℕ) → k < n + 1 → IsSome (finite.get m (key client k))
  taken_next same at taken k l =
      ⊎_elim
      (λ (here : k ≡ n). subst (λ j. IsSome (finite.get m (key client j))) (at ∙ sym here) (head_there same (omega arith)))
      (λ (ne : k ≡ n → ⊥). taken k (omega arith))
      (cases_eq k n)

  -- and those after it are the entries from the next number on
  pub walk_next : e.0.client ≡ client → e.0.number ≡ n → Walk m client (n + 1) es
  walk_next same at = record {
    sorted = sorted_tail key_cmp e.0 (keys_of es) walk.sorted;
    low = low es walk.sorted;
    rest = λ k l.
        let apart : is_eq (key_cmp (key client k) e.0) ≡ false = keys_differ key_total key_same (key client k) e.0 (λ is. let q : k ≡ n = ap (λ (x : Key). x.number) is ∙ at in absurd (omega arith)) in
        walk.rest k (omega arith) ∙ ap (λ b. cond b (Some e.1) (entry_at es (key client k))) apart;
  }
    where
      here : e.0 ≡ key client n
      here = λ i. key (same i) (at i)

      low : (fs : List (Key × X)) → IsStrictlySortedBy key_cmp (keys_of (e ∷ fs)) → IsFrom client (n + 1) fs
      low [] sorted = tt
      low (f ∷ fs) sorted =
          next (nat_cmp client f.0.client) n f.0.number (ap (λ k. key_cmp k f.0) (sym here) ∙ (sorted_head key_cmp e.0 (keys_of (f ∷ fs)) sorted).0)
