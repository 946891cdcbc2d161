-- How many of a list pass a test.
use Rattle.std.proofs.Common.{◌≡◌, ℕ, zero, suc, ◌+◌, ◌≤◌, Bool, true, false, cond, List, [], ◌∷◌, ◌++◌, ap, arith, get_or, length, set, map}
use Rattle.std.specs.Prelude.{filter}
use Rattle.ipc_server.specs.Servers.{count}

abbrev pub one : Bool → ℕ
one b = cond b 1 0

module _ {X : Type 0} (p : X → Bool) where
  one_more : (b : Bool) (x : X) (kept : List X) → length (cond b (x ∷ kept) kept) ≡ one b + length kept
  one_more true x kept = omega arith
  one_more false x kept = omega arith

  pub count-cons : (x : X) (xs : List X) → count p (x ∷ xs) ≡ one (p x) + count p xs
  count-cons x xs = one_more (p x) x (filter p xs)

  pub count-append : (xs ys : List X) → count p (xs ++ ys) ≡ count p xs + count p ys
  count-append [] ys = omega arith
  count-append (x ∷ xs) ys =
      let all = count-cons x (xs ++ ys) in
      let first = count-cons x xs in
      let rest = count-append xs ys in
      omega (arith, all, first, rest)

  pub count-one : (x : X) → p x ≡ false → count p (x ∷ []) ≡ 0
  count-one x fails = let all = count-cons x [] in let none = ap one fails in omega (arith, all, none)

  -- one that doesn't pass in the last place counts for nothing
  pub count-last : (xs ys : List X) (x : X) → p x ≡ false → count p (xs ++ (ys ++ x ∷ [])) ≡ count p (xs ++ ys)
  count-last xs ys x fails =
      let all = count-append xs (ys ++ x ∷ []) in
      let behind = count-append ys (x ∷ []) in
      let none = count-one x fails in
      let front = count-append xs ys in
      omega (arith, all, behind, none, front)

  -- another in its place
  pub count-set : (xs : List X) (i : ℕ) (x : X) → count p (set xs i x) ≤ count p xs + one (p x)
  count-set [] i x = omega arith
  count-set (y ∷ xs) zero x = let new = count-cons x xs in let old = count-cons y xs in omega (arith, new, old)
  count-set (y ∷ xs) (suc i) x =
      let new = count-cons y (set xs i x) in
      let old = count-cons y xs in
      let rest = count-set xs i x in
      omega (arith, new, old, rest)

  pub count-set_no : (xs : List X) (i : ℕ) (x : X) → p x ≡ false → count p (set xs i x) ≤ count p xs
  count-set_no xs i x fails = let most = count-set xs i x in let none = ap one fails in omega (arith, most, none)

  pub count-set_same : (xs : List X) (i : ℕ) (x d : X) → p x ≡ p (get_or xs i d) → count p (set xs i x) ≤ count p xs
  count-set_same [] i x d same = omega arith
  count-set_same (y ∷ xs) zero x d same =
      let new = count-cons x xs in
      let old = count-cons y xs in
      let tests = ap one same in
      omega (arith, new, old, tests)
  count-set_same (y ∷ xs) (suc i) x d same =
      let new = count-cons y (set xs i x) in
      let old = count-cons y xs in
      let rest = count-set_same xs i x d same in
      omega (arith, new, old, rest)

  -- where what becomes of each passes only where it did
  pub count-map : (f : X → X) → ((x : X) → one (p (f x)) ≤ one (p x)) → (xs : List X) → count p (map f xs) ≤ count p xs
  count-map f fewer [] = omega arith
  count-map f fewer (x ∷ xs) =
      let new = count-cons (f x) (map f xs) in
      let old = count-cons x xs in
      let here = fewer x in
      let rest = count-map f fewer xs in
      omega (arith, new, old, here, rest)
