-- A list that is written from its beginning on, with what is taken from another.
use Rattle.std.proofs.Common.{◌≡◌, ℕ, suc, ◌+◌, ◌<◌, List, [], ◌∷◌, ◌++◌, length, drop, map, slice_set, refl, sym, ap, ◌∙◌, subst, arith}

module _ {A : Type 0} where
  after : (given old : List A) (x : A) → length given < length old
      → slice_set (given ++ drop (length given) old) (length given) x ≡ (given ++ x ∷ []) ++ drop (suc (length given)) old
  after [] [] x small = absurd (omega (arith, small))
  after [] (y ∷ ys) x small = refl
  after (g ∷ gs) [] x small = absurd (omega (arith, small))
  after (g ∷ gs) (y ∷ ys) x small = ap (λ zs. g ∷ zs) (after gs ys x (omega (arith, small)))

  -- a value is written where the given ones end
  pub placed : (given old : List A) (x : A) (at : ℕ) → at ≡ length given → at < length old
      → slice_set (given ++ drop at old) at x ≡ (given ++ x ∷ []) ++ drop (at + 1) old
  placed given old x at count small =
      let next : suc (length given) ≡ length given + 1 = omega arith in
      subst (λ (n : ℕ). slice_set (given ++ drop n old) n x ≡ (given ++ x ∷ []) ++ drop (n + 1) old) (sym count)
      (after given old x (subst (λ (n : ℕ). n < length old) count small) ∙ ap (λ (n : ℕ). (given ++ x ∷ []) ++ drop n old) next)

  pub longer : (xs : List A) (x : A) → length (xs ++ x ∷ []) ≡ length xs + 1
  longer [] x = refl
  longer (y ∷ ys) x = omega (arith, longer ys x)

  one_more : (xs : List A) (x : A) (ys : List A) → (xs ++ x ∷ []) ++ ys ≡ xs ++ x ∷ ys
  one_more [] x ys = refl
  one_more (z ∷ zs) x ys = ap (λ us. z ∷ us) (one_more zs x ys)

  within : (xs : List A) (x : A) (ys : List A) → length xs < length (xs ++ x ∷ ys)
  within [] x ys = omega arith
  within (z ∷ zs) x ys = omega (arith, within zs x ys)

module _ {A B : Type 0} (f : B → A) where
  pub mapped : (xs : List B) → length (map f xs) ≡ length xs
  mapped [] = refl
  mapped (x ∷ xs) = omega (arith, mapped xs)

  -- what is taken and what is left make the whole
  pub taken : (done : List A) (left : List B) (next : B) (rest whole : List B) (x : A) → done ++ map f left ≡ map f whole → left ≡ next ∷ rest → x ≡ f next
      → (done ++ x ∷ []) ++ map f rest ≡ map f whole
  taken done left next rest whole x all is value =
      one_more done x (map f rest) ∙ ap (λ (v : A). done ++ v ∷ map f rest) value ∙ ap (λ (ys : List B). done ++ map f ys) (sym is) ∙ all

  pub has_room : (done : List A) (left : List B) (next : B) (rest whole : List B) → done ++ map f left ≡ map f whole → left ≡ next ∷ rest → length done < length whole
  has_room done left next rest whole all is =
      let small : length done < length (map f whole) = subst (λ (zs : List A). length done < length zs) (ap (λ (ys : List B). done ++ map f ys) (sym is) ∙ all) (within done (f next) (map f rest)) in
      omega (arith, small, mapped whole)

module _ {A : Type 0} where
  past : (xs ys : List A) → drop (length xs) (xs ++ ys) ≡ ys
  past [] ys = refl
  past (x ∷ xs) ys = past xs ys

  -- what follows the given ones is what followed their places
  pub dropped : (given old : List A) (n m : ℕ) → length given ≡ n → m ≡ n → drop n (given ++ drop m old) ≡ drop n old
  dropped given old n m is same =
      ap (λ (k : ℕ). drop k (given ++ drop m old)) (sym is) ∙ past given (drop m old) ∙ ap (λ (k : ℕ). drop k old) same
