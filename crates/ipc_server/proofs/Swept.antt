-- Segments that are no more are taken out one after another.
use Rattle.std.proofs.Common.{◌≡◌, ℕ, suc, ◌+◌, ◌<◌, ◌≤◌, Bool, true, false, cond, List, [], ◌∷◌, ◌++◌, map, length, get_or, take, drop, remove, refl, sym, ap, ◌∙◌, arith, append_assoc, add-one}
use Rattle.std.specs.Prelude.{Option, None, Some, filter, is_some, not, option_map}
use Rattle.std.proofs.lemmas.List.{drop_at, drop_more, length-take-le, take_at, take_more}
use Rattle.ipc_model.specs.Controls.{status_of_segment}
use Rattle.ipc_model.specs.State.{Segment}
use Rattle.ipc_objects.specs.declared.object.Object.{Object}
use Rattle.ipc_server.specs.Looks.{amount_of}
use Rattle.ipc_server.specs.Making.{size_in}

pub size_told : (nattch : ℕ) (o : Option (Object Segment)) → amount_of (option_map (λ (segment : Object Segment). (segment.perm, status_of_segment nattch segment)) o) ≡ size_in o
size_told nattch None = refl
size_told nattch (Some segment) = refl

pub some-map : {X Y : Type 0} (f : X → Y) (o : Option X) → is_some (option_map f o) ≡ is_some o
some-map f None = refl
some-map f (Some x) = refl

-- one that passes stays, and is passed by
module _ (p : ℕ → Bool) (xs : List ℕ) (at : ℕ) (within : at < length xs) where
  pub kept-on : (x : ℕ) → x ≡ get_or xs at 0 → p x ≡ true → take (at + 1) xs ++ filter p (drop (at + 1) xs) ≡ take at xs ++ filter p (drop at xs)
  kept-on x is passes =
      ap (λ (l : List ℕ). l ++ filter p (drop (at + 1) xs)) (take_more xs at 0 within)
      ∙ append_assoc (take at xs) (get_or xs at 0 ∷ []) (filter p (drop (at + 1) xs))
      ∙ ap (λ (l : List ℕ). take at xs ++ l) (sym (ap (filter p) (drop_more xs at 0 within)
      ∙ ap (λ (b : Bool). cond b (get_or xs at 0 ∷ filter p (drop (at + 1) xs)) (filter p (drop (at + 1) xs))) (ap p (sym is) ∙ passes)))

  pub passed-by : (x : ℕ) → x ≡ get_or xs at 0 → p x ≡ true → filter (λ y. not (p y)) (drop (at + 1) xs) ≡ filter (λ y. not (p y)) (drop at xs)
  passed-by x is passes =
      sym (ap (filter (λ y. not (p y))) (drop_more xs at 0 within)
      ∙ ap (λ (b : Bool). cond (not b) (get_or xs at 0 ∷ filter (λ y. not (p y)) (drop (at + 1) xs)) (filter (λ y. not (p y)) (drop (at + 1) xs))) (ap p (sym is) ∙ passes))

  front : take at (remove xs at) ≡ take at xs
  front = take_at (take at xs) (drop (suc at) xs) at (length-take-le at xs (omega arith))

  rest : drop at (remove xs at) ≡ drop (at + 1) xs
  rest = drop_at (take at xs) (drop (suc at) xs) at (length-take-le at xs (omega arith)) ∙ ap (λ (n : ℕ). drop n xs) (sym (add-one at))

  -- another is taken out
  pub taken-out : (x : ℕ) → x ≡ get_or xs at 0 → p x ≡ false → take at (remove xs at) ++ filter p (drop at (remove xs at)) ≡ take at xs ++ filter p (drop at xs)
  taken-out x is fails =
      ap (λ (l : List ℕ). l ++ filter p (drop at (remove xs at))) front
      ∙ ap (λ (l : List ℕ). take at xs ++ filter p l) rest
      ∙ ap (λ (l : List ℕ). take at xs ++ l) (sym (ap (filter p) (drop_more xs at 0 within)
      ∙ ap (λ (b : Bool). cond b (get_or xs at 0 ∷ filter p (drop (at + 1) xs)) (filter p (drop (at + 1) xs))) (ap p (sym is) ∙ fails)))

  pub told-of : (x : ℕ) → x ≡ get_or xs at 0 → p x ≡ false → x ∷ filter (λ y. not (p y)) (drop at (remove xs at)) ≡ filter (λ y. not (p y)) (drop at xs)
  told-of x is fails =
      ap (λ (l : List ℕ). x ∷ filter (λ y. not (p y)) l) rest
      ∙ ap (λ (y : ℕ). y ∷ filter (λ y. not (p y)) (drop (at + 1) xs)) is
      ∙ sym (ap (filter (λ y. not (p y))) (drop_more xs at 0 within)
      ∙ ap (λ (b : Bool). cond (not b) (get_or xs at 0 ∷ filter (λ y. not (p y)) (drop (at + 1) xs)) (filter (λ y. not (p y)) (drop (at + 1) xs))) (ap p (sym is) ∙ fails))
