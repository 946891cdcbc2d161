-- The clients of a service, by their records.
use Rattle.std.proofs.Common.{◌≡◌, ℕ, zero, suc, List, [], ◌∷◌, ◌++◌, map, refl, sym, ap, subst, IfSome, All}
use Rattle.std.specs.List.{slice_get}
use Rattle.std.proofs.lemmas.List.Elements.{All-nil, All-cons, All-head, All-tail}
use Rattle.ipc_model.specs.State.{opening}
use Rattle.ipc_model.specs.Step.{Event}
use Rattle.ipc_history.specs.History.{AreLegalFrom}
use Rattle.ipc_combiner.specs.Entries.{legal}
use Rattle.ipc_combiner.specs.Laws.{is_legal}
use Rattle.ipc_combiner.specs.States.{IsOpened, Records, first_entries, keeping, opened}

module _ {X Y : Type 0} (f : X → Y) where
  -- one more is mapped
  pub map_on : (xs : List X) (x : X) (rest : List Y) → map f (xs ++ x ∷ []) ++ rest ≡ map f xs ++ f x ∷ rest
  map_on [] x rest = refl
  map_on (y ∷ xs) x rest = ap (λ (l : List Y). f y ∷ l) (map_on xs x rest)

  pub placed : (P : ℕ → Y → Type 0) (xs : List X) → ((k : ℕ) → IfSome (slice_get (map f xs) k) (P k)) → (k : ℕ) → IfSome (slice_get xs k) (λ x. P k (f x))
  placed P [] h k = tt
  placed P (x ∷ xs) h zero = h zero
  placed P (x ∷ xs) h (suc k) = placed (λ j. P (suc j)) xs (λ j. h (suc j)) k

  pub all_of : (P : Y → Type 0) (xs : List X) → All P (map f xs) → All (λ x. P (f x)) xs
  all_of P [] h = All-nil (λ x. P (f x))
  all_of P (x ∷ xs) h = All-cons (λ x. P (f x)) x xs (All-head P (f x) (map f xs) h) (all_of P xs (All-tail P (f x) (map f xs) h))

-- a history to which nobody has called is legal
pub opening_is_legal : (list : Records) → IsOpened list → legal (first_entries list)
opening_is_legal list is = let h = opened list in
    is_legal (keeping list) h (subst (λ (es : List Event). AreLegalFrom (opening h.limits h.clients) es) (sym is.1) tt)
