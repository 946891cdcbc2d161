-- What is true of each of a list.
use Rattle.std.proofs.Common.{ℕ, zero, suc, List, [], ◌∷◌, ◌++◌, take, drop, remove}
use Rattle.std.specs.List.{AllByRecursion, insert}

pub each_map : {X : Type 0} (P Q : X → Type 0) (xs : List X) → ((x : X) → P x → Q x) → AllByRecursion P xs → AllByRecursion Q xs
each_map P Q [] f all = tt
each_map P Q (x ∷ xs) f all = (f x all.0, each_map P Q xs f all.1)

pub each_both : {X : Type 0} (P Q R : X → Type 0) (xs : List X) → ((x : X) → P x → Q x → R x) → AllByRecursion P xs → AllByRecursion Q xs → AllByRecursion R xs
each_both P Q R [] f all more = tt
each_both P Q R (x ∷ xs) f all more = (f x all.0 more.0, each_both P Q R xs f all.1 more.1)

pub each_push : {X : Type 0} (P : X → Type 0) (xs : List X) (y : X) → AllByRecursion P xs → P y → AllByRecursion P (xs ++ y ∷ [])
each_push P [] y all here = (here, tt)
each_push P (x ∷ xs) y all here = (all.0, each_push P xs y all.1 here)

pub each_insert : {X : Type 0} (P : X → Type 0) (xs : List X) (i : ℕ) (y : X) → AllByRecursion P xs → P y → AllByRecursion P (insert xs i y)
each_insert P [] zero y all here = (here, tt)
each_insert P [] (suc i) y all here = (here, tt)
each_insert P (x ∷ xs) zero y all here = (here, all)
each_insert P (x ∷ xs) (suc i) y all here = (all.0, each_insert P xs i y all.1 here)

pub each_remove : {X : Type 0} (P : X → Type 0) (xs : List X) (i : ℕ) → AllByRecursion P xs → AllByRecursion P (remove xs i)
each_remove P [] zero all = tt
each_remove P [] (suc i) all = tt
each_remove P (x ∷ xs) zero all = all.1
each_remove P (x ∷ xs) (suc i) all = (all.0, each_remove P xs i all.1)

pub each_drop : {X : Type 0} (P : X → Type 0) (xs : List X) (i : ℕ) → AllByRecursion P xs → AllByRecursion P (drop i xs)
each_drop P [] zero all = tt
each_drop P [] (suc i) all = tt
each_drop P (x ∷ xs) zero all = all
each_drop P (x ∷ xs) (suc i) all = each_drop P xs i all.1

pub each_from_parts : {X : Type 0} (P : X → Type 0) (xs : List X) (i : ℕ) → AllByRecursion P (take i xs) → AllByRecursion P (drop i xs) → AllByRecursion P xs
each_from_parts P [] i first later = tt
each_from_parts P (x ∷ xs) zero first later = later
each_from_parts P (x ∷ xs) (suc i) first later = (first.0, each_from_parts P xs i first.1 later)
