-- A list that is written element by element over the front of another.
use Rattle.std.proofs.Common.{◌≡◌, ℕ, ◌+◌, ◌-◌, ◌<◌, ◌≤◌, List, ◌∷◌, ◌++◌, length, map, take, drop, set, get_or, ap, sym, ◌∙◌, arith}
use Rattle.std.proofs.lemmas.List.{drop-set, drop-set-add, map_more, set-append_right}
use Rattle.std.proofs.lemmas.Grind.{common_steps}

written : {A B : Type 0} (f : A → B) (xs : List A) (k : ℕ) → k < length xs → length (map f (take k xs)) ≡ k
written f xs k below = grind (arith, common_steps)

at_front : {B : Type 0} (ys : List B) (k : ℕ) (y : B) → k < length ys → set (drop k ys) (k - k) y ≡ y ∷ drop (k + 1) ys
at_front ys k y below =
    let zero : k - k ≡ 0 = omega arith in
    let same : k + 0 ≡ k = omega arith in
    ap (λ n. set (drop k ys) n y) zero ∙ sym (drop-set-add k ys 0 y) ∙ ap (λ n. drop k (set ys n y)) same ∙ drop-set ys k y below

pub one_more : {A B : Type 0} (f : A → B) (xs : List A) (ys : List B) (k : ℕ) (d : A)
    → k < length xs → length xs ≤ length ys
    → set (map f (take k xs) ++ drop k ys) k (f (get_or xs k d)) ≡ map f (take (k + 1) xs) ++ drop (k + 1) ys
one_more f xs ys k d below room =
    let y = f (get_or xs k d) in
    let front = set-append_right (map f (take k xs)) (drop k ys) k k y (written f xs k below) (omega arith) in
    let next = at_front ys k y (omega (arith, below, room)) in
    let more = map_more f xs k d below in
    grind (arith, common_steps, front, next, more)
