-- The threads that a namespace begins with.
use Rattle.std.proofs.Common.{◌≡◌, ℕ, suc, ◌+◌, List, [], ◌∷◌, length, refl, ap}
use Rattle.ipc_model.specs.State.{Credentials, first_threads}

-- as many as there are clients
pub as-long : (n : ℕ) (cs : List Credentials) → length (first_threads n cs) ≡ length cs
unfolding first_threads
as-long n [] = refl
as-long n (c ∷ cs) = ap suc (as-long (n + 1) cs)
