-- The threads that the clients begin as.
use Rattle.std.proofs.Common.{◌≡◌, ℕ, ◌+◌, ◌<◌, ◌≤◌, false, List, [], ◌∷◌, ◌++◌, length, drop, append_assoc, ap, ◌∙◌, sym}
use Rattle.std.proofs.lemmas.List.{append-nil, drop_all, drop_more}
use Rattle.ipc_model.specs.State.{Credentials, Thread, first_threads, nobody}

-- one more of them
pub one-more : (ts : List Thread) (n : ℕ) (cs : List Credentials) → n < length cs
    → (ts ++ record { process = n; pid = n + 1; has_ended = false } ∷ []) ++ first_threads (n + 1) (drop (n + 1) cs) ≡ ts ++ first_threads n (drop n cs)
unfolding first_threads
one-more ts n cs below =
    append_assoc ts (record { process = n; pid = n + 1; has_ended = false } ∷ []) (first_threads (n + 1) (drop (n + 1) cs))
    ∙ ap (λ rest. ts ++ first_threads n rest) (sym (drop_more cs n nobody below))

-- none is left
pub no-more : (ts : List Thread) (n : ℕ) (cs : List Credentials) → length cs ≤ n → ts ++ first_threads n (drop n cs) ≡ ts
unfolding first_threads
no-more ts n cs past = ap (λ rest. ts ++ first_threads n rest) (drop_all n cs past) ∙ append-nil ts
