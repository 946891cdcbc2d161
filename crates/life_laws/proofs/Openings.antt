-- At the start each client is the only thread of a process, whose pid is its number plus 1.
use Rattle.std.proofs.Common.{◌≡◌, ℕ, ◌+◌, ◌<◌, zero, suc, false, List, [], ◌∷◌, length, refl, arith}
use Rattle.ipc_call.specs.declared.limits.Limits.{Limits}
use Rattle.ipc_creds.specs.Credentials.{Credentials}
use Rattle.ipc_model.specs.State.{Thread, first_threads, opening}
use Rattle.ipc_model.specs.Tidy.{thread_in}
use Rattle.life_laws.specs.Lives.{IsThread, creds_in}

abbrev IsFirst : Thread → ℕ → Type 0
IsFirst t n = (t.has_ended ≡ false) × (t.process ≡ n) × (t.pid ≡ n + 1)

first-at : (n : ℕ) (cs : List Credentials) (client : ℕ) → client < length cs → IsFirst (thread_in (first_threads n cs) client) (n + client)
unfolding first_threads
first-at n [] client known = absurd (omega (arith, known))
first-at n (c ∷ cs) zero known = (refl, omega arith, omega arith)
first-at n (c ∷ cs) (suc client) known =
    let rest = first-at (n + 1) cs client (omega (arith, known)) in (rest.0, omega (arith, rest.1), omega (arith, rest.2))

pub first-thread : (limits : Limits) (clients : List Credentials) (client : ℕ) → client < length clients
    → IsThread (opening limits clients) client client (client + 1) (creds_in clients client)
first-thread limits clients client known =
    let first = first-at 0 clients client known in
    record { lives = first.0; process = omega (arith, first.1); pid = omega (arith, first.2); creds = refl }
