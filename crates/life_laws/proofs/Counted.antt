-- There are as many threads as clients, and as many of these as at the start.
use Rattle.std.proofs.Common.{◌≡◌, ℕ, ◌+◌, suc, Bool, true, false, cond, List, [], ◌∷◌, length, refl, ap, ◌∙◌, Option, Some, None}
use Rattle.std.specs.Prelude.{map}
use Rattle.std.specs.List.{find}
use Rattle.std.proofs.lemmas.List.{length-map, length-set}
use Rattle.ipc_call.specs.declared.calls.Call.{Call}
use Rattle.ipc_call.specs.declared.calls.Call.TheVariants.{Begin, Fork, Clone, Name, Exec, Exit, Kill}
use Rattle.ipc_creds.specs.Credentials.{Credentials}
use Rattle.ipc_model.specs.State.{State, Thread, first_threads, has_pid, opening}
use Rattle.ipc_model.specs.Processes.{ends, renamed}
use Rattle.ipc_model.specs.Step.{Event, step}
use Rattle.ipc_model.specs.Tidy.{thread_in}
use Rattle.ipc_model.proofs.Keeping.{Follows-step}
use Rattle.ipc_history.specs.History.{History, run, run_from}
use Rattle.life_laws.specs.Lives.{is_granted, threads_after, without_process}
use Rattle.life_laws.proofs.Steps.{threads-step}
use Rattle.life_laws.proofs.Waits.{CanWait, can-step}

killed-long : (o : Option Thread) (ts : List Thread) → length (without_process o ts) ≡ length ts
killed-long None ts = refl
killed-long (Some t) ts = length-map ts (ends t.process)

long-threads : (next : ℕ) (ts : List Thread) (client : ℕ) (call : Call) → length (threads_after next ts client call) ≡ length ts
long-threads next ts client (Begin p creds) = length-set ts client (record { process = next; pid = p; has_ended = false })
long-threads next ts client (Fork child p) = length-set ts child (record { process = next; pid = p; has_ended = false })
long-threads next ts client (Clone child) = length-set ts child (record { process = (thread_in ts client).process; pid = (thread_in ts client).pid; has_ended = false })
long-threads next ts client (Name p) = length-map ts (renamed (thread_in ts client).process p)
long-threads next ts client Exec = length-set (map (ends (thread_in ts client).process) ts) client (thread_in ts client) ∙ length-map ts (ends (thread_in ts client).process)
long-threads next ts client (Kill p) = killed-long (find (has_pid p) ts) ts
long-threads next ts client Exit = length-set ts client (record (thread_in ts client) { has_ended = true })
long-threads next ts client call = refl

either-long : (b : Bool) (xs ys : List Thread) → length xs ≡ length ys → length (cond b xs ys) ≡ length ys
either-long true xs ys same = same
either-long false xs ys same = refl

long-step : (s : State) (e : Event) → CanWait s.parked → length (step s e).state.threads ≡ length s.threads
long-step s e can = ap length (threads-step s e can) ∙ either-long (is_granted (step s e).own) _ s.threads (long-threads s.next s.threads e.client e.call)

long-from : (s : State) (es : List Event) → CanWait s.parked → length (run_from s es).threads ≡ length s.threads
long-from s [] can = refl
long-from s (e ∷ es) can = long-from (step s e).state es (can-step s e can) ∙ long-step s e can

first-long : (n : ℕ) (cs : List Credentials) → length (first_threads n cs) ≡ length cs
unfolding first_threads
first-long n [] = refl
first-long n (c ∷ cs) = ap suc (first-long (n + 1) cs)

pub many-threads : (h : History) → length (run h).threads ≡ length h.clients
many-threads h = long-from (opening h.limits h.clients) h.events tt ∙ first-long 0 h.clients

clients-from : (s : State) (es : List Event) → length (run_from s es).clients ≡ length s.clients
clients-from s [] = refl
clients-from s (e ∷ es) = clients-from (step s e).state es ∙ (Follows-step s e).clients

pub many-clients : (h : History) → length (run h).clients ≡ length h.clients
many-clients h = clients-from (opening h.limits h.clients) h.events
