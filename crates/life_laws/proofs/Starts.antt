-- Threads that begin, take other credentials, take another pid, and end.
use Rattle.std.proofs.Common.{◌≡◌, ◌≢◌, ℕ, ◌<◌, ◌≤◌, true, false, set, List, length, refl, ap, ◌∙◌, arith, Some}
use Rattle.std.specs.Prelude.{Ok, map}
use Rattle.std.proofs.lemmas.List.{get_or-set_other, get_or-set_same}
use Rattle.ipc_call.specs.declared.calls.Call.TheVariants.{Assume, Begin, Clone, Exit, Fork, Name}
use Rattle.ipc_call.specs.declared.calls.Identity.{Identity}
use Rattle.ipc_call.specs.declared.replies.Answer.TheVariants.{Done}
use Rattle.ipc_creds.specs.Credentials.{Credentials, groups_max}
use Rattle.ipc_model.specs.State.{State, Thread, creds_at, has_exited, no_thread, nobody, pid_at, process_at, thread_at}
use Rattle.ipc_model.specs.Decision.{Decision, outcome_of}
use Rattle.ipc_model.specs.Processes.{credentials_of, renamed}
use Rattle.ipc_model.specs.Step.{Event, begun}
use Rattle.ipc_model.specs.Tidy.{thread_in}
use Rattle.ipc_history.specs.History.{History, next_step, run, with_event}
use Rattle.life_laws.specs.Lives.{Begins, Exits, IsFree, IsFreeBut, Renames, clients_after, creds_in, event, gone, threads_after}
use Rattle.life_laws.proofs.Changed.{renamed-not, renamed-so, runs-parts}
use Rattle.life_laws.proofs.Counted.{many-clients, many-threads}
use Rattle.life_laws.proofs.Decided.{assume-decided, begin-decided, clone-decided, exit-decided, fork-decided, name-decided}
use Rattle.life_laws.proofs.Ended.{ended-waits}
use Rattle.life_laws.proofs.Steps.{clients-granted, threads-granted}

-- two lists of the clients in which one was replaced
module _ (h : History) (e : Event) (client : ℕ) (known : client < length h.clients) (own : (next_step h e).own ≡ Some (Ok Done)) where
  abbrev before : State
  before = run h

  abbrev new : State
  new = run (with_event h e)

  known-thread : client < length before.threads
  known-thread = let many = many-threads h in omega (arith, known, many)

  known-client : client < length before.clients
  known-client = let many = many-clients h in omega (arith, known, many)

  module _ (t : Thread) (threads : threads_after before.next before.threads e.client e.call ≡ set before.threads client t) where
    thread-here : thread_at new client ≡ t
    thread-here = ap (λ (ts : List Thread). thread_in ts client) (threads-granted h e Done own ∙ threads) ∙ get_or-set_same before.threads client t no_thread known-thread

    thread-other : (other : ℕ) → other ≢ client → thread_at new other ≡ thread_at before other
    thread-other other ne = ap (λ (ts : List Thread). thread_in ts other) (threads-granted h e Done own ∙ threads) ∙ get_or-set_other before.threads client other t no_thread ne

  module _ (c : Credentials) (clients : clients_after before.clients e.client e.call ≡ set before.clients client c) where
    creds-here : creds_at new client ≡ c
    creds-here = ap (λ (cs : List Credentials). creds_in cs client) (clients-granted h e Done own ∙ clients) ∙ get_or-set_same before.clients client c nobody known-client

    creds-other : (other : ℕ) → other ≢ client → creds_at new other ≡ creds_at before other
    creds-other other ne = ap (λ (cs : List Credentials). creds_in cs other) (clients-granted h e Done own ∙ clients) ∙ get_or-set_other before.clients client other c nobody ne

  begins-by : (process pid : ℕ) (c : Credentials)
      → threads_after before.next before.threads e.client e.call ≡ set before.threads client (record { process = process; pid = pid; has_ended = false })
      → clients_after before.clients e.client e.call ≡ set before.clients client c → Begins h e client process pid c
  begins-by process pid c threads clients =
      let t : Thread = record { process = process; pid = pid; has_ended = false } in
      let here = thread-here t threads in
      record {
        granted = own;
        thread = record {
          lives = ap (λ (x : Thread). x.has_ended) here;
          process = ap (λ (x : Thread). x.process) here;
          pid = ap (λ (x : Thread). x.pid) here;
          creds = creds-here c clients;
        };
        others = λ other ne. record { thread = thread-other t threads other ne; creds = creds-other c clients other ne };
      }

module _ (h : History) (now client : ℕ) where
  abbrev at : State
  at = begun (run h) now

  pub begin-run : (pid : ℕ) (creds : Identity) → client < length h.clients → has_exited (run h) client ≡ true → 0 < pid → length creds.groups ≤ groups_max → IsFree (run h) pid
      → Begins h (event now client (Begin pid creds)) client (run h).next pid (credentials_of creds)
  begin-run pid creds known over some few free =
      let many = many-threads h in
      let there : client < length (run h).threads = omega (arith, known, many) in
      begins-by h (event now client (Begin pid creds)) client known
      (ap (λ (d : Decision State). outcome_of d) (begin-decided at client pid creds there over some few free).is)
      (run h).next pid (credentials_of creds) refl refl

  module _ (lives : has_exited (run h) client ≡ false) where
    pub fork-run : (child pid : ℕ) → child < length h.clients → has_exited (run h) child ≡ true → 0 < pid → IsFree (run h) pid
        → Begins h (event now client (Fork child pid)) child (run h).next pid (creds_at (run h) client)
    fork-run child pid known over some free =
        let many = many-threads h in
        let there : child < length (run h).threads = omega (arith, known, many) in
        begins-by h (event now client (Fork child pid)) child known
        (ap (λ (d : Decision State). outcome_of d) (fork-decided at client lives child pid there over some free).is)
        (run h).next pid (creds_at (run h) client) refl refl

    pub clone-run : (child : ℕ) → child < length h.clients → has_exited (run h) child ≡ true
        → Begins h (event now client (Clone child)) child (process_at (run h) client) (pid_at (run h) client) (creds_at (run h) client)
    clone-run child known over =
        let many = many-threads h in
        let there : child < length (run h).threads = omega (arith, known, many) in
        begins-by h (event now client (Clone child)) child known
        (ap (λ (d : Decision State). outcome_of d) (clone-decided at client lives child there over).is)
        (process_at (run h) client) (pid_at (run h) client) (creds_at (run h) client) refl refl

    pub assume-run : (creds : Identity) → client < length h.clients → length creds.groups ≤ groups_max
        → Begins h (event now client (Assume creds)) client (process_at (run h) client) (pid_at (run h) client) (credentials_of creds)
    assume-run creds known few = record {
      granted = own;
      thread = record {
        lives = ap (λ (x : Thread). x.has_ended) (thread client) ∙ lives;
        process = ap (λ (x : Thread). x.process) (thread client);
        pid = ap (λ (x : Thread). x.pid) (thread client);
        creds = creds-here h e client known own (credentials_of creds) refl;
      };
      others = λ other ne. record { thread = thread other; creds = creds-other h e client known own (credentials_of creds) refl other ne };
    }
      where
        e : Event
        e = event now client (Assume creds)

        own : (next_step h e).own ≡ Some (Ok Done)
        own = ap (λ (d : Decision State). outcome_of d) (assume-decided at client lives creds few).is

        thread : (other : ℕ) → thread_at (run (with_event h e)) other ≡ thread_at (run h) other
        thread other = ap (λ (ts : List Thread). thread_in ts other) (threads-granted h e Done own)

    pub name-run : (pid : ℕ) → 0 < pid → IsFreeBut (run h) (process_at (run h) client) pid → Renames h (event now client (Name pid)) (process_at (run h) client) pid
    name-run pid some free = record {
      granted = own;
      threads = λ other on.
          let here = thread other ∙ renamed-so home pid (run h).threads other on in
          let parts = runs-parts home (thread_at (run h) other) on in
          record {
            lives = ap (λ (x : Thread). x.has_ended) here ∙ parts.1;
            process = ap (λ (x : Thread). x.process) here ∙ parts.0;
            pid = ap (λ (x : Thread). x.pid) here;
            creds = creds other;
          };
      others = λ other off. record { thread = thread other ∙ renamed-not home pid (run h).threads other off; creds = creds other };
    }
      where
        e : Event
        e = event now client (Name pid)

        home : ℕ
        home = process_at (run h) client

        own : (next_step h e).own ≡ Some (Ok Done)
        own = ap (λ (d : Decision State). outcome_of d) (name-decided at client lives pid some free).is

        thread : (other : ℕ) → thread_at (run (with_event h e)) other ≡ thread_in (map (renamed home pid) (run h).threads) other
        thread other = ap (λ (ts : List Thread). thread_in ts other) (threads-granted h e Done own)

        creds : (other : ℕ) → creds_at (run (with_event h e)) other ≡ creds_at (run h) other
        creds other = ap (λ (cs : List Credentials). creds_in cs other) (clients-granted h e Done own)

    pub exit-run : client < length h.clients → Exits h (event now client Exit) client
    exit-run known = record {
      granted = own;
      ended = record { thread = here; creds = creds client; waits = ended-waits (with_event h e) client (ap (λ (t : Thread). t.has_ended) here) };
      others = λ other ne. record { thread = thread-other h e client known own (gone (thread_at (run h) client)) refl other ne; creds = creds other };
    }
      where
        e : Event
        e = event now client Exit

        own : (next_step h e).own ≡ Some (Ok Done)
        own = ap (λ (d : Decision State). outcome_of d) (exit-decided at client lives).is

        creds : (other : ℕ) → creds_at (run (with_event h e)) other ≡ creds_at (run h) other
        creds other = ap (λ (cs : List Credentials). creds_in cs other) (clients-granted h e Done own)

        here : thread_at (run (with_event h e)) client ≡ gone (thread_at (run h) client)
        here = thread-here h e client known own (gone (thread_at (run h) client)) refl
