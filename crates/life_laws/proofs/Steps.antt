-- What an event makes of the clients: what its call does where it is granted, and nothing where it isn't.
use Rattle.std.proofs.Common.{◌≡◌, ℕ, Bool, true, false, cond, List, [], ◌∷◌, ◌++◌, refl, sym, ap, ◌∙◌, Some}
use Rattle.std.specs.Prelude.{Ok}
use Rattle.std.proofs.lemmas.Bool.{true≢false}
use Rattle.ipc_call.specs.declared.calls.Call.{Call}
use Rattle.ipc_call.specs.declared.calls.Call.TheVariants.{SetCreds, Assume, Begin, Fork, Clone, Name, Exec, Exit, Kill}
use Rattle.ipc_call.specs.declared.replies.Answer.{Answer}
use Rattle.ipc_call.specs.declared.rules.Rule.TheVariants.{Ended}
use Rattle.ipc_creds.specs.Credentials.{Credentials}
use Rattle.ipc_model.specs.State.{State, Thread, opening}
use Rattle.ipc_model.specs.Decision.{Decision, Granted, Refused, Waits, outcome_of}
use Rattle.ipc_model.specs.Decide.{decide, decide_alive, decide_call, is_late, may_call, unless_late}
use Rattle.ipc_model.specs.Step.{Event, begun, moved_as, step}
use Rattle.ipc_model.proofs.Late.{late-granted}
use Rattle.ipc_model.proofs.Plans.{IfGranted}
use Rattle.ipc_history.specs.History.{History, next_step, run, run_from, with_event}
use Rattle.life_laws.specs.Lives.{clients_after, clients_by, is_granted, is_of_life, threads_after, threads_by}
use Rattle.life_laws.proofs.Granted.{Lived, lived}
use Rattle.life_laws.proofs.Waits.{CanWait, can-run, same-step}

run-append : (s : State) (es : List Event) (e : Event) → run_from s (es ++ e ∷ []) ≡ (step (run_from s es) e).state
run-append s [] e = refl
run-append s (first ∷ es) e = run-append (step s first).state es e

-- a history leads with one more event to where its step leads
pub run-with : (h : History) (e : Event) → run (with_event h e) ≡ (next_step h e).state
run-with h e = run-append (opening h.limits h.clients) h.events e

module _ (s : State) (e : Event) where
  abbrev at : State
  at = begun s e.now

  left-threads : (d : Decision State) → IfGranted (Lived at e.client e.call) d → (moved_as at e.client e.call d).state.threads ≡ threads_by s e (outcome_of d)
  left-threads (Refused rule) is = refl
  left-threads Waits is = refl
  left-threads (Granted answer new) is = is.0

  left-clients : (d : Decision State) → IfGranted (Lived at e.client e.call) d → (moved_as at e.client e.call d).state.clients ≡ clients_by s e (outcome_of d)
  left-clients (Refused rule) is = refl
  left-clients Waits is = refl
  left-clients (Granted answer new) is = is.1

  lived-call : IfGranted (Lived at e.client e.call) (decide_call at e.client e.call)
  lived-call = late-granted (Lived at e.client e.call) (is_late at e.call) (decide at e.client e.call) (lived at e.client e.call)

  module _ (can : CanWait s.parked) where
    pub threads-step : (step s e).state.threads ≡ threads_by s e (step s e).own
    threads-step = (same-step s e can).threads ∙ left-threads (decide_call at e.client e.call) lived-call

    pub clients-step : (step s e).state.clients ≡ clients_by s e (step s e).own
    clients-step = (same-step s e can).clients ∙ left-clients (decide_call at e.client e.call) lived-call

module _ (h : History) (e : Event) where
  pub threads-run : (run (with_event h e)).threads ≡ threads_by (run h) e (next_step h e).own
  threads-run = ap (λ (t : State). t.threads) (run-with h e) ∙ threads-step (run h) e (can-run h)

  pub clients-run : (run (with_event h e)).clients ≡ clients_by (run h) e (next_step h e).own
  clients-run = ap (λ (t : State). t.clients) (run-with h e) ∙ clients-step (run h) e (can-run h)

  -- where it is granted
  pub threads-granted : (answer : Answer) → (next_step h e).own ≡ Some (Ok answer) → (run (with_event h e)).threads ≡ threads_after (run h).next (run h).threads e.client e.call
  threads-granted answer own = threads-run ∙ ap (λ o. threads_by (run h) e o) own

  pub clients-granted : (answer : Answer) → (next_step h e).own ≡ Some (Ok answer) → (run (with_event h e)).clients ≡ clients_after (run h).clients e.client e.call
  clients-granted answer own = clients-run ∙ ap (λ o. clients_by (run h) e o) own

  -- and where it isn't
  pub threads-refused : is_granted (next_step h e).own ≡ false → (run (with_event h e)).threads ≡ (run h).threads
  threads-refused isnt = threads-run ∙ ap (λ b. cond b (threads_after (run h).next (run h).threads e.client e.call) (run h).threads) isnt

  pub clients-refused : is_granted (next_step h e).own ≡ false → (run (with_event h e)).clients ≡ (run h).clients
  clients-refused isnt = clients-run ∙ ap (λ b. cond b (clients_after (run h).clients e.client e.call) (run h).clients) isnt

-- a call that isn't of the life of processes
other-threads : (next : ℕ) (ts : List Thread) (client : ℕ) (call : Call) → is_of_life call ≡ false → threads_after next ts client call ≡ ts
other-threads next ts client (SetCreds euid egid groups) other = absurd (true≢false other)
other-threads next ts client (Assume creds) other = absurd (true≢false other)
other-threads next ts client (Begin p creds) other = absurd (true≢false other)
other-threads next ts client (Fork child p) other = absurd (true≢false other)
other-threads next ts client (Clone child) other = absurd (true≢false other)
other-threads next ts client (Name p) other = absurd (true≢false other)
other-threads next ts client Exec other = absurd (true≢false other)
other-threads next ts client (Kill p) other = absurd (true≢false other)
other-threads next ts client Exit other = absurd (true≢false other)
other-threads next ts client call other = refl

other-clients : (cs : List Credentials) (client : ℕ) (call : Call) → is_of_life call ≡ false → clients_after cs client call ≡ cs
other-clients cs client (SetCreds euid egid groups) other = absurd (true≢false other)
other-clients cs client (Assume creds) other = absurd (true≢false other)
other-clients cs client (Begin p creds) other = absurd (true≢false other)
other-clients cs client (Fork child p) other = absurd (true≢false other)
other-clients cs client (Clone child) other = absurd (true≢false other)
other-clients cs client Exec other = absurd (true≢false other)
other-clients cs client call other = refl

either-threads : (b : Bool) (xs ys : List Thread) → xs ≡ ys → cond b xs ys ≡ ys
either-threads true xs ys same = same
either-threads false xs ys same = refl

either-clients : (b : Bool) (xs ys : List Credentials) → xs ≡ ys → cond b xs ys ≡ ys
either-clients true xs ys same = same
either-clients false xs ys same = refl

module _ (h : History) (e : Event) (other : is_of_life e.call ≡ false) where
  pub threads-other : (run (with_event h e)).threads ≡ (run h).threads
  threads-other = threads-run h e ∙ either-threads (is_granted (next_step h e).own) _ (run h).threads (other-threads (run h).next (run h).threads e.client e.call other)

  pub clients-other : (run (with_event h e)).clients ≡ (run h).clients
  clients-other = clients-run h e ∙ either-clients (is_granted (next_step h e).own) _ (run h).clients (other-clients (run h).clients e.client e.call other)

-- who is granted a call lives, or begins
abbrev turned_away : Decision State
turned_away = Refused Ended

not-granted : (late : Bool) → is_granted (outcome_of (unless_late late turned_away)) ≡ false
not-granted true = refl
not-granted false = refl

pub granted-may : (s : State) (client : ℕ) (call : Call) → is_granted (outcome_of (decide_call s client call)) ≡ true → may_call s client call ≡ true
granted-may s client call is = by (may_call s client call) refl
  where
    by : (b : Bool) → may_call s client call ≡ b → b ≡ true
    by true may = refl
    by false may = absurd (true≢false (sym is ∙ ap (λ b. is_granted (outcome_of (unless_late (is_late s call) (cond b (decide_alive s client call) turned_away)))) may ∙ not-granted (is_late s call)))
