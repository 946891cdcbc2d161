-- Which clients an event leaves as they were.
use Rattle.std.proofs.Common.{◌≡◌, ℕ, Bool, true, false, cond, List, refl, ap, ◌∙◌}
use Rattle.ipc_creds.specs.Credentials.{Credentials}
use Rattle.ipc_model.specs.State.{Thread, creds_at, has_exited, pid_at, process_at}
use Rattle.ipc_model.specs.Step.{Event}
use Rattle.ipc_model.specs.Tidy.{thread_in}
use Rattle.ipc_history.specs.History.{History, next_step, run, with_event}
use Rattle.life_laws.specs.Lives.{clients_after, creds_in, is_begun_by, is_ended_by, is_granted, takes_creds, takes_pid, threads_after}
use Rattle.life_laws.proofs.Changed.{creds-after, ended-after, pid-after, process-after}
use Rattle.life_laws.proofs.Pids.{one-run}
use Rattle.life_laws.proofs.Steps.{clients-run, threads-run}

-- what is so where a call is granted, and of what was, is so after it

either : {X Y : Type 0} (f : X → Y) (b : Bool) (after before : X) → f after ≡ f before → f (cond b after before) ≡ f before
either f true after before same = same
either f false after before same = refl

module _ (h : History) (e : Event) (client : ℕ) where
  abbrev granted : Bool
  granted = is_granted (next_step h e).own

  abbrev after : List Thread
  after = threads_after (run h).next (run h).threads e.client e.call

  pub creds-stay : takes_creds e.client e.call client ≡ false → creds_at (run (with_event h e)) client ≡ creds_at (run h) client
  creds-stay other =
      ap (λ (cs : List Credentials). creds_in cs client) (clients-run h e)
      ∙ either (λ (cs : List Credentials). creds_in cs client) granted (clients_after (run h).clients e.client e.call) (run h).clients (creds-after (run h).clients e.client e.call client other)

  pub process-stays : is_begun_by e.client e.call client ≡ false → process_at (run (with_event h e)) client ≡ process_at (run h) client
  process-stays other =
      ap (λ (ts : List Thread). (thread_in ts client).process) (threads-run h e)
      ∙ either (λ (ts : List Thread). (thread_in ts client).process) granted after (run h).threads (process-after (run h).next (run h).threads e.client e.call client other)

  pub pid-stays : takes_pid (run h) e.client e.call client ≡ false → pid_at (run (with_event h e)) client ≡ pid_at (run h) client
  pid-stays other =
      ap (λ (ts : List Thread). (thread_in ts client).pid) (threads-run h e)
      ∙ either (λ (ts : List Thread). (thread_in ts client).pid) granted after (run h).threads (pid-after (run h) e.client e.call client other)

  pub life-stays : is_begun_by e.client e.call client ≡ false → is_ended_by (run h) e.client e.call client ≡ false
      → has_exited (run (with_event h e)) client ≡ has_exited (run h) client
  life-stays other lasts =
      ap (λ (ts : List Thread). (thread_in ts client).has_ended) (threads-run h e)
      ∙ either (λ (ts : List Thread). (thread_in ts client).has_ended) granted after (run h).threads (ended-after (run h) (one-run h) e.client e.call client other lasts)
