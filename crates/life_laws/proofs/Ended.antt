-- Processes that end, and calls whose wait ends.
use Rattle.std.proofs.Common.{◌≡◌, ◌≢◌, ◌<◌, ℕ, ℤ, Bool, true, false, cond, eqb, set, List, [], ◌∷◌, length, refl, sym, ap, ◌∙◌, arith, Option, Some, None}
use Rattle.std.specs.Prelude.{◌==◌, ◌&&◌, Ok, map, not}
use Rattle.std.specs.List.{AllByRecursion, find, list_any}
use Rattle.std.specs.FinMap as finite
use Rattle.std.proofs.lemmas.Bool.{eqb-true, or_from, true≢false}
use Rattle.std.proofs.lemmas.List.{get_or-set_other, get_or-set_same}
use Rattle.ipc_call.specs.declared.calls.Call.TheVariants.{Exec, Kill}
use Rattle.ipc_call.specs.declared.replies.Answer.TheVariants.{Done}
use Rattle.ipc_call.specs.declared.replies.Waiting.{Waiting}
use Rattle.ipc_creds.specs.Credentials.{Credentials, cap_sys_admin, executed, has_capability}
use Rattle.sem_undo.proofs.Entries.{key}
use Rattle.shm_seg.specs.Attachments.{attachment_at}
use Rattle.shm_seg.specs.declared.attachments.Attachment.{Attachment}
use Rattle.ipc_model.specs.State.{Caller, Shared, State, Thread, caller, creds_at, has_exited, has_pid, is_running, is_waiting, no_thread, nobody, process_at, runs, thread_at}
use Rattle.ipc_model.specs.Decision.{Decision, Granted, outcome_of}
use Rattle.ipc_model.specs.Decide.{decide_call}
use Rattle.ipc_model.specs.Processes.{after_exec, ends}
use Rattle.ipc_model.specs.Segments.{after_detaches}
use Rattle.ipc_model.specs.Step.{Event, begun, is_ready, moved_as}
use Rattle.ipc_model.specs.Tidy.{AreFiled, IsTidy, Runs, thread_in}
use Rattle.ipc_model.proofs.Filing.{filed-ended}
use Rattle.ipc_model.proofs.Threads.{runs-apart}
use Rattle.ipc_model.proofs.Turning.{living-waits}
use Rattle.ipc_history.specs.History.{History, next_step, run, with_event}
use Rattle.ipc_history.specs.Waits.{AreOfThreads}
use Rattle.ipc_history.proofs.Runs.{tidy-run}
use Rattle.life_laws.specs.Lives.{Executes, IsAsItWas, IsFree, IsGone, IsKilled, Kills, creds_in, event, gone, without_process}
use Rattle.life_laws.proofs.Changed.{ends-at, ends-not, ends-so, exec-here, found-at, found-by, kill-not, pid-from, pid-parts, runs-from, runs-parts}
use Rattle.life_laws.proofs.Decided.{exec-decided, kill-decided}
use Rattle.life_laws.proofs.Counted.{many-clients}
use Rattle.life_laws.proofs.Pids.{one-run}
use Rattle.life_laws.proofs.Quiet.{lets-none}
use Rattle.life_laws.proofs.Steps.{clients-granted, run-with, threads-granted}
use Rattle.life_laws.proofs.Waits.{all-map, can-run, none-passes, quiet-run, same-step}

-- THE END OF PROCESSES

-- a call that waits is of a client whose thread hasn't ended
pub threads-wait : (h : History) → AreOfThreads (run h)
threads-wait h = all-map (λ w. is_ready (run h) w ≡ false) (λ w. has_exited (run h) w.client ≡ false) (λ w waits. living-waits (run h) w.client w.call waits) (run h).parked
    (none-passes (is_ready (run h)) (run h).parked (quiet-run h))

waits-not : (s : State) (client : ℕ) → has_exited s client ≡ true → (ws : List Waiting) → AllByRecursion (λ w. has_exited s w.client ≡ false) ws → list_any (λ w. w.client == client) ws ≡ false
waits-not s client over [] all = refl
waits-not s client over (w ∷ ws) all = or_from (w.client == client) (list_any (λ v. v.client == client) ws) (by (w.client == client) refl) (waits-not s client over ws all.1)
  where
    by : (b : Bool) → (w.client == client) ≡ b → b ≡ false
    by false isnt = refl
    by true is = absurd (true≢false (sym over ∙ ap (has_exited s) (sym (eqb-true w.client client is)) ∙ all.0))

-- so of an ended client none waits
pub ended-waits : (h : History) (client : ℕ) → has_exited (run h) client ≡ true → is_waiting (run h) client ≡ false
ended-waits h client over = waits-not (run h) client over (run h).parked (threads-wait h)

-- nothing is filed under a process that has no thread
module _ (s : State) (tidy : IsTidy s) (process : ℕ) (over : is_running s process ≡ false) where
  not-running : Runs s.threads process → ⊥
  not-running is = true≢false (sym is ∙ over)

  gone-attached : (number : ℕ) → attachment_at s.shared.attached process number ≡ None
  gone-attached number = by (attachment_at s.shared.attached process number) refl
    where
      by : (o : Option Attachment) → attachment_at s.shared.attached process number ≡ o → o ≡ None
      by None is = refl
      by (Some a) is = absurd (not-running (tidy.filed process number a is).lives)

  gone-semadj : (set num : ℕ) → finite.get s.sems.undo (key process set num) ≡ None
  gone-semadj set num = by (finite.get s.sems.undo (key process set num)) refl
    where
      by : (o : Option ℤ) → finite.get s.sems.undo (key process set num) ≡ o → o ≡ None
      by None is = refl
      by (Some adj) is = absurd (not-running (tidy.owed (key process set num) adj is))

  gone-of : IsGone s process
  gone-of = record { ended = over; attached = gone-attached; semadj = gone-semadj }

pub gone-run : (h : History) (process : ℕ) → is_running (run h) process ≡ false → IsGone (run h) process
gone-run h process over = gone-of (run h) (tidy-run h) process over

-- all threads of a process have ended
none-left : (q : ℕ) (ts : List Thread) → list_any (runs q) (map (ends q) ts) ≡ false
none-left q [] = refl
none-left q (t ∷ ts) = or_from (runs q (ends q t)) (list_any (runs q) (map (ends q) ts)) (by (eqb t.process q) refl) (none-left q ts)
  where
    by : (b : Bool) → eqb t.process q ≡ b → runs q (cond b (gone t) t) ≡ false
    by true is = ap (λ (x : Bool). x && false) is
    by false isnt = ap (λ (x : Bool). x && not t.has_ended) isnt

-- what exec and the end of a process leave of attachments: none is of a process that has no thread
detached-all : (ts : List Thread) (shared : Shared) → AreFiled ts shared → (who : Caller) (number : ℕ) → attachment_at (after_detaches shared who).attached who.process number ≡ None
detached-all ts shared filed who number = by (attachment_at (after_detaches shared who).attached who.process number) refl
  where
    ended-all : AreFiled (map (ends who.process) ts) (after_detaches shared who)
    ended-all = filed-ended ts (map (ends who.process) ts) who shared (runs-apart ts who.process) filed

    by : (o : Option Attachment) → attachment_at (after_detaches shared who).attached who.process number ≡ o → o ≡ None
    by None is = refl
    by (Some a) is = absurd (true≢false (sym (ended-all who.process number a is).lives ∙ none-left who.process ts))

module _ (h : History) (now client : ℕ) (lives : has_exited (run h) client ≡ false) (admin : has_capability (creds_at (run h) client) cap_sys_admin ≡ true) where
  module _ (pid : ℕ) (t : Thread) (first : find (has_pid pid) (run h).threads ≡ Some t) where
    abbrev e : Event
    e = event now client (Kill pid)

    abbrev before : State
    before = run h

    abbrev new : State
    new = run (with_event h e)

    own : (next_step h e).own ≡ Some (Ok Done)
    own = ap (λ (d : Decision State). outcome_of d) (kill-decided (begun (run h) now) client lives admin pid t first).is

    threads : new.threads ≡ without_process (find (has_pid pid) before.threads) before.threads
    threads = threads-granted h e Done own

    creds : (other : ℕ) → creds_at new other ≡ creds_at before other
    creds other = ap (λ (cs : List Credentials). creds_in cs other) (clients-granted h e Done own)

    ended-threads : new.threads ≡ map (ends t.process) before.threads
    ended-threads = threads ∙ ap (λ (o : Option Thread). without_process o before.threads) first

    killed : (other : ℕ) → has_pid pid (thread_at before other) ≡ true → IsKilled before new other
    killed other is =
        let at = found-at pid before.threads t first in
        let its = pid-parts pid t at.2 in
        let parts = pid-parts pid (thread_at before other) is in
        let same : process_at before other ≡ t.process =
        (tidy-run h).numbered.once other at.0 parts.1 (ap (λ (x : Thread). x.has_ended) at.1 ∙ its.1) (parts.0 ∙ sym its.0 ∙ sym (ap (λ (x : Thread). x.pid) at.1))
        ∙ ap (λ (x : Thread). x.process) at.1 in
        let here : thread_at new other ≡ gone (thread_at before other) =
        ap (λ (ts : List Thread). thread_in ts other) ended-threads ∙ ends-at t.process before.threads other ∙ ends-so t.process (thread_at before other) same in
        record {
          ended = record { thread = here; creds = creds other; waits = ended-waits (with_event h e) other (ap (λ (x : Thread). x.has_ended) here) };
          process = gone-run (with_event h e) (process_at before other)
              (ap (λ (q : ℕ). list_any (runs q) new.threads) same ∙ ap (λ (ts : List Thread). list_any (runs t.process) ts) ended-threads ∙ none-left t.process before.threads);
        }

    spared : (other : ℕ) → has_pid pid (thread_at before other) ≡ false → IsAsItWas before new other
    spared other off = record {
      thread = ap (λ (ts : List Thread). thread_in ts other) threads ∙ kill-not pid before.threads (one-run h) other off;
      creds = creds other;
    }

    none-has : IsFree new pid
    none-has other live is = by (has_pid pid (thread_at before other)) refl
      where
        by : (b : Bool) → has_pid pid (thread_at before other) ≡ b → ⊥
        by true on = true≢false (sym (ap (λ (x : Thread). x.has_ended) (killed other on).ended.thread) ∙ live)
        by false off =
            let same = (spared other off).thread in
            true≢false (sym (pid-from pid (thread_at before other) (sym (ap (λ (x : Thread). x.pid) same) ∙ is) (sym (ap (λ (x : Thread). x.has_ended) same) ∙ live)) ∙ off)

    kills : Kills h e pid
    kills = record { granted = own; killed = killed; others = spared; free = none-has }

  pub kill-run : (pid target : ℕ) → has_pid pid (thread_at (run h) target) ≡ true → Kills h (event now client (Kill pid)) pid
  kill-run pid target is = let there = found-by pid (run h).threads target is in kills pid there.0 there.1

-- ANOTHER PROGRAM

module _ (h : History) (now client : ℕ) (lives : has_exited (run h) client ≡ false) (known : client < length h.clients) (free : is_waiting (run h) client ≡ false) where
  abbrev executed-event : Event
  executed-event = event now client Exec

  abbrev after : State
  after = run (with_event h executed-event)

  abbrev home : ℕ
  home = process_at (run h) client

  exec-is : decide_call (begun (run h) now) client Exec ≡ Granted Done (after_exec (begun (run h) now) (caller (begun (run h) now) client))
  exec-is = (exec-decided (begun (run h) now) client lives).is

  exec-own : (next_step h executed-event).own ≡ Some (Ok Done)
  exec-own = ap (λ (d : Decision State). outcome_of d) exec-is

  exec-threads : after.threads ≡ set (map (ends home) (run h).threads) client (thread_at (run h) client)
  exec-threads = threads-granted h executed-event Done exec-own

  exec-clients : after.clients ≡ set (run h).clients client (executed (creds_at (run h) client))
  exec-clients = clients-granted h executed-event Done exec-own

  thread-of-other : (other : ℕ) → other ≢ client → thread_at after other ≡ ends home (thread_at (run h) other)
  thread-of-other other ne =
      ap (λ (ts : List Thread). thread_in ts other) exec-threads
      ∙ get_or-set_other (map (ends home) (run h).threads) client other (thread_at (run h) client) no_thread ne
      ∙ ends-at home (run h).threads other

  creds-of-other : (other : ℕ) → other ≢ client → creds_at after other ≡ creds_at (run h) other
  creds-of-other other ne = ap (λ (cs : List Credentials). creds_in cs other) exec-clients ∙ get_or-set_other (run h).clients client other (executed (creds_at (run h) client)) nobody ne

  -- attachments: no call that waits changes any
  exec-attached : (number : ℕ) → attachment_at after.shared.attached home number ≡ None
  exec-attached number =
      ap (λ (t : State). attachment_at t.shared.attached home number) (run-with h executed-event)
      ∙ ap (λ (x : Shared). attachment_at x.attached home number) ((same-step (run h) executed-event (can-run h)).shared
      ∙ ap (λ (d : Decision State). (moved_as (begun (run h) now) client Exec d).state.shared) exec-is)
      ∙ detached-all (run h).threads (run h).shared (tidy-run h).filed (caller (begun (run h) now) client) number

  pub exec-run : Executes h executed-event client
  exec-run = record {
    granted = exec-own;
    thread = ap (λ (ts : List Thread). thread_in ts client) exec-threads ∙ exec-here (run h).threads (ends home) client;
    creds =
        let many = many-clients h in
        let there : client < length (run h).clients = omega (arith, known, many) in
        ap (λ (cs : List Credentials). creds_in cs client) exec-clients ∙ get_or-set_same (run h).clients client (executed (creds_at (run h) client)) nobody there;
    ended = λ other ne on.
        let here = thread-of-other other ne ∙ ends-so home (thread_at (run h) other) (runs-parts home (thread_at (run h) other) on).0 in
        record { thread = here; creds = creds-of-other other ne; waits = ended-waits (with_event h executed-event) other (ap (λ (x : Thread). x.has_ended) here) };
    others = λ other off.
        let ne : other ≢ client = λ e. true≢false (sym (runs-from home (thread_at (run h) other) (ap (λ (n : ℕ). process_at (run h) n) e) (ap (λ (n : ℕ). has_exited (run h) n) e ∙ lives)) ∙ off) in
        record { thread = thread-of-other other ne ∙ ends-not home (thread_at (run h) other) off; creds = creds-of-other other ne };
    attached = exec-attached;
    sems =
        ap (λ (t : State). t.sems) (lets-none h executed-event free (λ kind id. refl)).state
        ∙ ap (λ (d : Decision State). (moved_as (begun (run h) now) client Exec d).state.sems) exec-is;
  }
