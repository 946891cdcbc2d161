-- The exit of one thread of several ends no process: nothing else happens.
use Rattle.std.proofs.Common.{◌≡◌, ◌≢◌, ℕ, Bool, true, false, cond, List, [], ◌∷◌, ◌++◌, refl, ap, ◌∙◌, None}
use Rattle.std.specs.Prelude.{◌==◌, filter, flat_map, is_none}
use Rattle.std.specs.List.{AllByRecursion}
use Rattle.std.proofs.lemmas.Bool.{eq-eqb, eqb-false, false≢true}
use Rattle.std.proofs.lemmas.List.{append-nil, get_or-set_other}
use Rattle.ipc_call.specs.declared.calls.Call.{Call}
use Rattle.ipc_call.specs.declared.calls.Call.TheVariants.{Exit, MsgSnd, MsgRcv, SemOp, SemTimedOp}
use Rattle.ipc_call.specs.declared.calls.Kind.{Kind}
use Rattle.ipc_call.specs.declared.calls.Kind.TheVariants as kinds
use Rattle.ipc_call.specs.declared.replies.Answer.TheVariants.{Done}
use Rattle.ipc_call.specs.declared.replies.Completion.{Completion}
use Rattle.ipc_call.specs.declared.replies.Waiting.{Waiting}
use Rattle.ipc_model.specs.State.{State, Thread, caller, has_exited, is_running, is_waiting, no_thread, process_at, thread_at}
use Rattle.ipc_model.specs.Decision.{Decision, Granted}
use Rattle.ipc_model.specs.Decide.{can_wait, decide_call}
use Rattle.ipc_model.specs.Cancelled.{waits_on}
use Rattle.ipc_model.specs.Processes.{ended, process_ended}
use Rattle.ipc_model.specs.Step.{Event, Moved, at_time, begun, cancel, ended_by_rule, entered, expire, expired, is_ready, settled}
use Rattle.ipc_model.proofs.Calls.{only_parkable}
use Rattle.ipc_model.proofs.Stays.{IsSeenAlike, Stays}
use Rattle.ipc_model.proofs.Threads.{runs-by}
use Rattle.ipc_model.proofs.Touched.{stays_alike}
use Rattle.ipc_model.proofs.Turning.{living-waits}
use Rattle.ipc_history.specs.History.{History, run}
use Rattle.life_laws.specs.Lives.{LeadsTo, event, gone}
use Rattle.life_laws.proofs.Decided.{exit-decided}
use Rattle.life_laws.proofs.Steps.{run-with}
use Rattle.life_laws.proofs.Waiting.{Free, free-of}
use Rattle.life_laws.proofs.Waits.{all-filter, done, none-found, none-passes, quiet-begun, quiet-run, settled-none}

-- the object on which a call waits that may wait
place_of : (call : Call) → can_wait call ≡ true → (k : Kind) × (i : ℕ) × (waits_on k i call ≡ true)
place_of (MsgSnd id mtype text flags) can = (kinds.Queue, id, eq-eqb id id refl)
place_of (MsgRcv id size msgtyp flags) can = (kinds.Queue, id, eq-eqb id id refl)
place_of (SemOp id ops) can = (kinds.Sems, id, eq-eqb id id refl)
place_of (SemTimedOp id ops timeout) can = (kinds.Sems, id, eq-eqb id id refl)
place_of call can = absurd (false≢true can)

-- a thread ends, and no process
module _ (s : State) (client : ℕ) where
  abbrev left : State
  left = ended s client

  others-same : (c : ℕ) → c ≢ client → thread_at left c ≡ thread_at s c
  others-same c ne = get_or-set_other s.threads client c (gone (thread_at s client)) no_thread ne

  seen-alike : (k : Kind) (i : ℕ) → IsSeenAlike k i client s left
  seen-alike kinds.Queue i = refl
  seen-alike kinds.Sems i = (refl, λ c ne living num. refl)
  seen-alike kinds.Segment i = tt

  stays : (k : Kind) (i : ℕ) → Stays s client k i left
  stays k i = record {
    limits = refl;
    creds = λ c ne living. refl;
    process = λ c ne living. ap (λ (t : Thread). t.process) (others-same c ne);
    object = seen-alike k i;
  }

  -- the calls of others wait on
  still : (w : Waiting) → is_ready s w ≡ false → w.client ≢ client → is_ready left w ≡ false
  still w waits ne =
      let place = place_of w.call (only_parkable s w.client w.call waits) in
      let lives = living-waits s w.client w.call waits in
      stays_alike s left client w.client place.0 place.1 (stays place.0 place.1) ne (lives, ap (λ (t : Thread). t.has_ended) (others-same w.client ne) ∙ lives) w.call place.2
      ∙ waits

  still-all : (ws : List Waiting) → AllByRecursion (λ w. is_ready s w ≡ false) ws → Free client ws → AllByRecursion (λ w. is_ready left w ≡ false) ws
  still-all [] quiet free = tt
  still-all (w ∷ ws) quiet free = (still w quiet.0 (eqb-false w.client client free.0), still-all ws quiet.1 free.1)

-- the exit of a client cancels none
all-kept : (ws : List Waiting) → filter (λ w. true) ws ≡ ws
all-kept [] = refl
all-kept (w ∷ ws) = ap (λ (vs : List Waiting). w ∷ vs) (all-kept ws)

none-told : (ws : List Waiting) → flat_map (λ (w : Waiting). ended_by_rule w.client None) ws ≡ []
none-told [] = refl
none-told (w ∷ ws) = none-told ws

exit-cancels : (s : State) → cancel s Exit ≡ done s
exit-cancels s = λ i. record { state = record s { parked = all-kept s.parked i }; ended = none-told s.parked i }

module _ (h : History) (now client other : ℕ) (lives : has_exited (run h) client ≡ false) (free : is_waiting (run h) client ≡ false) (ne : other ≢ client) (live : has_exited (run h) other ≡ false)
    (same : process_at (run h) other ≡ process_at (run h) client) where
  abbrev at : State
  at = begun (run h) now

  abbrev e : Event
  e = event now client Exit

  runs-on : is_running (ended at client) (process_at at client) ≡ true
  runs-on =
      let kept = others-same at client other ne in
      runs-by (ended at client).threads other (process_at at client) (ap (λ (t : Thread). t.has_ended) kept ∙ live) (ap (λ (t : Thread). t.process) kept ∙ same)

  decided : decide_call at client Exit ≡ Granted Done (ended at client)
  decided = (exit-decided at client lives).is ∙ ap {B = Decision State} (λ (b : Bool). Granted Done (cond b (ended at client) (process_ended (ended at client) (caller at client)))) runs-on

  free-at : Free client at.parked
  free-at = all-filter (λ w. (w.client == client) ≡ false) (λ w. is_none (expired (at_time (run h) now) w)) (run h).parked (free-of client (run h).parked free)

  quiet : settled (ended at client) ≡ done (ended at client)
  quiet = settled-none (ended at client) (none-found (is_ready (ended at client)) at.parked
      (still-all at client at.parked (none-passes (is_ready at) at.parked (quiet-begun (run h) now (quiet-run h))) free-at))

  pub ends-alone : LeadsTo h e (ended at client)
  ends-alone = record {
    state =
        run-with h e ∙ ap (λ (d : Decision State). (entered at client Exit d).state) decided
        ∙ ap (λ (m : Moved). (settled m.state).state) (exit-cancels (ended at client)) ∙ ap (λ (m : Moved). m.state) quiet;
    told =
        ap (λ (d : Decision State). before ++ (entered at client Exit d).ended) decided
        ∙ ap (λ (m : Moved). before ++ (m.ended ++ (settled m.state).ended)) (exit-cancels (ended at client))
        ∙ ap (λ (m : Moved). before ++ m.ended) quiet
        ∙ append-nil before;
  }
    where
      before : List Completion
      before = (expire (at_time (run h) now)).ended
