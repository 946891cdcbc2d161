-- Of every legal history: a process that begins is fresh, as nothing is ready where it begins, and no client whose thread has
-- ended has a call that waits.
use Rattle.std.proofs.Common.{◌≡◌, ◌≢◌, ℕ, Bool, true, false, List, [], ◌∷◌, ◌++◌, refl, sym, ap, subst, ◌∙◌, Option, Some, None}
use Rattle.std.specs.Prelude.{◌==◌, is_none, Ok, Err}
use Rattle.std.specs.List.{AllByRecursion}
use Rattle.std.proofs.lemmas.Bool.{eq-eqb, false≢true, true≢false}
use Rattle.std.proofs.lemmas.Option.{none-some, same_Some}
use Rattle.ipc_call.specs.declared.calls.Call.{Call}
use Rattle.ipc_call.specs.declared.calls.Call.TheVariants.{Begin, Fork}
use Rattle.ipc_call.specs.declared.calls.Identity.{Identity}
use Rattle.ipc_call.specs.declared.calls.Kind.{Kind}
use Rattle.ipc_call.specs.declared.replies.Answer.{Answer}
use Rattle.ipc_creds.specs.Credentials.{Credentials}
use Rattle.ipc_model.specs.State.{Shared, State, Thread, caller, creds_at, has_exited, is_waiting, opening}
use Rattle.ipc_model.specs.Decision.{Decision, Granted, Outcome, Refused, Waits, outcome_of}
use Rattle.ipc_model.specs.Decide.{decide}
use Rattle.ipc_model.specs.Fresh.{IsFresh, begun_by}
use Rattle.ipc_model.specs.Processes.{credentials_of, free_client}
use Rattle.ipc_model.specs.Segments.{after_fork}
use Rattle.ipc_model.specs.Step.{Event, Moved, at_time, begun, cancel, entered, expired, is_ready, moved_by, step}
use Rattle.ipc_model.specs.Cancelled.{cancelled}
use Rattle.ipc_model.specs.Tidy.{IsTidy}
use Rattle.ipc_model.specs.Touched.{touches}
use Rattle.ipc_model.proofs.Beginning.{Began, Forked, begin-fresh, begin-granted, fork-fresh, fork-granted, quiet-begun, with_new}
use Rattle.ipc_model.proofs.Calls.{clock_alike, parked_alike}
use Rattle.ipc_model.proofs.Plans.{IfGranted}
use Rattle.ipc_model.proofs.Turning.{living-waits}
use Rattle.ipc_history.specs.History.{AreLegalFrom, History, IsLegal, IsLegalAt, next_step, run, run_from, with_event}
use Rattle.ipc_history.specs.Waits.{AreNotReady, AreOfThreads}
use Rattle.ipc_history.proofs.Runs.{tidy-run}
use Rattle.ipc_laws.proofs.Lists.{all-filter, all-map}
use Rattle.ipc_laws.proofs.Turns.{free-of, not_ready-of, quiet-of, quiet-settled, settled-none}

quiet-from : (s : State) (es : List Event) → AreNotReady s → AreNotReady (run_from s es)
quiet-from s [] quiet = quiet
quiet-from s (e ∷ es) quiet = quiet-from (step s e).state es (not_ready-of (step s e).state (quiet-settled (moved_by (begun s e.now) e.client e.call).state))

pub quiet-run : (h : History) → AreNotReady (run h)
quiet-run h = quiet-from (opening h.limits h.clients) h.events tt

-- a call that waits is of a client whose thread hasn't ended
pub threads-run : (h : History) → AreOfThreads (run h)
threads-run h = all-map (λ w. is_ready (run h) w ≡ false) (λ w. has_exited (run h) w.client ≡ false) (λ w waits. living-waits (run h) w.client w.call waits) (run h).parked (quiet-run h)

legal-last : (s : State) (es : List Event) (e : Event) → AreLegalFrom s (es ++ e ∷ []) → IsLegalAt (run_from s es) e
legal-last s [] e legal = legal.0
legal-last s (first ∷ es) e legal = legal-last (step s first).state es e legal.1

abbrev is_granted : Option Outcome → Bool
is_granted (Some (Ok answer)) = true
is_granted (Some (Err rule)) = false
is_granted None = false

-- where an event begins none is ready, and its client has none that waits
module _ (s : State) (now client : ℕ) where
  quiet-at : AreNotReady s → AreNotReady (begun s now)
  quiet-at quiet = all-filter (λ w. is_ready (begun s now) w ≡ false) (λ w. is_none (expired (at_time s now) w)) s.parked
      (all-map (λ w. is_ready s w ≡ false) (λ w. is_ready (begun s now) w ≡ false)
      (λ w waits. parked_alike (at_time s now) (begun s now).parked w.client w.call ∙ clock_alike s now w.client w.call ∙ waits) s.parked quiet)

  others-at : is_waiting s client ≡ false → AllByRecursion (λ w. w.client ≢ client) (begun s now).parked
  others-at free = all-filter (λ w. w.client ≢ client) (λ w. is_none (expired (at_time s now) w)) s.parked
      (all-map (λ w. (w.client == client) ≡ false) (λ w. w.client ≢ client) (λ w other same. true≢false (sym (eq-eqb w.client client same) ∙ other)) s.parked (free-of client s.parked free))

-- a granted call by which a process begins ends no call that waits
module _ (s : State) (client child pid : ℕ) (call : Call) (c : Credentials) (shared : Shared) (answer : Answer) (t : Thread) (free : free_client s child ≡ Some t)
    (is : decide s client call ≡ Granted answer (with_new s child pid c shared)) (untouched : (kind : Kind) (id : ℕ) → touches s client call kind id ≡ false)
    (quiet : AreNotReady s) (others : AllByRecursion (λ w. w.client ≢ client) s.parked) where
  abbrev new : State
  new = with_new s child pid c shared

  abbrev last : State
  last = (cancel new call).state

  quiet-last : AreNotReady last
  quiet-last = all-filter (λ w. is_ready last w ≡ false) (λ w. is_none (cancelled new call w)) s.parked
      (all-map (λ w. is_ready new w ≡ false) (λ w. is_ready last w ≡ false) (λ w waits. parked_alike new last.parked w.client w.call ∙ waits) s.parked
      (quiet-begun s client child pid call c shared answer t free is untouched s.parked quiet others))

  settled-last : (entered s client call (Granted answer new)).state ≡ last
  settled-last = ap (λ (m : Moved). m.state) (settled-none last (quiet-of last quiet-last))

module _ (s : State) (tidy : IsTidy s) (quiet : AreNotReady s) (now client : ℕ) (free : is_waiting s client ≡ false) where
  abbrev then_at : State
  then_at = begun s now

  module _ (pid : ℕ) (creds : Identity) where
    by-begin : (d : Decision State) → decide then_at client (Begin pid creds) ≡ d → is_granted (outcome_of d) ≡ true
        → IsFresh s (entered then_at client (Begin pid creds) d).state client (Begin pid creds) client pid
    by-begin (Refused rule) is own = absurd (false≢true own)
    by-begin Waits is own = absurd (false≢true own)
    by-begin (Granted answer new) is own =
        subst (λ x. IsFresh s (entered then_at client (Begin pid creds) (Granted answer x)).state client (Begin pid creds) client pid) (sym began.2)
        (subst (λ x. IsFresh s x client (Begin pid creds) client pid)
        (sym (settled-last then_at client client pid (Begin pid creds) (credentials_of creds) s.shared answer began.0 began.1 (is ∙ ap (λ x. Granted answer x) began.2) (λ kind id. refl) (quiet-at s now client quiet) (others-at s now client free)))
        (record { semadj = fresh.semadj; attached = fresh.attached; thread = fresh.thread; alone = fresh.alone }))
      where
        began : Began then_at client pid (credentials_of creds) s.shared new
        began = subst (λ d. IfGranted (λ answer x. Began then_at client pid (credentials_of creds) s.shared x) d) is (begin-granted then_at client pid creds).granted

        fresh : IsFresh then_at (with_new then_at client pid (credentials_of creds) s.shared) client (Begin pid creds) client pid
        fresh = begin-fresh then_at tidy client began.0 began.1 pid (credentials_of creds) client creds

  module _ (child pid : ℕ) where
    abbrev copies : Shared
    copies = after_fork s.shared (caller then_at client) s.next

    by-fork : (d : Decision State) → decide then_at client (Fork child pid) ≡ d → is_granted (outcome_of d) ≡ true
        → IsFresh s (entered then_at client (Fork child pid) d).state client (Fork child pid) child pid
    by-fork (Refused rule) is own = absurd (false≢true own)
    by-fork Waits is own = absurd (false≢true own)
    by-fork (Granted answer new) is own =
        subst (λ x. IsFresh s (entered then_at client (Fork child pid) (Granted answer x)).state client (Fork child pid) child pid) (sym began.2)
        (subst (λ x. IsFresh s x client (Fork child pid) child pid)
        (sym (settled-last then_at client child pid (Fork child pid) (creds_at s client) copies answer began.0 began.1 (is ∙ ap (λ x. Granted answer x) began.2) (λ kind id. refl) (quiet-at s now client quiet) (others-at s now client free)))
        (record { semadj = fresh.semadj; attached = fresh.attached; thread = fresh.thread; alone = fresh.alone }))
      where
        forked : Forked then_at client child pid new
        forked = subst (λ d. IfGranted (λ answer x. Forked then_at client child pid x) d) is (fork-granted then_at client child pid).granted

        began : Began then_at child pid (creds_at s client) copies new
        began = forked.1

        fresh : IsFresh then_at (with_new then_at child pid (creds_at s client) copies) client (Fork child pid) child pid
        fresh = fork-fresh then_at tidy child began.0 began.1 pid (creds_at s client) client forked.0

fresh-by : (s : State) → IsTidy s → AreNotReady s → (client now : ℕ) (call : Call) → is_waiting s client ≡ false → (child pid : ℕ)
    → begun_by client call ≡ Some (child, pid)
    → is_granted (step s (record { client = client; now = now; call = call })).own ≡ true
    → IsFresh s (step s (record { client = client; now = now; call = call })).state client call child pid
fresh-by s tidy quiet client now (Begin shown creds) free child pid is own =
    let same = same_Some {A = ℕ × ℕ} (client, shown) (child, pid) is in
    subst (λ (at : ℕ × ℕ). IsFresh s (step s (record { client = client; now = now; call = Begin shown creds })).state client (Begin shown creds) at.0 at.1) same
    (by-begin s tidy quiet now client free shown creds (decide (begun s now) client (Begin shown creds)) refl own)
fresh-by s tidy quiet client now (Fork first shown) free child pid is own =
    let same = same_Some {A = ℕ × ℕ} (first, shown) (child, pid) is in
    subst (λ (at : ℕ × ℕ). IsFresh s (step s (record { client = client; now = now; call = Fork first shown })).state client (Fork first shown) at.0 at.1) same
    (by-fork s tidy quiet now client free first shown (decide (begun s now) client (Fork first shown)) refl own)
fresh-by s tidy quiet client now call free child pid is own = absurd (none-some (child, pid) is)

pub fresh-run : (h : History) (e : Event) (child pid : ℕ) (answer : Answer) → IsLegal (with_event h e)
    → begun_by e.client e.call ≡ Some (child, pid) → (next_step h e).own ≡ Some (Ok answer)
    → IsFresh (run h) (next_step h e).state e.client e.call child pid
fresh-run h e child pid answer legal begins own =
    let at = legal-last (opening h.limits h.clients) h.events e legal in
    fresh-by (run h) (tidy-run h) (quiet-run h) e.client e.now e.call at.free child pid begins (ap is_granted own)
