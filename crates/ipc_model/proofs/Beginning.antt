-- A process that begins is fresh, and what its beginning leaves quiet stays so.
use Rattle.std.proofs.Common.{◌≡◌, ◌≢◌, ℕ, ◌+◌, ℤ, Bool, true, false, List, [], ◌∷◌, length, refl, sym, ap, arith, ◌∙◌, ⊎_elim, Option, Some, None}
use Rattle.std.specs.Prelude.{nat_le, nat_lt, not, option_map, unwrap_or}
use Rattle.std.specs.FinMap as finite
use Rattle.std.specs.List.{AllByRecursion}
use Rattle.std.proofs.lemmas.Bool.{cases_eq, false≢true, true≢false}
use Rattle.std.proofs.lemmas.List.{get_or-set_other}
use Rattle.ipc_call.specs.declared.calls.Call.{Call}
use Rattle.ipc_call.specs.declared.calls.Call.TheVariants.{Begin, Fork}
use Rattle.ipc_call.specs.declared.calls.Identity.{Identity}
use Rattle.ipc_call.specs.declared.calls.Kind.{Kind}
use Rattle.ipc_call.specs.declared.replies.Answer.{Answer}
use Rattle.ipc_call.specs.declared.replies.Answer.TheVariants.{Done}
use Rattle.ipc_call.specs.declared.replies.Waiting.{Waiting}
use Rattle.ipc_call.specs.declared.rules.Rule.TheVariants.{BadPid, ClientInUse, Ended, NoClient, PidInUse, TooManyGroups}
use Rattle.ipc_creds.specs.Credentials.{Credentials, groups_max}
use Rattle.sem_undo.proofs.Entries.{key}
use Rattle.shm_seg.specs.declared.attachments.Attachment.{Attachment}
use Rattle.shm_seg.specs.Attachments.{attachment_at}
use Rattle.ipc_model.specs.State.{Shared, State, Thread, caller, creds_at, has_exited, no_thread, process_at, thread_at}
use Rattle.ipc_model.specs.Decision.{Granted}
use Rattle.ipc_model.specs.Plan.{Passes}
use Rattle.ipc_model.specs.Segments.{after_fork}
use Rattle.ipc_model.specs.Processes.{credentials_of, free_client, is_process, with_client}
use Rattle.ipc_model.specs.Decide.{decide, may_call, part_plan, plan, waits_at}
use Rattle.ipc_model.specs.Fresh.{IsFresh}
use Rattle.ipc_model.specs.Step.{is_ready}
use Rattle.ipc_model.specs.Tidy.{IsTidy, Runs}
use Rattle.ipc_model.specs.Touched.{touches, touches_place}
use Rattle.ipc_model.proofs.Filing.{filed-on, fork-alike}
use Rattle.ipc_model.proofs.Granting.{Grants, grants-check, grants-found, grants-grant, grants-passes}
use Rattle.ipc_model.proofs.Staying.{free-ended}
use Rattle.ipc_model.proofs.Threads.{all-at, begun-here, runs-begun, runs-below, runs-new, runs-of, with-begun}
use Rattle.ipc_model.proofs.Tidying.{free-there}
use Rattle.ipc_model.proofs.Turning.{event_quiet, living-waits}

-- nothing is filed under the next process
module _ (s : State) (tidy : IsTidy s) where
  never : (process : ℕ) → Runs s.threads process → process ≢ s.next
  never process runs same = let lt = runs-below s.threads s.next process tidy.numbered runs in omega (arith, lt, same)

  pub next-semadj : (set num : ℕ) → finite.get s.sems.undo (key s.next set num) ≡ None
  next-semadj set num = by (finite.get s.sems.undo (key s.next set num)) refl
    where
      by : (o : Option ℤ) → finite.get s.sems.undo (key s.next set num) ≡ o → finite.get s.sems.undo (key s.next set num) ≡ None
      by None is = is
      by (Some adj) is = absurd (never s.next (tidy.owed (key s.next set num) adj is) refl)

  pub next-attached : (number : ℕ) → attachment_at s.shared.attached s.next number ≡ None
  next-attached number = by (attachment_at s.shared.attached s.next number) refl
    where
      by : (o : Option Attachment) → attachment_at s.shared.attached s.next number ≡ o → attachment_at s.shared.attached s.next number ≡ None
      by None is = is
      by (Some a) is = absurd (never s.next (tidy.filed s.next number a is).lives refl)

-- what is granted: the client, which was free, is a thread of the process of the next serial number
module _ (s : State) (child pid : ℕ) (c : Credentials) (shared : Shared) where
  abbrev pub with_new : State
  with_new = record (with_client s child s.next pid c) { next = s.next + 1; shared = shared }

  abbrev pub Began : State → Type 0
  Began new = (t : Thread) × (free_client s child ≡ Some t) × (new ≡ with_new)

pub begin-granted : (s : State) (client pid : ℕ) (creds : Identity)
    → Grants (creds_at s client) (Began s client pid (credentials_of creds) s.shared) (plan s client (Begin pid creds))
unfolding part_plan
begin-granted s client pid creds =
    let c = creds_at s client in
    let P = Began s client pid (credentials_of creds) s.shared in
    grants-check P c (Passes (may_call s client (Begin pid creds)) Ended tt) (
    grants-found P c (free_client s client) ClientInUse tt (λ t is.
    grants-check P c (Passes (nat_lt 0 pid) BadPid tt) (
    grants-check P c (Passes (nat_le (length creds.groups) groups_max) TooManyGroups tt) (
    grants-check P c (Passes (not (is_process s pid)) PidInUse tt) (
    grants-grant P c Done _ (t, is, refl))))))

-- the caller of a fork lives
abbrev pub Forked : State → ℕ → ℕ → ℕ → State → Type 0
Forked s client child pid new = (has_exited s client ≡ false) × Began s child pid (creds_at s client) (after_fork s.shared (caller s client) s.next) new

pub fork-granted : (s : State) (client child pid : ℕ) → Grants (creds_at s client) (Forked s client child pid) (plan s client (Fork child pid))
unfolding part_plan
fork-granted s client child pid =
    let c = creds_at s client in
    let P = Forked s client child pid in
    grants-passes P c (not (has_exited s client)) Ended tt (λ may.
    grants-check P c (Passes (nat_lt 0 pid) BadPid tt) (
    grants-check P c (Passes (nat_lt child (length s.threads)) NoClient tt) (
    grants-found P c (free_client s child) ClientInUse tt (λ t is.
    grants-check P c (Passes (not (is_process s pid)) PidInUse tt) (
    grants-grant P c Done _ (turned (has_exited s client) may, (t, is, refl)))))))
  where
    turned : (b : Bool) → not b ≡ true → b ≡ false
    turned true is = absurd (false≢true is)
    turned false is = refl

module _ (s : State) (tidy : IsTidy s) (child : ℕ) (t : Thread) (is : free_client s child ≡ Some t) (pid : ℕ) (c : Credentials) where
  abbrev later : List Thread
  later = with-begun s.threads child (free-there s child t is) (free-ended s child t is) s.next pid

  only : (shared : Shared) (client : ℕ) → has_exited (with_new s child pid c shared) client ≡ false
      → process_at (with_new s child pid c shared) client ≡ s.next → client ≡ child
  only shared client lives same = ⊎_elim
      (λ (e : client ≡ child). e)
      (λ (ne : client ≡ child → ⊥).
      let kept : thread_at (with_new s child pid c shared) client ≡ thread_at s client = get_or-set_other s.threads child client (record { process = s.next; pid = pid; has_ended = false }) no_thread ne in
      let lt = all-at s.next s.threads client tidy.numbered.below (sym (ap (λ (x : Thread). x.has_ended) kept) ∙ lives) in
      absurd (let e = sym (ap (λ (x : Thread). x.process) kept) ∙ same in omega (arith, lt, e)))
      (cases_eq client child)

  -- begin, and fork, of a caller that lives
  pub begin-fresh : (client : ℕ) (creds : Identity) → IsFresh s (with_new s child pid c s.shared) client (Begin pid creds) child pid
  begin-fresh client creds = record {
    semadj = next-semadj s tidy;
    attached = next-attached s tidy;
    thread = begun-here s.threads child (free-there s child t is) (free-ended s child t is) s.next pid;
    alone = only s.shared;
  }

  pub fork-fresh : (client : ℕ) → has_exited s client ≡ false
      → IsFresh s (with_new s child pid c (after_fork s.shared (caller s client) s.next)) client (Fork child pid) child pid
  fork-fresh client lives = record {
    semadj = next-semadj s tidy;
    attached = fork-alike later (caller s client) s.next (runs-new s.threads child (free-there s child t is) (free-ended s child t is) s.next pid)
        (λ e. never s tidy (process_at s client) (runs-of s.threads client lives) (sym e)) s.shared
        (filed-on s.threads later s.shared (runs-begun s.threads child (free-there s child t is) (free-ended s child t is) s.next pid) tidy.filed) (next-attached s tidy);
    thread = begun-here s.threads child (free-there s child t is) (free-ended s child t is) s.next pid;
    alone = only (after_fork s.shared (caller s client) s.next);
  }

-- where no waiting call was ready, and the caller has none that waits, none is ready
module _ (s : State) (client child pid : ℕ) (call : Call) (c : Credentials) (shared : Shared) (answer : Answer) (t : Thread) (free : free_client s child ≡ Some t)
    (is : decide s client call ≡ Granted answer (with_new s child pid c shared)) (untouched : (kind : Kind) (id : ℕ) → touches s client call kind id ≡ false) where
  living : (ws : List Waiting) → AllByRecursion (λ w. is_ready s w ≡ false) ws → AllByRecursion (λ w. w.client ≢ client) ws
      → AllByRecursion (λ w. (w.client ≢ client) × (has_exited (with_new s child pid c shared) w.client ≡ false)) ws
  living [] waits others = tt
  living (w ∷ ws) waits others =
      let was = living-waits s w.client w.call waits.0 in
      let ne : w.client ≢ child = λ e. true≢false (sym (free-ended s child t free) ∙ sym (ap (has_exited s) e) ∙ was) in
      let same = get_or-set_other s.threads child w.client (record { process = s.next; pid = pid; has_ended = false }) no_thread ne in
      ((others.0, ap (λ (x : Thread). x.has_ended) same ∙ was), living ws waits.1 others.1)

  off : (o : Option (Kind × ℕ)) → unwrap_or (option_map (λ at. touches s client call at.0 at.1) o) false ≡ false
  off None = refl
  off (Some at) = untouched at.0 at.1

  still : (ws : List Waiting) → AllByRecursion (λ w. touches_place s client call w ≡ false → is_ready (with_new s child pid c shared) w ≡ false) ws
      → AllByRecursion (λ w. is_ready (with_new s child pid c shared) w ≡ false) ws
  still [] quiet = tt
  still (w ∷ ws) quiet = (quiet.0 (off (waits_at w.call)), still ws quiet.1)

  pub quiet-begun : (ws : List Waiting) → AllByRecursion (λ w. is_ready s w ≡ false) ws → AllByRecursion (λ w. w.client ≢ client) ws
      → AllByRecursion (λ w. is_ready (with_new s child pid c shared) w ≡ false) ws
  quiet-begun ws waits others = still ws (event_quiet s (with_new s child pid c shared) client call answer is ws waits (living ws waits others))
