-- The waiting calls whose deadline is reached, and a call that doesn't look at those that wait.
use Rattle.std.proofs.Common.{◌≡◌, ℕ, ◌+◌, ◌≤◌, Bool, true, false, List, [], ◌∷◌, ◌++◌, cond, length, append_assoc, arith, length-append, refl, sym, ap, subst, ◌∙◌, Option, Some, None, Err}
use Rattle.std.specs.Prelude.{◌==◌, nat_lt, is_none, is_some, option_map, IfSome}
use Rattle.std.specs.List.{find, AllByRecursion}
use Rattle.std.proofs.lemmas.Bool.{true≢false}
use Rattle.std.proofs.lemmas.List.{append-nil}
use Rattle.std.proofs.lemmas.List.Elements.{filter-append}
use Rattle.std.proofs.lemmas.Option.{none-some, same_Some}
use Rattle.ipc_call.specs.declared.calls.Call.{Call}
use Rattle.ipc_call.specs.declared.calls.Call.TheVariants.{IpcStat, IpcSet, IpcRmid, Interrupt, InterruptThread, Kill, Exec, GetNcnt, GetZcnt, SetCreds, Assume, Begin, Fork, Clone, Name, Exit, Listing}
use Rattle.ipc_call.specs.declared.calls.Kind.TheVariants as kinds
use Rattle.ipc_call.specs.declared.replies.Waiting.{Waiting}
use Rattle.ipc_call.specs.declared.replies.Answer.TheVariants.{Done}
use Rattle.ipc_call.specs.declared.replies.Completion.{Completion}
use Rattle.ipc_call.specs.declared.rules.Rule.{Rule}
use Rattle.ipc_call.specs.declared.rules.Rule.TheVariants.{BadId, BadPid, ClientInUse, NoClient, TimedOut}
use Rattle.ipc_model.specs.State.{State, caller, creds_at, is_running, process_at}
use Rattle.ipc_model.specs.Plan.{IsPlain, Passes, Plan, decision, found, on_part, ◌⨾◌}
use Rattle.ipc_model.specs.Plan as plans
use Rattle.ipc_model.specs.Controls.{status_of}
use Rattle.ipc_model.specs.Listings.{rows_to}
use Rattle.ipc_model.specs.Processes.{ended, free_client, process_ended}
use Rattle.ipc_model.specs.Decision.{Decision, Refused, Waits, Granted, outcome_of}
use Rattle.ipc_model.specs.Decide.{OnQueues, OnSems, OnShared, OnState, PartPlan, decide_alive, is_late, is_reached, part_plan, plan_alive, unless_late, whole}
use Rattle.ipc_model.specs.Cancelled.{cancelled}
use Rattle.ipc_model.specs.Step.{Moved, expire, expired, moved_as, state_by, ended_by_rule, waiting_as, without}
use Rattle.ipc_model.proofs.Beside.{is_on_part}
use Rattle.ipc_model.proofs.Growing.{Keeps}
use Rattle.ipc_model.proofs.Plans.{IfGranted, decision-on, on_whole}
use Rattle.ipc_parked.specs.Parked.{AreApart}
use Rattle.ipc_namespace.specs.Namespace.{decide_made, ended_as, is_on_waiting, kept_by}
use Rattle.ipc_namespace.proofs.Endings.{ended-none, leave-turn, left-none}
use Rattle.ipc_namespace.proofs.Moving.{uncancelled}
use Rattle.ipc_namespace.proofs.Own.{At, found-at, found-none}

-- nobody more is told
pub told-none : {A : Type 0} (old : List A) {more : List A} → [] ≡ more → old ≡ old ++ more
told-none old {more} none = sym (append-nil old) ∙ ap (λ es. old ++ es) none

is-due : (clock : ℕ) (deadline : Option ℕ) → is_some (cond (is_reached clock deadline) (Some TimedOut) None) ≡ is_reached clock deadline
is-due clock deadline = by (is_reached clock deadline)
  where
    by : (b : Bool) → is_some (cond b (Some TimedOut) None) ≡ b
    by true = refl
    by false = refl

-- one turn, and the last
module _ (initial s : State) (rest : s ≡ record initial { parked = s.parked }) where
  abbrev due : Waiting → Bool
  due w = is_reached s.clock w.deadline

  same-clock : s.clock ≡ initial.clock
  same-clock = ap (λ (t : State). t.clock) rest

  same-test : due ≡ (λ w. is_some (expired initial w))
  same-test = λ i w. (ap (λ n. is_reached n w.deadline) same-clock ∙ sym (is-due initial.clock w.deadline)) i

  abbrev Turn : State → Completion → Type 0
  Turn new e = (new ≡ record initial { parked = new.parked }) × (kept_by (expired initial) s.parked ≡ kept_by (expired initial) new.parked)
      × (ended_as (expired initial) s.parked ≡ e ∷ ended_as (expired initial) new.parked) × (length new.parked + 1 ≡ length s.parked)

  pub expire-turn : (new : State) (client : ℕ) (e : Completion) → AreApart s.parked → Some client ≡ option_map (λ w. w.client) (find due s.parked)
      → new ≡ without s client → e ≡ record { client = client; outcome = Err TimedOut } → Turn new e
  expire-turn new client e apart first left told = by (find due s.parked) refl first
    where
      by : (o : Option Waiting) → find due s.parked ≡ o → Some client ≡ option_map (λ w. w.client) o → Turn new e
      by None is none = absurd (none-some client (sym none))
      by (Some w) is some =
          let same : w.client ≡ client = sym (same_Some client w.client some) in
          let at = found-at due s.parked w apart is in
          let reached : is_reached initial.clock w.deadline ≡ true = ap (λ n. is_reached n w.deadline) (sym same-clock) ∙ at.passes in
          leave-turn initial s (expired initial) rest new client TimedOut e w apart (ap (λ k. find (λ v. v.client == k) s.parked) (sym same) ∙ at.own) same
          (ap (λ b. cond b (Some TimedOut) None) reached) (subst (λ (test : Waiting → Bool). At test s.parked w) same-test at) left told

  none-due : (ws : List Waiting) → AllByRecursion (λ w. due w ≡ false) ws → AllByRecursion (λ w. expired initial w ≡ None) ws
  none-due [] all = tt
  none-due (w ∷ ws) all = (ap (λ b. cond b (Some TimedOut) None) (ap (λ n. is_reached n w.deadline) (sym same-clock) ∙ all.0), none-due ws all.1)

  pub expire-over : None ≡ option_map (λ w. w.client) (find due s.parked) → (kept_by (expired initial) s.parked ≡ s.parked) × (ended_as (expired initial) s.parked ≡ [])
  expire-over none = by (find due s.parked) refl none
    where
      by : (o : Option Waiting) → find due s.parked ≡ o → None ≡ option_map (λ w. w.client) o → (kept_by (expired initial) s.parked ≡ s.parked) × (ended_as (expired initial) s.parked ≡ [])
      by None is none = let all = none-due s.parked (found-none due s.parked is) in (left-none (expired initial) s.parked all, ended-none (expired initial) s.parked all)
      by (Some w) is none = absurd (none-some w.client none)

-- a plan on a part of a part
on-on : {X Y Z : Type 0} (g : Y → Z) (f : X → Y) (p : Plan X) → on_part g (on_part f p) ≡ on_part (λ x. g (f x)) p
on-on g f (check ⨾ rest) = ap (λ p. check ⨾ p) (on-on g f rest)
on-on g f (plans.Refuse rule plain) = refl
on-on g f (plans.Grant answer new) = refl

on-found : {X Y Z : Type 0} (g : Y → Z) (o : Option X) (rule : Rule) (plain : IsPlain rule) (rest : X → Plan Y) → on_part g (found o rule plain rest) ≡ found o rule plain (λ x. on_part g (rest x))
on-found g None rule plain rest = refl
on-found g (Some x) rule plain rest = refl

abbrev pub with_list : List Waiting → State → State
with_list ws s = record s { parked = ws }

-- a call that doesn't look at those that wait is decided the same whoever waits
module _ (s : State) (ws : List Waiting) where
  alone-part : (p : PartPlan) → is_on_part p ≡ true → whole (with_list ws s) p ≡ on_part (with_list ws) (whole s p)
  alone-part (OnQueues p) on = sym (on-on (with_list ws) (λ queues. record s { queues = queues }) p)
  alone-part (OnSems p) on = sym (on-on (with_list ws) (λ sems. record s { sems = sems }) p)
  alone-part (OnShared p) on = sym (on-on (with_list ws) (λ shared. record s { shared = shared }) p)
  alone-part (OnState p) on = absurd (true≢false (sym on))

  alone-exit : (client : ℕ) (running : Bool)
      → plans.Grant Done (cond running (ended (with_list ws s) client) (process_ended (ended (with_list ws s) client) (caller (with_list ws s) client)))
      ≡ plans.Grant Done (with_list ws (cond running (ended s client) (process_ended (ended s client) (caller s client))))
  alone-exit client true = refl
  alone-exit client false = refl

  alone-alive : (client : ℕ) (call : Call) → is_on_waiting call ≡ false → plan_alive (with_list ws s) client call ≡ on_part (with_list ws) (plan_alive s client call)
  unfolding part_plan rows_to
  alone-alive client (GetNcnt id num) alone = absurd (true≢false alone)
  alone-alive client (GetZcnt id num) alone = absurd (true≢false alone)
  alone-alive client (IpcSet kind id uid gid mode qbytes) alone = absurd (true≢false alone)
  alone-alive client (IpcRmid kind id) alone = absurd (true≢false alone)
  alone-alive client (Interrupt pid) alone = absurd (true≢false alone)
  alone-alive client (InterruptThread target) alone = absurd (true≢false alone)
  alone-alive client (Kill pid) alone = absurd (true≢false alone)
  alone-alive client Exec alone = absurd (true≢false alone)
  alone-alive client (Assume creds) alone = refl
  alone-alive client (Begin pid creds) alone = sym (on-found (with_list ws) (free_client s client) ClientInUse tt _)
  alone-alive client (Fork child pid) alone = ap (λ p. Passes (nat_lt 0 pid) BadPid tt ⨾ Passes (nat_lt child (length s.threads)) NoClient tt ⨾ p) (sym (on-found (with_list ws) (free_client s child) ClientInUse tt _))
  alone-alive client (Clone child) alone = ap (λ p. Passes (nat_lt child (length s.threads)) NoClient tt ⨾ p) (sym (on-found (with_list ws) (free_client s child) ClientInUse tt _))
  alone-alive client (Name pid) alone = refl
  alone-alive client (IpcStat kinds.Queue id) alone = sym (on-found (with_list ws) (status_of s kinds.Queue id) BadId tt _)
  alone-alive client (IpcStat kinds.Sems id) alone = sym (on-found (with_list ws) (status_of s kinds.Sems id) BadId tt _)
  alone-alive client (IpcStat kinds.Segment id) alone = sym (on-found (with_list ws) (status_of s kinds.Segment id) BadId tt _)
  alone-alive client (Listing kinds.Queue) alone = refl
  alone-alive client (Listing kinds.Sems) alone = refl
  alone-alive client (Listing kinds.Segment) alone = refl
  alone-alive client (SetCreds euid egid None) alone = refl
  alone-alive client (SetCreds euid egid (Some groups)) alone = refl
  alone-alive client Exit alone = alone-exit client (is_running (ended s client) (process_at s client))
  alone-alive client call alone = alone-part (part_plan s (caller s client) call) refl

  late-whole : (late : Bool) (d : Decision State) → unless_late late (on_whole (with_list ws) d) ≡ on_whole (with_list ws) (unless_late late d)
  late-whole true (Refused rule) = refl
  late-whole true Waits = refl
  late-whole true (Granted answer new) = refl
  late-whole false d = refl

  pub alone-made : (client : ℕ) (call : Call) → is_on_waiting call ≡ false → decide_made (with_list ws s) client call ≡ on_whole (with_list ws) (decide_made s client call)
  alone-made client call alone =
      ap (λ p. unless_late (is_late s call) (decision (creds_at s client) p)) (alone-alive client call alone)
      ∙ ap (λ d. unless_late (is_late s call) d) (decision-on (creds_at s client) (with_list ws) (plan_alive s client call))
      ∙ late-whole (is_late s call) (decide_alive s client call)

-- and cancels none
pub alone-cancels : (call : Call) → is_on_waiting call ≡ false → (new : State) (w : Waiting) → cancelled new call w ≡ None
alone-cancels (IpcSet kind id uid gid mode qbytes) alone new w = absurd (true≢false alone)
alone-cancels (IpcRmid kind id) alone new w = absurd (true≢false alone)
alone-cancels (Interrupt pid) alone new w = absurd (true≢false alone)
alone-cancels (InterruptThread target) alone new w = absurd (true≢false alone)
alone-cancels (Kill pid) alone new w = absurd (true≢false alone)
alone-cancels Exec alone new w = absurd (true≢false alone)
alone-cancels call alone new w = refl

ended-append : (rule : Waiting → Option Rule) (vs ws : List Waiting) → ended_as rule (vs ++ ws) ≡ ended_as rule vs ++ ended_as rule ws
ended-append rule [] ws = refl
ended-append rule (v ∷ vs) ws = ap (λ es. ended_by_rule v.client (rule v) ++ es) (ended-append rule vs ws) ∙ sym (append_assoc (ended_by_rule v.client (rule v)) (ended_as rule vs) (ended_as rule ws))

-- so those whose deadline is reached may end after it
module _ (s : State) (client : ℕ) (call : Call) (none : (new : State) (w : Waiting) → cancelled new call w ≡ None) where
  abbrev pub kept : List Waiting
  kept = kept_by (expired s) s.parked

  abbrev Later : Decision State → Type 0
  Later d =
      ((expire (state_by s client call d)).state ≡ (moved_as (expire s).state client call (on_whole (with_list kept) d)).state)
      × ((expire (state_by s client call d)).ended ≡ (expire s).ended ++ (moved_as (expire s).state client call (on_whole (with_list kept) d)).ended)

  pub expired-later : (d : Decision State) → Keeps s d → IfGranted (λ answer new. new.clock ≡ s.clock) d → (d ≡ Waits → is_late s call ≡ false) → Later d
  expired-later (Refused rule) keeps clock early = (refl, sym (append-nil (expire s).ended))
  expired-later Waits keeps clock early =
      let w = waiting_as s client call in
      let stays : Waiting → Bool = λ v. is_none (expired s v) in
      let not_due : expired s w ≡ None = ap (λ b. cond b (Some TimedOut) None) (early refl) in (
        ap (λ ws. with_list ws s) (filter-append stays s.parked (w ∷ []) ∙ ap (λ o. kept ++ cond (is_none o) (w ∷ []) []) not_due),
        ended-append (expired s) s.parked (w ∷ []) ∙ ap (λ o. (expire s).ended ++ (ended_by_rule w.client o ++ [])) not_due,
      )
  expired-later (Granted answer new) keeps clock early =
      let same : kept_by (expired new) new.parked ≡ kept = (λ i. kept_by (λ w. cond (is_reached (clock i) w.deadline) (Some TimedOut) None) (keeps.0 i)) in
      let told : ended_as (expired new) new.parked ≡ (expire s).ended = (λ i. ended_as (λ w. cond (is_reached (clock i) w.deadline) (Some TimedOut) None) (keeps.0 i)) in
      let moves = uncancelled (with_list kept new) call (none (with_list kept new)) in (
        ap (λ ws. with_list ws new) same ∙ sym (ap (λ (m : Moved). m.state) moves),
        told ∙ sym (append-nil (expire s).ended) ∙ ap (λ es. (expire s).ended ++ es) (sym (ap (λ (m : Moved). m.ended) moves)),
      )

told-few : (client : ℕ) (o : Option Rule) → length (ended_by_rule client o) ≤ 1
told-few client None = omega arith
told-few client (Some rule) = omega arith

-- no more end than wait
pub ended-few : (rule : Waiting → Option Rule) (ws : List Waiting) → length (ended_as rule ws) ≤ length ws
ended-few rule [] = omega arith
ended-few rule (w ∷ ws) =
    let sum = length-append (ended_by_rule w.client (rule w)) (ended_as rule ws) in
    omega (arith, sum, told-few w.client (rule w), ended-few rule ws)

-- a call that cancels none ends none, and leaves the list as long as it was, or one longer where it waits
module _ (s : State) (client : ℕ) (call : Call) where
  pub moved-none : (d : Decision State) → ((new : State) (w : Waiting) → cancelled new call w ≡ None) → (moved_as s client call d).ended ≡ []
  moved-none (Refused rule) none = refl
  moved-none Waits none = refl
  moved-none (Granted answer new) none = ap (λ (m : Moved). m.ended) (uncancelled new call (none new))

  pub one-longer : (d : Decision State) → Keeps s d → length (state_by s client call d).parked ≤ length s.parked + 1
  one-longer (Refused rule) keeps = omega arith
  one-longer Waits keeps = let sum = length-append s.parked (waiting_as s client call ∷ []) in omega (arith, sum)
  one-longer (Granted answer new) keeps = let same = ap length keeps.0 in omega (arith, same)

  pub as-long : (d : Decision State) (Q : Type 0) → Keeps s d → (length (state_by s client call d).parked ≡ length s.parked → Q) → IfSome (outcome_of d) (λ _. Q)
  as-long (Refused rule) Q keeps so = so refl
  as-long Waits Q keeps so = tt
  as-long (Granted answer new) Q keeps so = so (ap length keeps.0)
