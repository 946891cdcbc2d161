-- After an event, and after each waiting call that ends by it, no call is ready that waits where nothing was touched.
use Rattle.std.proofs.Common.{◌≡◌, ◌≢◌, ℕ, Bool, true, false, cond, eqb, List, [], ◌∷◌, refl, sym, ap, subst, ◌∙◌, Option, Some}
use Rattle.std.specs.Prelude.{◌&&◌, ◌||◌, is_some, not, option_map, slice_index_or, unwrap_or}
use Rattle.std.specs.List.{AllByRecursion}
use Rattle.std.proofs.lemmas.Bool.{eqb-true, eq-eqb, false≢true, true≢false}
use Rattle.std.proofs.lemmas.Option.{same_Some}
use Rattle.ipc_call.specs.declared.calls.Call.{Call}
use Rattle.ipc_call.specs.declared.calls.Call.TheVariants.{Begin, MsgGet, MsgSnd, MsgRcv, SemGet, SemOp, SemTimedOp}
use Rattle.ipc_call.specs.declared.calls.Kind.{Kind}
use Rattle.ipc_call.specs.declared.calls.Kind.TheVariants as kinds
use Rattle.ipc_call.specs.declared.replies.Answer.{Answer}
use Rattle.ipc_call.specs.declared.replies.Waiting.{Waiting}
use Rattle.ipc_call.specs.declared.rules.Rule.TheVariants.{Ended}
use Rattle.ipc_ids.specs.Table.{next_id}
use Rattle.ipc_model.specs.State.{State, Thread, creds_at, has_exited, no_thread}
use Rattle.ipc_model.specs.Decision.{Decision, Granted, Refused, proceeds}
use Rattle.ipc_model.specs.Decide.{begins, can_wait, decide, decide_alive, may_call, plan, waits_at}
use Rattle.ipc_model.specs.Cancelled.{is_same, waits_on}
use Rattle.ipc_model.specs.Step.{is_ready}
use Rattle.ipc_model.specs.Touched.{is_id, touches, touches_place}
use Rattle.ipc_model.proofs.Stays.{Stays}
use Rattle.ipc_model.proofs.Beside.{KeepsClients, clients-kept, is_set_creds}
use Rattle.ipc_model.proofs.Calls.{only_parkable}
use Rattle.ipc_model.proofs.Plans.{Ends-decision, IfGranted}
use Rattle.ipc_model.proofs.Staying.{stays}
use Rattle.ipc_model.proofs.Touched.{is_there, stays_alike, unawaited, waits-there}

abbrev place_touched : State → ℕ → Call → Option (Kind × ℕ) → Bool
place_touched s client call place = unwrap_or (option_map (λ at. touches s client call at.0 at.1) place) false

-- the object on which a call waits that may wait
place_of : (call : Call) → can_wait call ≡ true → (k : Kind) × (i : ℕ) × (waits_at call ≡ Some (k, i)) × (waits_on k i call ≡ true)
place_of (MsgSnd id mtype text flags) can = (kinds.Queue, id, refl, eq-eqb id id refl)
place_of (MsgRcv id size msgtyp flags) can = (kinds.Queue, id, refl, eq-eqb id id refl)
place_of (SemOp id ops) can = (kinds.Sems, id, refl, eq-eqb id id refl)
place_of (SemTimedOp id ops timeout) can = (kinds.Sems, id, refl, eq-eqb id id refl)
place_of call can = absurd (false≢true can)

-- what was granted leaves untouched objects as they were
granted-stays : (s new : State) (client : ℕ) (call : Call) (answer : Answer) (k : Kind) (i : ℕ) → decide s client call ≡ Granted answer new → touches s client call k i ≡ false → Stays s client k i new
granted-stays s new client call answer k i is off =
    subst (λ (d : Decision State). IfGranted (λ (answer : Answer) (new : State). Stays s client k i new) d) is
    (Ends-decision (creds_at s client) (λ answer new. Stays s client k i new) (plan s client call) (stays s client k i call off))

-- a call that may wait changes no client
pub not-changing : (call : Call) → can_wait call ≡ true → is_set_creds call ≡ false
not-changing (MsgSnd id mtype text flags) can = refl
not-changing (MsgRcv id size msgtyp flags) can = refl
not-changing (SemOp id ops) can = refl
not-changing (SemTimedOp id ops timeout) can = refl
not-changing call can = absurd (false≢true can)

-- a call that may wait isn't one by which a client begins
pub begins-not : (call : Call) → can_wait call ≡ true → begins call ≡ false
begins-not (Begin pid creds) can = absurd (false≢true can)
begins-not call can = refl

-- so the client of one that waits hasn't ended
pub living-waits : (s : State) (client : ℕ) (call : Call) → proceeds (decide s client call) ≡ false → has_exited s client ≡ false
living-waits s client call waits = by (has_exited s client) refl
  where
    by : (b : Bool) → has_exited s client ≡ b → b ≡ false
    by false is = refl
    by true is =
        let no : may_call s client call ≡ false = λ i. begins-not call (only_parkable s client call waits) i || not (is i) in
        absurd (true≢false (sym (ap (λ (b : Bool). proceeds (cond b (decide_alive s client call) (Refused Ended))) no) ∙ waits))

still-waits : (s new : State) (client : ℕ) (call : Call) (answer : Answer) → decide s client call ≡ Granted answer new → (w : Waiting) → is_ready s w ≡ false → w.client ≢ client → has_exited new w.client ≡ false → touches_place s client call w ≡ false → is_ready new w ≡ false
still-waits s new client call answer is w waits other lives off =
    let at = place_of w.call (only_parkable s w.client w.call waits) in
    let there : touches s client call at.0 at.1 ≡ false = ap (place_touched s client call) (sym at.2) ∙ off in
    stays_alike s new client w.client at.0 at.1 (granted-stays s new client call answer at.0 at.1 is there) other (living-waits s w.client w.call waits, lives) w.call at.3 ∙ waits

-- after a granted event, where no call was ready before it, and its client has none that waits: each whose client it
-- didn't end
pub event_quiet : (s new : State) (client : ℕ) (call : Call) (answer : Answer) → decide s client call ≡ Granted answer new → (ws : List Waiting) → AllByRecursion (λ w. is_ready s w ≡ false) ws → AllByRecursion (λ w. (w.client ≢ client) × (has_exited new w.client ≡ false)) ws
    → AllByRecursion (λ w. touches_place s client call w ≡ false → is_ready new w ≡ false) ws
event_quiet s new client call answer is [] waits others = tt
event_quiet s new client call answer is (w ∷ ws) waits others =
    (λ off. still-waits s new client call answer is w waits.0 others.0.0 others.0.1 off, event_quiet s new client call answer is ws waits.1 others.1)

-- a call that waited touches the object on which it waited, and no other
own-place : (s : State) (client : ℕ) (call : Call) (k : Kind) (i : ℕ) → can_wait call ≡ true → touches s client call k i ≡ waits_on k i call
own-place s client (MsgSnd id mtype text flags) k i can = refl
own-place s client (MsgRcv id size msgtyp flags) k i can = refl
own-place s client (SemOp id ops) k i can = refl
own-place s client (SemTimedOp id ops timeout) k i can = refl
own-place s client call k i can = absurd (false≢true can)

same-queue : (id i : ℕ) (k : Kind) → is_same kinds.Queue k && eqb id i ≡ true → ◌≡◌ {A = Option (Kind × ℕ)} (Some (kinds.Queue, id)) (Some (k, i))
same-queue id i kinds.Queue on = ap (λ (n : ℕ). Some (kinds.Queue, n)) (eqb-true id i on)
same-queue id i kinds.Sems on = absurd (false≢true on)
same-queue id i kinds.Segment on = absurd (false≢true on)

same-set : (id i : ℕ) (k : Kind) → is_same kinds.Sems k && eqb id i ≡ true → ◌≡◌ {A = Option (Kind × ℕ)} (Some (kinds.Sems, id)) (Some (k, i))
same-set id i kinds.Sems on = ap (λ (n : ℕ). Some (kinds.Sems, n)) (eqb-true id i on)
same-set id i kinds.Queue on = absurd (false≢true on)
same-set id i kinds.Segment on = absurd (false≢true on)

-- the object on which a call waits is one
place-is : (call : Call) (k : Kind) (i : ℕ) → waits_on k i call ≡ true → waits_at call ≡ Some (k, i)
place-is (MsgSnd id mtype text flags) k i on = same-queue id i k on
place-is (MsgRcv id size msgtyp flags) k i on = same-queue id i k on
place-is (SemOp id ops) k i on = same-set id i k on
place-is (SemTimedOp id ops timeout) k i on = same-set id i k on
place-is call k i on = absurd (false≢true on)

-- a call that waits elsewhere still waits when a waiting call was granted
pub turn_quiet : (s new : State) (w : Waiting) (answer : Answer) (k : Kind) (i : ℕ) → waits_on k i w.call ≡ true → decide s w.client w.call ≡ Granted answer new → (v : Waiting) → v.client ≢ w.client
    → waits_on k i v.call ≡ false → is_ready s v ≡ false → is_ready new v ≡ false
turn_quiet s new w answer k i on is v other elsewhere waits =
    still-waits s new w.client w.call answer is v waits other lives (by (touches_place s w.client w.call v) refl)
  where
    at : (k : Kind) × (i : ℕ) × (waits_at v.call ≡ Some (k, i)) × (waits_on k i v.call ≡ true)
    at = place_of v.call (only_parkable s v.client v.call waits)

    can : can_wait w.call ≡ true
    can = ap (λ o. is_some o) (place-is w.call k i on)

    kept : KeepsClients s answer new
    kept = subst (λ (d : Decision State). IfGranted (KeepsClients s) d) is (clients-kept s w.client w.call (not-changing w.call can))

    lives : has_exited new v.client ≡ false
    lives = ap (λ (ts : List Thread). (slice_index_or ts v.client no_thread).has_ended) kept.1 ∙ living-waits s v.client v.call waits

    by : (b : Bool) → touches_place s w.client w.call v ≡ b → touches_place s w.client w.call v ≡ false
    by false off = off
    by true touched =
        let there : waits_on at.0 at.1 w.call ≡ true = sym (own-place s w.client w.call at.0 at.1 can) ∙ sym (ap (place_touched s w.client w.call) at.2) ∙ touched in
        let same = same_Some (at.0, at.1) (k, i) (sym (place-is w.call at.0 at.1 there) ∙ place-is w.call k i on) in
        absurd (true≢false (sym at.3 ∙ ap (λ (p : Kind × ℕ). waits_on p.0 p.1 v.call) same ∙ elsewhere))

-- no call waits on the object that a get creates
unless_new : (b : Bool) → (b ≡ true → ⊥) → b ≡ false
unless_new true not_new = absurd (not_new refl)
unless_new false not_new = refl

module _ (s : State) (w : Waiting) (waits : is_ready s w ≡ false) where
  at : (k : Kind) × (i : ℕ) × (waits_at w.call ≡ Some (k, i)) × (waits_on k i w.call ≡ true)
  at = place_of w.call (only_parkable s w.client w.call waits)

  new-queue : (k : Kind) (i : ℕ) → is_there s k i ≡ true → is_same kinds.Queue k && is_id (next_id s.queues) i ≡ true → ⊥
  new-queue kinds.Queue i there new = unawaited s.queues i new there
  new-queue kinds.Sems i there new = false≢true new
  new-queue kinds.Segment i there new = false≢true new

  new-set : (k : Kind) (i : ℕ) → is_there s k i ≡ true → is_same kinds.Sems k && is_id (next_id s.sems.sets) i ≡ true → ⊥
  new-set kinds.Sems i there new = unawaited s.sems.sets i new there
  new-set kinds.Queue i there new = false≢true new
  new-set kinds.Segment i there new = false≢true new

  pub msgget-touches : (client key flags : ℕ) → touches_place s client (MsgGet key flags) w ≡ false
  msgget-touches client key flags =
      ap (place_touched s client (MsgGet key flags)) at.2 ∙ unless_new _ (new-queue at.0 at.1 (waits-there s w.client w.call waits at.0 at.1 at.2))

  pub semget-touches : (client key nsems flags : ℕ) → touches_place s client (SemGet key nsems flags) w ≡ false
  semget-touches client key nsems flags =
      ap (place_touched s client (SemGet key nsems flags)) at.2 ∙ unless_new _ (new-set at.0 at.1 (waits-there s w.client w.call waits at.0 at.1 at.2))
