-- What is decided on a call that a client makes, by what is decided but for its deadline.
use Rattle.std.proofs.Common.{◌≡◌, ℕ, Bool, true, false, refl}
use Rattle.std.proofs.lemmas.Bool.{true≢false}
use Rattle.ipc_call.specs.declared.calls.Call.{Call}
use Rattle.ipc_call.specs.declared.calls.Call.TheVariants.{SemTimedOp}
use Rattle.ipc_call.specs.declared.replies.Answer.{Answer}
use Rattle.ipc_model.specs.State.{State}
use Rattle.ipc_model.specs.Decision.{Decision, Refused, Waits, Granted, proceeds}
use Rattle.ipc_model.specs.Decide.{decide, decide_call, is_late, part_plan, plan, unless_late, waits_as}
use Rattle.ipc_model.proofs.Growing.{Keeps}
use Rattle.ipc_model.proofs.Plans.{IfGranted}
use Rattle.ipc_model.proofs.Calls.{Keeps-decide, only_parkable}
use Rattle.ipc_model.specs.Decide.{can_wait, waits_at}

pub late-granted : {X : Type 0} (P : Answer → X → Type 0) (late : Bool) (d : Decision X) → IfGranted P d → IfGranted P (unless_late late d)
late-granted P true (Refused rule) is = tt
late-granted P true Waits is = tt
late-granted P true (Granted answer new) is = is
late-granted P false d is = is

pub late-waits : {X : Type 0} (late : Bool) (d : Decision X) → proceeds (unless_late late d) ≡ false → proceeds d ≡ false
late-waits true (Refused rule) waits = absurd (true≢false waits)
late-waits true Waits waits = absurd (true≢false waits)
late-waits true (Granted answer new) waits = absurd (true≢false waits)
late-waits false d waits = waits

-- where it waits, it isn't late
pub waits-early : {X : Type 0} (late : Bool) (d : Decision X) → proceeds (unless_late late d) ≡ false → late ≡ false
waits-early true (Refused rule) waits = absurd (true≢false waits)
waits-early true Waits waits = absurd (true≢false waits)
waits-early true (Granted answer new) waits = absurd (true≢false waits)
waits-early false d waits = refl

pub Keeps-call : (s : State) (client : ℕ) (call : Call) → Keeps s (decide_call s client call)
Keeps-call s client call = late-granted _ (is_late s call) (decide s client call) (Keeps-decide s client call)

pub only_parkable_call : (s : State) (client : ℕ) (call : Call) → proceeds (decide_call s client call) ≡ false → can_wait call ≡ true
only_parkable_call s client call waits = only_parkable s client call (late-waits (is_late s call) (decide s client call) waits)

-- what waits of a call has its plan
pub plan-as : (s : State) (client : ℕ) (call : Call) → plan s client (waits_as call) ≡ plan s client call
unfolding part_plan
plan-as s client (SemTimedOp id ops timeout) = refl
plan-as s client call = refl

-- and waits where the call would
pub at-as : (call : Call) → waits_at (waits_as call) ≡ waits_at call
at-as (SemTimedOp id ops timeout) = refl
at-as call = refl
