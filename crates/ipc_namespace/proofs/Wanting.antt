-- Which calls want memory.
use Rattle.std.proofs.Common.{◌≡◌, ℕ, ◌∙◌, true, ap, refl, sym, None, OnErr, Result, Ok, Err}
use Rattle.std.specs.Prelude.{◌&&◌, ◌||◌, is_some}
use Rattle.std.proofs.lemmas.Bool.{false≢true}
use Rattle.ipc_call.specs.declared.calls.Call.{Call}
use Rattle.ipc_call.specs.declared.calls.Call.TheVariants.{MsgSnd, MsgRcv, SemOp, SemTimedOp}
use Rattle.ipc_model.specs.State.{State}
use Rattle.ipc_model.specs.Decision.{outcome_of}
use Rattle.ipc_model.specs.Decide.{begins, can_wait, decide_alive as decide}
use Rattle.ipc_model.proofs.Calls.{only_parkable_alive}
use Rattle.ipc_namespace.specs.Wanting.{have_all_come, may_want_memory, takes_memory}
use Rattle.ipc_namespace.proofs.Calling.{outcome-some}

-- what is so anyway is so on an error
pub on-err : {T E : Type 0} {P : Type 0} (r : Result T E) → P → OnErr r P
on-err (Ok x) p = tt
on-err (Err e) p = p

-- a call that takes memory may want it
pub wants : (s : State) (call : Call) → takes_memory call ≡ true → may_want_memory s call ≡ true
wants s call takes = ap (λ b. b || begins call && have_all_come s) takes

-- and so one that waits
can-takes : (call : Call) → can_wait call ≡ true → takes_memory call ≡ true
can-takes (MsgSnd id mtype text flags) can = refl
can-takes (MsgRcv id size msgtyp flags) can = refl
can-takes (SemOp id ops) can = refl
can-takes (SemTimedOp id ops timeout) can = refl
can-takes call can = absurd (false≢true can)

pub waits-wants : (s : State) (client : ℕ) (call : Call) → outcome_of (decide s client call) ≡ None → may_want_memory s call ≡ true
waits-wants s client call waits =
    wants s call (can-takes call (only_parkable_alive s client call (sym (outcome-some (decide s client call)) ∙ ap is_some waits)))
