use Rattle.std.proofs.Common.{◌≡◌, ℕ, ◌+◌, ◌++◌, true, false, List, append-nil, arith, length, vec_len, refl, sym, ap, ◌∙◌, subst, Option}
use Rattle.std.specs.Prelude.{◌==◌, is_none, IfSome}
use Rattle.ipc_call.specs.declared.calls.Call.{Call}
use Rattle.ipc_call.specs.declared.replies.Completion.{Completion}
use Rattle.ipc_model.specs.State.{State, is_waiting}
use Rattle.ipc_model.specs.Decision.{Decision, Granted, Outcome, Refused, Waits, outcome_of, proceeds}
use Rattle.ipc_model.specs.Decide.{decide, decide_alive, decide_call, is_late, may_call, unless_late}
use Rattle.ipc_model.specs.Step.{expire, expired, moved_as, moved_by, state_by}
use Rattle.ipc_model.proofs.Beside.{clock-kept}
use Rattle.ipc_model.proofs.Growing.{Keeps}
use Rattle.ipc_model.proofs.Late.{Keeps-call, late-granted, waits-early}
use Rattle.ipc_model.proofs.Plans.{IfGranted, on_whole}
use Rattle.ipc_namespace.specs.Namespace.{decide_made, is_on_waiting}
use Rattle.ipc_namespace.proofs.Calling.{called-decides, not-over}
use Rattle.ipc_namespace.proofs.Parked.{list_any-filter}
use Rattle.ipc_namespace.proofs.Expiring.{alone-cancels, alone-made, as-long, ended-few, expired-later, kept, moved-none, one-longer, with_list}
use Rattle.ipc_namespace.proofs.namespace.Namespace.carry_out.Goals as goal

-- a call that doesn't look at those that wait, of a client that hasn't ended
module _ (s : State) (client : ℕ) (call : Call) (may : may_call s client call ≡ true) (alone : is_on_waiting call ≡ false) where
  abbrev begins : State
  begins = (expire s).state

  made : decide_call s client call ≡ decide_made s client call
  made = ap (λ d. unless_late (is_late s call) d) (called-decides s client call may)

  later-made : decide_call begins client call ≡ on_whole (with_list (kept s client call (alone-cancels call alone))) (decide_made s client call)
  later-made = ap (λ d. unless_late (is_late s call) d) (called-decides begins client call may) ∙ alone-made s (kept s client call (alone-cancels call alone)) client call alone

  keeps : Keeps s (decide_made s client call)
  keeps = subst (λ d. Keeps s d) made (Keeps-call s client call)

  clock : IfGranted (λ answer new. new.clock ≡ s.clock) (decide_made s client call)
  clock = subst (λ d. IfGranted (λ answer new. new.clock ≡ s.clock) d) made (late-granted _ (is_late s call) (decide s client call) (clock-kept s client call))

  early : decide_made s client call ≡ Waits → is_late s call ≡ false
  early waits = waits-early (is_late s call) (decide_alive s client call) (ap proceeds waits)

  later : ((expire (state_by s client call (decide_made s client call))).state ≡ (moved_by begins client call).state)
      × ((expire (state_by s client call (decide_made s client call))).ended ≡ (expire s).ended ++ (moved_by begins client call).ended)
  later =
      let by = expired-later s client call (alone-cancels call alone) (decide_made s client call) keeps clock early in (
        by.0 ∙ sym (ap (λ d. (moved_as begins client call d).state) later-made),
        by.1 ∙ ap (λ es. (expire s).ended ++ es) (sym (ap (λ d. (moved_as begins client call d).ended) later-made)),
      )

outcome-whole : (put : State → State) (d : Decision State) → outcome_of (on_whole put d) ≡ outcome_of d
outcome-whole put (Refused rule) = refl
outcome-whole put Waits = refl
outcome-whole put (Granted answer new) = refl

pub returns-clause-own : goal.returns-clause-own
returns-clause-own c =
    let s = c.args.self.now in
    let client = c.args.client in
    let call = c.args.call.now in
    let may : may_call s client call ≡ true = not-over (may_call s client call) (sym c.is_over.ensures ∙ c.if-is_over.false) in
    let alone : is_on_waiting call ≡ false = sym c.is_on_waiting.ensures ∙ c.if-is_on_waiting.false in
    c.in_ok-own.ensures.own ∙ sym (ap (λ (d : Decision State). outcome_of d) (later-made s client call may alone) ∙ outcome-whole _ (decide_made s client call))

pub returns-clause-state : goal.returns-clause-state
returns-clause-state c =
    let s = c.args.self.now in
    let may : may_call s c.args.client c.args.call.now ≡ true = not-over (may_call s c.args.client c.args.call.now) (sym c.is_over.ensures ∙ c.if-is_over.false) in
    let alone : is_on_waiting c.args.call.now ≡ false = sym c.is_on_waiting.ensures ∙ c.if-is_on_waiting.false in
    c.expire-2.ensures.state ∙ ap (λ (t : State). (expire t).state) c.in_ok-own.ensures.state ∙ (later s c.args.client c.args.call.now may alone).0

pub returns-clause-ended : goal.returns-clause-ended
returns-clause-ended c =
    let s = c.args.self.now in
    let may : may_call s c.args.client c.args.call.now ≡ true = not-over (may_call s c.args.client c.args.call.now) (sym c.is_over.ensures ∙ c.if-is_over.false) in
    let alone : is_on_waiting c.args.call.now ≡ false = sym c.is_on_waiting.ensures ∙ c.if-is_on_waiting.false in
    c.expire-2.ensures.ended ∙ ap (λ (es : List Completion). es ++ (expire c.carry_out_alone.new.self).ended) c.requires.empty
    ∙ ap (λ (t : State). (expire t).ended) c.in_ok-own.ensures.state ∙ (later s c.args.client c.args.call.now may alone).1

pub expire-requires-2 : goal.expire-requires-2
expire-requires-2 c =
    let s = c.args.self.now in
    let may : may_call s c.args.client c.args.call.now ≡ true = not-over (may_call s c.args.client c.args.call.now) (sym c.is_over.ensures ∙ c.if-is_over.false) in
    let alone : is_on_waiting c.args.call.now ≡ false = sym c.is_on_waiting.ensures ∙ c.if-is_on_waiting.false in
    let empty : vec_len c.args.ended.now ≡ 0 = c.args.ended.now.ok.0 ∙ ap length c.requires.empty in
    let left = ap (λ (t : State). length t.parked) c.in_ok-own.ensures.state in
    let longer = one-longer s c.args.client c.args.call.now (decide_made s c.args.client c.args.call.now) (keeps s c.args.client c.args.call.now may alone) in
    omega (arith, empty, left, longer, c.requires.space)

pub returns-clause-few : goal.returns-clause-few
returns-clause-few c =
    let s = c.args.self.now in
    let client = c.args.client in
    let call = c.args.call.now in
    let made = decide_made s client call in
    let may : may_call s client call ≡ true = not-over (may_call s client call) (sym c.is_over.ensures ∙ c.if-is_over.false) in
    let alone : is_on_waiting call ≡ false = sym c.is_on_waiting.ensures ∙ c.if-is_on_waiting.false in
    let empty : vec_len c.args.ended.now ≡ 0 = c.args.ended.now.ok.0 ∙ ap length c.requires.empty in
    let left = ap (λ (t : State). length t.parked) c.in_ok-own.ensures.state in
    let few = c.expire-2.ensures.few in
    let Q = vec_len c.expire-2.new.ended + length c.expire-2.new.self.parked ≡ length s.parked in
    subst (λ (own : Option Outcome). IfSome own (λ _. Q)) (sym c.in_ok-own.ensures.own)
    (as-long s client call made Q (keeps s client call may alone) (λ same. omega (arith, same, empty, left, few)))

pub returns-clause-less : goal.returns-clause-less
returns-clause-less c =
    let s = c.args.self.now in
    let call = c.args.call.now in
    let begins = (expire s).state in
    let alone : is_on_waiting call ≡ false = sym c.is_on_waiting.ensures ∙ c.if-is_on_waiting.false in
    let first = (expire s).ended in
    let none = moved-none begins c.args.client call (decide_call begins c.args.client call) (alone-cancels call alone) in
    let told : vec_len c.expire-2.new.ended ≡ length first = c.expire-2.new.ended.ok.0 ∙ ap length (returns-clause-ended c ∙ ap (λ es. first ++ es) none ∙ append-nil first) in
    omega (arith, told, ended-few (expired s) s.parked)

pub serve_on_waiting-requires-clause-free : goal.serve_on_waiting-requires-clause-free
serve_on_waiting-requires-clause-free c =
    let s = c.args.self.now in
    ap (λ (t : State). is_waiting t c.args.client) c.expire-then-is_on_waiting.ensures.state
    ∙ list_any-filter (λ w. w.client == c.args.client) (λ w. is_none (expired s w)) s.parked c.requires.free
