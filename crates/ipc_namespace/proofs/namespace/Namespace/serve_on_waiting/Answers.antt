use Rattle.std.proofs.Common.{◌≡◌, ℕ, List, refl, sym, ap, ◌∙◌}
use Rattle.ipc_call.specs.declared.calls.Call.{Call}
use Rattle.ipc_call.specs.declared.calls.Call.TheVariants.{GetNcnt, GetZcnt}
use Rattle.ipc_call.specs.declared.rules.Rule.TheVariants.{BadId}
use Rattle.sem_set.specs.declared.set.Semaphore.{Semaphore}
use Rattle.ipc_model.specs.State.{Sems, State, caller, creds_at}
use Rattle.ipc_model.specs.Decision.{Decision, Granted, Refused, Waits, left_by, outcome_of}
use Rattle.ipc_model.specs.Plan.{Plan, decision}
use Rattle.ipc_model.specs.Semaphores.{look, set_at}
use Rattle.ipc_model.proofs.Plans.{Ends, Ends-decision, Ends-found, IfGranted, decision-on, on_whole, outcome-on}
use Rattle.ipc_model.specs.Decide.{OnSems, decide_alive as decide, get_waiting, is_negative, is_zero, part_plan, whole}
use Rattle.ipc_model.specs.Step.{Moved}
use Rattle.ipc_namespace.proofs.Calling.{put_sems}
use Rattle.ipc_namespace.proofs.Expiring.{told-none}
use Rattle.ipc_namespace.proofs.Moving.{moved-nothing, none-ended}
use Rattle.ipc_namespace.proofs.namespace.Namespace.serve_on_waiting.Goals as goal

-- a count answers as its plan says, and changes nothing
counted : (s : State) (client : ℕ) (call : Call) (p : Plan Sems) → part_plan s (caller s client) call ≡ OnSems p → outcome_of (decide s client call) ≡ outcome_of (decision (creds_at s client) p)
counted s client call p planned =
    ap (λ q. outcome_of (decision (creds_at s client) (whole s q))) planned ∙ outcome-on (creds_at s client) (put_sems s) p

module _ (s : State) (client id num : ℕ) where
  counts-rise : outcome_of (decide s client (GetNcnt id num)) ≡ outcome_of (decision (creds_at s client) (get_waiting s id num (is_negative num)))
  unfolding part_plan
  counts-rise = counted s client (GetNcnt id num) (get_waiting s id num (is_negative num)) refl

  counts-zero : outcome_of (decide s client (GetZcnt id num)) ≡ outcome_of (decision (creds_at s client) (get_waiting s id num (is_zero num)))
  unfolding part_plan
  counts-zero = counted s client (GetZcnt id num) (get_waiting s id num (is_zero num)) refl

  look-same : (tell : List Semaphore → ℕ) → Ends (λ answer new. new ≡ s.sems) (look s.sems id num tell)
  look-same tell = Ends-found _ (set_at s.sems id) BadId tt _ (λ set is. refl)

-- what is granted with the part unchanged leaves the whole unchanged
kept : (s : State) (d : Decision Sems) → IfGranted (λ answer new. new ≡ s.sems) d → left_by s (on_whole (put_sems s) d) ≡ s
kept s (Refused rule) same = refl
kept s Waits same = refl
kept s (Granted answer new) same = ap (λ u. put_sems s u) same

left-same : (s : State) (client : ℕ) (call : Call) (p : Plan Sems) → part_plan s (caller s client) call ≡ OnSems p → Ends (λ answer new. new ≡ s.sems) p → left_by s (decide s client call) ≡ s
left-same s client call p planned ends =
    ap (λ q. left_by s (decision (creds_at s client) (whole s q))) planned
    ∙ ap (λ d. left_by s d) (decision-on (creds_at s client) (put_sems s) p)
    ∙ kept s (decision (creds_at s client) p) (Ends-decision (creds_at s client) (λ answer new. new ≡ s.sems) p ends)

module _ (s : State) (client id num : ℕ) where
  left-rise : left_by s (decide s client (GetNcnt id num)) ≡ s
  unfolding part_plan
  left-rise = left-same s client (GetNcnt id num) (get_waiting s id num (is_negative num)) refl (look-same s client id num _)

  left-zero : left_by s (decide s client (GetZcnt id num)) ≡ s
  unfolding part_plan
  left-zero = left-same s client (GetZcnt id num) (get_waiting s id num (is_zero num)) refl (look-same s client id num _)

pub returns-in-GetNcnt-clause-own : goal.returns-in-GetNcnt-clause-own
returns-in-GetNcnt-clause-own c =
    let n = c.in-GetNcnt in
    let s = c.args.self.now in
    ap (λ (k : Call). outcome_of (decide s c.args.client k)) n.is ∙ counts-rise s c.args.client n.id n.num ∙ c.count.ensures.outcome

pub returns-in-GetNcnt-clause-state : goal.returns-in-GetNcnt-clause-state
returns-in-GetNcnt-clause-state c =
    let n = c.in-GetNcnt in
    let s = c.args.self.now in
    c.count.ensures.same ∙ sym (ap (λ (m : Moved). m.state) (moved-nothing s c.args.client c.args.call.now (GetNcnt n.id n.num) n.is (λ new w. refl) (left-rise s c.args.client n.id n.num)))

pub returns-in-GetNcnt-clause-ended : goal.returns-in-GetNcnt-clause-ended
returns-in-GetNcnt-clause-ended c = told-none c.args.ended.now.items (none-ended c.args.self.now c.args.client c.args.call.now (GetNcnt c.in-GetNcnt.id c.in-GetNcnt.num) c.in-GetNcnt.is (λ new w. refl))

pub returns-in-GetZcnt-clause-own : goal.returns-in-GetZcnt-clause-own
returns-in-GetZcnt-clause-own c =
    let n = c.in-GetZcnt in
    let s = c.args.self.now in
    ap (λ (k : Call). outcome_of (decide s c.args.client k)) n.is ∙ counts-zero s c.args.client n.id n.num ∙ c.count-in-GetZcnt.ensures.outcome

pub returns-in-GetZcnt-clause-state : goal.returns-in-GetZcnt-clause-state
returns-in-GetZcnt-clause-state c =
    let n = c.in-GetZcnt in
    let s = c.args.self.now in
    c.count-in-GetZcnt.ensures.same ∙ sym (ap (λ (m : Moved). m.state) (moved-nothing s c.args.client c.args.call.now (GetZcnt n.id n.num) n.is (λ new w. refl) (left-zero s c.args.client n.id n.num)))

pub returns-in-GetZcnt-clause-ended : goal.returns-in-GetZcnt-clause-ended
returns-in-GetZcnt-clause-ended c = told-none c.args.ended.now.items (none-ended c.args.self.now c.args.client c.args.call.now (GetZcnt c.in-GetZcnt.id c.in-GetZcnt.num) c.in-GetZcnt.is (λ new w. refl))
