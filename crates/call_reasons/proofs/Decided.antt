-- The rule of the operation at which a semop is refused is that of the decision on the call.
use Rattle.std.proofs.Common.{◌≡◌, ℕ, ℤ, pos, Bool, true, false, cond, List, [], ◌∷◌, length, map, suc, refl, subst, sym, ap, ◌∙◌, Option, Some, None}
use Rattle.std.specs.Prelude.{Err, IfOk, Ok, Result, ◌&&◌, nat_le, nat_lt, option_and_then, option_map, if◌then◌else◌}
use Rattle.std.specs.List.{list_all}
use Rattle.std.proofs.lemmas.Option.{none-some, same_Some}
use Rattle.ipc_call.specs.declared.calls.Call.{Call}
use Rattle.ipc_call.specs.declared.calls.Call.TheVariants.{MsgGet, MsgSnd, MsgRcv, SemGet, SemOp, SemTimedOp, GetVal, GetPid, GetNcnt, GetZcnt, GetAll, SetVal, SetAll, ShmGet, ShmAt, ShmDt, ShmRead, ShmWrite, IpcStat, IpcSet, IpcRmid, Listing, Interrupt, InterruptThread, Kill, SetCreds, Assume, Begin, Fork, Clone, Name, Exec, Exit}
use Rattle.ipc_call.specs.declared.calls.SemOper.{SemOper}
use Rattle.ipc_call.specs.declared.perms.Perm.{Perm}
use Rattle.ipc_call.specs.declared.replies.Answer.{Answer}
use Rattle.ipc_call.specs.declared.replies.Answer.TheVariants.{Done}
use Rattle.ipc_call.specs.declared.rules.Rule.{Rule}
use Rattle.ipc_call.specs.declared.rules.Rule.TheVariants.{NoOperations, SemOutOfSet, TooManyOperations}
use Rattle.ipc_creds.specs.Credentials.{Credentials, cap_ipc_owner, has_capability}
use Rattle.ipc_objects.specs.declared.object.Object.{Object}
use Rattle.ipc_perm.specs.Access.{Permission, class_of, denial, permits, rule_of}
use Rattle.ipc_perm.specs.declared.access.Class.{Class}
use Rattle.ipc_perm.specs.declared.access.Class.TheVariants as classes
use Rattle.ipc_perm.specs.declared.access.Want.{Want}
use Rattle.sem_set.specs.Sets.{is_value}
use Rattle.sem_set.specs.Trials.{are_in, trial_on}
use Rattle.sem_set.specs.declared.set.Semaphore.{Semaphore}
use Rattle.sem_set.specs.declared.trials.Trial.{Trial}
use Rattle.sem_set.specs.declared.trials.Trial.TheVariants.{Go, Refuse, Wait}
use Rattle.sem_undo.specs.Entries.{adj_of}
use Rattle.ipc_model.specs.Decide.{decide_alive, part_plan}
use Rattle.ipc_model.specs.Decision.{Decision, Outcome, outcome_of}
use Rattle.ipc_model.specs.Decision as decisions
use Rattle.ipc_model.specs.Plan.{Grant, decision, in_order, unless}
use Rattle.ipc_model.specs.Semaphores.{operate, operate_found, operated, set_at, trial_checks, wanted_by}
use Rattle.ipc_model.specs.State.{Caller, Limits, SemSet, Sems, State, caller, creds_at, process_at}
use Rattle.ipc_model.proofs.Plans.{outcome-on}
use Rattle.sem_calls.proofs.Trying.{by_trial, tried}
use Rattle.call_reasons.specs.declared.trials.Stopped.{Stopped}
use Rattle.call_reasons.specs.Trials.{IsOfDecision, OfTrial, can_try_in, integers_of, is_of_trial, refusal_of, refused_at, refused_by, refused_from, refused_in}
use Rattle.call_reasons.proofs.TrialLemmas.{same-rule}

not-of-trial : (r rule : Rule) → r ≡ rule → is_of_trial r ≡ false → is_of_trial rule ≡ true → ⊥
not-of-trial r rule e plain is = let q : false ≡ true = sym plain ∙ ap is_of_trial e ∙ is in cc

abbrev refused-as : Rule → Option Outcome
refused-as r = Some (Err r)

abbrev granted-as : Answer → Option Outcome
granted-as answer = Some (Ok answer)

same-refusal : (r rule : Rule) → refused-as r ≡ refused-as rule → r ≡ rule
same-refusal r rule e = let q : refused-as r ≡ refused-as rule = e in cc

-- a refusal by a rule of the trial comes from the trial
module _ {X : Type 0} (answer : Answer) (new : X) (rule : Rule) (of : is_of_trial rule ≡ true) where
  by-the-trial : (t : Trial) → outcome_of (by_trial t (decisions.Granted answer new)) ≡ Some (Err rule) → refusal_of t ≡ Some rule
  by-the-trial Go is = absurd (let q : granted-as answer ≡ refused-as rule = is in cc)
  by-the-trial (Wait place) is = absurd (none-some _ is)
  by-the-trial (Refuse r) is = ap Some (same-refusal r rule is)

  reached : (some few inside : Bool) (denied : Option Rule) (t : Trial) → ((r : Rule) → denied ≡ Some r → is_of_trial r ≡ false)
      → outcome_of (cond some (cond few (unless denied (cond inside (by_trial t (decisions.Granted answer new)) (decisions.Refused SemOutOfSet))) (decisions.Refused TooManyOperations)) (decisions.Refused NoOperations)) ≡ Some (Err rule)
      → (inside ≡ true) × (refusal_of t ≡ Some rule)
  reached false few inside denied t plain is = absurd (not-of-trial NoOperations rule (same-refusal _ _ is) refl of)
  reached true false inside denied t plain is = absurd (not-of-trial TooManyOperations rule (same-refusal _ _ is) refl of)
  reached true true inside (Some r) t plain is = absurd (not-of-trial r rule (same-refusal _ _ is) (plain r refl) of)
  reached true true false None t plain is = absurd (not-of-trial SemOutOfSet rule (same-refusal _ _ is) refl of)
  reached true true true None t plain is = (refl, by-the-trial t is)

class-rule : (k : Class) → is_of_trial (rule_of k) ≡ false
class-rule classes.Owner = refl
class-rule classes.Group = refl
class-rule classes.Other = refl

denied-by : (b : Bool) (k : Class) (r : Rule) → (if b then None else Some (rule_of k)) ≡ Some r → is_of_trial r ≡ false
denied-by true k r e = absurd (none-some r e)
denied-by false k r e = ap is_of_trial (sym (same_Some (rule_of k) r e)) ∙ class-rule k

as-long : (sems : List Semaphore) → length (integers_of sems) ≡ length sems
as-long [] = refl
as-long (s ∷ ss) = ap (λ (n : ℕ). suc n) (as-long ss)

module _ (s : State) (client id : ℕ) (ops : List SemOper) (set : Object SemSet) (there : set_at s.sems id ≡ Some set) (values : list_all is_value (integers_of set.contents.semaphores) ≡ true) (rule : Rule) (of : is_of_trial rule ≡ true) where
  abbrev sems : List Semaphore
  sems = set.contents.semaphores

  abbrev adj : ℕ → ℤ
  adj = adj_of s.sems.undo (process_at s client) id

  abbrev who : Caller
  who = caller s client

  decided-here : outcome_of (decision (creds_at s client) (operate s.limits s.sems who id ops)) ≡ Some (Err rule) → (are_in sems ops ≡ true) × (refusal_of (trial_on sems adj ops) ≡ Some rule)
  decided-here is =
      let c = creds_at s client in
      let new = operated s.sems who id ops set.contents in
      let far = λ (o : Option (Object SemSet)). outcome_of (cond (nat_lt 0 (length ops)) (cond (nat_le (length ops) s.limits.sem_opm) (decision c (operate_found s.sems who id ops o)) (decisions.Refused TooManyOperations)) (decisions.Refused NoOperations)) in
      let near = λ (d : Decision Sems). outcome_of (cond (nat_lt 0 (length ops)) (cond (nat_le (length ops) s.limits.sem_opm) (unless (denial c (Permission set.perm (wanted_by ops))) (cond (are_in sems ops) d (decisions.Refused SemOutOfSet))) (decisions.Refused TooManyOperations)) (decisions.Refused NoOperations)) in
      reached Done new rule of (nat_lt 0 (length ops)) (nat_le (length ops) s.limits.sem_opm) (are_in sems ops) (denial c (Permission set.perm (wanted_by ops))) (trial_on sems adj ops)
      (λ r e. denied-by (permits c set.perm (wanted_by ops)) (class_of c set.perm) r e)
      (sym (ap near (tried c 0 sems adj [] ops (Grant Done new))) ∙ sym (ap far there) ∙ is)

  tried-here : (inside : Bool) → inside ≡ true → option_map (λ t. t.rule) (if inside && list_all is_value (integers_of sems) then refused_from sems adj [] ops else None) ≡ option_map (λ t. t.rule) (refused_from sems adj [] ops)
  tried-here inside e = ap (λ (b : Bool). option_map (λ t. t.rule) (if b then refused_from sems adj [] ops else None)) (λ i. e i && values i)

  told-here : (are_in sems ops ≡ true) × (refusal_of (trial_on sems adj ops) ≡ Some rule) → option_map (λ t. t.rule) (refused_at s.sems (process_at s client) id ops) ≡ Some rule
  told-here both =
      ap (λ (o : Option (Object SemSet)). option_map (λ t. t.rule) (option_and_then (λ x. refused_by (adj_of s.sems.undo (process_at s client) id) ops x.contents.semaphores) o)) there
      ∙ tried-here (list_all (λ o. nat_lt o.num (length (integers_of sems))) ops) (ap (λ (n : ℕ). list_all (λ o. nat_lt o.num n) ops) (as-long sems) ∙ both.0)
      ∙ same-rule 0 sems adj [] ops
      ∙ both.1

pub of-decision : (s : State) (client : ℕ) (call : Call) → IsOfDecision s client call (refused_in s client call)
unfolding part_plan
of-decision s client (SemOp id ops) =
    λ set rule there values is of. told-here s client id ops set there values rule of (decided-here s client id ops set there values rule of (sym (outcome-on (creds_at s client) (λ sems. record s { sems = sems }) (operate s.limits s.sems (caller s client) id ops)) ∙ ap outcome_of is))
of-decision s client (SemTimedOp id ops timeout) =
    λ set rule there values is of. told-here s client id ops set there values rule of (decided-here s client id ops set there values rule of (sym (outcome-on (creds_at s client) (λ sems. record s { sems = sems }) (operate s.limits s.sems (caller s client) id ops)) ∙ ap outcome_of is))
of-decision s client (MsgGet key flags) = tt
of-decision s client (MsgSnd id mtype text flags) = tt
of-decision s client (MsgRcv id size msgtyp flags) = tt
of-decision s client (SemGet key nsems flags) = tt
of-decision s client (GetVal id num) = tt
of-decision s client (GetPid id num) = tt
of-decision s client (GetNcnt id num) = tt
of-decision s client (GetZcnt id num) = tt
of-decision s client (GetAll id) = tt
of-decision s client (SetVal id num value) = tt
of-decision s client (SetAll id values) = tt
of-decision s client (ShmGet key size flags) = tt
of-decision s client (ShmAt id flags) = tt
of-decision s client (ShmDt att) = tt
of-decision s client (ShmRead att offset len) = tt
of-decision s client (ShmWrite att offset bytes) = tt
of-decision s client (IpcStat kind id) = tt
of-decision s client (IpcSet kind id uid gid mode qbytes) = tt
of-decision s client (IpcRmid kind id) = tt
of-decision s client (Listing kind) = tt
of-decision s client (Interrupt pid) = tt
of-decision s client (InterruptThread target) = tt
of-decision s client (Kill pid) = tt
of-decision s client (SetCreds euid egid groups) = tt
of-decision s client (Assume creds) = tt
of-decision s client (Begin pid creds) = tt
of-decision s client (Fork child pid) = tt
of-decision s client (Clone child) = tt
of-decision s client (Name pid) = tt
of-decision s client Exec = tt
of-decision s client Exit = tt

if-told : (s : State) (client : ℕ) (call : Call) (stopped : Option Stopped) → stopped ≡ refused_in s client call → IsOfDecision s client call stopped
if-told s client call stopped is = subst (IsOfDecision s client call) (sym is) (of-decision s client call)

pub all-told : (s : State) (client : ℕ) (call : Call) {E : Type 0} (r : Result (Option Stopped) E) → IfOk r (λ stopped. stopped ≡ refused_in s client call) → IfOk r (IsOfDecision s client call)
all-told s client call (Ok stopped) h = if-told s client call stopped h
all-told s client call (Err e) h = tt
