-- What is decided on a semop, check by check, and what holds of one that is granted.
use Rattle.std.proofs.Common.{◌≡◌, ℕ, Bool, true, false, cond, List, [], length, refl, sym, ap, subst, ◌∙◌, Option, Some, None}
use Rattle.std.specs.Prelude.{IfSome, Result, Ok, Err, nat_le, nat_lt, option_map}
use Rattle.std.specs.FinMap as finite
use Rattle.std.specs.Result.{is_ok}
use Rattle.std.proofs.lemmas.Bool.{false≢true}
use Rattle.std.proofs.lemmas.Option.{none-some, same_Some}
use Rattle.ipc_call.specs.declared.calls.SemOper.{SemOper}
use Rattle.ipc_call.specs.declared.limits.Limits.{Limits}
use Rattle.ipc_call.specs.declared.rules.Rule.{Rule}
use Rattle.ipc_call.specs.declared.rules.Rule.TheVariants.{BadId, NoOperations, SemOutOfSet, TooManyOperations}
use Rattle.ipc_call.specs.declared.replies.Answer.{Answer}
use Rattle.ipc_call.specs.declared.replies.Answer.TheVariants.{Done}
use Rattle.ipc_perm.specs.Access.{Permission, denial}
use Rattle.ipc_ids.specs.Table.{Table}
use Rattle.ipc_objects.specs.declared.object.Object.{Object}
use Rattle.ipc_objects.specs.Objects.{contents_of}
use Rattle.sem_set.specs.declared.trials.Trial.{Trial}
use Rattle.sem_set.specs.declared.trials.Trial.TheVariants as trials
use Rattle.sem_set.specs.Trials.{are_in, trial_on}
use Rattle.sem_undo.specs.Entries.{adj_of}
use Rattle.ipc_model.specs.Decision.{Decision, without_answer}
use Rattle.ipc_model.specs.Decision as decisions
use Rattle.ipc_model.specs.Plan.{Grant, decision, unless}
use Rattle.ipc_model.specs.Semaphores.{operate_found, operated, set_at, wanted_by}
use Rattle.ipc_model.specs.State.{Caller, SemSet, Sems}
use Rattle.sem_calls.specs.Operations.{operating, end_by}
use Rattle.sem_calls.proofs.Trying.{by_trial, tried}

abbrev Granted : {X : Type 0} → Decision X → Type 0
Granted d = without_answer d ≡ Some (Ok tt)

not-refused : (rule : Rule) → ◌≡◌ {A = Option (Result Unit Rule)} (Some (Err rule)) (Some (Ok tt)) → ⊥
not-refused rule is = false≢true (ap (λ (r : Result Unit Rule). is_ok r) (same_Some (Err rule) (Ok tt) is))

module _ {X : Type 0} (P : Decision X → Type 0) where
  by-if : (b : Bool) (d : Decision X) (rule : Rule) → (b ≡ true → Granted d → P d) → Granted (cond b d (decisions.Refused rule)) → P (cond b d (decisions.Refused rule))
  by-if true d rule then is = then refl is
  by-if false d rule then is = absurd (not-refused rule is)

  by-unless : (o : Option Rule) (d : Decision X) → (Granted d → P d) → Granted (unless o d) → P (unless o d)
  by-unless None d then is = then is
  by-unless (Some rule) d then is = absurd (not-refused rule is)

-- the set is there and has the semaphores that are named, the trial goes, and all operations are done
pub record IsGranted (sems : Sems) (who : Caller) (id : ℕ) (ops : List SemOper) (d : Decision Sems) : Type 0 where
  pub set : Object SemSet
  pub there : set_at sems id ≡ Some set
  pub numbers : are_in set.contents.semaphores ops ≡ true
  pub goes : trial_on set.contents.semaphores (adj_of sems.undo who.process id) ops ≡ trials.Go
  pub left : d ≡ decisions.Granted Done (operated sems who id ops set.contents)

module _ (sems : Sems) (who : Caller) (id : ℕ) (ops : List SemOper) where
  abbrev trial_of : Object SemSet → Trial
  trial_of set = trial_on set.contents.semaphores (adj_of sems.undo who.process id) ops

  abbrev doing : Object SemSet → Decision Sems
  doing set = decisions.Granted Done (operated sems who id ops set.contents)

  abbrev numbered : Object SemSet → Decision Sems
  numbered set = cond (are_in set.contents.semaphores ops) (by_trial (trial_of set) (doing set)) (decisions.Refused SemOutOfSet)

  decided-on : (set : Object SemSet) → decision who.creds (operate_found sems who id ops (Some set)) ≡ unless (denial who.creds (Permission set.perm (wanted_by ops))) (numbered set)
  decided-on set =
      ap (λ (d : Decision Sems). unless (denial who.creds (Permission set.perm (wanted_by ops))) (cond (are_in set.contents.semaphores ops) d (decisions.Refused SemOutOfSet)))
      (tried who.creds 0 set.contents.semaphores (adj_of sems.undo who.process id) [] ops (Grant Done (operated sems who id ops set.contents)))

  granted-on : (set : Object SemSet) → set_at sems id ≡ Some set → Granted (numbered set) → IsGranted sems who id ops (numbered set)
  granted-on set there =
      by-if (IsGranted sems who id ops) (are_in set.contents.semaphores ops) (by_trial (trial_of set) (doing set)) SemOutOfSet
      (λ numbers. λ is. in_set numbers (trial_of set) refl is)
    where
      in_set : are_in set.contents.semaphores ops ≡ true → (t : Trial) → trial_of set ≡ t → Granted (by_trial t (doing set)) → IsGranted sems who id ops (by_trial t (doing set))
      in_set numbers trials.Go goes is = record { set = set; there = there; numbers = numbers; goes = goes; left = refl }
      in_set numbers (trials.Wait place) goes is = absurd (none-some (Ok tt) is)
      in_set numbers (trials.Refuse rule) goes is = absurd (not-refused rule is)

  granted-found : (o : Option (Object SemSet)) → set_at sems id ≡ o → Granted (decision who.creds (operate_found sems who id ops o)) → IsGranted sems who id ops (decision who.creds (operate_found sems who id ops o))
  granted-found None there is = absurd (not-refused BadId is)
  granted-found (Some set) there is =
      subst (IsGranted sems who id ops) (sym (decided-on set))
      (by-unless (IsGranted sems who id ops) (denial who.creds (Permission set.perm (wanted_by ops))) (numbered set) (granted-on set there) (subst Granted (decided-on set) is))

  -- what holds of a semop that is granted
  pub granted : (limits : Limits) → Granted (operating limits sems who id ops) → IsGranted sems who id ops (operating limits sems who id ops)
  granted limits =
      by-if (IsGranted sems who id ops) (nat_lt 0 (length ops)) _ NoOperations
      (λ some. by-if (IsGranted sems who id ops) (nat_le (length ops) limits.sem_opm) _ TooManyOperations (λ few. granted-found (set_at sems id) refl))

  ends : {X : Type 0} (t : Trial) (answer : Answer) (new : X) → without_answer (by_trial t (decisions.Granted answer new)) ≡ end_by t
  ends trials.Go answer new = refl
  ends (trials.Wait place) answer new = refl
  ends (trials.Refuse rule) answer new = refl

  -- where the other checks pass, its trial decides
  pub told : (limits : Limits) (set : Object SemSet) → nat_lt 0 (length ops) ≡ true → nat_le (length ops) limits.sem_opm ≡ true → set_at sems id ≡ Some set
      → None ≡ denial who.creds (Permission set.perm (wanted_by ops)) → are_in set.contents.semaphores ops ≡ true
      → without_answer (operating limits sems who id ops) ≡ end_by (trial_of set)
  told limits set some few there allowed numbers =
      ap (λ (d : Decision Sems). without_answer d)
      (ap (λ (b : Bool). cond b (cond (nat_le (length ops) limits.sem_opm) (decision who.creds (operate_found sems who id ops (set_at sems id))) (decisions.Refused TooManyOperations)) (decisions.Refused NoOperations)) some
      ∙ ap (λ (b : Bool). cond b (decision who.creds (operate_found sems who id ops (set_at sems id))) (decisions.Refused TooManyOperations)) few
      ∙ ap (λ (o : Option (Object SemSet)). decision who.creds (operate_found sems who id ops o)) there
      ∙ decided-on set
      ∙ ap (λ (o : Option Rule). unless o (numbered set)) (sym allowed)
      ∙ ap (λ (b : Bool). cond b (by_trial (trial_of set) (doing set)) (decisions.Refused SemOutOfSet)) numbers)
      ∙ ends (trial_of set) Done (operated sems who id ops set.contents)

-- what is said of a set that is there
pub told-there : {X : Type 0} (o : Option X) (x : X) (P : X → Type 0) → o ≡ Some x → IfSome o P → P x
told-there o x P there is = subst (λ p. IfSome p P) there is

-- the contents that are lent are those of the set
pub contents-are : (t : Table (Object SemSet)) (now : Table (Object SemSet)) (id : ℕ) (set : Object SemSet) (old : SemSet) → t ≡ now → finite.get now.objects id ≡ Some set → Some old ≡ contents_of t id → old ≡ set.contents
contents-are t now id set old view there is =
    same_Some old set.contents (is ∙ ap (λ (u : Table (Object SemSet)). contents_of u id) view ∙ ap (option_map (λ (o : Object SemSet). o.contents)) there)
