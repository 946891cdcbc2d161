-- What a call on a set leaves that changes none.
use Rattle.std.proofs.Common.{◌≡◌, ◌∙◌, ℕ, refl, ap, sym, Some, Option}
use Rattle.ipc_call.specs.declared.limits.Limits.{Limits}
use Rattle.ipc_creds.specs.Credentials.{Credentials}
use Rattle.ipc_ids.specs.Table.{Table}
use Rattle.ipc_objects.specs.declared.object.Object.{Object}
use Rattle.ipc_model.specs.State.{Caller, SemSet, Sems}
use Rattle.ipc_model.specs.Decision.{left_by, outcome_of}
use Rattle.ipc_model.specs.Gets.{Get, get_found, get_set, getting_set, object_of_key}
use Rattle.ipc_model.specs.Plan.{decision, on_part}
use Rattle.ipc_model.proofs.Plans.{by-end, end_of, outcome-on}

module _ (c : Credentials) (limits : Limits) (sems : Sems) (who : Caller) (asked : Get) (nsems : ℕ) (there : ℕ × Object SemSet) (is : Some there ≡ object_of_key sems.sets asked.key) where
  -- semget with a key that a set has leaves all sets
  pub left-found : left_by sems (decision c (get_set limits sems who asked nsems)) ≡ sems
  left-found =
      by-end c (λ d. left_by sems d ≡ sems) (λ rule. refl) refl (get_set limits sems who asked nsems)
      (ap (λ o. left_by sems (end_of (on_part (λ (sets : Table (Object SemSet)). record sems { sets = sets }) (get_found sems.sets who asked (getting_set nsems) o)))) (sym is))

  -- it ends as it does with that set
  pub outcome-found : outcome_of (decision c (on_part (λ (sets : Table (Object SemSet)). record sems { sets = sets }) (get_found sems.sets who asked (getting_set nsems) (object_of_key sems.sets asked.key))))
      ≡ outcome_of (decision c (get_found sems.sets who asked (getting_set nsems) (Some there)))
  outcome-found =
      outcome-on c (λ (sets : Table (Object SemSet)). record sems { sets = sets }) (get_found sems.sets who asked (getting_set nsems) (object_of_key sems.sets asked.key))
      ∙ ap (λ (o : Option (ℕ × Object SemSet)). outcome_of (decision c (get_found sems.sets who asked (getting_set nsems) o))) (sym is)
