-- A process whose semadj at a set are all 0 owes it nothing.
use Rattle.std.proofs.Common.{◌≡◌, ◌<◌, ◌≤◌, ◌∙◌, ℕ, ◌+◌, ap, refl, ℤ, Bool, true, false, List, [], ◌∷◌}
use Rattle.std.specs.Prelude.{pos, Option, Some, None, IfNone, IfSome, option_map, unwrap_or, if◌then◌else◌}
use Rattle.std.specs.Ordering.{int_eq}
use Rattle.ipc_objects.specs.declared.object.Object.{Object}
use Rattle.sem_set.specs.Exits.{any_from}
use Rattle.sem_set.specs.declared.set.Semaphore.{Semaphore}
use Rattle.sem_undo.specs.Entries.{adj_of}
use Rattle.ipc_model.specs.Semaphores.{set_at}
use Rattle.ipc_model.specs.State.{SemSet, Sems}
use Rattle.ipc_model.specs.Touched.{owes}

none_from : (adj : ℕ → ℤ) (num : ℕ) (ss : List Semaphore) → ((n : ℕ) → adj n ≡ pos 0) → any_from adj num ss ≡ false
none_from adj num [] zero = refl
none_from adj num (s ∷ ss) zero =
    ap (λ z. if int_eq z (pos 0) then any_from adj (num + 1) ss else true) (zero num) ∙ none_from adj (num + 1) ss zero

module _ (sems : Sems) (process : ℕ) where
  owes_none : (id : ℕ) → ((num : ℕ) → adj_of sems.undo process id num ≡ pos 0) → owes sems process id ≡ false
  owes_none id zero = by (set_at sems id)
    where
      by : (o : Option (Object SemSet)) → unwrap_or (option_map (λ (set : Object SemSet). any_from (adj_of sems.undo process id) 0 set.contents.semaphores) o) false ≡ false
      by None = refl
      by (Some set) = none_from (adj_of sems.undo process id) 0 set.contents.semaphores zero

  pub none_clause : (from : ℕ) (r : Option ℕ) → IfNone r ((set num : ℕ) → from ≤ set → adj_of sems.undo process set num ≡ pos 0) → IfNone r ((id : ℕ) → from ≤ id → owes sems process id ≡ false)
  none_clause from None h = λ id le. owes_none id (λ num. h id num le)
  none_clause from (Some next) h = h

  pub least_clause : (from : ℕ) (r : Option ℕ) → IfSome r (λ next. (set num : ℕ) → from ≤ set → set < next → adj_of sems.undo process set num ≡ pos 0)
      → IfSome r (λ next. (id : ℕ) → from ≤ id → id < next → owes sems process id ≡ false)
  least_clause from None h = h
  least_clause from (Some next) h = λ id le lt. owes_none id (λ num. h id num le lt)
