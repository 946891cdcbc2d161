-- What shmget with a key that a segment has leaves, and how it ends.
use Rattle.std.proofs.Common.{◌≡◌, ◌∙◌, ℕ, refl, ap, sym, Some, Option}
use Rattle.ipc_call.specs.declared.limits.Limits.{Limits}
use Rattle.ipc_creds.specs.Credentials.{Credentials}
use Rattle.ipc_ids.specs.Table.{Table}
use Rattle.ipc_objects.specs.declared.object.Object.{Object}
use Rattle.ipc_model.specs.State.{Caller, Segment, Shared}
use Rattle.ipc_model.specs.Decision.{left_by, outcome_of}
use Rattle.ipc_model.specs.Gets.{Get, get_found, get_segment, getting_segment, object_of_key}
use Rattle.ipc_model.specs.Plan.{Plan, decision, on_part}
use Rattle.ipc_model.proofs.Plans.{by-end, end_of, outcome-on}

module _ (c : Credentials) (limits : Limits) (shared : Shared) (who : Caller) (asked : Get) (size : ℕ) (there : ℕ × Object Segment) (is : Some there ≡ object_of_key shared.segments asked.key) where
  abbrev put : Table (Object Segment) → Shared
  put segments = record shared { segments = segments }

  abbrev found_by : Option (ℕ × Object Segment) → Plan (Table (Object Segment))
  found_by o = get_found shared.segments who asked (getting_segment limits who.pid size) o

  pub left-found : left_by shared (decision c (get_segment limits shared who asked size)) ≡ shared
  left-found =
      by-end c (λ d. left_by shared d ≡ shared) (λ rule. refl) refl (get_segment limits shared who asked size)
      (ap (λ o. left_by shared (end_of (on_part put (found_by o)))) (sym is))

  -- it ends as it does with that segment
  pub outcome-found : outcome_of (decision c (get_segment limits shared who asked size)) ≡ outcome_of (decision c (get_found shared.segments who asked (getting_segment limits who.pid size) (Some there)))
  outcome-found =
      outcome-on c put (found_by (object_of_key shared.segments asked.key))
      ∙ ap (λ (o : Option (ℕ × Object Segment)). outcome_of (decision c (found_by o))) (sym is)
