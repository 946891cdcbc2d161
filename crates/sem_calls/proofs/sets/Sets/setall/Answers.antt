use Rattle.std.proofs.Common.{◌≡◌, ℕ, ℤ, List, true, ap, sym, ◌∙◌, rules, arith}
use Rattle.std.specs.Prelude.{◌==◌, length, map}
use Rattle.std.specs.List.{list_all}
use Rattle.ipc_call.specs.declared.rules.Rule.TheVariants.{BadSize, ValueRange}
use Rattle.ipc_call.specs.declared.replies.Answer.TheVariants.{Done}
use Rattle.ipc_objects.specs.declared.object.Object.{Object}
use Rattle.ipc_model.specs.Decision.{Decision, Refused, left_by, outcome_of}
use Rattle.ipc_model.specs.Plan.{Grant, Passes, Plan, ◌⨾◌}
use Rattle.ipc_model.specs.Semaphores.{with_values}
use Rattle.ipc_model.specs.State.{Caller, SemSet, Sems}
use Rattle.sem_set.specs.Sets.{is_value, set_to}
use Rattle.sem_calls.specs.Calls.{setting_all}
use Rattle.sem_calls.specs.WithRows.{sems_of}
use Rattle.object_calls.proofs.Permitted.{refused-behind}
use Rattle.sem_calls.proofs.sets.Sets.setall.Goals as goal

-- what is checked of the set, and what is granted
abbrev behind_values : Sems → Caller → ℕ → List ℤ → Object SemSet → Plan Sems
behind_values sems who id values set = Passes (length values == length set.contents.semaphores) BadSize _ ⨾ Grant Done
    (with_values sems who.now id (map (set_to who.pid) values) (λ _. true))

pub returns-in_err-set-clause-outcome : goal.returns-in_err-set-clause-outcome
returns-in_err-set-clause-outcome c =
    let sems = sems_of c.args.self.now in
    let who = c.args.who.now in
    let values = c.args.values.now in
    let fine : list_all is_value values ≡ true = search rules in
    let refused = c.in_err-set.ensures.refused (behind_values sems who c.args.id values) in
    let all : setting_all sems who c.args.id values ≡ Refused (c.in_err-set.field-0.0) = refused-behind (list_all is_value values) _ ValueRange (c.in_err-set.field-0.0) fine refused in
    ap (λ (d : Decision Sems). outcome_of d) all ∙ grind arith

pub returns-in_err-set-clause-sems : goal.returns-in_err-set-clause-sems
returns-in_err-set-clause-sems c =
    let sems = sems_of c.args.self.now in
    let who = c.args.who.now in
    let values = c.args.values.now in
    let fine : list_all is_value values ≡ true = search rules in
    let refused = c.in_err-set.ensures.refused (behind_values sems who c.args.id values) in
    let all : setting_all sems who c.args.id values ≡ Refused (c.in_err-set.field-0.0) = refused-behind (list_all is_value values) _ ValueRange (c.in_err-set.field-0.0) fine refused in
    ap (λ (d : Decision Sems). left_by sems d) (sym all)
