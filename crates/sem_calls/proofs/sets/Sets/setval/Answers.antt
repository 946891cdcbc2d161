use Rattle.std.proofs.Common.{◌≡◌, ℕ, ℤ, true, ap, sym, ◌∙◌, rules, arith}
use Rattle.std.specs.Prelude.{◌==◌, length, nat_lt, slice_set}
use Rattle.ipc_call.specs.declared.rules.Rule.TheVariants.{BadSem, ValueRange}
use Rattle.ipc_call.specs.declared.replies.Answer.TheVariants.{Done}
use Rattle.ipc_objects.specs.declared.object.Object.{Object}
use Rattle.ipc_model.specs.Decision.{Decision, Refused, left_by, outcome_of}
use Rattle.ipc_model.specs.Plan.{Grant, Passes, Plan, ◌⨾◌}
use Rattle.ipc_model.specs.Semaphores.{with_values}
use Rattle.ipc_model.specs.State.{Caller, SemSet, Sems}
use Rattle.sem_set.specs.Sets.{is_value, set_to}
use Rattle.sem_calls.specs.Calls.{setting}
use Rattle.sem_calls.specs.WithRows.{sems_of}
use Rattle.object_calls.proofs.Permitted.{refused-behind}
use Rattle.sem_calls.proofs.sets.Sets.setval.Goals as goal

-- what is checked of the set, and what is granted
abbrev behind_value : Sems → Caller → ℕ → ℕ → ℤ → Object SemSet → Plan Sems
behind_value sems who id num value set = Passes (nat_lt num (length set.contents.semaphores)) BadSem _ ⨾ Grant Done (with_values sems who.now id
    (slice_set set.contents.semaphores num (set_to who.pid value)) (λ n. n == num))

pub returns-in_err-set-clause-outcome : goal.returns-in_err-set-clause-outcome
returns-in_err-set-clause-outcome c =
    let sems = sems_of c.args.self.now in
    let who = c.args.who.now in
    let fine : is_value c.args.value ≡ true = search rules in
    let refused = c.in_err-set.ensures.refused (behind_value sems who c.args.id c.args.num c.args.value) in
    let all : setting sems who c.args.id c.args.num c.args.value ≡ Refused (c.in_err-set.field-0.0) = refused-behind (is_value c.args.value) _ ValueRange (c.in_err-set.field-0.0) fine refused in
    ap (λ (d : Decision Sems). outcome_of d) all ∙ grind arith

pub returns-in_err-set-clause-sems : goal.returns-in_err-set-clause-sems
returns-in_err-set-clause-sems c =
    let sems = sems_of c.args.self.now in
    let who = c.args.who.now in
    let fine : is_value c.args.value ≡ true = search rules in
    let refused = c.in_err-set.ensures.refused (behind_value sems who c.args.id c.args.num c.args.value) in
    let all : setting sems who c.args.id c.args.num c.args.value ≡ Refused (c.in_err-set.field-0.0) = refused-behind (is_value c.args.value) _ ValueRange (c.in_err-set.field-0.0) fine refused in
    ap (λ (d : Decision Sems). left_by sems d) (sym all)
