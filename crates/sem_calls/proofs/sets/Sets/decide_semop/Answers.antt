use Rattle.std.proofs.Common.{◌≡◌, ℕ, sym, ap, ◌∙◌, [], length, true, arith, rules, None, Some}
use Rattle.std.specs.Prelude.{nat_le, nat_lt}
use Rattle.ipc_perm.specs.Access.{Permission, denial}
use Rattle.ipc_objects.specs.declared.object.Object.{Object}
use Rattle.ipc_call.specs.declared.rules.Rule.TheVariants.{NoOperations, SemOutOfSet, TooManyOperations}
use Rattle.ipc_call.specs.declared.replies.Answer.TheVariants.{Done}
use Rattle.ipc_perm.specs.declared.access.Want.{Want}
use Rattle.ipc_model.specs.Decision.{Decision, Refused, without_answer}
use Rattle.ipc_model.specs.Plan.{Grant, Passes, decision, in_order, ◌⨾◌}
use Rattle.ipc_model.specs.Semaphores.{operated, set_at, trial_checks, wanted_by}
use Rattle.ipc_model.specs.State.{SemSet, Sems}
use Rattle.object_calls.specs.Permitted.{permitted}
use Rattle.sem_set.specs.declared.trials.Trial.{Trial}
use Rattle.sem_set.specs.Trials.{are_in, trial_on}
use Rattle.sem_undo.specs.Entries.{adj_of}
use Rattle.sem_calls.specs.WithRows.{sems_of}
use Rattle.sem_calls.specs.Operations.{end_by, operating}
use Rattle.sem_calls.proofs.Granting.{told, told-there}
use Rattle.object_calls.proofs.Permitted.{refused-behind}
use Rattle.sem_calls.proofs.sets.Sets.decide_semop.Goals as goal

pub returns-in-Err-clause-told : goal.returns-in-Err-clause-told
returns-in-Err-clause-told c =
    let sems = sems_of c.args.self.now in
    let who = c.args.who.now in
    let ops = c.args.ops.now in
    let limits = c.args.limits.now in
    let some : nat_lt 0 (length ops) ≡ true = grind (arith, c.if-is_empty.false) in
    let few : nat_le (length ops) limits.sem_opm ≡ true = grind (arith, c.if-ops-from.false) in
    let asked : wanted_by ops ≡ c.wanted_by.result = sym c.wanted_by.ensures in
    let refused = c.in-Err.ensures.refused (λ set. Passes (are_in set.contents.semaphores ops) SemOutOfSet _
    ⨾ in_order (trial_checks set.contents.semaphores (adj_of sems.undo who.process c.args.id) [] ops)
    (Grant Done (operated sems who c.args.id ops set.contents))) in
    let all : operating limits sems who c.args.id ops ≡ Refused c.in-Err.rule =
    refused-behind (nat_lt 0 (length ops)) _ NoOperations c.in-Err.rule some
    (refused-behind (nat_le (length ops) limits.sem_opm) _ TooManyOperations c.in-Err.rule few
    (ap (λ (w : Want). decision who.creds (permitted (set_at sems c.args.id) w (λ set. Passes (are_in set.contents.semaphores ops) SemOutOfSet _
    ⨾ in_order (trial_checks set.contents.semaphores (adj_of sems.undo who.process c.args.id) [] ops)
    (Grant Done (operated sems who c.args.id ops set.contents))))) asked ∙ refused)) in
    sym (ap (λ (d : Decision Sems). without_answer d) all)

pub returns-clause-told : goal.returns-clause-told
returns-clause-told c =
    let sems = sems_of c.args.self.now in
    let who = c.args.who.now in
    let ops = c.args.ops.now in
    let set : Object SemSet = c.in-Ok.set.now in
    let some : nat_lt 0 (length ops) ≡ true = grind (arith, c.if-is_empty.false) in
    let few : nat_le (length ops) c.args.limits.now.sem_opm ≡ true = grind (arith, c.if-ops-from.false) in
    let there : set_at sems c.args.id ≡ Some set = search rules in
    let allowed : None ≡ denial who.creds (Permission set.perm (wanted_by ops)) = search rules in
    let trial : c.try_on.result ≡ trial_on set.contents.semaphores (adj_of sems.undo c.process.result c.args.id) ops =
    told-there (set_at sems c.args.id) set (λ (s : Object SemSet). c.try_on.result ≡ trial_on s.contents.semaphores (adj_of sems.undo c.process.result c.args.id) ops) there c.try_on.ensures.told in
    c.end_by.ensures
    ∙ ap (λ (t : Trial). end_by t) (trial ∙ ap (λ (client : ℕ). trial_on set.contents.semaphores (adj_of sems.undo client c.args.id) ops) c.process.ensures)
    ∙ sym (told sems who c.args.id ops c.args.limits.now set some few there allowed (sym c.if-not-are_in.ensures))
