use Rattle.std.proofs.Common.{◌≡◌, ℕ, ◌∙◌, refl, sym, ap, ⊎_elim, arith, rules, Bor, List, length, nat_lt, Option, Some, None}
use Rattle.std.specs.Prelude.{get_or, is_some, option_copied, slice_get, IfSome}
use Rattle.std.proofs.lemmas.Option.{slice_get_past, slice_get_read}
use Rattle.ipc_call.specs.declared.calls.SemOper.{SemOper}
use Rattle.ipc_call.specs.declared.rules.Rule.{Rule}
use Rattle.ipc_objects.specs.declared.object.Object.{Object}
use Rattle.sem_set.specs.declared.trials.Trial.TheVariants as trials
use Rattle.sem_set.specs.Trials.{trial_on}
use Rattle.sem_undo.specs.Entries.{adj_of}
use Rattle.ipc_model.specs.Semaphores.{set_at, stopping}
use Rattle.ipc_model.specs.State.{SemSet}
use Rattle.ipc_model.proofs.Trial.{stops_in}
use Rattle.sem_calls.specs.WithRows.{sems_of}
use Rattle.sem_calls.proofs.Granting.{told-there}
use Rattle.sem_calls.proofs.Trying.{stops-as}
use Rattle.sem_calls.proofs.sets.Sets.stopping.Goals as goal
use Rattle.sem_calls.proofs.sets.Sets.stopping.Goals.{After-try_on}

-- what a slice gives at a place
copied : (ops : List SemOper) (place : ℕ) (r : Option (Bor SemOper)) → is_some r ≡ nat_lt place (length ops) → IfSome r (λ o. o.now ≡ get_or ops place o.now) → option_copied r ≡ slice_get ops place
copied ops place None within read = sym (slice_get_past ops place (grind (arith, within)))
copied ops place (Some o) within read = sym (slice_get_read ops (length ops) place o.now refl (grind (arith, within)) read)

stops : (c : After-try_on) → stops_in c.args.ops.now c.try_on.result ≡ stopping (sems_of c.args.self.now) c.args.process c.args.id c.args.ops.now
stops c =
    let sems = sems_of c.args.self.now in
    let ops = c.args.ops.now in
    let set : Object SemSet = c.in_ok-set.set.now in
    let there : set_at sems c.args.id ≡ Some set = search rules in
    stops-as sems c.args.process c.args.id ops set c.try_on.result there (sym (c.if-not-are_in.ensures))
    (told-there (set_at sems c.args.id) set (λ (s : Object SemSet). c.try_on.result ≡ trial_on s.contents.semaphores (adj_of sems.undo c.args.process c.args.id) ops) there c.try_on.ensures.told)

pub returns-in-Wait-clause-stop : goal.returns-in-Wait-clause-stop
returns-in-Wait-clause-stop c =
    c.copied.ensures ∙ copied c.args.ops.now c.in-Wait.place c.get-in-Wait.result c.get-in-Wait.ensures.lookup.0 c.get-in-Wait.ensures.lookup.1
    ∙ sym (ap (stops_in c.args.ops.now) c.in-Wait.is) ∙ stops (goal.at.returns-in-Wait-clause-stop c).After-try_on

pub returns-in-Go : goal.returns-in-Go
returns-in-Go c = record { stop = none; same = c.try_on.ensures.same }
  where
    none : None ≡ stopping (sems_of c.args.self.now) c.args.process c.args.id c.args.ops.now
    none =
        ⊎_elim (λ (goes : c.try_on.result ≡ trials.Go). sym (ap (stops_in c.args.ops.now) goes)) (λ (refused : (x : Rule) × (c.try_on.result ≡ trials.Refuse x)). sym (ap (stops_in c.args.ops.now) refused.1)) c.in-Go.is
        ∙ stops (goal.at.returns-in-Go c).After-try_on
