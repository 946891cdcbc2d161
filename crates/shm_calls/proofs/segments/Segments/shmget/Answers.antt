use Rattle.std.proofs.Common.{◌∙◌, ap, sym}
use Rattle.ipc_model.specs.Gets.{object_of_key}
use Rattle.ipc_model.specs.State.{Shared}
use Rattle.shm_calls.proofs.Leaving.{left-found, outcome-found}
use Rattle.shm_calls.proofs.segments.Segments.shmget.Goals as goal

pub returns-in-Some-clause-outcome : goal.returns-in-Some-clause-outcome
returns-in-Some-clause-outcome c =
    let s = c.args.self.now in
    let limits = c.args.limits.now in
    let there = c.in-Some.ensures.found ∙ ap (λ (x : Shared). object_of_key x.segments c.args.asked.get.key) c.self.view_is in
    outcome-found c.args.who.now.creds limits s c.args.who.now c.args.asked.get c.args.asked.size (c.in-Some.id, c.in-Some.segment.now) there
    ∙ c.found_segment.ensures s.segments limits c.args.asked.get.key

pub returns-in-Some-clause-shared : goal.returns-in-Some-clause-shared
returns-in-Some-clause-shared c =
    let there = c.in-Some.ensures.found ∙ ap (λ (x : Shared). object_of_key x.segments c.args.asked.get.key) c.self.view_is in
    sym (left-found c.args.who.now.creds c.args.limits.now c.args.self.now c.args.who.now c.args.asked.get c.args.asked.size (c.in-Some.id, c.in-Some.segment.now) there)
