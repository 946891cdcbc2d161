use Rattle.std.proofs.Common.{◌≡◌, ℕ, ◌<◌, List, sym, ap, subst, ◌∙◌, true}
use Rattle.std.specs.List.{AllByRecursion}
use Rattle.ipc_objects.specs.Objects.{with_contents}
use Rattle.ipc_model.specs.Decision.{Decision, left_by}
use Rattle.ipc_model.specs.Semaphores.{lowered}
use Rattle.ipc_model.specs.State.{SemSet, Sems}
use Rattle.sem_set.specs.declared.set.Semaphore.{Semaphore}
use Rattle.sem_set.specs.declared.trials.Trial.TheVariants.{Go}
use Rattle.sem_set.specs.Trials.{committed, trial_on, undoes}
use Rattle.sem_undo.specs.Entries.{Undone, adj_of, row_len}
use Rattle.sem_calls.specs.WithRows.{SetsWithRows, sems_of}
use Rattle.sem_calls.specs.Operations.{StayInRange}
use Rattle.sem_calls.proofs.Granting.{contents-are, granted}
use Rattle.sem_calls.proofs.Ranging.{stays-on}
use Rattle.sem_calls.proofs.sets.Sets.operate.Goals as goal

pub commit-requires-clause-go : goal.commit-requires-clause-go
commit-requires-clause-go c =
    let sems = sems_of c.args.self.now in
    let who = c.args.who.now in
    let g = granted sems who c.args.id c.args.ops.now c.requires.granted.0 c.requires.granted.1 in
    let are = ap (λ (s : SemSet). s.semaphores) (c.set.view_is ∙ contents-are c.self.inside.sets sems.sets c.args.id g.set c.in-Some.set.now (ap (λ (h : SetsWithRows). h.sets) c.self.view_is) g.there c.in-Some.ensures.value) in
    (adj_of sems.undo who.process c.args.id, subst (λ (ss : List Semaphore). trial_on ss (adj_of sems.undo who.process c.args.id) c.args.ops.now ≡ Go) (sym are) g.goes)

pub lower_all-requires-clause-row : goal.lower_all-requires-clause-row
lower_all-requires-clause-row c =
    let len : row_len c.self.inside.undo c.process-process.result c.args.id ≡ row_len c.args.self.now.undone c.args.who.now.process c.args.id =
    ap (λ (k : ℕ). row_len c.self.inside.undo k c.args.id) c.process-process.ensures ∙ ap (λ (h : SetsWithRows). row_len h.undone c.args.who.now.process c.args.id) c.self.view_is in
    subst (λ (n : ℕ). AllByRecursion (λ o. undoes o ≡ true → o.num < n) c.args.ops.now) (sym len) c.requires.row

pub lower_all-requires-clause-range : goal.lower_all-requires-clause-range
lower_all-requires-clause-range c =
    let sems = sems_of c.args.self.now in
    let who = c.args.who.now in
    let g = granted sems who c.args.id c.args.ops.now c.requires.granted.0 c.requires.granted.1 in
    subst (λ (u : Undone). StayInRange u.entries c.process-process.result c.args.id c.args.ops.now) (sym (ap (λ (h : SetsWithRows). h.undone) c.self.view_is))
    (subst (λ (k : ℕ). StayInRange sems.undo k c.args.id c.args.ops.now) (sym c.process-process.ensures) (stays-on g.set.contents.semaphores sems.undo who.process c.args.id c.args.ops.now g.goes))

pub returns-clause-sems : goal.returns-clause-sems
returns-clause-sems c limits is =
    let sems = sems_of c.args.self.now in
    let who = c.args.who.now in
    let id = c.args.id in
    let ops = c.args.ops.now in
    let g = granted sems who id ops limits is in
    let are = ap (λ (s : SemSet). s.semaphores) (c.set.view_is ∙ contents-are c.self.inside.sets sems.sets id g.set c.in-Some.set.now (ap (λ (h : SetsWithRows). h.sets) c.self.view_is) g.there c.in-Some.ensures.value) in
    let done : c.commit.new.self ≡ committed ops who.pid g.set.contents.semaphores =
    c.commit.ensures ∙ ap (λ (p : ℕ). committed ops p c.set.inside.semaphores) c.pid.ensures ∙ ap (λ (ss : List Semaphore). committed ops who.pid ss) are in
    let less : c.lower_all.new.undo.entries ≡ lowered sems.undo who.process id ops =
    ap (λ (u : Undone). u.entries) c.lower_all.ensures ∙ ap (λ (k : ℕ). lowered c.self.inside.undo.entries k id ops) c.process-process.ensures ∙ ap (λ (h : SetsWithRows). lowered h.undone.entries who.process id ops) c.self.view_is in
    let all : sems_of (record { sets = with_contents c.self.inside.sets id (record { semaphores = c.commit.new.self; op_time = c.now-set-inside.result }); undone = c.lower_all.new.undo })
    ≡ record { sets = with_contents sems.sets id (record { semaphores = committed ops who.pid g.set.contents.semaphores; op_time = who.now }); undo = lowered sems.undo who.process id ops } =
    λ i. record { sets = with_contents (c.self.view_is i).sets id (record { semaphores = done i; op_time = c.now-set-inside.ensures i }); undo = less i } in
    all ∙ sym (ap (λ (d : Decision Sems). left_by sems d) g.left)
