use Rattle.std.proofs.Common.{ℕ, Option, drop}
use Rattle.ipc_parked.specs.Parked.{MayAsk, Answers, Picks, on_object}
use Rattle.ipc_parked.proofs.parked.Parked.on_object.Given as goal

-- what is picked from this index on is picked of all that wait on the object
abbrev pub invariant-loop-index : goal.invariant-loop-index
invariant-loop-index g l =
    MayAsk (goal.F-pre g l.test) (drop l.index (on_object l.kind l.id l.self))
    × ((client : Option ℕ) → Picks (Answers (goal.F-post g l.test)) (drop l.index (on_object l.kind l.id l.self)) client → Picks (Answers (goal.F-post g l.test)) (on_object l.kind l.id l.self) client)
