use Rattle.std.proofs.Common.{◌≡◌, ℕ, ◌+◌, ◌-◌, ◌<◌, ◌≤◌, length, take}
use Rattle.pub_rule.specs.Lists.{IsOn}
use Rattle.pub_list.specs.Clients.{view, work, seen, told, IsSame}
use Rattle.pub_list.specs.Passing.{IsServing, IsAsFar, KeepsMarks}
use Rattle.pub_list.proofs.Marking.{HasVisited, HasServed}
use Rattle.pub_list.proofs.Walks.{IsAt}
use Rattle.pub_list.proofs.joined.Joined.combine_with.Given as goal

abbrev pub invariant-loop-at : goal.invariant-loop-at
invariant-loop-at g l = IsSame l.fn.self l.self × IsServing g.S.Served.history g.S.Served.legal g.S.Served.replies l.list.clients (view l.self) l.state × IsAsFar (view l.fn.self) (view l.self) × KeepsMarks (view l.fn.self) (view l.self) × (told l.self ≡ told l.fn.self)
    × ((work l.self).begun ≡ (work l.fn.self).begun + 1) × ((work l.self).met ≡ (work l.fn.self).met) × HasVisited (take l.visited (seen l.self)) (view l.fn.self) (view l.self) × HasServed l.fn.self.client (view l.fn.self) (take l.visited (seen l.self)) (view l.self)
    × IsAt l.list.clients (seen l.self) l.visited l.at × IsOn l.fn.self.client (seen l.self) × ((q : _) → IsOn q (told l.fn.self) → IsOn q (seen l.self))
    × ((k : ℕ) → 1 ≤ k → k < l.visited → g.G.PassGate.was_told l.gate k l.list.clients)

abbrev pub decreases-loop-at : goal.decreases-loop-at
decreases-loop-at g l = length (seen l.self) - l.visited
