use Rattle.std.proofs.Common.{◌≡◌, ◌-◌}
use Rattle.pub_list.specs.Joined.{tries}
use Rattle.pub_list.proofs.Tries.{Trying}
use Rattle.pub_list.proofs.fresh.Fresh.join.Given as goal

abbrev pub invariant-loop-head : goal.invariant-loop-head
invariant-loop-head g l = (l.seat.table_id ≡ l.fn.self.seat.table_id) × Trying l.client l.list.clients l.head l.fn.self.seat.me.0.work.seen l.seat

abbrev pub decreases-loop-head : goal.decreases-loop-head
decreases-loop-head g l = l.list.clients - tries l.seat
