use Rattle.std.proofs.Common.{◌≡◌, ◌++◌, pos, length, drop, map, box_value}
use Rattle.ipcsh_c.proofs.hand_out.Given as goal

abbrev pub invariant-loop-seat : goal.invariant-loop-seat
invariant-loop-seat l =
    (l.handed.seats ++ map box_value l.seat-iterator.rest.items ≡ map box_value l.fn.seats.items)
    × (l.handles ≡ l.handed.handles ++ drop l.at l.fn.handles)
    × (l.at ≡ length l.handed.handles) × (l.at ≡ length l.handed.seats) × (l.handed.code ≡ pos 0)
