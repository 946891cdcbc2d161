use Rattle.std.proofs.Common.{◌≡◌, ◌++◌, map}
use Rattle.ipc_seat.specs.Openings.{state_in}
use Rattle.ipc_seat.specs.Seats.{Idle}
use Rattle.ipc_seat.proofs.opening.seated.Given as goal

abbrev pub invariant-loop-member : goal.invariant-loop-member
invariant-loop-member l =
    map state_in l.seats.items ++ map (λ m. Idle m) l.member-iterator.rest.items ≡ map (λ m. Idle m) l.fn.members.items
