-- What follows a try after which the call is still in flight.
use Rattle.std.proofs.Common.{Ok, refl}
use Rattle.ipc_combiner.specs.declared.calls.Seen.{Seen}
use Rattle.ipc_combiner.specs.declared.calls.Seen.TheVariants.{Posted, Taken, Parked}
use Rattle.ipc_seat.specs.Raw.{Follows, Room}
use Rattle.ipc_seat.specs.Seats.{State, progress_of_seen}

pub still_follows : (seen : Seen) (mid : State) (at : Room) → Follows (Ok (progress_of_seen seen)) mid mid at at (Ok (progress_of_seen seen))
still_follows Posted mid at = (refl, refl, refl)
still_follows Taken mid at = (refl, refl, refl)
still_follows Parked mid at = (refl, refl, refl)
