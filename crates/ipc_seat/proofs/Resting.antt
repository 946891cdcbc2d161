-- A client that has no call in flight and no reply to take doesn't go on.
use Rattle.std.proofs.Common.{◌≡◌, Err, ap, refl}
use Rattle.ipc_call.specs.declared.replies.Reply.{Reply}
use Rattle.ipc_member.specs.declared.states.Member.{Member}
use Rattle.ipc_seat.specs.Raw.{GoesOnRaw, Room}
use Rattle.ipc_seat.specs.Seats.{Idle, IsAtRest, Left, hindrance_of, state_with}
use Rattle.ipc_seat.specs.declared.seat.Phase.{Phase}
use Rattle.ipc_seat.specs.declared.seat.Phase.TheVariants as phases
use Rattle.ipc_seat.specs.declared.seat.SeatError.{SeatError}
use Rattle.ipc_seat.specs.declared.seat.SeatError.TheVariants as errors

pub goes_not_on : (reply : Reply) (phase : Phase) (at : Room) (error : SeatError) → IsAtRest phase → ((m : Member) → phase ≡ phases.Answered m → ⊥)
    → error ≡ hindrance_of (state_with reply phase) → GoesOnRaw (state_with reply phase) (state_with reply phase) at at (Err error)
goes_not_on reply (phases.Idle m) at error rests other is = (Idle m, Err errors.NoCall, (refl, refl), (refl, refl, ap (λ e. Err e) is))
goes_not_on reply (phases.InFlight p) at error rests other is = absurd rests
goes_not_on reply (phases.Answered m) at error rests other is = absurd (other m refl)
goes_not_on reply phases.Left at error rests other is = (Left, Err errors.Left, (refl, refl), (refl, refl, ap (λ e. Err e) is))
