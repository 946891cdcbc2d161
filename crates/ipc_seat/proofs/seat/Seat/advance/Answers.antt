use Rattle.std.proofs.Common.{Ok, Result, ap, refl, subst}
use Rattle.ipc_member.specs.declared.calls.Looked.TheVariants.{Done, Still}
use Rattle.ipc_seat.specs.Seats.{Advances, InFlight, state_with}
use Rattle.ipc_seat.specs.declared.calls.Progress.{Progress}
use Rattle.ipc_seat.specs.declared.calls.Progress.TheVariants as progress
use Rattle.ipc_seat.specs.declared.seat.Phase.{Phase}
use Rattle.ipc_seat.specs.declared.seat.SeatError.{SeatError}
use Rattle.ipc_seat.proofs.seat.Seat.advance.Goals as goal

pub returns-in-Done : goal.returns-in-Done
returns-in-Done c =
    let done : Result Progress SeatError = Ok progress.Answered in
    subst (λ (p : Phase). Advances (state_with c.args.self.now.reply p) (state_with c.keep.new.self.reply c.keep.new.self.phase) done) c.in-InFlight.ensures.value
    (Done c.in-Done.member c.in-Done.reply, c.in-Done.ensures, c.keep.ensures, refl)

pub returns-in-Still : goal.returns-in-Still
returns-in-Still c =
    let gives : Progress → Result Progress SeatError = λ p. Ok p in
    subst (λ (p : Phase). Advances (state_with c.args.self.now.reply p) (InFlight c.in-Still.posted) (gives c.of_seen.result)) c.in-InFlight.ensures.value
    (Still c.in-Still.posted c.in-Still.seen, c.in-Still.ensures, refl, ap gives c.of_seen.ensures)
