use Rattle.std.proofs.Common.{Ok, Result, ap, refl, subst}
use Rattle.ipc_seat.specs.Seats.{Posts, state_of, state_with}
use Rattle.ipc_seat.specs.declared.seat.Phase.{Phase}
use Rattle.ipc_seat.specs.declared.seat.SeatError.{SeatError}
use Rattle.ipc_seat.proofs.seat.Seat.post.Goals as goal

pub returns : goal.returns
returns c =
    let posted = c.post.result in let done : Result (Unit {0}) SeatError = Ok tt in
    subst (λ (p : Phase). Posts (state_with c.args.self.now.reply p) c.args.now c.args.call (state_of c.settle.new.self) done) c.in-Idle-replace.ensures.value
    (posted, (c.post.ensures.service, c.post.ensures.client, c.post.ensures.posted), ap state_of c.settle.ensures, refl)
