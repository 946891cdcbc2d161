use Rattle.std.proofs.Common.{Ok, Result, ap, refl, subst, sym}
use Rattle.ipc_member.specs.declared.calls.Looked.TheVariants.{Done, Still}
use Rattle.ipc_seat.specs.Raw.{Follows, GoesOnRaw, room}
use Rattle.ipc_seat.specs.Seats.{Answered, InFlight, State, progress_of_seen, state_of, state_with}
use Rattle.ipc_seat.specs.declared.calls.Progress.{Progress}
use Rattle.ipc_seat.specs.declared.calls.Progress.TheVariants as progress
use Rattle.ipc_seat.specs.declared.seat.Phase.{Phase}
use Rattle.ipc_seat.specs.declared.seat.SeatError.{SeatError}
use Rattle.ipc_seat.proofs.Following.{still_follows}
use Rattle.ipc_seat.proofs.seat.Seat.advance_raw.Goals as goal

abbrev Came : Type 0
Came = Result Progress SeatError

pub returns-in-Done : goal.returns-in-Done
returns-in-Done c =
    let before = room c.args.reply.now c.args.bytes.now c.args.values.now c.args.objects.now in
    let after = room c.hand_out.new.out c.hand_out.new.bytes c.hand_out.new.values c.hand_out.new.objects in
    let seat = c.hand_out.new.self in
    let mid : State = Answered c.in-Done.member c.in-Done.answer in
    subst (λ (p : Phase). GoesOnRaw (state_with c.args.self.now.reply p) (state_with seat.reply seat.phase) before after c.hand_out.result) c.in-InFlight-replace.ensures.value
    (mid, Ok progress.Answered, (Done c.in-Done.member c.in-Done.answer, c.in-Done.ensures, refl, refl), c.hand_out.ensures)

pub returns-in-Still : goal.returns-in-Still
returns-in-Still c =
    let at = room c.args.reply.now c.args.bytes.now c.args.values.now c.args.objects.now in
    let gives : Progress → Came = λ p. Ok p in let mid : State = InFlight c.in-Still.posted in let told = gives (progress_of_seen c.in-Still.seen) in
    subst (λ (p : Phase). GoesOnRaw (state_with c.args.self.now.reply p) (state_of c.settle.new.self) at at (gives c.of_seen.result)) c.in-InFlight-replace.ensures.value (
      mid,
      told,
      (Still c.in-Still.posted c.in-Still.seen, c.in-Still.ensures, refl, refl),
      subst (λ (s : State). Follows told mid s at at (gives c.of_seen.result)) (sym (ap state_of c.settle.ensures))
          (subst (λ (p : Progress). Follows told mid mid at at (gives p)) (sym c.of_seen.ensures) (still_follows c.in-Still.seen mid at)),
    )

pub returns-in_default : goal.returns-in_default
returns-in_default c = c.hand_out_kept.ensures
