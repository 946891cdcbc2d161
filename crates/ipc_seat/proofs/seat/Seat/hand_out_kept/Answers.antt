use Rattle.std.proofs.Common.{Ok, refl, subst}
use Rattle.ipc_call.specs.declared.replies.Reply.{Reply}
use Rattle.ipc_seat.specs.Raw.{GoesOnRaw, HandsOut, room}
use Rattle.ipc_seat.specs.Seats.{Answered, state_with}
use Rattle.ipc_seat.specs.declared.calls.Progress.TheVariants as progress
use Rattle.ipc_seat.specs.declared.seat.Phase.{Phase}
use Rattle.ipc_seat.proofs.Resting.{goes_not_on}
use Rattle.ipc_seat.proofs.seat.Seat.hand_out_kept.Goals as goal

pub returns-in_default : goal.returns-in_default
returns-in_default c =
    let v = c.args.self.now in let at = room c.args.out.now c.args.bytes.now c.args.values.now c.args.objects.now in
    goes_not_on v.reply v.phase at c.hindrance.result c.requires c.in_default.not-Answered c.hindrance.ensures

pub returns : goal.returns
returns c =
    let before = room c.args.out.now c.args.bytes.now c.args.values.now c.args.objects.now in
    let after = room c.hand_out.new.out c.hand_out.new.bytes c.hand_out.new.values c.hand_out.new.objects in
    let v = c.args.self.now in let w = c.hand_out.new.self in let m = c.in-Answered-replace.member in let new = state_with w.reply w.phase in
    let hands = subst (λ (r : Reply). HandsOut (Answered m r) new before after c.hand_out.result) c.replace-reply.ensures.value c.hand_out.ensures in
    subst (λ (p : Phase). GoesOnRaw (state_with v.reply p) new before after c.hand_out.result) c.in-Answered-replace.ensures.value
    (Answered m v.reply, Ok progress.Answered, (refl, refl), hands)
