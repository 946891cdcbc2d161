use Rattle.std.proofs.Common.{subst}
use Rattle.pub_counter.specs.Service.{IsTold}
use Rattle.pub_counter.proofs.Asking.{has_reply}
use Rattle.pub_counter.proofs.service.ask.Goals as goal

pub returns-then-is_some-clause-reply : goal.returns-then-is_some-clause-reply
returns-then-is_some-clause-reply c = let u = c.loop-turns.joined.seat.me.0 in let w = c.reply_of-reply.new.joined.seat.me.0 in
    has_reply c.args.joined.now.client c.args.amount c.args.joined.now.seat.me.0 u w c.loop-turns.invariant.3 c.reply_of-reply.result (subst (λ k. IsTold k u w c.reply_of-reply.result) c.loop-turns.invariant.1 c.reply_of-reply.ensures.told)
