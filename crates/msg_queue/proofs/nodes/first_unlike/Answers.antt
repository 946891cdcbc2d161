use Rattle.std.proofs.Common.{◌≡◌, ◌-◌, ◌+◌, suc, ap, sym, ◌∙◌, arith}
use Rattle.std.specs.Option.{option_copied}
use Rattle.msg_queue.proofs.First.{first_found, first_later}
use Rattle.msg_queue.proofs.nodes.first_unlike.Goals as goal

pub returns-then-is_unlike : goal.returns-then-is_unlike
returns-then-is_unlike c =
    let left : c.len-end.result - c.loop.counter ≡ suc (c.len-end.result - (c.loop.counter + 1)) = omega (arith, c.loop-test.true) in
    let at = sym c.get.ensures ∙ c.in-Some.is in
    at ∙ first_found c.args.nodes.now _ _ c.loop.at c.in-Some.place c.in-Some-get.node.now c.args.other.now.mtype _ _ left at (sym c.get-in-loop.ensures ∙ ap option_copied c.in-Some-get.is) c.is_unlike.ensures c.if-is_unlike.true c.loop.invariant

pub loop-preserved : goal.loop-preserved
loop-preserved c =
    let left : c.len-end.result - c.loop.counter ≡ suc (c.len-end.result - (c.loop.counter + 1)) = omega (arith, c.loop-test.true) in
    first_later c.args.nodes.now _ _ c.loop.at c.in-Some.place c.in-Some-get.node.now _ _ _ left (sym c.get.ensures ∙ c.in-Some.is) (sym c.get-in-loop.ensures ∙ ap option_copied c.in-Some-get.is) c.is_unlike.ensures c.if-is_unlike.false c.loop.invariant
