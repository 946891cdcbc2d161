use Rattle.std.proofs.Common.{◌++◌, [], ◌∷◌, sym, ap, ◌∙◌, arith, append_assoc, append-nil}
use Rattle.ipc_model.specs.Step.{expired}
use Rattle.ipc_namespace.specs.Namespace.{ended_as}
use Rattle.ipc_namespace.proofs.Expiring.{expire-over, expire-turn}
use Rattle.ipc_namespace.proofs.namespace.Namespace.expire_due.Goals as goal

pub loop-client-preserved : goal.loop-client-preserved
loop-client-preserved c =
    let inv = c.loop-client.invariant in
    let s = c.loop-client.self in
    let turn = expire-turn c.args.self.now s inv.rest c.end_as-ending.new.self c.in-Some.client c.end_as-ending.result
    c.in-Some.ensures.apart c.in-Some.ensures.first c.end_as-ending.ensures.state c.end_as-ending.ensures.ended in
    record {
      rest = turn.0;
      left = inv.left ∙ turn.1;
      ended = inv.ended ∙ ap (λ es. c.loop-client.ended.items ++ es) turn.2 ∙ sym (append_assoc c.loop-client.ended.items (c.end_as-ending.result ∷ []) (ended_as (expired c.args.self.now) c.end_as-ending.new.self.parked))
          ∙ ap (λ es. es ++ ended_as (expired c.args.self.now) c.end_as-ending.new.self.parked) (sym (let e = c.push.ensures.items in rw c.unwrap.ensures at e));
      few = (let l = (let e = c.push.ensures.len in rw c.unwrap.ensures at e) in omega (arith, l, turn.3, inv.few));
      space = omega (arith, c.push.ensures.capacity, inv.space);
    }

pub returns-clause-state : goal.returns-clause-state
returns-clause-state c =
    let inv = c.loop-client.invariant in
    let over = expire-over c.args.self.now c.loop-client.self inv.rest c.in_default.ensures.first in
    inv.rest ∙ ap (λ ws. record c.args.self.now { parked = ws }) (sym (inv.left ∙ over.0))

pub returns-clause-ended : goal.returns-clause-ended
returns-clause-ended c =
    let inv = c.loop-client.invariant in
    let over = expire-over c.args.self.now c.loop-client.self inv.rest c.in_default.ensures.first in
    sym (inv.ended ∙ ap (λ es. c.loop-client.ended.items ++ es) over.1 ∙ append-nil c.loop-client.ended.items)
