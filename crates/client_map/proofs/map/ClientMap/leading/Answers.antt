use Rattle.std.proofs.Common.{◌∙◌, arith, subst}
use Rattle.client_map.proofs.Walks.{Walk, none_at, taken_next, walk_from, walk_next}
use Rattle.client_map.proofs.map.ClientMap.leading.Goals as goal
use Rattle.client_map.proofs.map.ClientMap.leading.Goals.{then-number-limit-via-then-number-limit, then-number-limit-via-else-number-limit+then-key-client, then-number-limit-via-else-number-limit+else-key-client+then-key-number}

pub loop-key-init : goal.loop-key-init
loop-key-init g c = record {
  can = tt;
  finite = tt;
  within = omega arith;
  taken = λ n l. absurd (omega arith);
  walk = walk_from c.args.client c.self.inside.tree.entries _ c.args.self.now c.self.view_is c.range-key-items.ensures.ordered 0 (c.into_iter-key-iterator.ensures.into_iter_gives ∙ c.range-key-items.ensures.between tt);
}

pub returns-then-number-limit-clause-free : goal.returns-then-number-limit-clause-free
returns-then-number-limit-clause-free g c less =
    none_at c.args.self.now c.args.client c.loop-key.number _ _ (subst (λ es. Walk c.args.self.now c.args.client c.loop-key.number es) c.in-Some.ensures.steps c.loop-key.invariant.walk) (λ same at. elim c.then-number-limit.branch [
      | then-number-limit-via-then-number-limit w ↦ (let e = w.if-number-limit.true in absurd (omega arith))
      | then-number-limit-via-else-number-limit+then-key-client w ↦ w.if-key-client.true same
      | then-number-limit-via-else-number-limit+else-key-client+then-key-number w ↦ w.if-key-number.true at
    ])

pub loop-key-preserved : goal.loop-key-preserved
loop-key-preserved g c =
    let walk = subst (λ es. Walk c.args.self.now c.args.client c.loop-key.number es) c.in-Some.ensures.steps c.loop-key.invariant.walk in
    record {
      can = tt;
      finite = tt;
      within = omega (arith, c.if-number-limit.false, c.loop-key.invariant.within);
      taken = taken_next c.args.self.now c.args.client c.loop-key.number _ _ walk c.if-key-client.false c.if-key-number.false c.loop-key.invariant.taken;
      walk = walk_next c.args.self.now c.args.client c.loop-key.number _ _ walk c.if-key-client.false c.if-key-number.false;
    }
