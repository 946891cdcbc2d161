use Rattle.std.proofs.Common.{◌≡◌, ℕ, ◌+◌, ◌-◌, ◌/◌, ◌≤◌, ◌∙◌, sym, subst, drop, arith}
use Rattle.std.specs.List.{AllByRecursion}
use Rattle.ipc_parked.specs.declared.arrivals.Stay.{Stay}
use Rattle.ipc_parked.proofs.Line.{lower_turn, upper_turn}
use Rattle.ipc_parked.proofs.arrivals.Arrivals.place_of.Goals as goal

pub loop-size-preserved-then-is_below_at : goal.loop-size-preserved-then-is_below_at
loop-size-preserved-then-is_below_at c =
    let inv = c.loop-size.invariant in
    let low = c.loop-size.low in
    let size = c.loop-size.size in
    let es = c.args.self.now.stays in
    let same : low + size ≡ low + (size - size / 2) + size / 2 = omega arith in
    record {
      within = omega (arith, inv.within);
      below = lower_turn c.args.self.now.next es (low + size / 2) c.args.number (low + (size - size / 2)) c.requires (sym c.is_below_at.ensures ∙ c.if-is_below_at.true) (omega arith);
      above = subst (λ (n : ℕ). AllByRecursion (λ (e : ℕ × Stay). c.args.number ≤ e.1.number) (drop n es)) same inv.above;
    }

pub loop-size-preserved : goal.loop-size-preserved
loop-size-preserved c =
    let inv = c.loop-size.invariant in
    record {
      within = omega (arith, inv.within);
      below = inv.below;
      above = upper_turn c.args.self.now.next c.args.self.now.stays _ _ c.requires (omega (arith, inv.within, c.loop-size-test.true)) (sym c.is_below_at.ensures ∙ c.if-is_below_at.false);
    }
