use Rattle.std.proofs.Common.{ℕ, ap, sym, subst, Option}
use Rattle.std.specs.Option.{option_map}
use Rattle.ipc_parked.specs.declared.parked.Arrival.{Arrival}
use Rattle.ipc_parked.proofs.Sooner.{NoneBefore, none-due, soonest_bounds}
use Rattle.ipc_parked.proofs.parked.Parked.due.Goals as goal

pub returns-then-not-is_due : goal.returns-then-not-is_due
returns-then-not-is_due c =
    let es = c.args.self.now in
    ap (λ (e : Option (ℕ × Arrival)). option_map {T = ℕ × Arrival} {U = ℕ} (λ e. e.0) e)
    (none-due c.args.clock c.soonest.result es (subst (λ (bound : Option ℕ). NoneBefore bound es) (sym c.soonest.ensures) (soonest_bounds es)) (sym c.if-not-is_due.ensures))
