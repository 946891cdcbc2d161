use Rattle.std.proofs.Common.{◌∙◌, ℕ, ap, subst, List, slice_get, drop}
use Rattle.ipc_parked.specs.declared.waits.Wait.{Wait}
use Rattle.ipc_parked.specs.Waits.{IsPlace, WaitsState, client_if, clients_at}
use Rattle.ipc_parked.proofs.Rows.{nth_is}
use Rattle.ipc_parked.proofs.waits.Waits.nth.Goals as goal

pub returns : goal.returns
returns c =
    let rows = c.self.inside.rows.items in
    let place : IsPlace rows c.args.id c.place_of.result = subst (λ (xs : List Wait). IsPlace xs c.args.id c.place_of.result) c.as_slice-rows.ensures.value (subst (λ (n : ℕ). IsPlace c.as_slice-rows.result.now n c.place_of.result) c.from.ensures c.place_of.ensures) in
    c.client_here.ensures
    ∙ ap (λ (xs : List Wait). client_if c.args.id (slice_get xs c.args.index)) (c.split_at.ensures.back ∙ ap (λ (xs : List Wait). drop c.place_of.result xs) c.as_slice-rows.ensures.value)
    ∙ nth_is rows c.args.id c.place_of.result c.args.index c.self.invariant.0 place
    ∙ ap (λ (w : WaitsState). slice_get (clients_at c.args.id w.rows) c.args.index) c.self.view_is
