use Rattle.std.proofs.Common.{◌≡◌, ◌+◌, ◌∙◌, ℕ, Bool, true, cond, eqb, ap, set, subst, sym, List, [], ◌∷◌, ◌++◌}
use Rattle.std.specs.List.{insert}
use Rattle.ipc_parked.specs.declared.waits.Wait.{Wait}
use Rattle.ipc_parked.specs.Waits.{AreMarked, AreRising, IsPlace, WaitsState, clients_at}
use Rattle.ipc_parked.proofs.Marked.{marked_inserted}
use Rattle.ipc_parked.proofs.Rows.{clients_inserted, rising_inserted}
use Rattle.ipc_parked.proofs.waits.Waits.add.Goals as goal
use Rattle.ipc_parked.proofs.waits.Waits.add.Goals.{After-unwrap}

place : (c : After-unwrap) → IsPlace c.self.inside.rows.items (c.args.id + 1) c.place_of-at.result
place c =
    subst (λ (xs : List Wait). IsPlace xs (c.args.id + 1) c.place_of-at.result) c.as_slice.ensures.value
    (subst (λ (n : ℕ). IsPlace c.as_slice.result.now (n + 1) c.place_of-at.result) c.from.ensures c.place_of-at.ensures)

items : (c : After-unwrap) → c.insert.new.self.items ≡ insert c.self.inside.rows.items c.place_of-at.result (record { id = c.args.id; client = c.args.client })
items c = let e = c.insert.ensures.items in rw c.unwrap.ensures at e

pub invariant_of-self : goal.invariant_of-self
invariant_of-self c =
    let before = (goal.at.invariant_of-self c).After-unwrap in
    let old = c.self.inside.rows.items in
    let marked = marked_inserted c.self.inside.marks old c.args.id c.place_of-at.result c.args.client c.self.invariant.1 in (
      subst (λ (rows : List Wait). AreRising rows) (sym (items before)) (rising_inserted old c.args.id c.place_of-at.result c.args.client c.self.invariant.0 (place before)),
      subst (λ (marks : List Bool). AreMarked marks c.insert.new.self.items) (sym c.set.ensures)
          (subst (λ (rows : List Wait). AreMarked (set c.self.inside.marks c.mark_of.result true) rows) (sym (items before))
          (subst (λ (mark : ℕ). AreMarked (set c.self.inside.marks mark true) (insert old c.place_of-at.result (record { id = c.args.id; client = c.args.client }))) (sym c.mark_of.ensures) marked)),
    )

pub returns : goal.returns
returns c =
    let before = (goal.at.returns c).After-unwrap in
    let after = c.insert.new.self.items in
    subst (λ (w : WaitsState). (i : ℕ) → clients_at i after ≡ cond (eqb c.args.id i) (clients_at i w.rows ++ c.args.client ∷ []) (clients_at i w.rows)) c.self.view_is
    (λ i. ap (λ (xs : List Wait). clients_at i xs) (items before) ∙ clients_inserted c.self.inside.rows.items c.args.id c.place_of-at.result c.args.client i (place before))
