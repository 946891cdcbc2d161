use Rattle.std.proofs.Common.{◌≡◌, ◌∙◌, ℕ, false, eqb, ap, subst, sym, List}
use Rattle.std.specs.Prelude.{◌||◌}
use Rattle.std.specs.List.{insert}
use Rattle.process_table.specs.Rows.{AreRising, IsPlace, RowsState, holds}
use Rattle.process_table.proofs.Rising.{holds-inserted, rising-inserted}
use Rattle.process_table.proofs.rows.Rows.add.Goals as goal
use Rattle.process_table.proofs.rows.Rows.add.Goals.{After-unwrap}

items : (c : After-unwrap) → c.insert.new.self.items ≡ insert c.self.inside.rows.items c.place_of-at.result c.args.row
items c = let e = c.insert.ensures.items in rw c.unwrap.ensures at e

place : (c : After-unwrap) → IsPlace c.self.inside.rows.items c.args.row c.place_of-at.result
place c = subst (λ (xs : List ℕ). IsPlace xs c.args.row c.place_of-at.result) c.as_slice.ensures.value c.place_of-at.ensures

new : (c : After-unwrap) → holds c.args.row c.self.inside.rows.items ≡ false
new c = ap (λ (w : RowsState). holds c.args.row w.rows) c.self.view_is ∙ c.requires.new

pub invariant_of-self : goal.invariant_of-self
invariant_of-self c =
    let before = (goal.at.invariant_of-self c).After-unwrap in
    subst (λ (rows : List ℕ). AreRising rows) (sym (items before))
    (rising-inserted c.self.inside.rows.items c.place_of-at.result c.args.row c.self.invariant (place before) (new before))

pub returns-clause-held : goal.returns-clause-held
returns-clause-held c other =
    let before = (goal.at.returns-clause-held c).After-unwrap in
    ap (λ (xs : List ℕ). holds other xs) (items before)
    ∙ holds-inserted c.self.inside.rows.items c.place_of-at.result c.args.row other
    ∙ ap (λ (w : RowsState). eqb c.args.row other || holds other w.rows) c.self.view_is
