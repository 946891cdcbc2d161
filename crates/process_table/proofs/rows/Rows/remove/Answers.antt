use Rattle.std.proofs.Common.{◌≡◌, ◌∙◌, ℕ, true, ◌&&◌, eqb, ap, subst, sym, List, length, slice_get, Some, arith}
use Rattle.std.specs.Prelude.{not}
use Rattle.process_table.specs.Rows.{AreRising, IsPlace, RowsState, holds}
use Rattle.process_table.proofs.Rising.{holds-removed, place-there, rising-removed, some-within}
use Rattle.process_table.proofs.rows.Rows.remove.Goals as goal

here : (w : RowsState) (slice rows : List ℕ) (row at : ℕ) → AreRising rows → slice ≡ rows → IsPlace slice row at → rows ≡ w.rows → holds row w.rows ≡ true → slice_get rows at ≡ Some row
here w slice rows row at rising same place view there = place-there rows row at rising (subst (λ (xs : List ℕ). IsPlace xs row at) same place) (ap (λ (xs : List ℕ). holds row xs) view ∙ there)

pub remove-requires : goal.remove-requires
remove-requires c =
    let there = here c.args.self.now c.as_slice.result.now c.self.inside.rows.items c.args.row c.place_of-at.result c.self.invariant c.as_slice.ensures.value c.place_of-at.ensures (ap (λ (w : RowsState). w.rows) c.self.view_is) c.requires.there in
    let within = some-within c.self.inside.rows.items c.place_of-at.result c.args.row there in
    let long = ap length c.as_slice.ensures.value in
    omega (arith, within, long, c.as_slice.ensures.len)

pub invariant_of-self : goal.invariant_of-self
invariant_of-self c =
    subst (λ (rows : List ℕ). AreRising rows) (sym c.remove.ensures.items) (rising-removed c.self.inside.rows.items c.place_of-at.result c.self.invariant)

pub returns-clause-held : goal.returns-clause-held
returns-clause-held c other =
    let there = here c.args.self.now c.as_slice.result.now c.self.inside.rows.items c.args.row c.place_of-at.result c.self.invariant c.as_slice.ensures.value c.place_of-at.ensures (ap (λ (w : RowsState). w.rows) c.self.view_is) c.requires.there in
    ap (λ (xs : List ℕ). holds other xs) c.remove.ensures.items
    ∙ holds-removed c.self.inside.rows.items c.place_of-at.result c.args.row other c.self.invariant there
    ∙ ap (λ (w : RowsState). holds other w.rows && not (eqb c.args.row other)) c.self.view_is
