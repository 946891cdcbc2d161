use Rattle.std.proofs.Common.{◌≡◌, ◌≤◌, ◌<◌, ◌∙◌, ℕ, true, false, ap, subst, List, slice_get}
use Rattle.std.specs.Prelude.{IfNone, IfSome}
use Rattle.process_table.specs.Rows.{IsPlace, RowsState, holds}
use Rattle.process_table.proofs.Rising.{found-from, found-least, found-none, found-there}
use Rattle.process_table.proofs.rows.Rows.next.Goals as goal
use Rattle.process_table.proofs.rows.Rows.next.Goals.{After-row_at}

place : (c : After-row_at) → IsPlace c.self.inside.rows.items c.args.from c.place_of.result
place c = subst (λ (xs : List ℕ). IsPlace xs c.args.from c.place_of.result) c.as_slice-rows.ensures.value c.place_of.ensures

found : (c : After-row_at) → c.row_at.result ≡ slice_get c.self.inside.rows.items c.place_of.result
found c = c.row_at.ensures ∙ ap (λ (xs : List ℕ). slice_get xs c.place_of.result) c.as_slice-rows.ensures.value

pub returns-clause-none : goal.returns-clause-none
returns-clause-none c =
    let before = (goal.at.returns-clause-none c).After-row_at in
    subst (λ (w : RowsState). IfNone c.row_at.result ((row : ℕ) → c.args.from ≤ row → holds row w.rows ≡ false)) c.self.view_is
    (found-none c.self.inside.rows.items c.args.from c.place_of.result c.self.invariant (place before) c.row_at.result (found before))

pub returns-clause-there : goal.returns-clause-there
returns-clause-there c =
    let before = (goal.at.returns-clause-there c).After-row_at in
    subst (λ (w : RowsState). IfSome c.row_at.result (λ next. holds next w.rows ≡ true)) c.self.view_is
    (found-there c.self.inside.rows.items c.args.from c.place_of.result c.self.invariant (place before) c.row_at.result (found before))

pub returns-clause-from : goal.returns-clause-from
returns-clause-from c =
    let before = (goal.at.returns-clause-from c).After-row_at in
    found-from c.self.inside.rows.items c.args.from c.place_of.result c.self.invariant (place before) c.row_at.result (found before)

pub returns-clause-least : goal.returns-clause-least
returns-clause-least c =
    let before = (goal.at.returns-clause-least c).After-row_at in
    subst (λ (w : RowsState). IfSome c.row_at.result (λ next. (row : ℕ) → c.args.from ≤ row → row < next → holds row w.rows ≡ false)) c.self.view_is
    (found-least c.self.inside.rows.items c.args.from c.place_of.result c.self.invariant (place before) c.row_at.result (found before))
