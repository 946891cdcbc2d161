use Rattle.std.proofs.Common.{◌≡◌, ◌∙◌, cond, eqb, ap, subst, sym, List, [], ◌∷◌}
use Rattle.std.specs.List.{insert}
use Rattle.ipc_parked.specs.declared.deadlines.Due.{Due}
use Rattle.ipc_parked.specs.Deadlines.{AreSorted, DeadlinesState, IsRank, rows_at}
use Rattle.ipc_parked.proofs.Ranks.{rows_inserted, sorted_inserted}
use Rattle.ipc_parked.proofs.deadlines.Deadlines.add.Goals as goal
use Rattle.ipc_parked.proofs.deadlines.Deadlines.add.Goals.{After-unwrap}

rank : (c : After-unwrap) → IsRank c.self.inside.rows.items c.args.row c.place_of-at.result
rank c = subst (λ (xs : List Due). IsRank xs c.args.row c.place_of-at.result) c.as_slice.ensures.value c.place_of-at.ensures

new : (c : After-unwrap) → rows_at c.args.row.number c.self.inside.rows.items ≡ []
new c = ap (λ (d : DeadlinesState). rows_at c.args.row.number d.rows) c.self.view_is ∙ c.requires.new

items : (c : After-unwrap) → c.insert.new.self.items ≡ insert c.self.inside.rows.items c.place_of-at.result c.args.row
items c = let e = c.insert.ensures.items in rw c.unwrap.ensures at e

pub invariant_of-self : goal.invariant_of-self
invariant_of-self c =
    let b = (goal.at.invariant_of-self c).After-unwrap in
    subst (λ (rows : List Due). AreSorted rows) (sym (items b)) (sorted_inserted c.self.inside.rows.items c.place_of-at.result c.args.row c.self.invariant (new b) (rank b))

pub returns : goal.returns
returns c =
    let b = (goal.at.returns c).After-unwrap in
    λ k. ap (λ (rows : List Due). rows_at k rows) (items b) ∙ rows_inserted c.self.inside.rows.items c.place_of-at.result c.args.row (new b) k
    ∙ ap (λ (d : DeadlinesState). cond (eqb c.args.row.number k) (c.args.row ∷ []) (rows_at k d.rows)) c.self.view_is
