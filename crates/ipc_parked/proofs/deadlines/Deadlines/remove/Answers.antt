use Rattle.std.proofs.Common.{◌≡◌, ◌∙◌, cond, eqb, ap, arith, subst, sym, List, [], ◌∷◌}
use Rattle.ipc_parked.specs.declared.deadlines.Due.{Due}
use Rattle.ipc_parked.specs.Deadlines.{AreSorted, DeadlinesState, IsRank, rows_at}
use Rattle.ipc_parked.proofs.Ranks.{rank_within, rows_removed, sorted_removed}
use Rattle.ipc_parked.proofs.deadlines.Deadlines.remove.Goals as goal
use Rattle.ipc_parked.proofs.deadlines.Deadlines.remove.Goals.{After-place_of-at}

rank : (c : After-place_of-at) → IsRank c.self.inside.rows.items c.args.row c.place_of-at.result
rank c = subst (λ (xs : List Due). IsRank xs c.args.row c.place_of-at.result) c.as_slice.ensures.value c.place_of-at.ensures

own : (c : After-place_of-at) → rows_at c.args.row.number c.self.inside.rows.items ≡ c.args.row ∷ []
own c = ap (λ (d : DeadlinesState). rows_at c.args.row.number d.rows) c.self.view_is ∙ c.requires

pub remove-requires : goal.remove-requires
remove-requires c =
    let b = (goal.at.remove-requires c).After-place_of-at in
    let low = rank_within c.self.inside.rows.items c.place_of-at.result c.args.row (own b) (rank b) in
    let count = c.self.inside.rows.ok.0 in
    omega (arith, low, count)

pub invariant_of-self : goal.invariant_of-self
invariant_of-self c =
    subst (λ (rows : List Due). AreSorted rows) (sym c.remove.ensures.items) (sorted_removed c.self.inside.rows.items c.place_of-at.result c.self.invariant)

pub returns : goal.returns
returns c =
    let b = (goal.at.returns c).After-place_of-at in
    λ k. ap (λ (rows : List Due). rows_at k rows) c.remove.ensures.items ∙ rows_removed c.self.inside.rows.items c.place_of-at.result c.args.row c.self.invariant (own b) (rank b) k
    ∙ ap (λ (d : DeadlinesState). cond (eqb c.args.row.number k) [] (rows_at k d.rows)) c.self.view_is
