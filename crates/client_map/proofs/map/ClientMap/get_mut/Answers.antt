use Rattle.std.proofs.Common.{◌∙◌, ap, refl, sym, subst}
use Rattle.std.specs.Prelude.{Some, IsSome}
use Rattle.std.specs.FinMap as finite
use Rattle.client_map.specs.Keys.{key}
use Rattle.client_map.proofs.Trees.{get_map, lent, map_of, map_put}
use Rattle.client_map.proofs.map.ClientMap.get_mut.Goals as goal

pub returns : goal.returns
returns g c =
    let k = key c.args.client c.args.number in
    let es = c.self.inside.tree.entries in (
      lent c.get_mut.result _ _ _ _
          (λ there w. map_put es (c.get_mut.follows.lender w).entries k (Some w) ((c.get_mut.follows.holds w).3 (subst (λ o. IsSome o) c.get_mut.ensures.value there)).0 w refl ∙ ap (λ m. finite.insert m k w) c.self.view_is)
          (ap (λ t. map_of t.entries) c.get_mut.follows.holds-at-none ∙ c.self.view_is),
      record { writes_back = tt; value = c.get_mut.ensures.value ∙ sym (get_map es k) ∙ ap (λ m. finite.get m k) c.self.view_is },
    )
