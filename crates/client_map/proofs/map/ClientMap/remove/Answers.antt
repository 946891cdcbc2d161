use Rattle.std.proofs.Common.{◌∙◌, ap, refl, sym}
use Rattle.std.specs.Prelude.{None}
use Rattle.std.specs.FinMap as finite
use Rattle.client_map.specs.Keys.{key}
use Rattle.client_map.proofs.Trees.{get_map, map_gone}
use Rattle.client_map.proofs.map.ClientMap.remove.Goals as goal

pub returns-clause-value : goal.returns-clause-value
returns-clause-value g c =
    let k = key c.args.client c.args.number in
    c.remove.ensures.value ∙ sym (get_map c.self.inside.tree.entries k) ∙ ap (λ m. finite.get m k) c.self.view_is

pub returns-clause-left : goal.returns-clause-left
returns-clause-left g c =
    let k = key c.args.client c.args.number in
    map_gone c.self.inside.tree.entries c.remove.new.self.entries k None c.remove.ensures.updates.0 refl ∙ ap (λ m. finite.remove m k) c.self.view_is
