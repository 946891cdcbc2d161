use Rattle.std.proofs.Common.{◌∙◌, ap, sym}
use Rattle.std.specs.FinMap as finite
use Rattle.client_map.specs.Keys.{key}
use Rattle.client_map.proofs.Trees.{get_map}
use Rattle.client_map.proofs.map.ClientMap.get.Goals as goal

pub returns : goal.returns
returns g c =
    let k = key c.args.client c.args.number in
    c.get.ensures.value ∙ sym (get_map c.self.inside.tree.entries k) ∙ ap (λ m. finite.get m k) c.self.view_is
