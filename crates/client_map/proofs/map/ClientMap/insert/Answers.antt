use Rattle.std.proofs.Common.{◌∙◌, ap, refl}
use Rattle.std.specs.Prelude.{Some}
use Rattle.std.specs.FinMap as finite
use Rattle.client_map.specs.Keys.{key}
use Rattle.client_map.proofs.Trees.{map_put}
use Rattle.client_map.proofs.map.ClientMap.insert.Goals as goal

pub returns-clause-ok : goal.returns-clause-ok
returns-clause-ok g c =
    let k = key c.args.client c.args.number in
    map_put c.self.inside.tree.entries c.insert.new.self.entries k (Some c.args.value) c.in_ok-insert.ensures.updates.0 c.args.value refl
    ∙ ap (λ m. finite.insert m k c.args.value) c.self.view_is
