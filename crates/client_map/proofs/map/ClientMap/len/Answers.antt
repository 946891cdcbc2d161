use Rattle.std.proofs.Common.{◌∙◌, ap, sym}
use Rattle.std.specs.FinMap as finite
use Rattle.client_map.proofs.Trees.{len_map}
use Rattle.client_map.proofs.map.ClientMap.len.Goals as goal

pub returns-clause-len : goal.returns-clause-len
returns-clause-len g c =
    c.len.ensures.len ∙ sym (len_map c.self.inside.tree.entries c.len.ensures.ordered) ∙ ap (λ m. finite.len m) c.self.view_is
