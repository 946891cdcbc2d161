use Rattle.std.proofs.Common.{ℕ, ap, ◌∙◌}
use Rattle.std.specs.Ordering.{nat_cmp}
use Rattle.std.specs.FinMap as map
use Rattle.ipc_ids.proofs.Ids.{ids_unbound, private_unbound}
use Rattle.ipc_ids.proofs.keys.Keys.unbind.Goals as goal

pub invariant_of-self : goal.invariant_of-self
invariant_of-self c = private_unbound c.self.inside.ids.entries c.remove.new.self.entries c.args.key c.self.invariant c.remove.ensures.updates.0

pub returns : goal.returns
returns c =
    ids_unbound c.self.inside.ids.entries c.remove.new.self.entries c.args.key c.remove.ensures.updates.0
    ∙ ap (λ (m : map.FinMap nat_cmp ℕ). map.remove m c.args.key) c.self.view_is
