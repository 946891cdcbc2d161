use Rattle.std.proofs.Common.{ℕ, ap, ◌∙◌}
use Rattle.std.specs.Ordering.{nat_cmp}
use Rattle.std.specs.FinMap as map
use Rattle.ipc_ids.proofs.Ids.{ids_bound, private_bound}
use Rattle.ipc_ids.proofs.keys.Keys.bind.Goals as goal

pub invariant_of-self-2 : goal.invariant_of-self-2
invariant_of-self-2 c = private_bound c.self.inside.ids.entries c.insert.new.self.entries c.args.key c.args.id c.requires.key c.self.invariant c.in_ok-insert.ensures.updates.0

pub returns-clause-ok : goal.returns-clause-ok
returns-clause-ok c =
    ids_bound c.self.inside.ids.entries c.insert.new.self.entries c.args.key c.args.id c.in_ok-insert.ensures.updates.0
    ∙ ap (λ (m : map.FinMap nat_cmp ℕ). map.insert m c.args.key c.args.id) c.self.view_is
