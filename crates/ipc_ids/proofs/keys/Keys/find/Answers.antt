use Rattle.std.proofs.Common.{ℕ, sym, ap, ◌∙◌}
use Rattle.std.specs.Ordering.{nat_cmp}
use Rattle.std.specs.FinMap as map
use Rattle.ipc_ids.proofs.Ids.{get-ids}
use Rattle.ipc_ids.proofs.keys.Keys.find.Goals as goal

pub returns-clause-id : goal.returns-clause-id
returns-clause-id c =
    c.copied.ensures ∙ c.get.ensures.value ∙ sym (get-ids c.self.inside.ids.entries c.args.key) ∙ ap (λ (m : map.FinMap nat_cmp ℕ). map.get m c.args.key) c.self.view_is
