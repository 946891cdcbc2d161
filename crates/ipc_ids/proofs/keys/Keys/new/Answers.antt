use Rattle.std.proofs.Common.{ap, ◌∙◌}
use Rattle.std.specs.Prelude.{nat_eq}
use Rattle.std.specs.Map.{lookup}
use Rattle.ipc_ids.proofs.Ids.{get-ids}
use Rattle.ipc_ids.proofs.keys.Keys.new.Goals as goal

pub invariant_of-result : goal.invariant_of-result
invariant_of-result c = get-ids c.new.result.entries 0 ∙ ap (λ es. lookup (nat_eq 0) es) c.new.ensures.empty
