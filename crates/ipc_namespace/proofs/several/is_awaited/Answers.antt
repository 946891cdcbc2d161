use Rattle.std.proofs.Common.{◌∙◌, ℕ, ap, Option}
use Rattle.std.specs.Prelude.{is_some}
use Rattle.ipc_parked.specs.Parked.{waiting}
use Rattle.ipc_namespace.proofs.OnSets.{any-first}
use Rattle.ipc_namespace.proofs.Owing.{on}
use Rattle.ipc_namespace.proofs.several.is_awaited.Goals as goal

pub returns : goal.returns
returns c = c.is_some.ensures ∙ ap (λ (o : Option ℕ). is_some o) c.nth_touched.ensures ∙ any-first (on c.args.id) (waiting c.args.parked.now)
