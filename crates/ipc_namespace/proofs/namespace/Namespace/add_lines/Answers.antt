use Rattle.std.proofs.Common.{arith}
use Rattle.std.proofs.lemmas.Grind.{common_steps}
use Rattle.std.proofs.lemmas.List.Elements.{filter_map-append}
use Rattle.ipc_model.specs.Listings.{lines_of_kind}
use Rattle.ipc_namespace.proofs.namespace.Namespace.add_lines.Goals as goal

pub loop-id-preserved : goal.loop-id-preserved
loop-id-preserved c = grind (arith, common_steps, filter_map-append)

pub returns : goal.returns
unfolding lines_of_kind
returns c = grind (arith, common_steps)
