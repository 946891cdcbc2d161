use Rattle.std.proofs.Common.{arith}
use Rattle.std.proofs.lemmas.Bool.Decides.{nat_tests}
use Rattle.ipc_history.proofs.Naming.{made-distinct}
use Rattle.ipc_space.proofs.laws.ids_once.Goals as goal

pub returns : goal.returns
returns c = λ kind h ranges legal. made-distinct kind h (grind (arith, nat_tests)) (grind (arith, nat_tests)) (grind (arith, nat_tests))
