use Rattle.std.proofs.Common.{◌≤◌, length, arith}
use Rattle.ipc_parked.specs.Parked.{waiting}
use Rattle.ipc_parked.proofs.Listed.{length-waiting}
use Rattle.ipc_namespace.proofs.Parked.{length-parked}
use Rattle.ipc_namespace.proofs.namespace.Namespace.most_ended.Goals as goal

pub returns-clause-few : goal.returns-clause-few
returns-clause-few c =
    let n = c.self.inside in
    let few : length (waiting n.parked) ≤ length n.clients.items = length-parked (length n.clients.items) (waiting n.parked) c.self.invariant.1 in
    omega (arith, few, length-waiting n.parked, c.self.invariant.0, c.len.ensures)
