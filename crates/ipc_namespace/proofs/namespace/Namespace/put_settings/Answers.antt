use Rattle.std.proofs.Common.{ap}
use Rattle.ipc_parked.specs.Parked.{waiting}
use Rattle.sem_calls.specs.WithRows.{SetsWithRows, row_at}
use Rattle.ipc_namespace.proofs.Held.{held-same}
use Rattle.ipc_namespace.proofs.namespace.Namespace.put_settings.Goals as goal

pub invariant_of-self-in-Sems : goal.invariant_of-self-in-Sems
invariant_of-self-in-Sems c =
    let n = c.self.inside in
    (c.self.invariant.0, c.self.invariant.1, c.self.invariant.2, held-same n.sets c.set-in-Sems.new.self n.processes.threads (λ client set. ap (λ (h : SetsWithRows). row_at h client set) c.set-in-Sems.ensures) (waiting n.parked) c.self.invariant.3)
