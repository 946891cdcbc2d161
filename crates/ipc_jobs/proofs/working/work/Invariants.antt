use Rattle.std.proofs.Common.{◌≡◌}
use Rattle.pub_list.specs.Clients.{work}
use Rattle.ipc_combiner.specs.States.{IsOf}
use Rattle.ipc_jobs.proofs.Going.{IsAsFar}
use Rattle.ipc_jobs.proofs.working.work.Given as goal

abbrev pub invariant-loop-job : goal.invariant-loop-job
invariant-loop-job g l = IsOf l.service.list l.caller.idle.joined × (l.caller.idle.joined.client ≡ l.fn.worker.client.fresh.client) × (l.own ≡ l.fn.worker.client.fresh.client)
    × IsAsFar (g.G.Gate.was_told l.gate l.fn.worker.client.fresh.client) l.fn.worker.jobs.items l.job-iterator.rest.items l.nth (work l.caller.idle.joined) l.caller.memory
