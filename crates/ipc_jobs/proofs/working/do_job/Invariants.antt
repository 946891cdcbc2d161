use Rattle.std.proofs.Common.{◌≡◌, List, ◌++◌, map}
use Rattle.pub_list.specs.Clients.{work}
use Rattle.ipc_combiner.specs.States.{IsOf}
use Rattle.ipc_jobs.specs.Calls.{AreCallsOf, Replied, timed}
use Rattle.ipc_jobs.specs.Working.{HasMade}
use Rattle.ipc_jobs.proofs.working.do_job.Given as goal

abbrev pub invariant-loop-part : goal.invariant-loop-part
invariant-loop-part g l = IsOf l.service.list l.caller.idle.joined × (l.caller.idle.joined.client ≡ l.fn.caller.idle.joined.client)
    × (cs : List Replied) × HasMade cs (work l.fn.caller.idle.joined) (work l.caller.idle.joined) l.fn.caller.memory l.caller.memory
    × ((more : List Replied) → AreCallsOf more (map (λ part. (l.fn.job.now, part)) l.part-iterator.rest.items) → AreCallsOf (cs ++ more) (timed l.fn.job))
