use Rattle.std.proofs.Common.{◌≤◌, arith}
use Rattle.ipc_call.specs.declared.calls.Call.TheVariants.{Exit}
use Rattle.ipc_server.specs.Going.{and_then}
use Rattle.ipc_server.specs.Lives.{interrupts, wonders}
use Rattle.ipc_server.specs.Making.{makes}
use Rattle.ipc_server.specs.Servers.{Server, lead_of}
use Rattle.ipc_server.proofs.Going.{costs_on, goes_on}
use Rattle.ipc_server.proofs.server.Server.depart.Goals as goal

pub returns-clause-went : goal.returns-clause-went
returns-clause-went c =
    goes_on c.args.self.now c.interrupt.new.self c.wonder.new.self (interrupts c.args.now c.args.client)
    (λ (s : Server). and_then (makes c.args.now c.args.client Exit s) (λ (t : Server). wonders c.args.pid (lead_of t c.args.pid) t)) c.interrupt.ensures.went
    (goes_on c.interrupt.new.self c.make.new.self c.wonder.new.self (makes c.args.now c.args.client Exit) (λ (t : Server). wonders c.args.pid (lead_of t c.args.pid) t) c.make.ensures.went c.wonder.ensures.went)

pub returns-clause-cost : goal.returns-clause-cost
returns-clause-cost c =
    costs_on c.args.self.now c.interrupt.new.self c.wonder.new.self 4098 4096 4098 4097 c.interrupt.ensures.cost
    (costs_on c.interrupt.new.self c.make.new.self c.wonder.new.self 4098 4096 0 1 c.make.ensures.cost c.wonder.ensures.cost)
