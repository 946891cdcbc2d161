use Rattle.ipc_server.specs.declared.outputs.Output.TheVariants.{Close}
use Rattle.ipc_server.specs.Going.{says}
use Rattle.ipc_server.specs.Lives.{leaves}
use Rattle.ipc_server.specs.Servers.{Server, conn_at}
use Rattle.ipc_server.proofs.Going.{costs_on, goes_on}
use Rattle.ipc_server.proofs.server.Server.close.Goals as goal

pub returns-clause-went : goal.returns-clause-went
returns-clause-went c =
    goes_on c.args.self.now c.push.new.self c.leave.new.self (says (Close c.args.conn c.args.why))
    (λ (s : Server). leaves c.args.now c.args.conn (conn_at s c.args.conn) s) c.push.ensures.went c.leave.ensures.went

pub returns-clause-cost : goal.returns-clause-cost
returns-clause-cost c = costs_on c.args.self.now c.push.new.self c.leave.new.self 0 1 8196 8193 c.push.ensures.cost c.leave.ensures.cost
