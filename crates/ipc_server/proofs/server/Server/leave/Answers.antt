use Rattle.std.proofs.Common.{ℕ, ap, Option}
use Rattle.ipc_server.specs.declared.peers.Conn.TheVariants.{Absent}
use Rattle.ipc_server.specs.Going.{stays}
use Rattle.ipc_server.specs.Lives.{departs, departs_if, leaves}
use Rattle.ipc_server.specs.Servers.{Server, conn_at, with_conn}
use Rattle.ipc_server.proofs.Going.{goes_as, goes_on}
use Rattle.ipc_server.proofs.server.Server.leave.Goals as goal

pub returns-in-Some-clause-went : goal.returns-in-Some-clause-went
returns-in-Some-clause-went c =
    goes_as c.args.self.now c.depart.new.self
    (λ (s : Server). departs c.args.now c.in-Some.pid c.in-Some.client (with_conn s c.args.conn Absent))
    (λ (s : Server). leaves c.args.now c.args.conn (conn_at s c.args.conn) s)
    (ap (λ (m : Option (ℕ × ℕ)). departs_if c.args.now m (with_conn c.args.self.now.server c.args.conn Absent)) c.in-Some.ensures.member)
    (goes_on c.args.self.now c.take_out.new.self c.depart.new.self
    (λ (s : Server). stays (with_conn s c.args.conn Absent)) (departs c.args.now c.in-Some.pid c.in-Some.client) c.take_out.ensures.went c.depart.ensures.went)
