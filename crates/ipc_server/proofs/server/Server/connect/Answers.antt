use Rattle.std.proofs.Common.{ℕ, ap, arith, Some, ◌∙◌}
use Rattle.ipc_creds.specs.Credentials.{became}
use Rattle.ipc_server.specs.Lives.{bar, connects, connects_unless}
use Rattle.ipc_server.specs.Servers.{Server}
use Rattle.ipc_server.proofs.Closed.{connected_as}
use Rattle.ipc_server.proofs.Going.{goes_as}
use Rattle.ipc_server.proofs.server.Server.connect.Goals as goal

pub returns-clause-went : goal.returns-clause-went
returns-clause-went c =
    let old = c.args.self.now in
    let groups = c.args.groups.now in
    let all = record c.args.creds { groups = groups } in
    let creds = c.take_on.new.self in
    goes_as old c.connect_as.new.self (λ (s : Server). connects_unless (bar s c.args.conn c.args.pid creds) c.args.conn (record { pid = c.args.pid; creds = creds }) s)
    (connects c.args.conn c.args.pid all)
    (connected_as c.args.conn c.args.pid all creds old.server
    (c.take_on.ensures
    ∙ ap (λ (euid : ℕ). became euid c.egid-egid.result (Some groups) c.args.creds) c.euid-euid.ensures
    ∙ ap (λ (egid : ℕ). became c.args.creds.euid egid (Some groups) c.args.creds) c.egid-egid.ensures)
    (omega (arith, c.if-groups-gt-GROUPS_MAX.false)))
    c.connect_as.ensures.went
