use Rattle.std.proofs.Common.{sym, ◌∙◌}
use Rattle.ipc_server.proofs.Closed.{barred}
use Rattle.ipc_server.proofs.server.Server.bar.Goals as goal

pub returns-then-is_free-clause-bar : goal.returns-then-is_free-clause-bar
returns-then-is_free-clause-bar c =
    barred c.args.self.now.server c.args.conn c.args.pid c.euid.result c.args.creds.now c.new_bar.result (sym c.is_free.ensures.free ∙ c.if-is_free.true) c.euid.ensures c.new_bar.ensures
