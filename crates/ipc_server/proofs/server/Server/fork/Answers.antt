use Rattle.std.proofs.Common.{ℕ, ap, ◌∙◌}
use Rattle.ipc_server.specs.Guests.{peer_at}
use Rattle.ipc_server.specs.Lives.{forks}
use Rattle.ipc_server.specs.Servers.{Server}
use Rattle.ipc_server.proofs.Going.{goes_as_ok}
use Rattle.ipc_server.proofs.server.Server.fork.Goals as goal

pub returns-clause-went : goal.returns-clause-went
returns-clause-went c =
    let old = c.args.self.now in
    let conn = c.args.conn in
    goes_as_ok c.fork_of.result old c.fork_of.new.self (forks c.args.now conn c.peer_pid-pid.result c.peer_user-euid.result c.args.seq c.args.token)
    (λ (s : Server). forks c.args.now conn (peer_at s conn).pid (peer_at s conn).creds.euid c.args.seq c.args.token s)
    (ap (λ (pid : ℕ). forks c.args.now conn pid c.peer_user-euid.result c.args.seq c.args.token old.server) c.peer_pid-pid.ensures
    ∙ ap (λ (euid : ℕ). forks c.args.now conn (peer_at old.server conn).pid euid c.args.seq c.args.token old.server) c.peer_user-euid.ensures)
    c.fork_of.ensures.went
