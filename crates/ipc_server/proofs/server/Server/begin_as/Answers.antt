use Rattle.std.proofs.Common.{ap}
use Rattle.ipc_call.specs.declared.calls.Identity.{Identity}
use Rattle.ipc_server.specs.Lives.{founds, identity_of, lends}
use Rattle.ipc_server.specs.Servers.{Server}
use Rattle.ipc_server.proofs.Going.{goes_as, goes_on}
use Rattle.ipc_server.proofs.server.Server.begin_as.Goals as goal

pub returns-clause-went : goal.returns-clause-went
returns-clause-went c =
    let old = c.args.self.now in
    let guest = c.args.guest in
    goes_on old c.found.new.self c.lend.new.self (founds c.args.now guest.peer.pid (identity_of guest.peer.creds) c.args.lead)
    (lends c.args.now guest.conn guest.peer guest.seq c.args.lead c.args.client)
    (goes_as old c.found.new.self (founds c.args.now guest.peer.pid c.args.first c.args.lead)
    (founds c.args.now guest.peer.pid (identity_of guest.peer.creds) c.args.lead)
    (ap (λ (i : Identity). founds c.args.now guest.peer.pid i c.args.lead old.server) c.requires.first) c.found.ensures.went)
    c.lend.ensures.went
