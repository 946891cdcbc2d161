use Rattle.std.proofs.Common.{ap}
use Rattle.ipc_call.specs.declared.calls.Identity.{Identity}
use Rattle.ipc_server.specs.Lives.{shows_up, identity_of, lends}
use Rattle.ipc_server.specs.Servers.{Server}
use Rattle.ipc_server.proofs.Going.{goes_as, goes_on}
use Rattle.ipc_server.proofs.server.Server.grow_up_as.Goals as goal

pub returns-clause-went : goal.returns-clause-went
returns-clause-went c =
    let old = c.args.self.now in
    let guest = c.args.guest in
    goes_on old c.show_up.new.self c.lend.new.self (shows_up c.args.now guest.peer.pid (identity_of guest.peer.creds) c.args.child)
    (lends c.args.now guest.conn guest.peer guest.seq c.args.child c.args.client)
    (goes_as old c.show_up.new.self (shows_up c.args.now guest.peer.pid c.args.first c.args.child)
    (shows_up c.args.now guest.peer.pid (identity_of guest.peer.creds) c.args.child)
    (ap (λ (i : Identity). shows_up c.args.now guest.peer.pid i c.args.child old.server) c.requires.first) c.show_up.ensures.went)
    c.lend.ensures.went
