use Rattle.ipc_server.proofs.Opened.{room_at_start}
use Rattle.ipc_server.proofs.server.Server.open.Goals as goal

pub returns-clause-room : goal.returns-clause-room
returns-clause-room c =
    room_at_start c.with_ledger.result c.in_ok-ledger.ledger.history c.args.limits c.args.clients c.args.conns c.in_ok-ledger.ledger.room c.args.bounds
    c.in_ok-ledger.ensures.history c.requires.few c.in_ok-ledger.ensures.room c.with_ledger.ensures.server c.with_ledger.ensures.room c.with_ledger.ensures.outputs_room
