use Rattle.ipc_ids.proofs.Entries.{table-empty}
use Rattle.ipc_ids.proofs.slots.Slots.new.Goals as goal

pub returns : goal.returns
returns g c = table-empty c.args.slots c.args.first_seq c.new.result.items c.new.ensures.items
