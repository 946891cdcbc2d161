use Rattle.ipc_laws.proofs.Runs.{worlds}
use Rattle.ipc_laws.proofs.two_worlds.Goals as goal

pub returns : goal.returns
returns c = worlds
