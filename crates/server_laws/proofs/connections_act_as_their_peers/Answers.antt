use Rattle.server_laws.proofs.Forks.{always_acts}
use Rattle.server_laws.proofs.connections_act_as_their_peers.Goals as goal

pub returns : goal.returns
returns c limits clients conns bounds inputs some conn peer client seq there = always_acts limits clients conns bounds some inputs conn peer client seq there
