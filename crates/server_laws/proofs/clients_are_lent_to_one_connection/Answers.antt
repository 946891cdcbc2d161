use Rattle.server_laws.proofs.Forks.{always_lent}
use Rattle.server_laws.proofs.clients_are_lent_to_one_connection.Goals as goal

pub returns : goal.returns
returns c limits clients conns bounds inputs some = always_lent limits clients conns bounds some inputs
