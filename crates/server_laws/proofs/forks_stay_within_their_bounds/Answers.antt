use Rattle.server_laws.proofs.Forks.{always_few_forks}
use Rattle.server_laws.proofs.forks_stay_within_their_bounds.Goals as goal

pub returns : goal.returns
returns c limits clients conns bounds inputs some = always_few_forks limits clients conns bounds some inputs
