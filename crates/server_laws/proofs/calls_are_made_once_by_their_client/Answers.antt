use Rattle.server_laws.proofs.Called.{called}
use Rattle.server_laws.proofs.calls_are_made_once_by_their_client.Goals as goal

pub returns : goal.returns
returns c s now conn token client before peer sender bytes m ask there idle known sends read asks = called s now conn token client before peer sender bytes m ask there idle known sends read asks
