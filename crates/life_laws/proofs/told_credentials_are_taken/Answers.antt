use Rattle.life_laws.proofs.Starts.{assume-run}
use Rattle.life_laws.proofs.told_credentials_are_taken.Goals as goal

pub returns : goal.returns
returns c h now client creds lives known few = assume-run h now client lives creds known few
