use Rattle.life_laws.proofs.Quiet.{quiet-leads}
use Rattle.life_laws.proofs.beginnings_end_no_wait.Goals as goal

pub returns : goal.returns
returns c h e is free = quiet-leads h e free is
