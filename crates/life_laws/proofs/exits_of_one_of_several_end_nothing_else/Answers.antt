use Rattle.life_laws.proofs.Several.{ends-alone}
use Rattle.life_laws.proofs.exits_of_one_of_several_end_nothing_else.Goals as goal

pub returns : goal.returns
returns c = ends-alone
