use Rattle.life_laws.proofs.Quiet.{lets-none}
use Rattle.life_laws.proofs.calls_that_touch_nothing_let_none_proceed.Goals as goal

pub returns : goal.returns
returns c h e untouched free = lets-none h e free untouched
