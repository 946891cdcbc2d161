use Rattle.life_laws.proofs.Ended.{kill-run}
use Rattle.life_laws.proofs.kills_leave_nothing.Goals as goal

pub returns : goal.returns
returns c h now client pid target lives admin has = kill-run h now client lives admin pid target has
