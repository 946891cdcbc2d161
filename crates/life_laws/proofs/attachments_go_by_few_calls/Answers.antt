use Rattle.life_laws.proofs.Attached.{attached-stays}
use Rattle.life_laws.proofs.attachments_go_by_few_calls.Goals as goal

pub returns : goal.returns
returns c h e process number a there off = attached-stays process number a h e there off
