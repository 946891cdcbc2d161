use Rattle.ipc_history.specs.History.{run}
use Rattle.call_reasons.proofs.Decided.{all-told}
use Rattle.call_reasons.proofs.trials.refused_by.Goals as goal

pub returns-clause-decided : goal.returns-clause-decided
returns-clause-decided c = all-told (run c.args.space.now) c.args.client c.args.call.now c.refused_of.result c.refused_of.ensures
