use Rattle.ipc_laws.proofs.Remaining.{long-run, stays-run}
use Rattle.ipc_laws.proofs.segments_end_by_few_calls.Goals as goal

pub returns-clause-stay : goal.returns-clause-stay
returns-clause-stay c = stays-run

pub returns-clause-sizes : goal.returns-clause-sizes
returns-clause-sizes c = long-run
