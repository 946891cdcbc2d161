use Rattle.ipc_space.proofs.Permitted.{run_attached}
use Rattle.ipc_space.proofs.laws.marked_segments_are_attached.Goals as goal

pub returns : goal.returns
returns c = run_attached
