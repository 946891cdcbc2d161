use Rattle.ipc_space.proofs.Quiet.{refused-step}
use Rattle.ipc_space.proofs.laws.refused_calls_change_nothing.Goals as goal

pub returns : goal.returns
returns c = λ h e rule legal refused. refused-step h e rule refused
