use Rattle.ipc_space.proofs.Answering.{others_end, own_answer, who_waits}
use Rattle.ipc_space.proofs.laws.calls_end_with_their_answers.Goals as goal

pub returns-clause-own : goal.returns-clause-own
returns-clause-own c = own_answer

pub returns-clause-waits : goal.returns-clause-waits
returns-clause-waits c = who_waits

pub returns-clause-others : goal.returns-clause-others
returns-clause-others c = others_end
