-- An operation of a semop as its call has it.
use Rattle.ipc_call.specs.declared.calls.SemOper.{SemOper}
use Rattle.call_values.specs.declared.values.SemOp.{SemOp}

abbrev pub sem_oper : SemOp → SemOper
sem_oper o = record { num = o.num; op = o.op; flags = o.flags.0 }
