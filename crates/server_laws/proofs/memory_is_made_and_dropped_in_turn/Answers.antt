use Rattle.ipc_server.specs.Openings.{opened}
use Rattle.server_laws.proofs.Memory.{held_there, made_once, memory_even, runs_once}
use Rattle.server_laws.proofs.Passed.{dropped_free}
use Rattle.server_laws.proofs.memory_is_made_and_dropped_in_turn.Goals as goal
use Rattle.std.proofs.Common.{arith}

pub returns-clause-even : goal.returns-clause-even
returns-clause-even c supply now e s segment = memory_even segment supply now e s

pub returns-clause-made : goal.returns-clause-made
returns-clause-made c supply now e s segment once = made_once supply now e s once segment

pub returns-clause-once : goal.returns-clause-once
returns-clause-once c limits clients conns bounds inputs = runs_once inputs (opened limits clients conns bounds) (λ segment. omega arith)

pub returns-clause-there : goal.returns-clause-there
returns-clause-there c supply now e s = held_there supply now e s

pub returns-clause-dropped : goal.returns-clause-dropped
returns-clause-dropped c supply now e s = dropped_free supply now e s
