use Rattle.std.proofs.Common.{ap}
use Rattle.ipc_server.specs.Going.{Went}
use Rattle.ipc_server.proofs.Refused.{short_of_memory}
use Rattle.ipc_server.proofs.laws.want_of_memory_is_told_and_changes_nothing.Goals as goal

pub returns-clause-history : goal.returns-clause-history
returns-clause-history c s now conn token peer sender bytes m there sends read = ap (λ (w : Went). w.server.history) (short_of_memory s now conn token peer sender bytes m there sends read)

pub returns-clause-conns : goal.returns-clause-conns
returns-clause-conns c s now conn token peer sender bytes m there sends read = ap (λ (w : Went). w.server.conns) (short_of_memory s now conn token peer sender bytes m there sends read)

pub returns-clause-roles : goal.returns-clause-roles
returns-clause-roles c s now conn token peer sender bytes m there sends read = ap (λ (w : Went). w.server.roles) (short_of_memory s now conn token peer sender bytes m there sends read)

pub returns-clause-told : goal.returns-clause-told
returns-clause-told c s now conn token peer sender bytes m there sends read = ap (λ (w : Went). w.outputs) (short_of_memory s now conn token peer sender bytes m there sends read)
