use Rattle.server_laws.proofs.Bounds.{always_few, bounds_stay, few_stay_within}
use Rattle.server_laws.proofs.connections_stay_within_their_bounds.Goals as goal

pub returns-clause-step : goal.returns-clause-step
returns-clause-step c supply now e s few = few_stay_within supply now e s few

pub returns-clause-always : goal.returns-clause-always
returns-clause-always c limits clients conns bounds inputs = always_few limits clients conns bounds inputs

pub returns-clause-bounds : goal.returns-clause-bounds
returns-clause-bounds c supply now e s = bounds_stay supply now e s
