-- the decisions on the clients so far
use Rattle.std.proofs.Common.{◌≡◌, take}
use Rattle.std.specs.Prelude.{map}
use Rattle.client_rights.specs.Rights.{all_told}
use Rattle.client_rights.proofs.rights.all_rights.Given as goal

abbrev pub invariant-loop-client : goal.invariant-loop-client
invariant-loop-client l = map (λ r. r.told) l.rights.items ≡ all_told l.object (take l.client-index l.clients)
