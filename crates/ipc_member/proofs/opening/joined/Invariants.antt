use Rattle.std.proofs.Common.{◌≡◌, All, map, ◌++◌}
use Rattle.std.specs.Arc.{arc_value}
use Rattle.ipc_combiner.specs.States.{IsUnjoinedOf}
use Rattle.ipc_member.specs.Members.{number_of, service_of}
use Rattle.ipc_member.proofs.opening.joined.Given as goal

abbrev pub invariant-loop-client : goal.invariant-loop-client
invariant-loop-client l = All (λ u. IsUnjoinedOf (arc_value l.service).list u.fresh) l.client-iterator.rest.items
    × All (λ m. service_of m ≡ arc_value l.service) l.members.items
    × (map number_of l.members.items ++ map (λ u. u.fresh.client) l.client-iterator.rest.items ≡ map (λ u. u.fresh.client) l.fn.clients.items)
