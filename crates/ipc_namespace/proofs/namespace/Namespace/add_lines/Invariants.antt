use Rattle.std.proofs.Common.{◌≡◌, ◌++◌, map, take}
use Rattle.std.specs.Prelude.{filter_map}
use Rattle.ipc_model.specs.Listings.{line_at}
use Rattle.ipc_namespace.proofs.namespace.Namespace.add_lines.Given as goal

-- the objects so far stand there
abbrev pub invariant-loop-id : goal.invariant-loop-id
invariant-loop-id l =
    map (λ line. (line.0, line.1.items)) l.lines.items
    ≡ map (λ line. (line.0, line.1.items)) l.fn.lines.items ++ filter_map (λ id. line_at l.self l.kind id) (take l.id-index l.id-items)
