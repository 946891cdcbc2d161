-- the parts so far with those of the options that are left are those of all the options
use Rattle.std.proofs.Common.{◌≡◌, ◌++◌, option_map}
use Rattle.std.specs.Prelude.{drop}
use Rattle.clap.specs.Words.{found_of, rows_of}
use Rattle.ipc_commands.specs.Commands.{parts_by}
use Rattle.ipc_commands.proofs.parts.requested.Given as goal

abbrev pub invariant-loop-request : goal.invariant-loop-request
invariant-loop-request l =
    option_map (λ xs. l.parts.items ++ xs) (parts_by (rows_of (found_of l.matches)) (drop l.request-index l.requests))
    ≡ parts_by (rows_of (found_of l.fn.matches)) l.fn.requests
