-- the calls so far
use Rattle.std.proofs.Common.{◌≡◌, ◌++◌, take}
use Rattle.std.specs.Prelude.{string_bytes}
use Rattle.run_picture.specs.Lanes.{calls_text}
use Rattle.run_picture.proofs.lanes.print_calls.Given as goal

abbrev pub invariant-loop-call : goal.invariant-loop-call
invariant-loop-call l =
    string_bytes l.out ≡ string_bytes l.fn.out ++ calls_text l.lane (take l.call-index l.calls)
