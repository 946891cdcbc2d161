-- the ends so far
use Rattle.std.proofs.Common.{◌≡◌, ◌++◌, take}
use Rattle.std.specs.Prelude.{string_bytes}
use Rattle.run_picture.specs.Lanes.{ends_text}
use Rattle.run_picture.proofs.lanes.print_ends.Given as goal

abbrev pub invariant-loop-wait : goal.invariant-loop-wait
invariant-loop-wait l =
    string_bytes l.out ≡ string_bytes l.fn.out ++ ends_text l.lane (take l.wait-index l.waits)
