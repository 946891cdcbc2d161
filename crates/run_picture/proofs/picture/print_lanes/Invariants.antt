-- the lanes so far
use Rattle.std.proofs.Common.{◌≡◌, ◌++◌, take}
use Rattle.std.specs.Prelude.{string_bytes}
use Rattle.run_picture.specs.Picture.{all_lanes}
use Rattle.run_picture.proofs.picture.print_lanes.Given as goal

abbrev pub invariant-loop-lane : goal.invariant-loop-lane
invariant-loop-lane l =
    string_bytes l.out ≡ string_bytes l.fn.out ++ all_lanes l.events (take l.lane-index l.lanes)
