-- the steps so far
use Rattle.std.proofs.Common.{◌≡◌, ◌++◌, take}
use Rattle.std.specs.Prelude.{string_bytes}
use Rattle.run_picture.specs.Plots.{step_texts}
use Rattle.run_picture.proofs.series.print_steps.Given as goal

abbrev pub invariant-loop-point : goal.invariant-loop-point
invariant-loop-point l =
    string_bytes l.out ≡ string_bytes l.fn.out ++ step_texts l.top l.most (take l.point-index l.points)
