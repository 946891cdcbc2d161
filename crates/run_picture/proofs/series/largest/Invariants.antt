-- the largest value so far
use Rattle.std.proofs.Common.{◌≡◌, take}
use Rattle.run_picture.specs.Plots.{largest}
use Rattle.run_picture.proofs.series.largest.Given as goal

abbrev pub invariant-loop-point : goal.invariant-loop-point
invariant-loop-point l = l.most ≡ largest (take l.point-index l.points)
