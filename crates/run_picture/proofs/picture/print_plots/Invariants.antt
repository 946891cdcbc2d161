-- the plots so far
use Rattle.std.proofs.Common.{◌≡◌, ◌++◌, take}
use Rattle.std.specs.Prelude.{string_bytes}
use Rattle.run_picture.specs.Picture.{all_series}
use Rattle.run_picture.proofs.picture.print_plots.Given as goal

abbrev pub invariant-loop-series : goal.invariant-loop-series
invariant-loop-series l =
    string_bytes l.out ≡ string_bytes l.fn.out ++ all_series l.room.lanes l.room.events (take l.series-index l.plots)
