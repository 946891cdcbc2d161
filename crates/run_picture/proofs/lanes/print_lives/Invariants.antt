-- the lives so far
use Rattle.std.proofs.Common.{◌≡◌, ◌++◌, take}
use Rattle.std.specs.Prelude.{string_bytes}
use Rattle.run_picture.specs.Lanes.{lives_text}
use Rattle.run_picture.proofs.lanes.print_lives.Given as goal

abbrev pub invariant-loop-life : goal.invariant-loop-life
invariant-loop-life l =
    string_bytes l.out ≡ string_bytes l.fn.out ++ lives_text l.events l.y (take l.life-index l.lives)
