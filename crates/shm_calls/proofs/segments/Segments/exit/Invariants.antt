use Rattle.std.proofs.Common.{◌≡◌}
use Rattle.std.specs.FinMap as finite
use Rattle.ipc_model.specs.Segments.{after_detaches}
use Rattle.shm_calls.proofs.segments.Segments.exit.Given as goal

-- the rest of the exit leads where the whole does
abbrev pub invariant-loop-number : goal.invariant-loop-number
invariant-loop-number l = record { rest : after_detaches l.self l.who ≡ after_detaches l.fn.self l.who }

-- the attachments that are left
abbrev pub decreases-loop-number : goal.decreases-loop-number
decreases-loop-number l = finite.len l.self.attached
