use Rattle.std.proofs.Common.{None}
use Rattle.shm_seg.specs.Attachments.{IsPut}
use Rattle.shm_seg.proofs.attachments.Attachments.let_go.Given as goal

abbrev pub invariant-loop-number : goal.invariant-loop-number
invariant-loop-number l = IsPut l.client l.number (λ _. None) l.fn.self l.self
