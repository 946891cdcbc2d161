use Rattle.std.specs.Prelude.{◌-◌, ◌<◌, IfSome}
use Rattle.shm_seg.specs.Attachments.{IsPut, attachment_at}
use Rattle.shm_seg.specs.Inside.{reached}
use Rattle.shm_seg.proofs.attachments.Attachments.copy_all.Given as goal

-- all below the next number stands for the other process too
abbrev pub invariant-loop-next : goal.invariant-loop-next
invariant-loop-next l = record {
  put : IsPut l.to (reached l.next) (λ n. attachment_at l.fn.self l.from n) l.fn.self l.self;
  few : IfSome l.next (λ n. n < 4096);
}

abbrev pub decreases-loop-next : goal.decreases-loop-next
decreases-loop-next l = 4096 - reached l.next
