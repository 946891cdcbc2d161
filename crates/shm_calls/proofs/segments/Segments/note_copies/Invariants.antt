use Rattle.std.proofs.Common.{◌≡◌, ◌<◌, ◌-◌}
use Rattle.std.specs.Prelude.{IfSome}
use Rattle.shm_seg.specs.Attachments.{attachment_at}
use Rattle.shm_seg.specs.Inside.{reached}
use Rattle.shm_calls.specs.Calls.{noted_from}
use Rattle.shm_calls.proofs.segments.Segments.note_copies.Given as goal

-- all below the next number are noted
abbrev pub invariant-loop-next : goal.invariant-loop-next
invariant-loop-next l = record {
  noted : l.self ≡ record l.fn.self { segments = noted_from (reached l.next) 0 l.who (λ n. attachment_at l.fn.self.attached l.who.process n) l.fn.self.segments };
  few : IfSome l.next (λ n. n < 4096);
}

abbrev pub decreases-loop-next : goal.decreases-loop-next
decreases-loop-next l = 4096 - reached l.next
