use Rattle.std.proofs.Common.{◌<◌, ◌∙◌, ap, subst, sym}
use Rattle.std.specs.Prelude.{is_some}
use Rattle.std.specs.FinMap as finite
use Rattle.shm_seg.specs.Attachments.{attachment_at, first_number}
use Rattle.ipc_model.specs.Segments.{after_detaches}
use Rattle.ipc_model.specs.State.{Shared}
use Rattle.shm_calls.proofs.Detaching.{exit-done, exit-step, fewer}
use Rattle.shm_calls.proofs.segments.Segments.exit.Goals as goal

pub loop-number-smaller : goal.loop-number-smaller
loop-number-smaller c =
    let s = c.loop-number.self in
    let there = (λ i. is_some (attachment_at (sym c.self.view_is i).attached (sym c.process.ensures i) c.in-Some.number)) ∙ c.in-Some.ensures.there in
    subst (λ (x : Shared). finite.len x.attached < finite.len s.attached) (sym c.detach.ensures) (fewer c.args.who.now s c.in-Some.number there)

pub loop-number-preserved : goal.loop-number-preserved
loop-number-preserved c =
    let first = c.in-Some.ensures.first ∙ (λ i. first_number (c.self.view_is i).attached (c.process.ensures i)) in
    record {
      rest = ap (λ (x : Shared). after_detaches x c.args.who.now) c.detach.ensures ∙ exit-step c.args.who.now c.loop-number.self c.in-Some.number first ∙ c.loop-number.invariant.rest;
    }

pub returns : goal.returns
returns c =
    let none = c.in_default.ensures.first ∙ (λ i. first_number (c.self.view_is i).attached (c.process.ensures i)) in
    exit-done c.args.who.now c.loop-number.self none ∙ c.loop-number.invariant.rest
