use Rattle.std.proofs.Common.{◌∙◌, ap, Some}
use Rattle.ipc_objects.specs.Objects.{changed, with_contents, without_key}
use Rattle.ipc_model.specs.State.{Segment}
use Rattle.shm_seg.specs.Segments.{Contents}
use Rattle.shm_calls.proofs.Renewing.{marks, there-with}
use Rattle.shm_calls.proofs.segments.Segments.mark.Goals as goal

pub free_key-requires : goal.free_key-requires
free_key-requires c = there-with c.self.inside.segments c.self.inside.attached c.args.self.now c.self.view_is c.args.id _ c.requires

pub returns : goal.returns
returns c =
    let t = c.self.inside.segments in
    let s = c.segment.inside in
    let old : Segment = record { bytes = s.memory.bytes; is_marked = s.memory.is_marked; creator = s.creator; last = s.last; attach_time = s.attach_time; detach_time = s.detach_time } in
    marks t c.self.inside.attached c.args.self.now c.self.view_is c.args.id old (ap Some c.segment.view_is ∙ c.in-Some.ensures.value) c.free_key.new.self
    (c.free_key.ensures ∙ ap (λ (m : Contents). changed (with_contents t c.args.id (record old { bytes = m.bytes; is_marked = m.is_marked })) c.args.id without_key) c.mark.ensures)
