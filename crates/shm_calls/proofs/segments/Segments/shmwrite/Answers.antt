use Rattle.std.proofs.Common.{rules, ◌≡◌, ◌∙◌, Some, Bool, Ok, Err, true, false, length, refl, ap, sym, subst}
use Rattle.std.specs.Prelude.{OnOk, OnErr}
use Rattle.ipc_call.specs.declared.rules.Rule.{Rule}
use Rattle.ipc_objects.specs.Objects.{with_contents}
use Rattle.shm_seg.specs.declared.segment.Fault.{Fault}
use Rattle.shm_seg.specs.declared.segment.Fault.TheVariants.{Refused}
use Rattle.shm_seg.specs.Faults.{IsMemory}
use Rattle.shm_seg.specs.Segments.{Contents, lies_within}
use Rattle.ipc_model.specs.Decision.{left_by}
use Rattle.ipc_model.specs.Plan.{decision}
use Rattle.ipc_model.specs.Segments.{write_bytes}
use Rattle.ipc_model.specs.State.{Segment, Shared}
use Rattle.shm_calls.proofs.Renewing.{stays}
use Rattle.shm_calls.proofs.segments.Segments.shmwrite.Goals as goal
use Rattle.shm_calls.proofs.segments.Segments.shmwrite.Goals.{Joined-write, in-Ok, in-Err-Refused, in-Err-Memory}

-- a write that is done, and one that a rule refuses
inside : {T : Type 0} (x : T) (fault : Fault) (within : Bool) → (within ≡ false → Ok x ≡ Err fault) → within ≡ true
inside x fault true h = refl
inside x fault false h = subst (λ r. OnOk r (false ≡ true)) (sym (h refl)) tt

outside : (rule : Rule) (within : Bool) → (within ≡ true → IsMemory (Refused rule)) → within ≡ false
outside rule true h = absurd (h refl)
outside rule false h = refl

-- the segment before the write, and what stands with other bytes
module _ (c : Joined-write) where
  abbrev old : Segment
  old =
      let s = c.segment.inside in
      record { bytes = s.memory.bytes; is_marked = s.memory.is_marked; creator = s.creator; last = s.last; attach_time = s.attach_time; detach_time = s.detach_time }

  abbrev with : Contents → Shared
  with m = record {
    segments = with_contents c.self.inside.segments c.in-Some.attachment.segment (record old { bytes = m.bytes; is_marked = m.is_marked });
    attached = c.self.inside.attached;
  }

  abbrev after : Shared
  after = left_by c.args.self.now (decision c.args.who.now.creds (write_bytes c.args.self.now c.args.who.now c.args.att c.args.offset c.args.bytes.now))

  same : with c.segment.inside.memory ≡ c.args.self.now
  same = stays c.self.inside.segments c.self.inside.attached c.args.self.now c.self.view_is c.in-Some.attachment.segment old (ap Some c.segment.view_is ∙ c.in-Some-contents_mut.ensures.value)

pub returns-clause-shared : goal.returns-clause-shared
returns-clause-shared c =
    let bytes = c.segment.inside.memory.bytes in
    elim c.match-write.branch [
      | in-Ok w ↦
          let fact = inside w.in-Ok.field-0 _ (lies_within c.args.offset (length c.args.bytes.now) bytes) w.in-Ok.ensures.refused in
          subst (λ r. OnOk r (with c c.write.new.self ≡ after c)) (sym w.result-is) (ap (with c) w.in-Ok.ensures.ok ∙ search (rules, fact))
      | in-Err-Refused w ↦
          let fact = outside w.in-Err-Refused.rule (lies_within c.args.offset (length c.args.bytes.now) bytes) (λ h. subst IsMemory w.in-Err-Refused.field-0-is (w.in-Err-Refused.ensures.within h)) in
          let refused : c.args.self.now ≡ after c = search (rules, fact) in
          subst (λ r. OnOk r (with c c.write.new.self ≡ after c)) (sym w.result-is) (ap (with c) w.in-Err-Refused.ensures.err ∙ same c ∙ refused)
      | in-Err-Memory w ↦ subst (λ r. OnOk r (with c c.write.new.self ≡ after c)) (sym w.result-is) tt
    ]

pub returns-clause-err : goal.returns-clause-err
returns-clause-err c =
    elim c.match-write.branch [
      | in-Ok w ↦ subst (λ r. OnErr r (with c c.write.new.self ≡ c.args.self.now)) (sym w.result-is) tt
      | in-Err-Refused w ↦ subst (λ r. OnErr r (with c c.write.new.self ≡ c.args.self.now)) (sym w.result-is) tt
      | in-Err-Memory w ↦ subst (λ r. OnErr r (with c c.write.new.self ≡ c.args.self.now)) (sym w.result-is) (ap (with c) w.in-Err-Memory.ensures.err ∙ same c)
    ]
