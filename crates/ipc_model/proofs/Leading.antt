-- What a call on segments leaves: the table follows, and every marked segment has an attachment still.
use Rattle.std.proofs.Common.{◌≡◌, ℕ, zero, suc, ◌+◌, ◌<◌, Bool, true, false, cond, refl, sym, ap, subst, arith, ◌∙◌, ⊎_elim, inl, inr, Option, Some, None}
use Rattle.std.specs.Prelude.{nat_eq, ◌==◌, ◌&&◌, ◌⊎◌}
use Rattle.std.specs.FinMap as finite
use Rattle.std.proofs.lemmas.Bool.{cases_eq, true≢false}
use Rattle.std.proofs.lemmas.Option.{none-some, same_Some}
use Rattle.ipc_ids.specs.Table.{Table, next_id, with_object, without_object}
use Rattle.ipc_ids.proofs.Identifiers.{same_eq}
use Rattle.ipc_ids.proofs.Ids.{get-removed}
use Rattle.ipc_ids.proofs.Sound.{get-insert-other, get-insert-same}
use Rattle.ipc_objects.specs.declared.object.Object.{Object}
use Rattle.ipc_objects.specs.Objects.{changed, with_perm}
use Rattle.shm_seg.specs.declared.attachments.Attachment.{Attachment}
use Rattle.shm_seg.specs.Attachments.{Attached, attach_count, attachment_at, free_number, with_attachment, without_attachment}
use Rattle.shm_seg.proofs.Changes.{attached_count, detached_count_other, free_there}
use Rattle.ipc_model.specs.State.{Caller, Segment, Shared}
use Rattle.ipc_model.specs.Controls.{marked, without_segment}
use Rattle.ipc_model.specs.Segments.{AreAttached, attached_by, attachment_to, copied, copied_from, detached, detached_by, detached_from, left_segment, segment_at, with_attached, with_bytes, with_copy, without_number}
use Rattle.ipc_model.proofs.Growing.{Grows-changed, Grows-gone, Grows-new, Grows-same, Leads, Leads-on, Leads-same}

module _ (t : Table (Object Segment)) (id : ℕ) where
  -- an object is there that isn't the one at the identifier, or is that one
  there-with : (object : Object Segment) (j : ℕ) (y : Object Segment) → finite.get (with_object t id object).objects j ≡ Some y → ((j ≡ id) × (y ≡ object)) ⊎ ((j ≡ id → ⊥) × (finite.get t.objects j ≡ Some y))
  there-with object j y there = ⊎_elim
      (λ (same : j ≡ id). inl (same, same_Some y object (sym there ∙ ap (λ n. finite.get (with_object t id object).objects n) same ∙ get-insert-same t.objects id object)))
      (λ (ne : j ≡ id → ⊥). inr (ne, sym (get-insert-other t.objects id object j ne) ∙ there))
      (cases_eq j id)

  -- what is there after a removal was there, and isn't what was removed
  left-there : (j : ℕ) (y : Object Segment) → finite.get (without_object t id).objects j ≡ Some y → (finite.get t.objects j ≡ Some y) × (j ≡ id → ⊥)
  left-there j y there = by (nat_eq id j) refl
    where
      by : (b : Bool) → nat_eq id j ≡ b → (finite.get t.objects j ≡ Some y) × (j ≡ id → ⊥)
      by true same = absurd (none-some y (sym (get-removed t.objects id j ∙ ap (λ b. cond b None (finite.get t.objects j)) same) ∙ there))
      by false other = (sym (get-removed t.objects id j ∙ ap (λ b. cond b None (finite.get t.objects j)) other) ∙ there, λ is. true≢false (sym (same_eq id j (sym is)) ∙ other))

  -- the object at the identifier changes, and its mark stays: each that is there was there, with its mark
  was-there : (change : Object Segment → Object Segment) (o : Option (Object Segment)) → finite.get t.objects id ≡ o → ((x : Object Segment) → o ≡ Some x → (change x).contents.is_marked ≡ x.contents.is_marked)
      → (j : ℕ) (y : Object Segment) → finite.get (with_perm t id change o).objects j ≡ Some y → (x : Object Segment) × (finite.get t.objects j ≡ Some x) × (y.contents.is_marked ≡ x.contents.is_marked)
  was-there change None is keeps j y there = (y, there, refl)
  was-there change (Some x) is keeps j y there = ⊎_elim
      (λ (here : (j ≡ id) × (y ≡ change x)). (x, ap (λ n. finite.get t.objects n) here.0 ∙ is, ap (λ (o : Object Segment). o.contents.is_marked) here.1 ∙ keeps x refl))
      (λ (other : (j ≡ id → ⊥) × (finite.get t.objects j ≡ Some y)). (y, other.1, refl))
      (there-with (change x) j y there)

-- a segment changes, its mark stays, and where a segment was attached it is still
Leads-kept : (a : Shared) (id : ℕ) (change : Object Segment → Object Segment) (attached : Attached) → ((x : Object Segment) → segment_at a id ≡ Some x → (change x).contents.is_marked ≡ x.contents.is_marked)
    → ((j : ℕ) → 0 < attach_count a.attached j → 0 < attach_count attached j) → Leads a (record { segments = changed a.segments id change; attached = attached })
Leads-kept a id change attached keeps still = record {
  grows = Grows-changed a.segments id change;
  attached = λ are. record { each = λ j y there is. let was = was-there a.segments id change (segment_at a id) refl keeps j y there in still j (are.each j was.0 was.1 (sym was.2 ∙ is)) };
}

pub Leads-changed : (a : Shared) (id : ℕ) (change : Object Segment → Object Segment) → ((x : Object Segment) → segment_at a id ≡ Some x → (change x).contents.is_marked ≡ x.contents.is_marked)
    → Leads a (record a { segments = changed a.segments id change })
Leads-changed a id change keeps = Leads-kept a id change a.attached keeps (λ j there. there)

-- shmget: a new segment isn't marked
pub Leads-new : (a : Shared) (id : ℕ) (object : Object Segment) → object.contents.is_marked ≡ false → next_id a.segments ≡ Some id → Leads a (record a { segments = with_object a.segments id object })
Leads-new a id object new is = record {
  grows = Grows-new a.segments id object is;
  attached = λ are. record {
    each = λ j y there marked. ⊎_elim
        (λ (here : (j ≡ id) × (y ≡ object)). absurd (true≢false (sym marked ∙ ap (λ (o : Object Segment). o.contents.is_marked) here.1 ∙ new)))
        (λ (other : (j ≡ id → ⊥) × (segment_at a j ≡ Some y)). are.each j y other.1 marked)
        (there-with a.segments id object j y there);
  };
}

-- shmat
pub Leads-attached : (a : Shared) (who : Caller) (id flags number : ℕ) (segment : Object Segment) → segment_at a id ≡ Some segment → free_number a.attached who.process ≡ Some number → Leads a (with_attached a who number (attachment_to id flags) segment.contents)
Leads-attached a who id flags number segment there free =
    Leads-kept a id (λ (o : Object Segment). record o { contents = attached_by who segment.contents }) (with_attached a who number (attachment_to id flags) segment.contents).attached
    (λ x is. ap (λ (o : Object Segment). o.contents.is_marked) (same_Some segment x (sym there ∙ is)))
    (λ j was. let more = attached_count a.attached who.process number (attachment_to id flags) (free_there a.attached who.process number free) j in omega (arith, more, was))

-- fork: the child has nothing under the number
Leads-copy : (a : Shared) (who : Caller) (child number : ℕ) (parents childs : Option Attachment) → attachment_at a.attached child number ≡ childs → Leads a (with_copy a who child number parents childs)
Leads-copy a who child number (Some of) None free =
    Leads-kept a of.segment (λ (o : Object Segment). record o { contents = attached_by who o.contents }) (with_attachment a.attached child number of)
    (λ x is. refl)
    (λ j was. let more = attached_count a.attached child number of free j in omega (arith, more, was))
Leads-copy a who child number (Some of) (Some other) is = Leads-same a
Leads-copy a who child number None childs is = Leads-same a

pub Leads-copies : (left number : ℕ) (who : Caller) (child : ℕ) (a : Shared) → Leads a (copied_from left number who child a)
unfolding copied_from
Leads-copies zero number who child a = Leads-same a
Leads-copies (suc left) number who child a =
    let first = copied a who child number in
    Leads-on a first (copied_from left (number + 1) who child first)
    (Leads-copy a who child number (attachment_at a.attached who.process number) (attachment_at a.attached child number) refl) (Leads-copies left (number + 1) who child first)

-- shmwrite
pub Leads-written : (a : Shared) (id : ℕ) (segment : Object Segment) (offset : ℕ) (new : _) → segment_at a id ≡ Some segment → Leads a (with_bytes a id segment.contents offset new)
Leads-written a id segment offset new there =
    Leads-changed a id (λ (o : Object Segment). record o { contents = _ }) (λ x is. ap (λ (o : Object Segment). o.contents.is_marked) (same_Some segment x (sym there ∙ is)))

-- IPC_RMID
module _ (a : Shared) (id : ℕ) (segment : Object Segment) (there : segment_at a id ≡ Some segment) where
  removed-by : (b : Bool) → (attach_count a.attached id == 0) ≡ b → Leads a (record a { segments = cond b (without_object a.segments id) (changed a.segments id marked) })
  removed-by true none = record {
    grows = Grows-gone a.segments id segment there;
    attached = λ are. record { each = λ j y left is. are.each j y (left-there a.segments id j y left).0 is };
  }
  removed-by false some = record {
    grows = Grows-changed a.segments id marked;
    attached = λ are. record {
      each = λ j y left is. ⊎_elim
          (λ (here : (j ≡ id) × (y ≡ marked segment)). let count : 0 < attach_count a.attached id = grind arith in subst (λ n. 0 < attach_count a.attached n) (sym here.0) count)
          (λ (other : (j ≡ id → ⊥) × (segment_at a j ≡ Some y)). are.each j y other.1 is)
          (there-with a.segments id (marked segment) j y (ap (λ o. finite.get (with_perm a.segments id marked o).objects j) (sym there) ∙ left));
    };
  }

  pub Leads-removed : Leads a (without_segment a id)
  Leads-removed = removed-by (attach_count a.attached id == 0) refl

-- shmdt: of the attachment of a number
module _ (a : Shared) (who : Caller) (number : ℕ) (of : Attachment) (there : attachment_at a.attached who.process number ≡ Some of) where
  abbrev rest : Attached
  rest = without_attachment a.attached who.process number

  abbrev id : ℕ
  id = of.segment

  abbrev left-with : Option (Object Segment) → Shared
  left-with o = left_segment (record a { attached = rest }) who id o

  -- another segment has as many
  other-count : (j : ℕ) → (j ≡ id → ⊥) → 0 < attach_count a.attached j → 0 < attach_count rest j
  other-count j ne some = subst (λ n. 0 < n) (sym (detached_count_other a.attached who.process number of there j (λ same. ne (sym same)))) some

  abbrev left-by : Bool → Bool → Object Segment → Table (Object Segment)
  left-by is none segment = cond (is && none) (without_object a.segments id) (changed a.segments id (λ (o : Object Segment). record o { contents = detached_by who segment.contents }))

  module _ (segment : Object Segment) (here : segment_at a id ≡ Some segment) where
    stays : (is none : Bool) → segment.contents.is_marked ≡ is → (attach_count rest id == 0) ≡ none → (is && none) ≡ false → AreAttached a → (j : ℕ) (y : Object Segment)
        → finite.get (changed a.segments id (λ (o : Object Segment). record o { contents = detached_by who segment.contents })).objects j ≡ Some y → y.contents.is_marked ≡ true → 0 < attach_count rest j
    stays is none marked counted never are j y left told = ⊎_elim
        (λ (same : (j ≡ id) × (y ≡ record segment { contents = detached_by who segment.contents })).
        let yes : is ≡ true = sym marked ∙ ap (λ (o : Object Segment). o.contents.is_marked) (sym same.1) ∙ told in
        let some : none ≡ false = sym (ap (λ b. b && none) yes) ∙ never in
        let count : 0 < attach_count rest id = let zero_not : (attach_count rest id == 0) ≡ false = counted ∙ some in grind arith in
        subst (λ n. 0 < attach_count rest n) (sym same.0) count)
        (λ (other : (j ≡ id → ⊥) × (segment_at a j ≡ Some y)). other-count j other.0 (are.each j y other.1 told))
        (there-with a.segments id (record segment { contents = detached_by who segment.contents }) j y
        (ap (λ o. finite.get (with_perm a.segments id (λ (x : Object Segment). record x { contents = detached_by who segment.contents }) o).objects j) (sym here) ∙ left))

    detached-by : (is none : Bool) → segment.contents.is_marked ≡ is → (attach_count rest id == 0) ≡ none → Leads a (record { segments = left-by is none segment; attached = rest })
    detached-by true true marked counted = record {
      grows = Grows-gone a.segments id segment here;
      attached = λ are. record { each = λ j y left told. let was = left-there a.segments id j y left in other-count j was.1 (are.each j y was.0 told) };
    }
    detached-by true false marked counted = record { grows = Grows-changed a.segments id _; attached = λ are. record { each = stays true false marked counted refl are } }
    detached-by false none marked counted = record { grows = Grows-changed a.segments id _; attached = λ are. record { each = stays false none marked counted refl are } }

  left : (o : Option (Object Segment)) → segment_at a id ≡ o → Leads a (left-with o)
  left None is = record {
    grows = Grows-same a.segments;
    attached = λ are. record { each = λ j y still told. other-count j (λ same. none-some y (sym is ∙ ap (λ n. segment_at a n) (sym same) ∙ still)) (are.each j y still told) };
  }
  left (Some segment) is = detached-by segment is segment.contents.is_marked (attach_count rest id == 0) refl refl

  pub Leads-detached : Leads a (without_number a who number (Some of))
  Leads-detached = left (segment_at a id) refl

-- exit
Leads-number : (a : Shared) (who : Caller) (number : ℕ) (o : Option Attachment) → attachment_at a.attached who.process number ≡ o → Leads a (without_number a who number o)
Leads-number a who number None is = Leads-same a
Leads-number a who number (Some of) is = Leads-detached a who number of is

pub Leads-each : (left number : ℕ) (who : Caller) (a : Shared) → Leads a (detached_from left number who a)
unfolding detached_from
Leads-each zero number who a = Leads-same a
Leads-each (suc left) number who a =
    let first = detached a who number in
    Leads-on a first (detached_from left (number + 1) who first) (Leads-number a who number (attachment_at a.attached who.process number) refl) (Leads-each left (number + 1) who first)
