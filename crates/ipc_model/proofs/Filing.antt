-- Each attachment is of a process that runs, under a number of SHMSEG, and its segment is there: what the calls on segments, fork
-- and the end of a process leave of them.
use Rattle.std.proofs.Common.{◌≡◌, ◌≢◌, ℕ, zero, suc, ◌+◌, ◌<◌, ◌≤◌, Bool, true, false, cond, List, refl, sym, ap, subst, arith, ◌∙◌, ⊎_elim, inl, inr, Option, Some, None}
use Rattle.std.specs.Prelude.{◌⊎◌, ◌==◌, ◌&&◌, is_none, is_some}
use Rattle.std.specs.FinMap as finite
use Rattle.std.proofs.lemmas.Bool.{and_parts, cases_eq, cases_lt, eqb-true}
use Rattle.std.proofs.lemmas.Option.{none-some, same_Some}
use Rattle.ipc_ids.specs.Table.{Table, with_object, without_object}
use Rattle.ipc_ids.proofs.Sound.{get-insert-other, get-insert-same, get-remove-other}
use Rattle.ipc_objects.specs.declared.object.Object.{Object}
use Rattle.ipc_objects.specs.Objects.{changed, with_contents, with_perm}
use Rattle.shm_seg.specs.declared.attachments.Attachment.{Attachment}
use Rattle.shm_seg.specs.Attachments.{Attached, attach_count, attachment_at, free_number, shmseg, with_attachment, without_attachment}
use Rattle.shm_seg.proofs.Changes.{attached_apart, attached_here, detached_apart, detached_here, detached_none, there_counted}
use Rattle.shm_seg.proofs.Least.{Finds, finds}
use Rattle.ipc_model.specs.State.{Caller, Segment, Shared, Thread}
use Rattle.ipc_model.specs.Controls.{marked, without_segment}
use Rattle.ipc_model.specs.Segments.{after_detaches, after_fork, attached_by, attachment_to, copied, copied_from, detached, detached_by, detached_from, left_segment, segment_at, with_attached, with_copy, without_number}
use Rattle.ipc_model.specs.Tidy.{AreFiled, IsFiled, Runs}

-- a segment that is there is there still, when one is put or changed, or when another goes
module _ (t : Table (Object Segment)) (id j : ℕ) where
  there-put : (x : Object Segment) → is_some (finite.get t.objects j) ≡ true → is_some (finite.get (with_object t id x).objects j) ≡ true
  there-put x there = ⊎_elim
      (λ (e : j ≡ id). ap (λ n. is_some (finite.get (with_object t id x).objects n)) e ∙ ap (λ o. is_some o) (get-insert-same t.objects id x))
      (λ (ne : j ≡ id → ⊥). ap (λ o. is_some o) (get-insert-other t.objects id x j ne) ∙ there)
      (cases_eq j id)

  there-changed : (f : Object Segment → Object Segment) → is_some (finite.get t.objects j) ≡ true
      → is_some (finite.get (changed t id f).objects j) ≡ true
  there-changed f there = by (finite.get t.objects id)
    where
      by : (o : Option (Object Segment)) → is_some (finite.get (with_perm t id f o).objects j) ≡ true
      by None = there
      by (Some x) = there-put (f x) there

  there-left : j ≢ id → is_some (finite.get t.objects j) ≡ true → is_some (finite.get (without_object t id).objects j) ≡ true
  there-left ne there = ap (λ o. is_some o) (get-remove-other t.objects id j ne) ∙ there

-- what is attached afterwards was attached, or is what is attached now
put-there : (m : Attached) (process number : ℕ) (a : Attachment) (p n : ℕ) (x : Attachment)
    → attachment_at (with_attachment m process number a) p n ≡ Some x
    → ((p ≡ process) × (n ≡ number) × (x ≡ a)) ⊎ (attachment_at m p n ≡ Some x)
put-there m process number a p n x there = ⊎_elim
    (λ (same : p ≡ process). ⊎_elim
    (λ (e : n ≡ number). inl (same, e, same_Some x a (sym there ∙ (λ i. attachment_at (with_attachment m process number a) (same i) (e i)) ∙ attached_here m process number a)))
    (λ (ne : n ≡ number → ⊥). inr (sym (attached_apart m process number a p n (λ is e. ne e)) ∙ there))
    (cases_eq n number))
    (λ (other : p ≡ process → ⊥). inr (sym (attached_apart m process number a p n (λ is e. other is)) ∙ there))
    (cases_eq p process)

gone-there : (m : Attached) (process number p n : ℕ) (x : Attachment) → attachment_at (without_attachment m process number) p n ≡ Some x
    → attachment_at m p n ≡ Some x
gone-there m process number p n x there = ⊎_elim
    (λ (same : p ≡ process). ⊎_elim
    (λ (e : n ≡ number). absurd (none-some x (sym (detached_here m process number) ∙ sym (λ i. attachment_at (without_attachment m process number) (same i) (e i)) ∙ there)))
    (λ (ne : n ≡ number → ⊥). sym (detached_apart m process number p n (λ is e. ne e)) ∙ there)
    (cases_eq n number))
    (λ (other : p ≡ process → ⊥). sym (detached_apart m process number p n (λ is e. other is)) ∙ there)
    (cases_eq p process)

module _ (ts : List Thread) where
  -- with other segments, among which its own is
  filed-in : (a b : Shared) (p n : ℕ) (x : Attachment) → IsFiled ts a p n x → is_some (segment_at b x.segment) ≡ true → IsFiled ts b p n x
  filed-in a b p n x filed there = record { lives = filed.lives; few = filed.few; there = there }

  module _ (a : Shared) (filed : AreFiled ts a) where
    -- shmget; IPC_SET, shmwrite
    pub filed-put : (id : ℕ) (x : Object Segment) → AreFiled ts (record a { segments = with_object a.segments id x })
    filed-put id x p n of there =
        let was = filed p n of there in filed-in a (record a { segments = with_object a.segments id x }) p n of was (there-put a.segments id of.segment x was.there)

    pub filed-changed : (id : ℕ) (f : Object Segment → Object Segment) → AreFiled ts (record a { segments = changed a.segments id f })
    filed-changed id f p n of there =
        let was = filed p n of there in filed-in a (record a { segments = changed a.segments id f }) p n of was (there-changed a.segments id of.segment f was.there)

    -- a segment goes to which nothing is attached
    filed-left : (id : ℕ) → (attach_count a.attached id == 0) ≡ true → AreFiled ts (record a { segments = without_object a.segments id })
    filed-left id none p n of there =
        let was = filed p n of there in
        filed-in a (record a { segments = without_object a.segments id }) p n of was (there-left a.segments id of.segment (λ e.
        let some : 0 < attach_count a.attached id = subst (λ i. 0 < attach_count a.attached i) e (there_counted a.attached p n of there) in
        let zero_left : attach_count a.attached id ≡ 0 = eqb-true (attach_count a.attached id) 0 none in
        omega (arith, some, zero_left)) was.there)

    -- IPC_RMID
    pub filed-removed : (id : ℕ) → AreFiled ts (without_segment a id)
    filed-removed id = by (attach_count a.attached id == 0) refl
      where
        by : (b : Bool) → (attach_count a.attached id == 0) ≡ b → AreFiled ts (record a { segments = cond b (without_object a.segments id) (changed a.segments id marked) })
        by true none = filed-left id none
        by false some = filed-changed id marked

    -- one more attachment, to a segment that is there
    filed-one : (process number : ℕ) (of : Attachment) (f : Object Segment → Object Segment) → Runs ts process → number < shmseg
        → is_some (segment_at a of.segment) ≡ true
        → AreFiled ts (record { segments = changed a.segments of.segment f; attached = with_attachment a.attached process number of })
    filed-one process number of f lives few here p n x there = ⊎_elim
        (λ (new : (p ≡ process) × (n ≡ number) × (x ≡ of)). record {
          lives = subst (Runs ts) (sym new.0) lives;
          few = subst (λ i. i < shmseg) (sym new.1) few;
          there = there-changed a.segments of.segment x.segment f (ap (λ (y : Attachment). is_some (segment_at a y.segment)) new.2 ∙ here);
        })
        (λ (old : attachment_at a.attached p n ≡ Some x).
        let was = filed p n x old in
        record { lives = was.lives; few = was.few; there = there-changed a.segments of.segment x.segment f was.there })
        (put-there a.attached process number of p n x there)

    -- shmat
    pub filed-attached : (who : Caller) (id flags number : ℕ) (segment : Object Segment) → segment_at a id ≡ Some segment
        → free_number a.attached who.process ≡ Some number → Runs ts who.process
        → AreFiled ts (with_attached a who number (attachment_to id flags) segment.contents)
    filed-attached who id flags number segment there free lives =
        filed-one who.process number (attachment_to id flags) (λ (o : Object Segment). record o { contents = attached_by who segment.contents }) lives few (ap (λ o. is_some o) there)
      where
        few : number < shmseg
        few = (subst (λ o. Finds (λ k. is_none (attachment_at a.attached who.process k)) 0 shmseg o) free (finds (λ k. is_none (attachment_at a.attached who.process k)) shmseg 0 shmseg refl)).high

    -- shmdt: of a number of a process
    module _ (who : Caller) (number : ℕ) where
      abbrev rest : Attached
      rest = without_attachment a.attached who.process number

      filed-rest : AreFiled ts (record a { attached = rest })
      filed-rest p n x there = let was = filed p n x (gone-there a.attached who.process number p n x there) in record { lives = was.lives; few = was.few; there = was.there }

    filed-gone : (who : Caller) (id : ℕ) (segment : Object Segment) (b : Bool) → (segment.contents.is_marked && attach_count a.attached id == 0) ≡ b
        → AreFiled ts (record a { segments = cond b (without_object a.segments id) (with_contents a.segments id (detached_by who segment.contents)) })
    filed-gone who id segment true is = filed-left id (and_parts segment.contents.is_marked (attach_count a.attached id == 0) is).1
    filed-gone who id segment false isnt = filed-changed id (λ (o : Object Segment). record o { contents = detached_by who segment.contents })

    filed-after : (who : Caller) (id : ℕ) (o : Option (Object Segment)) → AreFiled ts (left_segment a who id o)
    filed-after who id None = filed
    filed-after who id (Some segment) = filed-gone who id segment (segment.contents.is_marked && attach_count a.attached id == 0) refl

  pub filed-number : (a : Shared) → AreFiled ts a → (who : Caller) (number : ℕ) (o : Option Attachment) → AreFiled ts (without_number a who number o)
  filed-number a filed who number None = filed
  filed-number a filed who number (Some of) =
      filed-after (record a { attached = without_attachment a.attached who.process number }) (filed-rest a filed who number) who of.segment (segment_at a of.segment)

  filed-each : (left number : ℕ) (who : Caller) (a : Shared) → AreFiled ts a → AreFiled ts (detached_from left number who a)
  unfolding detached_from
  filed-each zero number who a filed = filed
  filed-each (suc left) number who a filed =
      filed-each left (number + 1) who (detached a who number) (filed-number a filed who number (attachment_at a.attached who.process number))

-- what is attached after each detach
module _ (who : Caller) where
  detached-rest : (a : Shared) (number : ℕ) → (detached a who number).attached ≡ without_attachment a.attached who.process number
  detached-rest a number = by (attachment_at a.attached who.process number) refl
    where
      marked-or : (id : ℕ) (b : Shared) (o : Option (Object Segment)) → (left_segment b who id o).attached ≡ b.attached
      marked-or id b None = refl
      marked-or id b (Some segment) = refl

      by : (o : Option Attachment) → attachment_at a.attached who.process number ≡ o
          → (without_number a who number o).attached ≡ without_attachment a.attached who.process number
      by None none = sym (detached_none a.attached who.process number none)
      by (Some of) there = marked-or of.segment (record a { attached = without_attachment a.attached who.process number }) (segment_at a of.segment)

  still-none : (a : Shared) (number n : ℕ) → attachment_at a.attached who.process n ≡ None
      → attachment_at (detached a who number).attached who.process n ≡ None
  still-none a number n none = ap (λ m. attachment_at m who.process n) (detached-rest a number) ∙ ⊎_elim
      (λ (e : n ≡ number). ap (λ i. attachment_at (without_attachment a.attached who.process number) who.process i) e ∙ detached_here a.attached who.process number)
      (λ (ne : n ≡ number → ⊥). detached_apart a.attached who.process number who.process n (λ same e. ne e) ∙ none)
      (cases_eq n number)

  none-stays : (left number : ℕ) (a : Shared) (n : ℕ) → attachment_at a.attached who.process n ≡ None
      → attachment_at (detached_from left number who a).attached who.process n ≡ None
  unfolding detached_from
  none-stays zero number a n none = none
  none-stays (suc left) number a n none = none-stays left (number + 1) (detached a who number) n (still-none a number n none)

  none-left : (left number : ℕ) (a : Shared) (n : ℕ) → number ≤ n → n < number + left
      → attachment_at (detached_from left number who a).attached who.process n ≡ None
  unfolding detached_from
  none-left zero number a n low high = absurd (omega (arith, low, high))
  none-left (suc left) number a n low high = ⊎_elim
      (λ (e : n ≡ number). none-stays left (number + 1) (detached a who number) n
      (ap (λ m. attachment_at m who.process n) (detached-rest a number) ∙ ap (λ i. attachment_at (without_attachment a.attached who.process number) who.process i) e ∙ detached_here a.attached who.process number))
      (λ (ne : n ≡ number → ⊥). none-left left (number + 1) (detached a who number) n (omega (arith, ne, low)) (omega (arith, high)))
      (cases_eq n number)

-- the end of a process, where all others go on, and exec, where it goes on too
pub filed-ended : (ts us : List Thread) (who : Caller) (a : Shared) → ((q : ℕ) → Runs ts q → q ≢ who.process → Runs us q) → AreFiled ts a
    → AreFiled us (after_detaches a who)
filed-ended ts us who a still filed p n x there =
    let was = filed-each ts shmseg 0 who a filed p n x there in
    record {
      lives = still p was.lives (λ e. none-some x (sym (none-left who shmseg 0 a n (omega arith) (omega (arith, was.few))) ∙ ap (λ i. attachment_at (after_detaches a who).attached i n) (sym e) ∙ there));
      few = was.few;
      there = was.there;
    }

-- where the processes that run go on
pub filed-on : (ts us : List Thread) (a : Shared) → ((q : ℕ) → Runs ts q → Runs us q) → AreFiled ts a → AreFiled us a
filed-on ts us a still filed p n x there = let was = filed p n x there in record { lives = still p was.lives; few = was.few; there = was.there }

-- fork: copies for the child
module _ (ts : List Thread) (who : Caller) (child : ℕ) (lives : Runs ts child) where
  filed-copy : (a : Shared) → AreFiled ts a → (number : ℕ) (parents childs : Option Attachment) → attachment_at a.attached who.process number ≡ parents
      → AreFiled ts (with_copy a who child number parents childs)
  filed-copy a filed number None childs there = filed
  filed-copy a filed number (Some of) (Some other) there = filed
  filed-copy a filed number (Some of) None there =
      let was = filed who.process number of there in filed-one ts a filed child number of (λ (o : Object Segment). record o { contents = attached_by who o.contents }) lives was.few was.there

  filed-copied : (a : Shared) (number : ℕ) → AreFiled ts a → AreFiled ts (copied a who child number)
  filed-copied a number filed = filed-copy a filed number (attachment_at a.attached who.process number) (attachment_at a.attached child number) refl

  filed-copies : (left number : ℕ) (a : Shared) → AreFiled ts a → AreFiled ts (copied_from left number who child a)
  unfolding copied_from
  filed-copies zero number a filed = filed
  filed-copies (suc left) number a filed = filed-copies left (number + 1) (copied a who child number) (filed-copied a number filed)

  pub filed-fork : (a : Shared) → AreFiled ts a → AreFiled ts (after_fork a who child)
  filed-fork a filed = filed-copies shmseg 0 a filed

  -- the parent keeps its own, and the child has what the parent has
  module _ (apart : child ≢ who.process) where
    parents-kept : (a : Shared) (number n : ℕ) → attachment_at (copied a who child number).attached who.process n ≡ attachment_at a.attached who.process n
    parents-kept a number n = by (attachment_at a.attached who.process number) (attachment_at a.attached child number)
      where
        by : (parents childs : Option Attachment)
            → attachment_at (with_copy a who child number parents childs).attached who.process n ≡ attachment_at a.attached who.process n
        by None childs = refl
        by (Some of) (Some other) = refl
        by (Some of) None = attached_apart a.attached child number of who.process n (λ same e. apart (sym same))

    childs-kept : (a : Shared) (number n : ℕ) → n ≢ number → attachment_at (copied a who child number).attached child n ≡ attachment_at a.attached child n
    childs-kept a number n ne = by (attachment_at a.attached who.process number) (attachment_at a.attached child number)
      where
        by : (parents childs : Option Attachment) → attachment_at (with_copy a who child number parents childs).attached child n ≡ attachment_at a.attached child n
        by None childs = refl
        by (Some of) (Some other) = refl
        by (Some of) None = attached_apart a.attached child number of child n (λ same e. ne e)

    childs-new : (a : Shared) (number : ℕ) → attachment_at a.attached child number ≡ None
        → attachment_at (copied a who child number).attached child number ≡ attachment_at a.attached who.process number
    childs-new a number none =
        ap (λ o. attachment_at (with_copy a who child number (attachment_at a.attached who.process number) o).attached child number) none
        ∙ by (attachment_at a.attached who.process number)
      where
        by : (parents : Option Attachment) → attachment_at (with_copy a who child number parents None).attached child number ≡ parents
        by None = none
        by (Some of) = attached_here a.attached child number of

    before-kept : (left number : ℕ) (a : Shared) (n : ℕ) → n < number
        → attachment_at (copied_from left number who child a).attached child n ≡ attachment_at a.attached child n
    unfolding copied_from
    before-kept zero number a n lt = refl
    before-kept (suc left) number a n lt = before-kept left (number + 1) (copied a who child number) n (omega (arith, lt)) ∙ childs-kept a number n (λ e. absurd (omega (arith, lt, e)))

    beyond-kept : (left number : ℕ) (a : Shared) (n : ℕ) → number + left ≤ n
        → attachment_at (copied_from left number who child a).attached child n ≡ attachment_at a.attached child n
    unfolding copied_from
    beyond-kept zero number a n le = refl
    beyond-kept (suc left) number a n le = beyond-kept left (number + 1) (copied a who child number) n (omega (arith, le)) ∙ childs-kept a number n (λ e. absurd (omega (arith, le, e)))

    copies-alike : (left number : ℕ) (a : Shared) (n : ℕ) → number ≤ n → n < number + left → attachment_at a.attached child n ≡ None
        → attachment_at (copied_from left number who child a).attached child n ≡ attachment_at a.attached who.process n
    unfolding copied_from
    copies-alike zero number a n low high none = absurd (omega (arith, low, high))
    copies-alike (suc left) number a n low high none = ⊎_elim
        (λ (e : n ≡ number).
        let lt : n < number + 1 = omega (arith, e) in
        before-kept left (number + 1) (copied a who child number) n lt
        ∙ ap (λ i. attachment_at (copied a who child number).attached child i) e
        ∙ childs-new a number (ap (attachment_at a.attached child) (sym e) ∙ none)
        ∙ ap (attachment_at a.attached who.process) (sym e))
        (λ (ne : n ≡ number → ⊥).
        copies-alike left (number + 1) (copied a who child number) n (omega (arith, ne, low)) (omega (arith, high)) (childs-kept a number n ne ∙ none)
        ∙ parents-kept a number n)
        (cases_eq n number)

    -- under numbers beyond SHMSEG neither has anything
    pub fork-alike : (a : Shared) → AreFiled ts a → ((n : ℕ) → attachment_at a.attached child n ≡ None) → (n : ℕ)
        → attachment_at (after_fork a who child).attached child n ≡ attachment_at a.attached who.process n
    fork-alike a filed none n = ⊎_elim
        (λ (lt : n < shmseg). copies-alike shmseg 0 a n (omega arith) (omega (arith, lt)) (none n))
        (λ (ge : shmseg ≤ n). beyond-kept shmseg 0 a n (omega (arith, ge)) ∙ none n ∙ sym (beyond (attachment_at a.attached who.process n) refl ge))
        (cases_lt n shmseg)
      where
        beyond : (o : Option Attachment) → attachment_at a.attached who.process n ≡ o → shmseg ≤ n → attachment_at a.attached who.process n ≡ None
        beyond None is ge = is
        beyond (Some of) is ge = absurd (let lt = (filed who.process n of is).few in omega (arith, lt, ge))
