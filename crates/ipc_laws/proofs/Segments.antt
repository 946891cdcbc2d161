-- The calls on segments, and exit, on the segments with their attachments and on their blur.
use Rattle.std.proofs.Common.{◌≡◌, ◌≢◌, ℕ, zero, suc, ◌+◌, Bool, true, false, cond, List, [], ◌∷◌, length, refl, sym, ap, subst, ◌∙◌, Option, Some, None}
use Rattle.std.specs.Prelude.{◌==◌, nat_le, not, ◌&&◌, option_map, option_and_then, unwrap_or, replicate}
use Rattle.std.specs.FinMap as finite
use Rattle.std.proofs.lemmas.Bool.{and_parts, false≢true}
use Rattle.std.proofs.lemmas.List.{length-replicate}
use Rattle.std.proofs.lemmas.Option.{none-some, same_Some}
use Rattle.ipc_call.specs.declared.limits.Limits.{Limits}
use Rattle.ipc_call.specs.declared.perms.Perm.{Perm}
use Rattle.ipc_call.specs.declared.rules.Rule.TheVariants.{BadId, BadSize, NotAttached, OutOfSegment, TooManyAttached}
use Rattle.ipc_call.specs.declared.replies.Answer.TheVariants.{Attached as AttachedAnswer, Bytes, Done}
use Rattle.ipc_creds.specs.Credentials.{Credentials}
use Rattle.ipc_perm.specs.Access.{Permission, Writable, class_of, rule_of}
use Rattle.ipc_ids.specs.Table.{Table, without_object}
use Rattle.ipc_objects.specs.declared.object.Object.{Object}
use Rattle.ipc_objects.specs.Objects.{changed, with_contents, with_perm}
use Rattle.shm_seg.specs.declared.attachments.Attachment.{Attachment}
use Rattle.shm_seg.specs.Attachments.{Attached, attach_count, attachment_at, free_number, shmseg, with_attachment, without_attachment}
use Rattle.shm_seg.specs.Segments.{lies_within, overwritten, part_of}
use Rattle.shm_seg.proofs.Changes.{free_there}
use Rattle.ipc_model.specs.State.{Caller, Segment, Shared}
use Rattle.ipc_model.specs.Plan.{Needs, Passes, Grant, found, ◌⨾◌}
use Rattle.ipc_model.specs.Gets.{Get, get_segment, getting_segment}
use Rattle.ipc_model.specs.Controls.{marked, without_segment}
use Rattle.ipc_model.specs.Segments.{after_detaches, after_fork, attach, attached_by, behind, copied, copied_from, detach, detached, detached_by, detached_from, left_segment, read_bytes, segment_at, wanted_to_attach, with_attached, noted, with_bytes, with_copy, without_number, write_bytes, attachment_to}
use Rattle.ipc_model.proofs.Granting.{Grants, grants-check, grants-found, grants-grant, grants-passes}
use Rattle.ipc_model.proofs.Lasting.{written-long}
use Rattle.ipc_laws.specs.Worlds.{all_masked, blank, blank_segment, blur_shared, has_attached, hides_segment, is_closed, is_hidden_in, masked}
use Rattle.ipc_laws.proofs.Attached.{attached-apart, attached-left, attached-other, attached-there, detached-fewer}
use Rattle.ipc_laws.proofs.Closed.{denied-permission}
use Rattle.ipc_laws.proofs.Pairs.{Both, both-check, both-denied, both-found, both-grant, both-on}
use Rattle.ipc_laws.proofs.Parts.{Alike, alike-changed, alike-without, both-get, hidden-changed, own-found}
use Rattle.ipc_laws.proofs.Tables.{again, get-masked, get-seen, hidden-at, masked-hidden, masked-seen, more-same, without-alike}

-- how many bytes there are is all that a blank segment has
blank-same : (x y : Segment) → length x.bytes ≡ length y.bytes → x.is_marked ≡ y.is_marked → x.creator ≡ y.creator → blank_segment x ≡ blank_segment y
blank-same x y same mark by = λ i. record { bytes = replicate (same i) 0; is_marked = mark i; creator = by i; last = 0; attach_time = 0; detach_time = 0 }

pub segment-twice : (x : Segment) → blank_segment (blank_segment x) ≡ blank_segment x
segment-twice x = blank-same (blank_segment x) x (length-replicate (length x.bytes) 0) refl refl

-- the segment behind an attachment, and the attachment
behind-parts : (a : Shared) (client number : ℕ) (of : Attachment) (segment : Object Segment) → behind a client number ≡ Some (of, segment) → (attachment_at a.attached client number ≡ Some of) × (segment_at a of.segment ≡ Some segment)
behind-parts a client number of segment is = by (attachment_at a.attached client number) is
  where
    there : (x : Attachment) (o : Option (Object Segment)) → segment_at a x.segment ≡ o → option_map {U = Attachment × Object Segment} (λ segment. (x, segment)) o ≡ Some (of, segment) → (Some x ≡ Some of) × (segment_at a of.segment ≡ Some segment)
    there x None at is = absurd (none-some (of, segment) is)
    there x (Some y) at is =
        let same = same_Some (x, y) (of, segment) is in (
          ap (λ (p : Attachment × Object Segment). Some p.0) same,
          ap (λ (p : Attachment × Object Segment). segment_at a p.0.segment) (sym same) ∙ at ∙ ap (λ (p : Attachment × Object Segment). Some p.1) same,
        )

    by : (o : Option Attachment) → option_and_then (λ x. option_map {U = Attachment × Object Segment} (λ segment. (x, segment)) (segment_at a x.segment)) o ≡ Some (of, segment) → (o ≡ Some of) × (segment_at a of.segment ≡ Some segment)
    by None is = absurd (none-some (of, segment) is)
    by (Some x) is = there x (segment_at a x.segment) refl is

module _ (client : ℕ) (c : Credentials) where
  abbrev pub hid : Shared → ℕ → Bool
  hid a q = is_hidden_in (hides_segment client c a.attached) a.segments q

  abbrev mask : Attached → Table (Object Segment) → Table (Object Segment)
  mask attached segments = all_masked blank_segment (hides_segment client c attached) segments

  pub shared-twice : (a : Shared) → blur_shared client c a ≡ blur_shared client c (blur_shared client c a)
  shared-twice a = ap (λ segments. record a { segments = segments }) (again blank_segment segment-twice (hides_segment client c a.attached) (hides_segment client c a.attached) a.segments (λ q p is. is))

  pub closed-of : (attached : Attached) (q : ℕ) (p : Perm) → hides_segment client c attached q p ≡ true → is_closed c p ≡ true
  closed-of attached q p is = (and_parts (is_closed c p) (not (has_attached attached client q)) is).0

  pub unattached-of : (attached : Attached) (q : ℕ) (p : Perm) → hides_segment client c attached q p ≡ true → has_attached attached client q ≡ false
  unattached-of attached q p is = turned (has_attached attached client q) (and_parts (is_closed c p) (not (has_attached attached client q)) is).1
    where
      turned : (b : Bool) → not b ≡ true → b ≡ false
      turned true is = absurd (false≢true is)
      turned false is = refl

  pub hides-by : (attached : Attached) (q : ℕ) (p : Perm) → is_closed c p ≡ true → has_attached attached client q ≡ false → hides_segment client c attached q p ≡ true
  hides-by attached q p closed none = λ i. (◌&&◌ (closed i) (not (none i)))

  -- a segment that is attached is in sight
  attached-seen : (attached : Attached) (q : ℕ) (p : Perm) → has_attached attached client q ≡ true → hides_segment client c attached q p ≡ false
  attached-seen attached q p is = ap (λ b. is_closed c p && not b) is ∙ never (is_closed c p)
    where
      never : (b : Bool) → (b && false) ≡ false
      never true = refl
      never false = refl

  module _ (a : Shared) where
    abbrev blurred : Shared
    blurred = blur_shared client c a

    abbrev pub IsAlike : Shared → Shared → Type 0
    IsAlike new later = Alike (blur_shared client c) hid a new later

    -- the blur stays
    abbrev pub IsSame : Shared → Type 0
    IsSame new = blur_shared client c new ≡ blurred

    pub same-shared : IsAlike a blurred
    same-shared = (shared-twice a, λ q is. is)

    -- other segments, and other attachments
    alike-shared : (segments others : Table (Object Segment)) (attached : Attached) → (mask attached segments ≡ mask attached others) × ((q : ℕ) → hid a q ≡ true → is_hidden_in (hides_segment client c attached) segments q ≡ true)
        → IsAlike (record { segments = segments; attached = attached }) (record { segments = others; attached = attached })
    alike-shared segments others attached alike = (ap (λ x. record { segments = x; attached = attached }) alike.0, alike.1)

    -- shmget
    pub own-get : (limits : Limits) (who : Caller) (asked : Get) (size : ℕ) → Both c IsAlike (get_segment limits a who asked size) (get_segment limits blurred who asked size)
    own-get limits who asked size =
        both-on (Alike (mask a.attached) (λ t q. is_hidden_in (hides_segment client c a.attached) t q) a.segments) IsAlike (λ segments. record a { segments = segments }) (λ segments. record blurred { segments = segments })
        (λ segments others alike. alike-shared segments others a.attached alike) c
        (both-get blank_segment (hides_segment client c a.attached) a.segments segment-twice c (getting_segment limits who.pid size)
        (λ x. ap (λ n. Passes (nat_le size n) BadSize tt ∷ []) (length-replicate (length x.bytes) 0)) who asked)

    -- a segment in sight changes, and what is attached to another stays
    module _ (id : ℕ) (attached : Attached) (o : Object Segment) (there : finite.get a.segments.objects id ≡ Some o) (seen : hides_segment client c a.attached id o.perm ≡ false)
        (fewer : (q : ℕ) → (q ≡ id → ⊥) → has_attached a.attached client q ≡ false → has_attached attached client q ≡ false) where
      more : (q : ℕ) → (q ≡ id → ⊥) → (p : Perm) → hides_segment client c a.attached q p ≡ true → hides_segment client c attached q p ≡ true
      more q ne p is = hides-by attached q p (closed-of a.attached q p is) (fewer q ne (unattached-of a.attached q p is))

      pub alike-set : (f : Object Segment → Object Segment) → IsAlike (record { segments = changed a.segments id f; attached = attached }) (record { segments = changed blurred.segments id f; attached = attached })
      alike-set f = alike-shared (changed a.segments id f) (changed blurred.segments id f) attached
          (alike-changed blank_segment (hides_segment client c a.attached) a.segments id segment-twice (hides_segment client c attached) more o there seen f)

      alike-gone : IsAlike (record { segments = without_object a.segments id; attached = attached }) (record { segments = without_object blurred.segments id; attached = attached })
      alike-gone = alike-shared (without_object a.segments id) (without_object blurred.segments id) attached
          (alike-without blank_segment (hides_segment client c a.attached) a.segments id segment-twice (hides_segment client c attached) more o there seen)

    -- IPC_RMID of a segment in sight
    pub alike-removed : (id : ℕ) (o : Object Segment) → finite.get a.segments.objects id ≡ Some o → hides_segment client c a.attached id o.perm ≡ false → IsAlike (without_segment a id) (without_segment blurred id)
    alike-removed id o there seen = by (attach_count a.attached id == 0)
      where
        by : (b : Bool) → IsAlike (record a { segments = cond b (without_object a.segments id) (changed a.segments id marked) }) (record blurred { segments = cond b (without_object blurred.segments id) (changed blurred.segments id marked) })
        by true = alike-gone id a.attached o there seen (λ q ne none. none)
        by false = alike-set id a.attached o there seen (λ q ne none. none) marked

    module _ (self shown : ℕ) (creds : Credentials) (now : ℕ) where
      abbrev who : Caller
      who = record { client = self; process = client; pid = shown; creds = creds; now = now }

      -- shmat
      alike-attached : (id flags number : ℕ) (o : Object Segment) → finite.get a.segments.objects id ≡ Some o → hides_segment client c a.attached id o.perm ≡ false → free_number a.attached client ≡ Some number
          → IsAlike (with_attached a who number (attachment_to id flags) o.contents) (with_attached blurred who number (attachment_to id flags) o.contents)
      alike-attached id flags number o there seen free =
          let new = attachment_to id flags in
          alike-set id (with_attachment a.attached client number new) o there seen
          (λ q ne none. attached-other client a.attached number new q (free_there a.attached client number free) (λ same. ne (sym same)) ∙ none)
          (λ (y : Object Segment). record y { contents = attached_by who o.contents })

      pub own-attach : (id flags : ℕ) → Both c IsAlike (attach a who id flags) (attach blurred who id flags)
      own-attach id flags = own-found blank_segment (hides_segment client c a.attached) a.segments id IsAlike c BadId tt
          (λ o there isnt. both-check IsAlike c (Needs (Permission o.perm (wanted_to_attach flags)))
          (both-found IsAlike c (free_number a.attached client) TooManyAttached tt (λ number free. both-grant IsAlike c (AttachedAnswer number) _ _ (alike-attached id flags number o there isnt free))))
          (λ o is. both-denied IsAlike c (Permission o.perm (wanted_to_attach flags)) (rule_of (class_of c o.perm)) (denied-permission c o.perm (wanted_to_attach flags) (closed-of a.attached id o.perm is) refl))

      -- what is behind an attachment is in sight
      module _ (number : ℕ) (of : Attachment) (there : attachment_at a.attached client number ≡ Some of) where
        here : (p : Perm) → hides_segment client c a.attached of.segment p ≡ false
        here p = attached-seen a.attached of.segment p (attached-there client a.attached number of there)

        in-sight : hid a of.segment ≡ false
        in-sight = hidden-at (hides_segment client c a.attached) a.segments of.segment _ refl ∙ by (finite.get a.segments.objects of.segment)
          where
            by : (o : Option (Object Segment)) → unwrap_or (option_map (λ (x : Object Segment). hides_segment client c a.attached of.segment x.perm) o) false ≡ false
            by None = refl
            by (Some o) = here o.perm

        same-there : segment_at blurred of.segment ≡ segment_at a of.segment
        same-there = get-seen blank_segment (hides_segment client c a.attached) a.segments of.segment in-sight

        -- shmdt
        abbrev rest : Attached
        rest = without_attachment a.attached client number

        fewer : (q : ℕ) → (q ≡ of.segment → ⊥) → has_attached a.attached client q ≡ false → has_attached rest client q ≡ false
        fewer q ne none = detached-fewer client a.attached number of there q none

        still : (q : ℕ) (p : Perm) → hides_segment client c a.attached q p ≡ true → hides_segment client c rest q p ≡ true
        still q p is = hides-by rest q p (closed-of a.attached q p is) (detached-fewer client a.attached number of there q (unattached-of a.attached q p is))

        left : (o : Option (Object Segment)) → finite.get a.segments.objects of.segment ≡ o
            → IsAlike (left_segment (record a { attached = rest }) who of.segment o) (left_segment (record blurred { attached = rest }) who of.segment o)
        left None is = alike-shared a.segments blurred.segments rest
            (again blank_segment segment-twice (hides_segment client c a.attached) (hides_segment client c rest) a.segments still, λ q hidden. more-same a.segments (hides_segment client c a.attached) (hides_segment client c rest) q (still q) hidden)
        left (Some o) is = by (o.contents.is_marked && attach_count rest of.segment == 0)
          where
            by : (b : Bool) → IsAlike (record { segments = cond b (without_object a.segments of.segment) (with_contents a.segments of.segment (detached_by who o.contents)); attached = rest })
                (record { segments = cond b (without_object blurred.segments of.segment) (with_contents blurred.segments of.segment (detached_by who o.contents)); attached = rest })
            by true = alike-gone of.segment rest o is (here o.perm) fewer
            by false = alike-set of.segment rest o is (here o.perm) fewer (λ (y : Object Segment). record y { contents = detached_by who o.contents })

        pub alike-left : IsAlike (without_number a who number (Some of)) (without_number blurred who number (Some of))
        alike-left = subst (λ o. IsAlike (without_number a who number (Some of)) (left_segment (record blurred { attached = rest }) who of.segment o)) (sym same-there) (left (segment_at a of.segment) refl)

      pub own-detach : (number : ℕ) → Both c IsAlike (detach a who number) (detach blurred who number)
      own-detach number = both-found IsAlike c (attachment_at a.attached client number) NotAttached tt (λ of there. both-grant IsAlike c Done _ _ (alike-left number of there))

      same-behind : (number : ℕ) → behind blurred client number ≡ behind a client number
      same-behind number = by (attachment_at a.attached client number) refl
        where
          by : (o : Option Attachment) → attachment_at a.attached client number ≡ o → option_and_then (λ x. option_map {U = Attachment × Object Segment} (λ segment. (x, segment)) (segment_at blurred x.segment)) o
              ≡ option_and_then (λ x. option_map {U = Attachment × Object Segment} (λ segment. (x, segment)) (segment_at a x.segment)) o
          by None is = refl
          by (Some of) is = ap (option_map {U = Attachment × Object Segment} (λ segment. (of, segment))) (same-there number of is)

      pub own-read : (number offset len : ℕ) → Both c IsAlike (read_bytes a who number offset len) (read_bytes blurred who number offset len)
      own-read number offset len =
          subst (λ o. Both c IsAlike (read_bytes a who number offset len) (found o NotAttached tt (λ there. Passes (lies_within offset len there.1.contents.bytes) OutOfSegment tt ⨾ Grant (Bytes (part_of offset len there.1.contents.bytes)) blurred))) (sym (same-behind number))
          (both-found IsAlike c (behind a client number) NotAttached tt (λ there is.
          both-check IsAlike c (Passes (lies_within offset len there.1.contents.bytes) OutOfSegment tt) (both-grant IsAlike c (Bytes (part_of offset len there.1.contents.bytes)) a blurred same-shared)))

      alike-written : (number offset : ℕ) (new : List ℕ) (there : Attachment × Object Segment) → behind a client number ≡ Some there → IsAlike (with_bytes a there.0.segment there.1.contents offset new) (with_bytes blurred there.0.segment there.1.contents offset new)
      alike-written number offset new there is =
          let parts = behind-parts a client number there.0 there.1 is in
          alike-set there.0.segment a.attached there.1 parts.1 (here number there.0 parts.0 there.1.perm) (λ q ne none. none)
          (λ (y : Object Segment). record y { contents = record there.1.contents { bytes = overwritten offset new there.1.contents.bytes } })

      pub own-write : (number offset : ℕ) (new : List ℕ) → Both c IsAlike (write_bytes a who number offset new) (write_bytes blurred who number offset new)
      own-write number offset new =
          subst (λ o. Both c IsAlike (write_bytes a who number offset new) (found o NotAttached tt (λ there. Needs (Writable there.0.is_read_only) ⨾ Passes (lies_within offset (length new) there.1.contents.bytes) OutOfSegment tt
          ⨾ Grant Done (with_bytes blurred there.0.segment there.1.contents offset new)))) (sym (same-behind number))
          (both-found IsAlike c (behind a client number) NotAttached tt (λ there is.
          both-check IsAlike c (Needs (Writable there.0.is_read_only)) (both-check IsAlike c (Passes (lies_within offset (length new) there.1.contents.bytes) OutOfSegment tt)
          (both-grant IsAlike c Done _ _ (alike-written number offset new there is)))))

      alike-number : (number : ℕ) (o : Option Attachment) → attachment_at a.attached client number ≡ o → IsAlike (without_number a who number o) (without_number blurred who number o)
      alike-number number None is = same-shared
      alike-number number (Some of) is = alike-left number of is

    -- of any caller: what only reads
    pub same-read : (d : Credentials) (who : Caller) (number offset len : ℕ) → Grants d IsSame (read_bytes a who number offset len)
    same-read d who number offset len = grants-found IsSame d (behind a who.process number) NotAttached tt (λ there is.
        grants-check IsSame d (Passes (lies_within offset len there.1.contents.bytes) OutOfSegment tt) (grants-grant IsSame d (Bytes (part_of offset len there.1.contents.bytes)) a refl))

    -- of any caller, behind whose attachment a segment is hidden
    module _ (d : Credentials) (who : Caller) (number : ℕ) (hidden : (of : Attachment) → attachment_at a.attached who.process number ≡ Some of → hid a of.segment ≡ true) where
      same-written : (offset : ℕ) (new : List ℕ) (there : Attachment × Object Segment) → behind a who.process number ≡ Some there → lies_within offset (length new) there.1.contents.bytes ≡ true
          → IsSame (with_bytes a there.0.segment there.1.contents offset new)
      same-written offset new there is fits =
          let parts = behind-parts a who.process number there.0 there.1 is in
          let id = there.0.segment in
          let o = there.1 in
          let contents : Segment = record o.contents { bytes = overwritten offset new o.contents.bytes } in
          ap (λ segments. record a { segments = segments })
          (hidden-changed blank_segment (hides_segment client c a.attached) a.segments id o parts.1 (sym (hidden-at (hides_segment client c a.attached) a.segments id (Some o) parts.1) ∙ hidden there.0 parts.0)
          (λ (y : Object Segment). record y { contents = contents }) refl (blank-same contents o.contents (written-long offset new o.contents.bytes fits) refl refl))

      pub same-write : (offset : ℕ) (new : List ℕ) → Grants d IsSame (write_bytes a who number offset new)
      same-write offset new = grants-found IsSame d (behind a who.process number) NotAttached tt (λ there is.
          grants-check IsSame d (Needs (Writable there.0.is_read_only)) (grants-passes IsSame d (lies_within offset (length new) there.1.contents.bytes) OutOfSegment tt (λ fits.
          grants-grant IsSame d Done _ (same-written offset new there is fits))))

  -- exit
  module _ (self shown : ℕ) (creds : Credentials) (now : ℕ) where
    abbrev caller : Caller
    caller = record { client = self; process = client; pid = shown; creds = creds; now = now }

    alike-each : (n number : ℕ) (a : Shared) → IsAlike a (detached_from n number caller a) (detached_from n number caller (blur_shared client c a))
    unfolding detached_from
    alike-each zero number a = same-shared a
    alike-each (suc n) number a =
        let b = blur_shared client c a in
        let first = alike-number a self shown creds now number (attachment_at a.attached client number) refl in
        let x = detached a caller number in
        let y = detached b caller number in
        let on_x = alike-each n (number + 1) x in
        let on_y = alike-each n (number + 1) y in (
          on_x.0 ∙ ap (λ z. blur_shared client c (detached_from n (number + 1) caller z)) first.0 ∙ sym on_y.0,
          λ q is. on_x.1 q (first.1 q is),
        )

    pub own-exit : (a : Shared) → IsAlike a (after_detaches a caller) (after_detaches (blur_shared client c a) caller)
    own-exit a = alike-each shmseg 0 a

    -- fork: what the process has attached is in sight
    module _ (child : ℕ) where
      abbrev renewed : Object Segment → Object Segment
      renewed o = record o { contents = attached_by caller o.contents }

      of-child : (a : Shared) (number : ℕ) (of : Attachment) → attachment_at a.attached client number ≡ Some of → attachment_at a.attached child number ≡ None → child ≢ client
      of-child a number of there free e = none-some of (sym free ∙ ap (λ n. attachment_at a.attached n number) e ∙ there)

      alike-copy-of : (a : Shared) (number : ℕ) (of : Attachment) → attachment_at a.attached client number ≡ Some of → attachment_at a.attached child number ≡ None → (o : Option (Object Segment)) → segment_at a of.segment ≡ o
          → IsAlike a (with_copy a caller child number (Some of) None) (with_copy (blur_shared client c a) caller child number (Some of) None)
      alike-copy-of a number of there free (Some o) is =
          alike-set a of.segment (with_attachment a.attached child number of) o is (here a self shown creds now number of there o.perm)
          (λ q ne none. attached-apart client a.attached child number of q (of-child a number of there free) ∙ none) renewed
      alike-copy-of a number of there free None is =
          let b = blur_shared client c a in
          let rest = with_attachment a.attached child number of in
          let still : (q : ℕ) (p : Perm) → hides_segment client c a.attached q p ≡ true → hides_segment client c rest q p ≡ true =
          λ q p hidden. ap (λ x. is_closed c p && not x) (attached-apart client a.attached child number of q (of-child a number of there free)) ∙ hidden in
          let none : noted a.segments caller of.segment ≡ a.segments = ap (λ o. with_perm a.segments of.segment renewed o) is in
          let none_b : noted b.segments caller of.segment ≡ b.segments = ap (λ o. with_perm b.segments of.segment renewed o) (same-there a self shown creds now number of there ∙ is) in
          subst (λ t. IsAlike a (record { segments = t; attached = rest }) (with_copy b caller child number (Some of) None)) (sym none)
          (subst (λ t. IsAlike a (record { segments = a.segments; attached = rest }) (record { segments = t; attached = rest })) (sym none_b)
          (alike-shared a a.segments b.segments rest
          (again blank_segment segment-twice (hides_segment client c a.attached) (hides_segment client c rest) a.segments still, λ q hidden. more-same a.segments (hides_segment client c a.attached) (hides_segment client c rest) q (still q) hidden)))

      alike-copy : (a : Shared) (number : ℕ) (mine theirs : Option Attachment) → attachment_at a.attached client number ≡ mine → attachment_at a.attached child number ≡ theirs
          → IsAlike a (with_copy a caller child number mine theirs) (with_copy (blur_shared client c a) caller child number mine theirs)
      alike-copy a number None theirs there free = same-shared a
      alike-copy a number (Some of) (Some other) there free = same-shared a
      alike-copy a number (Some of) None there free = alike-copy-of a number of there free (segment_at a of.segment) refl

      alike-copies : (n number : ℕ) (a : Shared) → IsAlike a (copied_from n number caller child a) (copied_from n number caller child (blur_shared client c a))
      unfolding copied_from
      alike-copies zero number a = same-shared a
      alike-copies (suc n) number a =
          let b = blur_shared client c a in
          let first = alike-copy a number (attachment_at a.attached client number) (attachment_at a.attached child number) refl refl in
          let x = copied a caller child number in
          let y = copied b caller child number in
          let on_x = alike-copies n (number + 1) x in
          let on_y = alike-copies n (number + 1) y in (
            on_x.0 ∙ ap (λ z. blur_shared client c (copied_from n (number + 1) caller child z)) first.0 ∙ sym on_y.0,
            λ q is. on_x.1 q (first.1 q is),
          )

      pub own-fork : (a : Shared) → IsAlike a (after_fork a caller child) (after_fork (blur_shared client c a) caller child)
      own-fork a = alike-copies shmseg 0 a

  -- the end of another process
  module _ (who : Caller) (other : who.process ≢ client) where
    module _ (a : Shared) (number : ℕ) (of : Attachment) where
      abbrev id : ℕ
      id = of.segment

      abbrev now-left : Attached
      now-left = without_attachment a.attached who.process number

      abbrev seen-now : Shared
      seen-now = blur_shared client c a

      abbrev hides : ℕ → Perm → Bool
      hides = hides_segment client c a.attached

      abbrev later : ℕ → Perm → Bool
      later = hides_segment client c now-left

      as-before : (q : ℕ) (p : Perm) → later q p ≡ hides q p
      as-before q p = ap (λ x. is_closed c p && not x) (attached-left client a.attached who.process number q other)

      more-hidden : (q : ℕ) (p : Perm) → hides q p ≡ true → later q p ≡ true
      more-hidden q p is = as-before q p ∙ is

      same-rest : mask now-left a.segments ≡ mask now-left seen-now.segments
      same-rest = again blank_segment segment-twice hides later a.segments more-hidden

      put-together : (t u : Table (Object Segment)) → mask now-left t ≡ mask now-left u → blur_shared client c (record { segments = t; attached = now-left }) ≡ blur_shared client c (record { segments = u; attached = now-left })
      put-together t u same = ap (λ x. record { segments = x; attached = now-left }) same

      gone : mask now-left (without_object a.segments id) ≡ mask now-left (without_object seen-now.segments id)
      gone = without-alike blank_segment segment-twice hides later a.segments id (λ q ne. more-hidden q)

      -- a hidden segment is noted in its blank contents alone
      left-noted : (t : Table (Object Segment)) (o : Object Segment) → finite.get t.objects id ≡ Some o → later id o.perm ≡ true → mask now-left (with_contents t id (detached_by who o.contents)) ≡ mask now-left t
      left-noted t o there is = hidden-changed blank_segment later t id o there is (λ (y : Object Segment). record y { contents = detached_by who o.contents }) refl (blank-same (detached_by who o.contents) o.contents refl refl refl)

      module _ (o : Object Segment) (there : finite.get a.segments.objects id ≡ Some o) where
        hidden-left : later id o.perm ≡ true → (b : Bool) → mask now-left (cond b (without_object a.segments id) (with_contents a.segments id (detached_by who o.contents)))
            ≡ mask now-left (cond b (without_object seen-now.segments id) (with_contents seen-now.segments id (detached_by who (blank_segment o.contents))))
        hidden-left is true = gone
        hidden-left is false =
            left-noted a.segments o there is ∙ same-rest
            ∙ sym (left-noted seen-now.segments (blank blank_segment o) (get-masked blank_segment hides a.segments id ∙ ap (option_map (masked blank_segment hides id)) there ∙ ap (λ (x : Object Segment). Some x) (masked-hidden blank_segment hides id o (sym (as-before id o.perm) ∙ is))) is)

        seen-left : hides id o.perm ≡ false → (b : Bool) → mask now-left (cond b (without_object a.segments id) (with_contents a.segments id (detached_by who o.contents)))
            ≡ mask now-left (cond b (without_object seen-now.segments id) (with_contents seen-now.segments id (detached_by who o.contents)))
        seen-left isnt true = gone
        seen-left isnt false = (alike-changed blank_segment hides a.segments id segment-twice later (λ q ne p is. more-hidden q p is) o there isnt (λ (y : Object Segment). record y { contents = detached_by who o.contents })).0

        by-mask : (b : Bool) → hides id o.perm ≡ b → blur_shared client c (left_segment (record a { attached = now-left }) who id (Some o)) ≡ blur_shared client c (left_segment (record seen-now { attached = now-left }) who id (Some (masked blank_segment hides id o)))
        by-mask true is =
            put-together _ _ (hidden-left (as-before id o.perm ∙ is) (o.contents.is_marked && attach_count now-left id == 0))
            ∙ ap (λ x. blur_shared client c (left_segment (record seen-now { attached = now-left }) who id (Some x))) (sym (masked-hidden blank_segment hides id o is))
        by-mask false isnt =
            put-together _ _ (seen-left isnt (o.contents.is_marked && attach_count now-left id == 0))
            ∙ ap (λ x. blur_shared client c (left_segment (record seen-now { attached = now-left }) who id (Some x))) (sym (masked-seen blank_segment hides id o isnt))

      by-there : (o : Option (Object Segment)) → segment_at a id ≡ o → blur_shared client c (left_segment (record a { attached = now-left }) who id o) ≡ blur_shared client c (left_segment (record seen-now { attached = now-left }) who id (option_map (masked blank_segment hides id) o))
      by-there None is = put-together a.segments seen-now.segments same-rest
      by-there (Some o) is = by-mask o is (hides id o.perm) refl

      other-left : blur_shared client c (without_number a who number (Some of)) ≡ blur_shared client c (without_number seen-now who number (Some of))
      other-left = by-there (segment_at a id) refl ∙ ap (λ o. blur_shared client c (left_segment (record seen-now { attached = now-left }) who id o)) (sym (get-masked blank_segment hides a.segments id))

    other-number : (a : Shared) (number : ℕ) (o : Option Attachment) → blur_shared client c (without_number a who number o) ≡ blur_shared client c (without_number (blur_shared client c a) who number o)
    other-number a number None = shared-twice a
    other-number a number (Some of) = other-left a number of

    other-each : (n number : ℕ) (a : Shared) → blur_shared client c (detached_from n number who a) ≡ blur_shared client c (detached_from n number who (blur_shared client c a))
    unfolding detached_from
    other-each zero number a = shared-twice a
    other-each (suc n) number a =
        let b = blur_shared client c a in
        let x = detached a who number in
        let y = detached b who number in
        other-each n (number + 1) x ∙ ap (λ z. blur_shared client c (detached_from n (number + 1) who z)) (other-number a number (attachment_at a.attached who.process number)) ∙ sym (other-each n (number + 1) y)

    pub other-exit : (a : Shared) → blur_shared client c (after_detaches a who) ≡ blur_shared client c (after_detaches (blur_shared client c a) who)
    other-exit a = other-each shmseg 0 a
