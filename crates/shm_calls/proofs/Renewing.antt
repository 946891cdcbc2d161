-- The contents of a segment are new: the mark of one that is attached, whose key is then free, and a write that is refused.
use Rattle.std.proofs.Common.{◌≡◌, ◌∙◌, ℕ, ap, sym, true, Option, Some, None, subst}
use Rattle.std.specs.Prelude.{option_map, IsSome}
use Rattle.std.specs.FinMap as map
use Rattle.std.proofs.lemmas.Option.{none-some, same_Some}
use Rattle.ipc_ids.specs.Table.{Table, with_object}
use Rattle.ipc_objects.specs.declared.object.Object.{Object}
use Rattle.ipc_objects.specs.Objects.{changed, contents_of, with_contents, with_perm, without_key}
use Rattle.ipc_objects.proofs.Seen.{changed-there, changed-twice, contents-same}
use Rattle.shm_seg.specs.Attachments.{Attached}
use Rattle.ipc_model.specs.Controls.{marked}
use Rattle.ipc_model.specs.Segments.{segment_at}
use Rattle.ipc_model.specs.State.{Segment, Shared}

-- the segments and the attachments, as the code has them and as the contract tells them
module _ (t : Table (Object Segment)) (attached : Attached) (now : Shared) (view : record { segments = t; attached = attached } ≡ now) (id : ℕ) where
  -- new contents leave the segment where it is
  pub there-with : (x : Segment) → IsSome (segment_at now id) → IsSome (map.get (with_contents t id x).objects id)
  there-with x some = changed-there t id (λ o. record o { contents = x }) ∙ subst (λ (s : Shared). IsSome (segment_at s id)) (sym view) some

  module _ (old : Segment) (there : Some old ≡ contents_of t id) where
    -- contents that are put back leave all segments
    pub stays : record { segments = with_contents t id old; attached = attached } ≡ now
    stays = ap (λ (left : Table (Object Segment)). record { segments = left; attached = attached }) (contents-same t id old (sym there)) ∙ view

    marked-at : changed (with_contents t id (record old { is_marked = true })) id without_key ≡ changed t id marked
    marked-at =
        changed-twice t id (λ o. record o { contents = record old { is_marked = true } }) without_key ∙ by (map.get t.objects id) there
      where
        by : (o : Option (Object Segment)) → Some old ≡ option_map (λ (object : Object Segment). object.contents) o
            → with_perm t id (λ o. without_key (record o { contents = record old { is_marked = true } })) o ≡ with_perm t id marked o
        by None is = absurd (none-some old (sym is))
        by (Some object) is = ap (λ (x : Segment). with_object t id (without_key (record object { contents = record x { is_marked = true } }))) (same_Some old object.contents is)

    pub marks : (left : Table (Object Segment)) → left ≡ changed (with_contents t id (record old { is_marked = true })) id without_key
        → record { segments = left; attached = attached } ≡ record now { segments = changed now.segments id marked }
    marks left is =
        (λ i. record { segments = (is ∙ marked-at) i; attached = attached })
        ∙ ap (λ (s : Shared). record s { segments = changed s.segments id marked }) view
