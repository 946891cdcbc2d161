-- Controls of an object, and listings, by the client itself: in a state and in its blur.
use Rattle.std.proofs.Common.{◌≡◌, ℕ, Bool, true, false, [], ◌∷◌, refl, sym, ap, ◌∙◌, subst, ⊎_elim, Option, Some, None}
use Rattle.std.specs.Prelude.{option_map, option_and_then, filter_map, is_none, if◌then◌else◌}
use Rattle.std.specs.FinMap as finite
use Rattle.std.proofs.lemmas.Bool.{cases_Bool}
use Rattle.ipc_call.specs.Listings.{row_of}
use Rattle.ipc_call.specs.declared.calls.Kind.{Kind}
use Rattle.ipc_call.specs.declared.calls.Kind.TheVariants as kinds
use Rattle.ipc_call.specs.declared.listings.Row.{Row}
use Rattle.ipc_call.specs.declared.perms.Perm.{Perm}
use Rattle.ipc_call.specs.declared.replies.Answer.TheVariants.{Done, Rows, Status as StatusAnswer}
use Rattle.ipc_call.specs.declared.replies.Status.{Status}
use Rattle.ipc_call.specs.declared.rules.Rule.{Rule}
use Rattle.ipc_call.specs.declared.rules.Rule.TheVariants.{BadArgument, BadId, NotOwner}
use Rattle.ipc_call.specs.declared.settings.Settings.{Settings}
use Rattle.ipc_creds.specs.Credentials.{Credentials}
use Rattle.ipc_perm.specs.Access.{Control, Permission, Resource, class_of, rule_of, to_read}
use Rattle.ipc_ids.specs.Table.{Table}
use Rattle.ipc_objects.specs.declared.object.Object.{Object}
use Rattle.shm_seg.specs.Attachments.{attach_count}
use Rattle.ipc_model.specs.State.{State}
use Rattle.ipc_model.specs.Plan.{IsPlain, Needs, Passes, Plan, Grant, found, in_order, ◌⨾◌}
use Rattle.ipc_model.specs.Controls.{is_within, remove_object, removed, set_object, stat_object, status_of_queue, status_of_segment, status_of_set, takes_qbytes, with_new_owner, with_set, with_settings}
use Rattle.ipc_model.specs.Listings.{ids_of_kind, list_objects, row_at, row_to, rows_to}
use Rattle.ipc_laws.specs.Worlds.{all_masked, blank, blank_queue, blank_segment, blank_set, blur_by, hides_closed, hides_segment, is_closed, masked}
use Rattle.ipc_laws.proofs.Closed.{denied-control, denied-permission}
use Rattle.ipc_laws.proofs.Pairs.{Both, both-check, both-denied, both-grant, both-order}
use Rattle.ipc_laws.proofs.Parts.{alike-changed, alike-without, own-found}
use Rattle.ipc_laws.proofs.Searches.{ids_of-masked}
use Rattle.ipc_laws.proofs.Segments as segments
use Rattle.ipc_laws.proofs.Sets as sets
use Rattle.ipc_laws.proofs.Sight.{IsAlike, lift-queues, lift-sems, lift-shared, same-state}
use Rattle.ipc_laws.proofs.Tables.{get-masked, masked-hidden, masked-seen}

-- what is told of an object that is found
found-map : {X Y Z : Type 0} (f : X → Y) (o : Option X) (rule : Rule) (plain : IsPlain rule) (rest : Y → Plan Z) → found (option_map f o) rule plain rest ≡ found o rule plain (λ x. rest (f x))
found-map f None rule plain rest = refl
found-map f (Some x) rule plain rest = refl

module _ (client : ℕ) (c : Credentials) (s : State) where
  abbrev b : State
  b = blur_by client c s

  abbrev R : State → State → Type 0
  R new later = IsAlike client c s new later

  -- of a table of objects, where what is hidden is closed
  module _ {X : Type 0} (empty : X → X) (hides : ℕ → Perm → Bool) (closed : (q : ℕ) (p : Perm) → hides q p ≡ true → is_closed c p ≡ true) (t : Table (Object X)) where
    abbrev u : Table (Object X)
    u = all_masked empty hides t

    -- what IPC_STAT and a listing tell of an object
    module _ (status : Object X → Status) where
      abbrev told : Object X → Perm × Status
      told o = (o.perm, status o)

      abbrev telling : State → Perm × Status → Plan State
      telling x = λ told. Needs (Permission told.0 to_read) ⨾ Grant (StatusAnswer told.1) x

      own-told : (id : ℕ) → Both c R (found (option_map {U = Perm × Status} told (finite.get t.objects id)) BadId tt (telling s)) (found (option_map {U = Perm × Status} told (finite.get u.objects id)) BadId tt (telling b))
      own-told id =
          subst (λ p. Both c R p (found (option_map {U = Perm × Status} told (finite.get u.objects id)) BadId tt (telling b))) (sym (found-map told (finite.get t.objects id) BadId tt (telling s)))
          (subst (λ q. Both c R (found (finite.get t.objects id) BadId tt (λ o. telling s (told o))) q) (sym (found-map told (finite.get u.objects id) BadId tt (telling b)))
          (own-found empty hides t id R c BadId tt
          (λ o there isnt. both-check R c (Needs (Permission o.perm to_read)) (both-grant R c (StatusAnswer (status o)) s b (same-state client c s)))
          (λ o is. both-denied R c (Permission o.perm to_read) (rule_of (class_of c o.perm)) (denied-permission c o.perm to_read (closed id o.perm is) refl))))

      own-row : (id : ℕ) → option_and_then (row_to c id) (option_map {U = Perm × Status} told (finite.get u.objects id)) ≡ option_and_then (row_to c id) (option_map {U = Perm × Status} told (finite.get t.objects id))
      own-row id = ap (λ o. option_and_then (row_to c id) (option_map {U = Perm × Status} told o)) (get-masked empty hides t id) ∙ by (finite.get t.objects id)
        where
          none : (o : Object X) → is_closed c o.perm ≡ true → row_to c id (told o) ≡ None
          none o is = ap (λ x. if is_none x then Some (row_of id (status o)) else None) (denied-permission c o.perm to_read is refl)

          by : (o : Option (Object X)) → option_and_then (row_to c id) (option_map {U = Perm × Status} told (option_map (masked empty hides id) o)) ≡ option_and_then (row_to c id) (option_map {U = Perm × Status} told o)
          by None = refl
          by (Some o) = ⊎_elim
              (λ (is : hides id o.perm ≡ true). ap (λ x. row_to c id (told x)) (masked-hidden empty hides id o is) ∙ none (blank empty o) (closed id o.perm is) ∙ sym (none o (closed id o.perm is)))
              (λ (isnt : hides id o.perm ≡ false). ap (λ x. row_to c id (told x)) (masked-seen empty hides id o isnt))
              (cases_Bool (hides id o.perm))

    -- a call that needs control of an object that is there
    own-controlled : (id : ℕ) (P Q : Plan State) → ((o : Object X) → finite.get t.objects id ≡ Some o → hides id o.perm ≡ false → Both c R P Q)
        → Both c R (found (option_map (λ (o : Object X). o.perm) (finite.get t.objects id)) BadId tt (λ perm. Needs (Control perm) ⨾ P)) (found (option_map (λ (o : Object X). o.perm) (finite.get u.objects id)) BadId tt (λ perm. Needs (Control perm) ⨾ Q))
    own-controlled id P Q both =
        subst (λ p. Both c R p (found (option_map (λ (o : Object X). o.perm) (finite.get u.objects id)) BadId tt (λ perm. Needs (Control perm) ⨾ Q))) (sym (found-map (λ (o : Object X). o.perm) (finite.get t.objects id) BadId tt (λ perm. Needs (Control perm) ⨾ P)))
        (subst (λ q. Both c R (found (finite.get t.objects id) BadId tt (λ o. Needs (Control o.perm) ⨾ P)) q) (sym (found-map (λ (o : Object X). o.perm) (finite.get u.objects id) BadId tt (λ perm. Needs (Control perm) ⨾ Q)))
        (own-found empty hides t id R c BadId tt
        (λ o there isnt. both-check R c (Needs (Control o.perm)) (both o there isnt))
        (λ o is. both-denied R c (Control o.perm) NotOwner (denied-control c o.perm (closed id o.perm is)))))

  open-queue : (q : ℕ) (p : Perm) → hides_closed client c q p ≡ true → is_closed c p ≡ true
  open-queue q p is = is

  open-segment : (q : ℕ) (p : Perm) → hides_segment client c s.shared.attached q p ≡ true → is_closed c p ≡ true
  open-segment q p is = segments.closed-of client c s.shared.attached q p is

  -- IPC_STAT
  pub own-stat : (kind : Kind) (id : ℕ) → Both c R (stat_object s kind id) (stat_object b kind id)
  own-stat kinds.Queue id = own-told blank_queue (hides_closed client c) open-queue s.queues status_of_queue id
  own-stat kinds.Sems id = own-told blank_set (hides_closed client c) open-queue s.sems.sets status_of_set id
  own-stat kinds.Segment id = own-told blank_segment (hides_segment client c s.shared.attached) open-segment s.shared.segments (λ o. status_of_segment (attach_count s.shared.attached id) o) id

  -- IPC_RMID
  pub own-remove : (kind : Kind) (id : ℕ) → Both c R (remove_object s kind id) (remove_object b kind id)
  own-remove kinds.Queue id = own-controlled blank_queue (hides_closed client c) open-queue s.queues id _ _ (λ o there isnt.
      both-grant R c Done (removed s kinds.Queue id) (removed b kinds.Queue id) (lift-queues client c s _ _ (alike-without blank_queue (hides_closed client c) s.queues id (λ x. refl) (hides_closed client c) (λ q ne p is. is) o there isnt)))
  own-remove kinds.Sems id = own-controlled blank_set (hides_closed client c) open-queue s.sems.sets id _ _ (λ o there isnt.
      both-grant R c Done (removed s kinds.Sems id) (removed b kinds.Sems id) (lift-sems client c s _ _ (sets.alike-removed client c s.sems id o there isnt)))
  own-remove kinds.Segment id = own-controlled blank_segment (hides_segment client c s.shared.attached) open-segment s.shared.segments id _ _ (λ o there isnt.
      both-grant R c Done (removed s kinds.Segment id) (removed b kinds.Segment id) (lift-shared client c s _ _ (segments.alike-removed client c s.shared id o there isnt)))

  -- IPC_SET
  both-set : (kind : Kind) (id : ℕ) (new : Settings) → R (with_set s kind id new) (with_set b kind id new)
      → Both c R (in_order (if is_within s new.qbytes then [] else Needs Resource ∷ []) (Grant Done (with_set s kind id new))) (in_order (if is_within s new.qbytes then [] else Needs Resource ∷ []) (Grant Done (with_set b kind id new)))
  both-set kind id new alike = both-order R c (if is_within s new.qbytes then [] else Needs Resource ∷ []) (both-grant R c Done _ _ alike)

  pub own-set : (kind : Kind) (id : ℕ) (new : Settings) → Both c R (set_object s kind id new) (set_object b kind id new)
  own-set kinds.Queue id new = both-check R c (Passes (takes_qbytes kinds.Queue new.qbytes) BadArgument tt)
      (own-controlled blank_queue (hides_closed client c) open-queue s.queues id _ _ (λ o there isnt.
      both-set kinds.Queue id new (lift-queues client c s _ _ (alike-changed blank_queue (hides_closed client c) s.queues id (λ x. refl) (hides_closed client c) (λ q ne p is. is) o there isnt (with_settings s.clock new)))))
  own-set kinds.Sems id new = both-check R c (Passes (takes_qbytes kinds.Sems new.qbytes) BadArgument tt)
      (own-controlled blank_set (hides_closed client c) open-queue s.sems.sets id _ _ (λ o there isnt.
      both-set kinds.Sems id new (lift-sems client c s _ _ (sets.alike-set client c s.sems id o there isnt (with_new_owner s.clock new)))))
  own-set kinds.Segment id new = both-check R c (Passes (takes_qbytes kinds.Segment new.qbytes) BadArgument tt)
      (own-controlled blank_segment (hides_segment client c s.shared.attached) open-segment s.shared.segments id _ _ (λ o there isnt.
      both-set kinds.Segment id new (lift-shared client c s _ _ (segments.alike-set client c s.shared id s.shared.attached o there isnt (λ q ne none. none) (with_new_owner s.clock new)))))

  -- listings
  same-ids : (kind : Kind) → ids_of_kind b kind ≡ ids_of_kind s kind
  same-ids kinds.Queue = ids_of-masked blank_queue (hides_closed client c) s.queues
  same-ids kinds.Sems = ids_of-masked blank_set (hides_closed client c) s.sems.sets
  same-ids kinds.Segment = ids_of-masked blank_segment (hides_segment client c s.shared.attached) s.shared.segments

  same-row : (kind : Kind) (id : ℕ) → row_at b c kind id ≡ row_at s c kind id
  same-row kinds.Queue id = own-row blank_queue (hides_closed client c) open-queue s.queues status_of_queue id
  same-row kinds.Sems id = own-row blank_set (hides_closed client c) open-queue s.sems.sets status_of_set id
  same-row kinds.Segment id = own-row blank_segment (hides_segment client c s.shared.attached) open-segment s.shared.segments (λ o. status_of_segment (attach_count s.shared.attached id) o) id

  same-rows : (kind : Kind) → rows_to s c kind ≡ rows_to b c kind
  unfolding rows_to
  same-rows kind = sym (ap (λ (h : ℕ → Option Row). filter_map h (ids_of_kind b kind)) (λ i id. same-row kind id i) ∙ ap (filter_map (λ id. row_at s c kind id)) (same-ids kind))

  pub own-list : (self shown now : ℕ) (kind : Kind) → Both c R (list_objects s (record { client = self; process = client; pid = shown; creds = c; now = now }) kind) (list_objects b (record { client = self; process = client; pid = shown; creds = c; now = now }) kind)
  own-list self shown now kind = subst (λ rows. Both c R (Grant (Rows (rows_to s c kind)) s) (Grant (Rows rows) b)) (same-rows kind) (both-grant R c (Rows (rows_to s c kind)) s b (same-state client c s))
