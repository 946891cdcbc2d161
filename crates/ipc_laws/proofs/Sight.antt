-- The state and its blur: what is hidden in both, and how what a call leaves of a part goes with the whole.
use Rattle.std.proofs.Common.{◌≡◌, ℕ, Bool, true, false, [], refl, sym, ap, ◌∙◌, Option, Some, None}
use Rattle.std.specs.Prelude.{not, filter, option_map, unwrap_or}
use Rattle.std.proofs.lemmas.Bool.{true≢false}
use Rattle.ipc_call.specs.declared.calls.Call.{Call}
use Rattle.ipc_call.specs.declared.calls.Call.TheVariants.{MsgRcv, MsgSnd, SemOp, SemTimedOp}
use Rattle.ipc_call.specs.declared.calls.Kind.{Kind}
use Rattle.ipc_call.specs.declared.calls.Kind.TheVariants as kinds
use Rattle.ipc_call.specs.declared.replies.Waiting.{Waiting}
use Rattle.ipc_creds.specs.Credentials.{Credentials}
use Rattle.ipc_model.specs.State.{Queues, Sems, Shared, State}
use Rattle.ipc_model.specs.Decide.{waits_at}
use Rattle.std.specs.FinMap as finite
use Rattle.ipc_call.specs.declared.perms.Perm.{Perm}
use Rattle.ipc_ids.specs.Table.{Table}
use Rattle.ipc_objects.specs.declared.object.Object.{Object}
use Rattle.shm_seg.specs.Attachments.{Attached}
use Rattle.ipc_laws.proofs.Undo.{AreSame, same-kept}
use Rattle.ipc_laws.specs.Worlds.{is_closed, is_hidden_in, blank_queue, blank_segment, blank_set, blur_by, blur_queues, blur_sems, blur_shared, hides_closed, hides_segment, is_hidden, is_hidden_at}
use Rattle.ipc_laws.proofs.Lists.{filter-finer}
use Rattle.ipc_laws.proofs.Queues as queues
use Rattle.ipc_laws.proofs.Sets as sets
use Rattle.ipc_laws.proofs.Segments as segments
use Rattle.ipc_laws.proofs.Tables.{again, hidden-masked}

module _ (client : ℕ) (c : Credentials) where
  -- the blur but for the calls that wait
  abbrev pub dim : State → State
  dim s = record s { queues = blur_queues client c s.queues; sems = blur_sems client c s.sems; shared = blur_shared client c s.shared; parked = [] }

  abbrev pub sight : State → Waiting → Bool
  sight s w = not (is_hidden_at client c s (waits_at w.call))

  pub hidden-dim : (s : State) (kind : Kind) (q : ℕ) → is_hidden client c (dim s) kind q ≡ is_hidden client c s kind q
  hidden-dim s kinds.Queue q = hidden-masked blank_queue (hides_closed client c) s.queues q
  hidden-dim s kinds.Sems q = hidden-masked blank_set (hides_closed client c) s.sems.sets q
  hidden-dim s kinds.Segment q = hidden-masked blank_segment (hides_segment client c s.shared.attached) s.shared.segments q

  pub dim-twice : (s : State) → dim s ≡ dim (blur_by client c s)
  dim-twice s = λ i. record (dim s) { queues = queues.queues-twice client c s.queues i; sems = sets.sems-twice client c s.sems i; shared = segments.shared-twice client c s.shared i }

  pub dim-of : (s t : State) → blur_by client c s ≡ blur_by client c t → dim s ≡ dim t
  dim-of s t same = ap (λ (x : State). record x { parked = [] }) same

  -- the same is hidden, where both look the same
  pub same-hidden : (s t : State) → dim s ≡ dim t → (kind : Kind) (q : ℕ) → is_hidden client c s kind q ≡ is_hidden client c t kind q
  same-hidden s t same kind q = sym (hidden-dim s kind q) ∙ ap (λ x. is_hidden client c x kind q) same ∙ hidden-dim t kind q

  pub at-by : (s t : State) → ((kind : Kind) (q : ℕ) → is_hidden client c s kind q ≡ is_hidden client c t kind q) → (at : Option (Kind × ℕ)) → is_hidden_at client c s at ≡ is_hidden_at client c t at
  at-by s t same None = refl
  at-by s t same (Some at) = same at.0 at.1

  pub sight-by : (s t : State) → ((kind : Kind) (q : ℕ) → is_hidden client c s kind q ≡ is_hidden client c t kind q) → sight s ≡ sight t
  sight-by s t same = λ i w. not (at-by s t same (waits_at w.call) i)

  pub same-sight : (s t : State) → dim s ≡ dim t → sight s ≡ sight t
  same-sight s t same = sight-by s t (same-hidden s t same)

  pub blur-from : (s t : State) → dim s ≡ dim t → filter (sight s) s.parked ≡ filter (sight t) t.parked → blur_by client c s ≡ blur_by client c t
  blur-from s t same lists = λ i. record (same i) { parked = lists i }

  -- the same calls wait
  pub blur-same : (s t : State) → dim s ≡ dim t → s.parked ≡ t.parked → blur_by client c s ≡ blur_by client c t
  blur-same s t same parked = blur-from s t same (λ i. filter (same-sight s t same i) (parked i))

  -- in the state and in its blur
  pub sight-blur : (s : State) → sight (blur_by client c s) ≡ sight s
  sight-blur s = sym (same-sight s (blur_by client c s) (dim-twice s))

  pub blur-twice : (s : State) → blur_by client c s ≡ blur_by client c (blur_by client c s)
  blur-twice s = blur-from s (blur_by client c s) (dim-twice s) (sym (ap (λ f. filter f (filter (sight s) s.parked)) (sight-blur s) ∙ filter-finer (sight s) (sight s) (λ w is. is) s.parked))

  module _ (s : State) where
    abbrev b : State
    b = blur_by client c s

    -- both look the same, and the queues and sets that were hidden are so still (a segment may be gone)
    abbrev pub IsAlike : State → State → Type 0
    IsAlike new later = (dim new ≡ dim later)
        × (((q : ℕ) → is_hidden client c s kinds.Queue q ≡ true → is_hidden client c new kinds.Queue q ≡ true) × ((q : ℕ) → is_hidden client c s kinds.Sems q ≡ true → is_hidden client c new kinds.Sems q ≡ true))

    -- the second is the blur of the first, and the same is hidden as before
    abbrev pub IsExact : State → State → Type 0
    IsExact new later = (blur_by client c new ≡ later) × ((kind : Kind) (q : ℕ) → is_hidden client c new kind q ≡ is_hidden client c s kind q)

    abbrev pub IsSame : State → Type 0
    IsSame new = dim new ≡ dim s

    pub same-state : IsAlike s b
    same-state = (dim-twice s, (λ q is. is, λ q is. is))

    finer : (x y : Bool) → (x ≡ true → y ≡ true) → not y ≡ true → not x ≡ true
    finer true y then_so is = absurd (true≢false (sym is ∙ ap not (then_so refl)))
    finer false y then_so is = refl

    still-at : (new : State) → ((q : ℕ) → is_hidden client c s kinds.Queue q ≡ true → is_hidden client c new kinds.Queue q ≡ true) → ((q : ℕ) → is_hidden client c s kinds.Sems q ≡ true → is_hidden client c new kinds.Sems q ≡ true)
        → (call : Call) → is_hidden_at client c s (waits_at call) ≡ true → is_hidden_at client c new (waits_at call) ≡ true
    still-at new queue sems (MsgSnd id mtype text flags) is = queue id is
    still-at new queue sems (MsgRcv id size msgtyp flags) is = queue id is
    still-at new queue sems (SemOp id ops) is = sems id is
    still-at new queue sems (SemTimedOp id ops timeout) is = sems id is
    still-at new queue sems call is = is

    -- what is left looks the same, with the calls that wait
    pub blur-alike : (new later : State) → IsAlike new later → new.parked ≡ s.parked → later.parked ≡ b.parked → blur_by client c new ≡ blur_by client c later
    blur-alike new later alike parked others = blur-from new later alike.0
        (ap (filter (sight new)) parked
        ∙ sym (filter-finer (sight new) (sight s) (λ w is. finer (is_hidden_at client c s (waits_at w.call)) (is_hidden_at client c new (waits_at w.call)) (still-at new alike.1.0 alike.1.1 w.call) is) s.parked)
        ∙ ap (λ f. filter f b.parked) (same-sight new later alike.0) ∙ ap (filter (sight later)) (sym others))

    pub lift-queues : (u v : Queues) → queues.IsAlike client c s.queues u v → IsAlike (record s { queues = u }) (record b { queues = v })
    lift-queues u v alike = (λ i. record (dim-twice s i) { queues = alike.0 i }, (alike.1, λ q is. is))

    pub lift-sems : (u v : Sems) → sets.IsAlike client c s.sems u v → IsAlike (record s { sems = u }) (record b { sems = v })
    lift-sems u v alike = (λ i. record (dim-twice s i) { sems = alike.0 i }, (λ q is. is, alike.1))

    pub lift-shared : (u v : Shared) → segments.IsAlike client c s.shared u v → IsAlike (record s { shared = u }) (record b { shared = v })
    lift-shared u v alike = (λ i. record (dim-twice s i) { shared = alike.0 i }, (λ q is. is, λ q is. is))

    pub exact-queues : (u v : Queues) → queues.IsExact client c s.queues u v → IsExact (record s { queues = u }) (record b { queues = v })
    exact-queues u v exact = let new : State = record s { queues = u } in (λ i. record b { queues = exact.0 i; parked = filter (sight-by new s by i) s.parked }, by)
      where
        by : (kind : Kind) (q : ℕ) → is_hidden client c (record s { queues = u }) kind q ≡ is_hidden client c s kind q
        by kinds.Queue q = exact.1 q
        by kinds.Sems q = refl
        by kinds.Segment q = refl

    pub exact-sems : (u v : Sems) → sets.IsExact client c s.sems u v → IsExact (record s { sems = u }) (record b { sems = v })
    exact-sems u v exact = let new : State = record s { sems = u } in (λ i. record b { sems = exact.0 i; parked = filter (sight-by new s by i) s.parked }, by)
      where
        by : (kind : Kind) (q : ℕ) → is_hidden client c (record s { sems = u }) kind q ≡ is_hidden client c s kind q
        by kinds.Queue q = refl
        by kinds.Sems q = exact.1 q
        by kinds.Segment q = refl

-- the blur of a client that is closed out of more
module _ (client : ℕ) (c d : Credentials) (more : (p : Perm) → is_closed c p ≡ true → is_closed d p ≡ true) where
  hidden-in : {X : Type 0} (hides later : ℕ → Perm → Bool) (t : Table (Object X)) (q : ℕ) → ((p : Perm) → hides q p ≡ true → later q p ≡ true) → is_hidden_in hides t q ≡ true → is_hidden_in later t q ≡ true
  hidden-in {X} hides later t q then_so is = by (finite.get t.objects q) is
    where
      by : (o : Option (Object X)) → unwrap_or (option_map (λ (x : Object X). hides q x.perm) o) false ≡ true → unwrap_or (option_map (λ (x : Object X). later q x.perm) o) false ≡ true
      by None is = is
      by (Some o) is = then_so o.perm is

  segment-more : (attached : Attached) (q : ℕ) (p : Perm) → hides_segment client c attached q p ≡ true → hides_segment client d attached q p ≡ true
  segment-more attached q p is = segments.hides-by client d attached q p (more p (segments.closed-of client c attached q p is)) (segments.unattached-of client c attached q p is)

  hidden-more : (s : State) (kind : Kind) (q : ℕ) → is_hidden client c s kind q ≡ true → is_hidden client d s kind q ≡ true
  hidden-more s kinds.Queue q is = hidden-in (hides_closed client c) (hides_closed client d) s.queues q (λ p closed. more p closed) is
  hidden-more s kinds.Sems q is = hidden-in (hides_closed client c) (hides_closed client d) s.sems.sets q (λ p closed. more p closed) is
  hidden-more s kinds.Segment q is = hidden-in (hides_segment client c s.shared.attached) (hides_segment client d s.shared.attached) s.shared.segments q (λ p closed. segment-more s.shared.attached q p closed) is

  more-at : (s : State) (at : Option (Kind × ℕ)) → is_hidden_at client c s at ≡ true → is_hidden_at client d s at ≡ true
  more-at s None is = is
  more-at s (Some at) is = hidden-more s at.0 at.1 is

  seen-both : (x y : Bool) → (x ≡ true → y ≡ true) → not y ≡ true → not x ≡ true
  seen-both true y then_so is = absurd (true≢false (sym is ∙ ap not (then_so refl)))
  seen-both false y then_so is = refl

  undo-more : (u : Sems) → AreSame (sets.hid client d u) u.undo (blur_sems client c u).undo
  undo-more u k isnt = same-kept (sets.hid client c u) u.undo k (turned (sets.hid client c u k.set) refl)
    where
      turned : (b : Bool) → sets.hid client c u k.set ≡ b → sets.hid client c u k.set ≡ false
      turned true is = absurd (true≢false (sym (hidden-in (hides_closed client c) (hides_closed client d) u.sets k.set (λ p closed. more p closed) is) ∙ isnt))
      turned false is = is

  dim-more : (s : State) → dim client d s ≡ dim client d (blur_by client c s)
  dim-more s = λ i. record (dim client d s) {
    queues = again blank_queue (λ x. refl) (hides_closed client c) (hides_closed client d) s.queues (λ q p is. more p is) i;
    sems = sets.blur-same client d s.sems (blur_sems client c s.sems) (again blank_set sets.set-twice (hides_closed client c) (hides_closed client d) s.sems.sets (λ q p is. more p is)) (undo-more s.sems) i;
    shared = ap (λ segments. record s.shared { segments = segments })
        (again blank_segment segments.segment-twice (hides_segment client c s.shared.attached) (hides_segment client d s.shared.attached) s.shared.segments (λ q p is. segment-more s.shared.attached q p is)) i;
  }

  pub blur-more : (s : State) → blur_by client d s ≡ blur_by client d (blur_by client c s)
  blur-more s =
      let b = blur_by client c s in
      blur-from client d s b (dim-more s)
      (sym (ap (λ f. filter f (filter (sight client c s) s.parked)) (sym (same-sight client d s b (dim-more s)))
      ∙ filter-finer (sight client d s) (sight client c s) (λ w is. seen-both (is_hidden_at client c s (waits_at w.call)) (is_hidden_at client d s (waits_at w.call)) (more-at s (waits_at w.call)) is) s.parked))
