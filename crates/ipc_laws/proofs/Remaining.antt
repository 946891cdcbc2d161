-- After every history few calls end a segment, and no event changes how many bytes one has.
use Rattle.std.proofs.Common.{◌≡◌, ℕ, Bool, true, false, length, refl, sym, ap, subst, ◌∙◌, Option, Some, None}
use Rattle.std.specs.Prelude.{◌==◌, not, is_none, IsSome}
use Rattle.std.specs.FinMap as finite
use Rattle.std.proofs.lemmas.Bool.{false≢true, true≢false}
use Rattle.std.proofs.lemmas.Option.{same_Some}
use Rattle.ipc_call.specs.declared.calls.Call.{Call}
use Rattle.ipc_call.specs.declared.replies.Waiting.{Waiting}
use Rattle.ipc_objects.specs.declared.object.Object.{Object}
use Rattle.ipc_model.specs.State.{Segment, Shared, State}
use Rattle.ipc_model.specs.Decision.{Decision, Refused, Waits, Granted}
use Rattle.ipc_model.specs.Segments.{ends_segments, segment_at}
use Rattle.ipc_model.specs.Decide.{can_wait, decide, decide_call}
use Rattle.ipc_model.specs.Step.{Event, at_time, begun, end_waiting, ended_by, expired, is_ready, moved_as, moved_by, settled, step, without}
use Rattle.ipc_model.proofs.Calls.{only_parkable}
use Rattle.ipc_model.proofs.Lasting.{Goes, Goes-to, KeepsShared, Segments, goes-call, goes-same, waits-keeps}
use Rattle.ipc_model.proofs.Late.{Keeps-call, only_parkable_call}
use Rattle.ipc_model.proofs.Plans.{IfGranted}
use Rattle.ipc_history.specs.History.{History, next_step, run}
use Rattle.ipc_history.specs.Waits.{AreNotReady}
use Rattle.ipc_laws.proofs.Fresh.{quiet-run}
use Rattle.ipc_laws.proofs.Lists.{all-filter, all-found, all-map}
use Rattle.ipc_laws.proofs.Turns.{kept-settled, left-parked}
use Rattle.ipc_laws.proofs.Within.{CanWait, can-moved}

-- what waits leaves the segments
shared-ended : (s : State) (who : ℕ) (d : Decision State) → IfGranted (KeepsShared s) d → (ended_by s who d).state.shared ≡ s.shared
shared-ended s who (Refused rule) keeps = refl
shared-ended s who Waits keeps = refl
shared-ended s who (Granted answer new) keeps = keeps

shared-end : (s : State) (w : Waiting) → can_wait w.call ≡ true → (end_waiting s w).state.shared ≡ s.shared
shared-end s w can = let rest = without s w.client in shared-ended rest w.client (decide rest w.client w.call) (waits-keeps rest w.client w.call can)

shared-settled : (s : State) → CanWait s.parked → (settled s).state.shared ≡ s.shared
shared-settled s can = (kept-settled (λ t. (t.shared ≡ s.shared) × CanWait t.parked) (λ t w is holds. (
  shared-end t w (all-found (is_ready t) (λ v. can_wait v.call ≡ true) t.parked w holds.1 is).0 ∙ holds.0,
  subst CanWait (sym (left-parked t w)) (all-filter (λ v. can_wait v.call ≡ true) (λ v. not (v.client == w.client)) t.parked holds.1),
)) s (refl, can)).0

goes-moved : (s : State) (who : ℕ) (call : Call) (d : Decision State) (may : Bool) → IfGranted (λ answer new. Goes-to may s new) d → Goes-to may s (moved_as s who call d).state
goes-moved s who call (Refused rule) may goes = goes-same may s.shared.segments
goes-moved s who call Waits may goes = goes-same may s.shared.segments
goes-moved s who call (Granted answer new) may goes = goes

goes-step : (s : State) (e : Event) → AreNotReady s → Goes-to (ends_segments e.call) s (step s e).state
goes-step s e quiet =
    let now = begun s e.now in
    let made = decide_call now e.client e.call in
    let moved = (moved_by now e.client e.call).state in
    let can : CanWait s.parked = all-map (λ w. is_ready s w ≡ false) (λ w. can_wait w.call ≡ true) (λ w waits. only_parkable s w.client w.call waits) s.parked quiet in
    let can_now : CanWait now.parked = all-filter (λ w. can_wait w.call ≡ true) (λ w. is_none (expired (at_time s e.now) w)) s.parked can in
    subst (λ (a : Shared). Goes (ends_segments e.call) s.shared.segments a.segments)
    (sym (shared-settled moved (can-moved now e.client e.call made (only_parkable_call now e.client e.call) (Keeps-call now e.client e.call) can_now)))
    (goes-moved now e.client e.call made (ends_segments e.call) (goes-call now e.client e.call))

-- a segment that is there is there still
there-still : (t u : Segments) (may : Bool) → Goes may t u → may ≡ false → (id : ℕ) (o : Option (Object Segment)) → finite.get t.objects id ≡ o → IsSome o → IsSome (finite.get u.objects id)
there-still t u true goes may id o is some = absurd (true≢false may)
there-still t u false goes may id None is some = absurd (false≢true some)
there-still t u false goes may id (Some x) is some = let there = goes.each id x is in subst IsSome (sym there.1) refl

pub stays-run : (h : History) (e : Event) (id : ℕ) → ends_segments e.call ≡ false → IsSome (segment_at (run h).shared id) → IsSome (segment_at (next_step h e).state.shared id)
stays-run h e id other some =
    there-still (run h).shared.segments (next_step h e).state.shared.segments (ends_segments e.call) (goes-step (run h) e (quiet-run h)) other id (segment_at (run h).shared id) refl some

-- and has as many bytes
as-long : (t u : Segments) (may : Bool) → Goes may t u → (id : ℕ) (before now : Object Segment) → finite.get t.objects id ≡ Some before → finite.get u.objects id ≡ Some now → length now.contents.bytes ≡ length before.contents.bytes
as-long t u true goes id before now was is = let there = goes.each id now is in sym there.2 ∙ ap (λ (o : Object Segment). length o.contents.bytes) (same_Some there.0 before (sym there.1 ∙ was))
as-long t u false goes id before now was is = let there = goes.each id before was in ap (λ (o : Object Segment). length o.contents.bytes) (same_Some now there.0 (sym is ∙ there.1)) ∙ there.2

pub long-run : (h : History) (e : Event) (id : ℕ) (before now : Object Segment) → segment_at (run h).shared id ≡ Some before → segment_at (next_step h e).state.shared id ≡ Some now → length now.contents.bytes ≡ length before.contents.bytes
long-run h e id before now was is =
    as-long (run h).shared.segments (next_step h e).state.shared.segments (ends_segments e.call) (goes-step (run h) e (quiet-run h)) id before now was is
