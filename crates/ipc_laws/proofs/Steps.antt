-- One event: the client's own is alike in a state and in its blur, and another's out of sight leaves the blur.
use Rattle.std.proofs.Common.{◌≡◌, ℕ, Bool, true, false, cond, eqb-true, List, [], ◌∷◌, ◌++◌, refl, sym, ap, ◌∙◌, ⊎_elim, subst, arith, Option, Some, None}
use Rattle.std.specs.Prelude.{◌==◌, max, not, is_none, is_some, filter, flat_map, if◌then◌else◌}
use Rattle.std.specs.List.{AllByRecursion}
use Rattle.std.proofs.lemmas.Bool.{cases_Bool, true≢false}
use Rattle.std.proofs.lemmas.List.{append-nil}
use Rattle.std.proofs.lemmas.List.Elements.{filter-append}
use Rattle.ipc_call.specs.declared.calls.Call.{Call}
use Rattle.ipc_call.specs.declared.calls.Call.TheVariants.{IpcSet, IpcRmid, Interrupt, InterruptThread, Exec, Kill}
use Rattle.ipc_call.specs.declared.replies.Waiting.{Waiting}
use Rattle.ipc_call.specs.declared.rules.Rule.{Rule}
use Rattle.ipc_creds.specs.Credentials.{Credentials}
use Rattle.ipc_model.specs.State.{State, creds_at, is_waiting, process_at}
use Rattle.ipc_model.specs.Decision.{Decision, Refused, Waits, Granted, outcome_of, proceeds}
use Rattle.ipc_model.specs.Decide.{can_wait, decide, decide_call, is_late, is_reached, plan, waits_at}
use Rattle.ipc_model.specs.Plan.{decision}
use Rattle.ipc_model.specs.Cancelled.{cancelled}
use Rattle.ipc_model.specs.Step.{Event, Moved, after, begun, enter, expire, expired, Stepped, and_then, at_time, cancel, cancelled_by, entered, is_ready, moved_as, settled, state_by, step, stepped, ended_by_rule, waiting_as}
use Rattle.ipc_history.specs.Waits.{AreInTime, AreNotReady}
use Rattle.ipc_model.proofs.Calls.{only_parkable}
use Rattle.ipc_model.proofs.Late.{Keeps-call, at-as, late-granted, late-waits, only_parkable_call}
use Rattle.ipc_call.specs.declared.rules.Rule.TheVariants.{TimedOut}
use Rattle.ipc_model.proofs.Growing.{Keeps}
use Rattle.ipc_model.proofs.Plans.{IfGranted}
use Rattle.ipc_laws.specs.Worlds.{IsOutOfSight, blur_by, ends_of, is_hidden_at, is_unseen, own_by}
use Rattle.ipc_laws.proofs.Lists.{all-filter, all-map, all-push, filter-all, filter-finer, filter-not, filter-turned}
use Rattle.ipc_laws.proofs.Needs.{cancelled-dim}
use Rattle.ipc_laws.proofs.Own.{own-alike}
use Rattle.ipc_laws.proofs.Pairs.{Pair, late-pair, outcome-pair}
use Rattle.ipc_laws.proofs.Seen.{own-refused, unseen-stays, unseen-waits}
use Rattle.ipc_laws.proofs.Settled.{AreOthers, IsAnother, another-by, ends-append, quiet-blur, settled-alike}
use Rattle.ipc_laws.proofs.Sight.{IsAlike, IsSame, blur-alike, blur-from, blur-same, blur-twice, dim, dim-of, dim-twice, same-hidden, sight, sight-blur}
use Rattle.ipc_laws.proofs.Turns.{Apart, Free, apart-filter, apart-moved, done, free-of, quiet-of, settled-none}

-- nobody is told where nobody's call is cancelled
told-none : (rule : Waiting → Option Rule) → ((w : Waiting) → rule w ≡ None) → (ws : List Waiting) → flat_map (λ w. ended_by_rule w.client (rule w)) ws ≡ []
told-none rule none [] = refl
told-none rule none (w ∷ ws) = ap (λ o. ended_by_rule w.client o ++ flat_map (λ w. ended_by_rule w.client (rule w)) ws) (none w) ∙ told-none rule none ws

all-kept : (rule : Waiting → Option Rule) → ((w : Waiting) → rule w ≡ None) → (ws : List Waiting) → AllByRecursion (λ w. is_none (rule w) ≡ true) ws
all-kept rule none [] = tt
all-kept rule none (w ∷ ws) = (ap (λ o. is_none o) (none w), all-kept rule none ws)

cancel-none : (s : State) (call : Call) → ((w : Waiting) → cancelled s call w ≡ None) → cancel s call ≡ done s
cancel-none s call none = λ i. record {
  state = record s { parked = filter-all (λ w. is_none (cancelled s call w)) s.parked (all-kept (cancelled s call) none s.parked) i };
  ended = told-none (cancelled s call) none s.parked i;
}

-- where none has reached its deadline, none ends
in-time-kept : (s : State) (ws : List Waiting) → AllByRecursion (λ w. is_reached s.clock w.deadline ≡ false) ws → AllByRecursion (λ w. is_none (expired s w) ≡ true) ws
in-time-kept s [] all = tt
in-time-kept s (w ∷ ws) all = (ap (λ b. is_none (if b then Some TimedOut else None)) all.0, in-time-kept s ws all.1)

in-time-told : (s : State) (ws : List Waiting) → AllByRecursion (λ w. is_reached s.clock w.deadline ≡ false) ws → flat_map (λ w. ended_by_rule w.client (expired s w)) ws ≡ []
in-time-told s [] all = refl
in-time-told s (w ∷ ws) all = ap (λ b. ended_by_rule w.client (if b then Some TimedOut else None) ++ flat_map (λ w. ended_by_rule w.client (expired s w)) ws) all.0 ∙ in-time-told s ws all.1

expire-none : (s : State) → AreInTime s → expire s ≡ done s
expire-none s in_time = λ i. record {
  state = record s { parked = filter-all (λ w. is_none (expired s w)) s.parked (in-time-kept s s.parked in_time) i };
  ended = in-time-told s s.parked in_time i;
}

-- where none is ready, the calls that wait out of sight are others'
module _ (client process : ℕ) (c : Credentials) where
  waits-alone : (s : State) (who : ℕ) (call : Call) → creds_at s client ≡ c → proceeds (decide s who call) ≡ false → is_hidden_at process c s (waits_at call) ≡ true → (who == client) ≡ false
  waits-alone s who call is waits hidden = ⊎_elim
      (λ (own : (who == client) ≡ true).
      absurd (true≢false (sym (own-refused process c s who (ap (creds_at s) (eqb-true who client own) ∙ is) call hidden) ∙ waits)))
      (λ (other : (who == client) ≡ false). other)
      (cases_Bool (who == client))

  pub others-quiet : (s : State) → creds_at s client ≡ c → AreNotReady s → AreOthers client process c s
  others-quiet s is quiet = all-map (λ w. is_ready s w ≡ false) (IsAnother client process c s) (λ w waits. (only_parkable s w.client w.call waits, waits-alone s w.client w.call is waits)) s.parked quiet

  -- another's event out of sight
  never-cancels : (s t : State) (who : ℕ) (call : Call) → is_unseen process c s who call ≡ true → (w : Waiting) → cancelled t call w ≡ None
  never-cancels s t who (IpcSet kind id uid gid mode qbytes) hidden w = absurd (true≢false (sym hidden))
  never-cancels s t who (IpcRmid kind id) hidden w = absurd (true≢false (sym hidden))
  never-cancels s t who (Interrupt p) hidden w = absurd (true≢false (sym hidden))
  never-cancels s t who (InterruptThread target) hidden w = absurd (true≢false (sym hidden))
  never-cancels s t who Exec hidden w = absurd (true≢false (sym hidden))
  never-cancels s t who (Kill p) hidden w = absurd (true≢false (sym hidden))
  never-cancels s t who call hidden w = refl

  module _ (s : State) (who : ℕ) (call : Call) (hidden : is_unseen process c s who call ≡ true) (other : (who == client) ≡ false) where
    cancels-none : (t : State) (d : Decision State) → cancelled_by t call d ≡ done t
    cancels-none t (Refused rule) = refl
    cancels-none t Waits = refl
    cancels-none t (Granted answer new) = cancel-none t call (never-cancels s t who call hidden)

    waits-hidden : can_wait call ≡ true → is_hidden_at process c s (waits_at call) ≡ true
    waits-hidden can = sym (unseen-waits process c s who call can) ∙ hidden

    blur-unseen : (d : Decision State) → (proceeds d ≡ false → can_wait call ≡ true) → IfGranted (λ answer new. IsSame process c s new) d → Keeps s d → blur_by process c (state_by s who call d) ≡ blur_by process c s
    blur-unseen (Refused rule) can stays keeps = refl
    blur-unseen Waits can stays keeps =
        let w : Waiting = waiting_as s who call in
        let gone : filter (sight process c s) (w ∷ []) ≡ [] = filter-not (sight process c s) w [] (ap not (ap (is_hidden_at process c s) (at-as call) ∙ waits-hidden (can refl))) in
        ap (λ ws. record (blur_by process c s) { parked = ws })
        (filter-append (sight process c s) s.parked (w ∷ []) ∙ ap (λ l. filter (sight process c s) s.parked ++ l) gone ∙ append-nil (filter (sight process c s) s.parked))
    blur-unseen (Granted answer new) can stays keeps = blur-same process c new s stays keeps.0

    others-unseen : (d : Decision State) → (proceeds d ≡ false → can_wait call ≡ true) → IfGranted (λ answer new. IsSame process c s new) d → Keeps s d → AreOthers client process c s → AreOthers client process c (state_by s who call d)
    others-unseen (Refused rule) can stays keeps are = are
    others-unseen Waits can stays keeps are = all-push (IsAnother client process c s) s.parked (waiting_as s who call) are (ap (λ at. is_some at) (at-as call) ∙ can refl, λ out. other)
    others-unseen (Granted answer new) can stays keeps are =
        subst (AllByRecursion (IsAnother client process c new)) (sym keeps.0) (all-map (IsAnother client process c s) (IsAnother client process c new) (λ w is. another-by client process c s new (same-hidden process c new s stays) w is) s.parked are)

  pub unseen-step : (s : State) (e : Event) → creds_at s client ≡ c → process_at s client ≡ process → AreNotReady s → AreInTime s → Apart s.parked → is_waiting s e.client ≡ false → IsOutOfSight client s e
      → (blur_by process c (step s e).state ≡ blur_by process c s) × (own_by client e (step s e) ≡ []) × (ends_of client (step s e).ended ≡ [])
  unseen-step s e is at quiet in_time apart free out =
      let early : max s.clock e.now ≡ s.clock = let before = out.early in omega (arith, before) in
      let now : at_time s e.now ≡ s = ap (λ n. record s { clock = n }) early in
      let hidden : is_unseen process c s e.client e.call ≡ true = ap (λ x. is_unseen process x s e.client e.call) (sym is) ∙ ap (λ p. is_unseen p (creds_at s client) s e.client e.call) (sym at) ∙ out.unseen in
      let begins : expire (at_time s e.now) ≡ done s = ap expire now ∙ expire-none s in_time in
      let d = decide_call s e.client e.call in
      let can = only_parkable_call s e.client e.call in
      let stays = late-granted _ (is_late s e.call) (decide s e.client e.call) (unseen-stays process c s e.client e.call hidden) in
      let keeps = Keeps-call s e.client e.call in
      let t = state_by s e.client e.call d in
      let none = cancels-none s e.client e.call hidden out.other t d in
      let seen_t = blur-unseen s e.client e.call hidden out.other d can stays keeps in
      let others_t = others-unseen s e.client e.call hidden out.other d can stays keeps (others-quiet s is quiet) in
      let apart_t : Apart t.parked = subst (λ (m : Moved). Apart m.state.parked) none (apart-moved s e.client e.call (free-of e.client s.parked free) apart) in
      let alike = settled-alike client process c t apart_t others_t in
      let b = blur_by process c s in
      let still : settled (blur_by process c t) ≡ done b = ap settled seen_t ∙ settled-none b (quiet-blur client process c s (quiet-of s quiet)) in
      let whole : step s e ≡ record { state = (settled t).state; own = outcome_of d; ended = (settled t).ended } =
      ap (λ (m : Moved). after m.ended (entered m.state e.client e.call (decide_call m.state e.client e.call))) begins ∙ ap (λ m. stepped (outcome_of d) (and_then m settled)) none in (
        ap (λ (x : Stepped). blur_by process c x.state) whole ∙ alike.0 ∙ ap (λ (m : Moved). m.state) still,
        ap (λ b. cond b ((step s e).own ∷ []) []) out.other,
        ap (λ (x : Stepped). ends_of client x.ended) whole ∙ alike.1 ∙ ap (λ (m : Moved). ends_of client m.ended) still,
      )

  -- the client's own event: which waiting calls a grant cancels is seen alike
  same-cancelled : (s t : State) → dim process c s ≡ dim process c t → (call : Call) (w : Waiting) → cancelled s call w ≡ cancelled t call w
  same-cancelled s t same call w = sym (cancelled-dim process c s call w) ∙ ap (λ x. cancelled x call w) same ∙ cancelled-dim process c t call w

  cancel-alike : (s t : State) (call : Call) → blur_by process c s ≡ blur_by process c t → blur_by process c (cancel s call).state ≡ blur_by process c (cancel t call).state
  cancel-alike s t call same =
      let dims = dim-of process c s t same in
      let stays : State → Waiting → Bool = λ x w. is_none (cancelled x call w) in
      blur-from process c (cancel s call).state (cancel t call).state dims
      (filter-turned (sight process c s) (stays s) s.parked
      ∙ (λ i. filter (λ w. is_none (same-cancelled s t dims call w i)) (same i).parked)
      ∙ filter-turned (stays t) (sight process c t) t.parked)

  -- what is told of cancelled calls isn't told to who doesn't wait
  none-told : (rule : Waiting → Option Rule) (ws : List Waiting) → Free client ws → ends_of client (flat_map (λ w. ended_by_rule w.client (rule w)) ws) ≡ []
  none-told rule [] free = refl
  none-told rule (w ∷ ws) free =
      ends-append client (ended_by_rule w.client (rule w)) (flat_map (λ w. ended_by_rule w.client (rule w)) ws) ∙ (λ i. one w.client (rule w) free.0 i ++ none-told rule ws free.1 i)
    where
      one : (who : ℕ) (o : Option Rule) → (who == client) ≡ false → ends_of client (ended_by_rule who o) ≡ []
      one who None other = refl
      one who (Some rule) other = rw other refl

  another-free : (s t : State) (ws : List Waiting) → Free client ws → AllByRecursion (IsAnother client process c s) ws → AllByRecursion (IsAnother client process c t) ws
  another-free s t [] free are = tt
  another-free s t (w ∷ ws) free are = ((are.0.0, λ hidden. free.0), another-free s t ws free.1 are.1)

  module _ (s : State) (call : Call) (is : creds_at s client ≡ c) (free : Free client s.parked) (are : AreOthers client process c s) where
    -- what the own call leaves waiting
    others-own : (d : Decision State) → d ≡ decide_call s client call → Keeps s d → AreOthers client process c (moved_as s client call d).state
    others-own (Refused rule) decided keeps = are
    others-own Waits decided keeps =
        let waits : proceeds (decide s client call) ≡ false = late-waits (is_late s call) (decide s client call) (ap (λ d. proceeds d) (sym decided)) in
        all-push (IsAnother client process c s) s.parked (waiting_as s client call) are (ap (λ at. is_some at) (at-as call) ∙ only_parkable s client call waits, λ hidden. waits-alone s client call is waits (sym (ap (is_hidden_at process c s) (at-as call)) ∙ hidden))
    others-own (Granted answer new) decided keeps =
        all-filter (IsAnother client process c new) (λ w. is_none (cancelled new call w)) new.parked (subst (AllByRecursion (IsAnother client process c new)) (sym keeps.0) (another-free s new s.parked free are))

    none-own : (d : Decision State) → Keeps s d → ends_of client (moved_as s client call d).ended ≡ []
    none-own (Refused rule) keeps = refl
    none-own Waits keeps = refl
    none-own (Granted answer new) keeps = none-told (cancelled new call) new.parked (subst (Free client) (sym keeps.0) free)

  -- the call enters a state and its blur
  entered-alike : (s : State) (call : Call) (d e : Decision State) → Pair (IsAlike process c s) d e → Keeps s d → Keeps (blur_by process c s) e
      → blur_by process c (moved_as s client call d).state ≡ blur_by process c (moved_as (blur_by process c s) client call e).state
  entered-alike s call (Refused rule) (Refused other) both keeps kept = blur-twice process c s
  entered-alike s call (Refused rule) Waits both keeps kept = absurd both
  entered-alike s call (Refused rule) (Granted answer new) both keeps kept = absurd both
  entered-alike s call Waits (Refused rule) both keeps kept = absurd both
  entered-alike s call Waits Waits both keeps kept =
      let b = blur_by process c s in
      let w : Waiting = waiting_as s client call in
      let f = sight process c s in
      blur-from process c (record s { parked = s.parked ++ w ∷ [] }) (record b { parked = b.parked ++ w ∷ [] }) (dim-twice process c s)
      (filter-append f s.parked (w ∷ []) ∙ ap (λ l. l ++ filter f (w ∷ [])) (sym (filter-finer f f (λ v yes. yes) s.parked)) ∙ sym (filter-append f b.parked (w ∷ []))
      ∙ ap (λ g. filter g (b.parked ++ w ∷ [])) (sym (sight-blur process c s)))
  entered-alike s call Waits (Granted answer new) both keeps kept = absurd both
  entered-alike s call (Granted answer new) (Refused rule) both keeps kept = absurd both
  entered-alike s call (Granted answer new) Waits both keeps kept = absurd both
  entered-alike s call (Granted answer new) (Granted other later) both keeps kept = cancel-alike new later call (blur-alike process c s new later both.1 keeps.0 kept.0)

  free-filter : (test : Waiting → Bool) (ws : List Waiting) → Free client ws → Free client (filter test ws)
  free-filter test ws free = all-filter (λ w. (w.client == client) ≡ false) test ws free

  others-blur : (s : State) → AreOthers client process c s → AreOthers client process c (blur_by process c s)
  others-blur s are =
      all-filter (IsAnother client process c (blur_by process c s)) (sight process c s) s.parked
      (all-map (IsAnother client process c s) (IsAnother client process c (blur_by process c s)) (λ w is. another-by client process c s (blur_by process c s) (λ kind q. sym (same-hidden process c s (blur_by process c s) (dim-twice process c s) kind q)) w is) s.parked are)

  abbrev IsLike : Stepped → Stepped → Type 0
  IsLike x y = (blur_by process c x.state ≡ blur_by process c y.state) × (x.own ≡ y.own) × (ends_of client x.ended ≡ ends_of client y.ended)

  own-enter : (s : State) (call : Call) → creds_at s client ≡ c → process_at s client ≡ process → AreOthers client process c s → Free client s.parked → Apart s.parked → IsLike (enter s client call) (enter (blur_by process c s) client call)
  own-enter s call is at are free apart =
      let b = blur_by process c s in
      let d = decide_call s client call in
      let e = decide_call b client call in
      let both : Pair (IsAlike process c s) d e = late-pair (IsAlike process c s) (is_late s call) (decide s client call) (decide b client call) (subst (λ x. Pair (IsAlike process c s) (decision x (plan s client call)) (decision x (plan b client call))) (sym is) (own-alike client process c s call is at).pair) in
      let keeps = Keeps-call s client call in
      let kept = Keeps-call b client call in
      let free_b : Free client b.parked = free-filter (sight process c s) s.parked free in
      let are_b = others-blur s are in
      let m = moved_as s client call d in
      let n = moved_as b client call e in
      let same = entered-alike s call d e both keeps kept in
      let on_m = settled-alike client process c m.state (apart-moved s client call free apart) (others-own s call is free are d refl keeps) in
      let on_n = settled-alike client process c n.state (apart-moved b client call free_b (apart-filter (sight process c s) s.parked apart)) (others-own b call is free_b are_b e refl kept) in
      let settles : settled (blur_by process c m.state) ≡ settled (blur_by process c n.state) = ap settled same in (
        on_m.0 ∙ ap (λ (z : Moved). z.state) settles ∙ sym on_n.0,
        outcome-pair (IsAlike process c s) d e both,
        ends-append client m.ended (settled m.state).ended
            ∙ (λ i. (none-own s call is free are d keeps ∙ sym (none-own b call is free_b are_b e kept)) i ++ (on_m.1 ∙ ap (λ (z : Moved). ends_of client z.ended) settles ∙ sym on_n.1) i)
            ∙ sym (ends-append client n.ended (settled n.state).ended),
      )

  -- an event of the client itself, which doesn't wait
  pub own-step : (s : State) (e : Event) → creds_at s client ≡ c → process_at s client ≡ process → AreNotReady s → Apart s.parked → e.client ≡ client → is_waiting s client ≡ false
      → (blur_by process c (step s e).state ≡ blur_by process c (step (blur_by process c s) e).state) × (own_by client e (step s e) ≡ own_by client e (step (blur_by process c s) e)) × (ends_of client (step s e).ended ≡ ends_of client (step (blur_by process c s) e).ended)
  own-step s e is at quiet apart own waits =
      let now = begun s e.now in
      let b = blur_by process c s in
      let free = free-of client s.parked waits in
      let stays : Waiting → Bool = λ w. is_none (expired (at_time s e.now) w) in
      let seen : blur_by process c now ≡ begun b e.now = ap (λ ws. record b { clock = max s.clock e.now; parked = ws }) (filter-turned (sight process c s) stays s.parked) in
      let like : IsLike (enter now client e.call) (enter (blur_by process c now) client e.call) =
      own-enter now e.call is at (all-filter (IsAnother client process c s) stays s.parked (others-quiet s is quiet)) (free-filter stays s.parked free) (apart-filter stays s.parked apart) in
      let mine : IsLike (enter now e.client e.call) (enter (begun b e.now) e.client e.call) = subst (λ who. IsLike (enter now who e.call) (enter (begun b e.now) who e.call)) (sym own) (subst (λ x. IsLike (enter now client e.call) (enter x client e.call)) seen like) in
      let told = none-told (expired (at_time s e.now)) s.parked free in
      let also = none-told (expired (at_time b e.now)) b.parked (free-filter (sight process c s) s.parked free) in (
        mine.0,
        ap (λ o. cond (e.client == client) (o ∷ []) []) mine.1,
        ends-append client (expire (at_time s e.now)).ended (enter now e.client e.call).ended ∙ (λ i. (told ∙ sym also) i ++ mine.2 i) ∙ sym (ends-append client (expire (at_time b e.now)).ended (enter (begun b e.now) e.client e.call).ended),
      )
