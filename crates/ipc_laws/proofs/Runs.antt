-- Two worlds: what a client hears is what it hears where nobody else does anything out of its sight.
use Rattle.std.proofs.Common.{◌≡◌, ℕ, true, false, eqb-true, List, [], ◌∷◌, ◌++◌, refl, sym, ap, subst, ◌∙◌, ⊎_elim}
use Rattle.std.specs.Prelude.{◌==◌, ◌||◌, filter}
use Rattle.std.specs.List.{AllByRecursion, list_any}
use Rattle.std.proofs.lemmas.Bool.{cases_Bool}
use Rattle.ipc_call.specs.declared.replies.Waiting.{Waiting}
use Rattle.ipc_creds.specs.Credentials.{Credentials}
use Rattle.ipc_model.specs.State.{State, creds_at, is_waiting, process_at}
use Rattle.ipc_model.specs.Decide.{waits_at}
use Rattle.ipc_history.specs.History.{AreLegalFrom, run_from}
use Rattle.ipc_model.specs.Step.{Event, begun, moved_by, step}
use Rattle.ipc_history.specs.Waits.{AreNotReady}
use Rattle.ipc_laws.specs.Worlds.{AreOutOfSight, AreTwoWorlds, IsOutOfSight, IsOwn, IsSettled, IsUnaware, blur, blur_by, ends_from, ends_of, is_hidden_at, own_by, own_events, own_from}
use Rattle.ipc_laws.proofs.Settled.{IsAnother}
use Rattle.ipc_laws.proofs.Sight.{blur-more, sight}
use Rattle.ipc_laws.proofs.Within.{IsWithin, Lives, lives-step}
use Rattle.ipc_laws.proofs.Steps.{others-quiet, own-step, unseen-step}
use Rattle.ipc_laws.proofs.Turns.{apart-once, apart-step, in-time-step, not_ready-of, once-apart, quiet-settled}

quiet-step : (s : State) (e : Event) → AreNotReady (step s e).state
quiet-step s e = not_ready-of (step s e).state (quiet-settled (moved_by (begun s e.now) e.client e.call).state)

-- every event keeps a state settled
settled-step : (s : State) (e : Event) → is_waiting s e.client ≡ false → IsSettled s → IsSettled (step s e).state
settled-step s e free settled = record { not_ready = quiet-step s e; in_time = in-time-step s e; once = once-apart (step s e).state (apart-step s e free (apart-once s settled.once)) }

settled-run : (s : State) (es : List Event) → AreLegalFrom s es → IsSettled s → IsSettled (run_from s es)
settled-run s [] legal settled = settled
settled-run s (e ∷ es) legal settled = settled-run (step s e).state es legal.1 (settled-step s e legal.0.free settled)

module _ (c : Credentials) (client process : ℕ) where
  -- whether the client waits is seen
  free-blur : (s : State) (ws : List Waiting) → AllByRecursion (IsAnother client process c s) ws → list_any (λ w. w.client == client) (filter (sight process c s) ws) ≡ list_any (λ w. w.client == client) ws
  free-blur s [] all = refl
  free-blur s (w ∷ ws) all = ⊎_elim
      (λ (out : is_hidden_at process c s (waits_at w.call) ≡ true). let other : (w.client == client) ≡ false = all.0.1 out in rw out (rw other (free-blur s ws all.1)))
      (λ (seen : is_hidden_at process c s (waits_at w.call) ≡ false). rw seen (ap (λ b. (w.client == client) || b) (free-blur s ws all.1)))
      (cases_Bool (is_hidden_at process c s (waits_at w.call)))

  free-alike : (s t : State) → creds_at s client ≡ c → creds_at t client ≡ c → AreNotReady s → AreNotReady t → blur_by process c s ≡ blur_by process c t → is_waiting s client ≡ false → is_waiting t client ≡ false
  free-alike s t is also quiet_s quiet_t same free =
      sym (free-blur t t.parked (others-quiet client process c t also quiet_t)) ∙ ap (λ (x : State). is_waiting x client) (sym same) ∙ free-blur s s.parked (others-quiet client process c s is quiet_s) ∙ free

-- with the client's events alone, it hears the same
abbrev IsAlone : ℕ → State → State → List Event → Type 0
IsAlone client s t es = (own_from client s es ≡ own_from client t (own_events client es)) × (ends_from client s es ≡ ends_from client t (own_events client es)) × (blur client (run_from s es) ≡ blur client (run_from t (own_events client es)))

-- by other credentials that see no more
blur-within : (process : ℕ) (c d : Credentials) (s t : State) → IsWithin c d → blur_by process c s ≡ blur_by process c t → blur_by process d s ≡ blur_by process d t
blur-within process c d s t within same = blur-more process c d within s ∙ ap (blur_by process d) same ∙ sym (blur-more process c d within t)

alone : (client process : ℕ) (c : Credentials) (s t : State) (es : List Event) → creds_at s client ≡ c → process_at s client ≡ process → creds_at t client ≡ c → process_at t client ≡ process → IsSettled s → IsSettled t → blur_by process c s ≡ blur_by process c t
    → AreLegalFrom s es → AreOutOfSight client s es → IsAlone client s t es
alone client process c s t [] is at also there settled_s settled_t same legal out = (refl, refl, ((λ i. blur_by (at i) (is i) s) ∙ same ∙ sym (λ i. blur_by (there i) (also i) t)))
alone client process c s t (e ∷ es) is at also there settled_s settled_t same legal out = ⊎_elim
    (λ (own : IsOwn client e).
    let who : e.client ≡ client = eqb-true e.client client own.0 in
    let free : is_waiting s client ≡ false = ap (is_waiting s) (sym who) ∙ legal.0.free in
    let free_t = free-alike c client process s t is also settled_s.not_ready settled_t.not_ready same free in
    let on_s = own-step client process c s e is at settled_s.not_ready (apart-once s settled_s.once) who free in
    let on_t = own-step client process c t e also there settled_t.not_ready (apart-once t settled_t.once) who free_t in
    let states = on_s.0 ∙ ap (λ (x : State). blur_by process c (step x e).state) same ∙ sym on_t.0 in
    let owns = on_s.1 ∙ ap (λ (x : State). own_by client e (step x e)) same ∙ sym on_t.1 in
    let ends = on_s.2 ∙ ap (λ (x : State). ends_of client (step x e).ended) same ∙ sym on_t.2 in
    let d = creds_at (step s e).state client in
    let alike : creds_at (step t e).state client ≡ d = sym (ap (λ (x : State). creds_at x client) states) in
    let lives : Lives client s (step s e).state = subst (λ k. Lives k s (step s e).state) who (lives-step s e own.1 settled_s.not_ready) in
    let within : IsWithin c d = subst (λ k. IsWithin k d) is lives.0 in
    let still : process_at (step s e).state client ≡ process = lives.1 ∙ at in
    let still_t : process_at (step t e).state client ≡ process = sym (ap (λ (x : State). process_at x client) states) ∙ still in
    let rest = alone client process d (step s e).state (step t e).state es refl still alike still_t (settled-step s e legal.0.free settled_s) (settled-step t e (ap (is_waiting t) who ∙ free_t) settled_t)
    (blur-within process c d (step s e).state (step t e).state within states) legal.1 out.1 in
    let mine = own.0 in
    let kept : own_events client (e ∷ es) ≡ e ∷ own_events client es = rw mine refl in (
      (λ i. owns i ++ rest.0 i) ∙ ap (own_from client t) (sym kept),
      (λ i. ends i ++ rest.1 i) ∙ ap (ends_from client t) (sym kept),
      rest.2 ∙ ap (λ l. blur client (run_from t l)) (sym kept),
    ))
    (λ (unseen : IsOutOfSight client s e).
    let on_s = unseen-step client process c s e is at settled_s.not_ready settled_s.in_time (apart-once s settled_s.once) legal.0.free unseen in
    let still : creds_at (step s e).state client ≡ c = ap (λ (x : State). creds_at x client) on_s.0 ∙ is in
    let stays : process_at (step s e).state client ≡ process = ap (λ (x : State). process_at x client) on_s.0 ∙ at in
    let rest = alone client process c (step s e).state t es still stays also there (settled-step s e legal.0.free settled_s) settled_t (on_s.0 ∙ same) legal.1 out.1 in
    let other = unseen.other in
    let dropped : own_events client (e ∷ es) ≡ own_events client es = rw other refl in (
      (λ i. on_s.1 i ++ own_from client (step s e).state es) ∙ rest.0 ∙ ap (own_from client t) (sym dropped),
      (λ i. on_s.2 i ++ ends_from client (step s e).state es) ∙ rest.1 ∙ ap (ends_from client t) (sym dropped),
      rest.2 ∙ ap (λ l. blur client (run_from t l)) (sym dropped),
    ))
    out.0

-- two worlds that the client can't tell apart stay so, and it hears the same in both
pub worlds : (client : ℕ) (s t : State) (es fs : List Event) → AreTwoWorlds client s t es fs → IsUnaware client s t es fs
worlds client s t es fs two =
    let c = creds_at s client in
    let also : creds_at t client ≡ c = ap (λ (x : State). creds_at x client) (sym two.agree) in
    let process = process_at s client in
    let there : process_at t client ≡ process = ap (λ (x : State). process_at x client) (sym two.agree) in
    let here : blur_by process c s ≡ blur_by process c t = two.agree ∙ (λ i. blur_by (there i) (also i) t) in
    let first = alone client process c s s es refl refl refl refl two.settled.0 two.settled.0 refl two.legal.0 two.unseen.0 in
    let second = alone client process c t s fs also there refl refl two.settled.1 two.settled.0 (sym here) two.legal.1 two.unseen.1 in
    record {
      own = first.0 ∙ ap (own_from client s) two.same ∙ sym second.0;
      ends = first.1 ∙ ap (ends_from client s) two.same ∙ sym second.1;
      agree = first.2 ∙ ap (λ l. blur client (run_from s l)) two.same ∙ sym second.2;
      settled = (settled-run s es two.legal.0 two.settled.0, settled-run t fs two.legal.1 two.settled.1);
    }
