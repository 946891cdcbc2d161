use Rattle.std.proofs.Common.{◌≡◌, ◌≢◌, ℕ, ◌<◌, Bool, true, false, cond, ◌&&◌, get_or, List, [], ◌∷◌, length, refl, ap, sym, ◌∙◌, subst, ⊎_elim, rules, Option, Some, None}
use Rattle.std.specs.Prelude.{◌⊎◌, ◌==◌, if◌then◌else◌, not, option_map, is_some}
use Rattle.std.specs.List.{find, AllByRecursion}
use Rattle.std.proofs.lemmas.Bool.{cases_eq, eq-eqb, ne_eqb}
use Rattle.ipc_call.specs.declared.replies.Waiting.{Waiting}
use Rattle.ipc_call.specs.declared.calls.Kind.{Kind}
use Rattle.ipc_call.specs.declared.rules.Rule.{Rule}
use Rattle.ipc_call.specs.declared.rules.Rule.TheVariants.{Ended, Interrupted, Removed}
use Rattle.ipc_model.specs.Decide.{needs}
use Rattle.ipc_model.specs.Cancelled.{first_denial, waits_on}
use Rattle.ipc_model.specs.State.{State, creds_at, is_waiting, no_thread, pid_at, process_at, thread_at}
use Rattle.ipc_parked.specs.declared.parked.Arrival.{Arrival}
use Rattle.ipc_parked.specs.Parked.{entry_of, on_object, waiting}
use Rattle.ipc_parked.proofs.Picking.{clients_found, find_filter, may_ask_on_object, picks_find}
use Rattle.ipc_namespace.specs.declared.cancelling.Cancelling.{Cancelling}
use Rattle.ipc_namespace.specs.declared.cancelling.Cancelling.TheVariants as cancellings
use Rattle.ipc_namespace.specs.Namespace.{cancelled_as, earliest_of, is_named, stands}
use Rattle.ipc_namespace.proofs.Earliest.{found-none, found-one}
use Rattle.ipc_namespace.proofs.Held.{held-alive}
use Rattle.ipc_namespace.proofs.Endings.{without-until}
use Rattle.ipc_namespace.proofs.Parked.{each-parked}
use Rattle.ipc_namespace.proofs.namespace.Namespace.earliest_cancelled.Goals as goal

pub on_object-requires : goal.on_object-requires
on_object-requires c =
    let s = c.args.self.now in
    let each = subst (λ (s : State). AllByRecursion (λ w. (w.client < length s.clients) × (stands w.call ≡ true)) (waiting c.self.inside.parked)) c.self.view_is (each-parked (length c.self.inside.clients.items) (waiting c.self.inside.parked) c.self.invariant.1) in
    may_ask_on_object _ (λ client call. (client < length s.clients) × (stands call ≡ true)) c.in-Denied.kind c.in-Denied.id _ each (λ client call on known. search rules)

-- whether a thread that lives is meant
agrees : (p q : ℕ) (ended : Bool) (r : Rule) → ended ≡ false → ((q == p) && not ended) ≡ is_some (if p == q then Some r else None)
agrees p q ended r lives = ⊎_elim
    (λ (same : p ≡ q). (λ i. eq-eqb q p (sym same) i && not (lives i)) ∙ sym (ap (λ b. is_some (cond b (Some r) None)) (eq-eqb p q same)))
    (λ (other : p ≢ q). ap (λ b. b && not ended) (ne_eqb q p (λ e. other (sym e))) ∙ sym (ap (λ b. is_some (cond b (Some r) None)) (ne_eqb p q other)))
    (cases_eq p q)

-- tests that agree on each find the same
alike : (f g : Waiting → Bool) (ws : List Waiting) → AllByRecursion (λ w. f w ≡ g w) ws → find f ws ≡ find g ws
alike f g [] same = refl
alike f g (w ∷ ws) same = (λ i. cond (same.0 i) (Some w) (find f ws)) ∙ ap (λ o. cond (g w) (Some w) o) (alike f g ws same.1)

-- each that waits lives
each-lives : (s : State) (f g : Waiting → Bool) (ws : List Waiting) → AllByRecursion (λ w. (thread_at s w.client).has_ended ≡ false) ws
    → ((w : Waiting) → (thread_at s w.client).has_ended ≡ false → f w ≡ g w) → AllByRecursion (λ w. f w ≡ g w) ws
each-lives s f g [] alive same = tt
each-lives s f g (w ∷ ws) alive same = (same w alive.0, each-lives s f g ws alive.1 same)

module _ (s v : State) (is : v ≡ s) (alive : AllByRecursion (λ w. (get_or v.threads w.client no_thread).has_ended ≡ false) v.parked) where
  lives : AllByRecursion (λ w. (thread_at s w.client).has_ended ≡ false) s.parked
  lives = subst (λ (x : State). AllByRecursion (λ w. (get_or x.threads w.client no_thread).has_ended ≡ false) x.parked) is alive

  found-by : (named : ℕ → Bool) (rule : Waiting → Option Rule) → ((w : Waiting) → (thread_at s w.client).has_ended ≡ false → named w.client ≡ is_some (rule w))
      → earliest_of s named ≡ option_map (λ w. w.client) (find (λ w. is_some (rule w)) s.parked)
  found-by named rule same = ap (λ o. option_map (λ w. w.client) o) (alike (λ w. named w.client) (λ w. is_some (rule w)) s.parked (each-lives s (λ w. named w.client) (λ w. is_some (rule w)) s.parked lives same))

pub returns-in-Interrupted : goal.returns-in-Interrupted
returns-in-Interrupted c =
    let s = c.args.self.now in
    let n = c.self.inside in
    let alive = held-alive n.sets n.processes.threads (waiting n.parked) c.self.invariant.3 in
    let Same = λ (k : Cancelling). earliest_of s (is_named s k) ≡ option_map (λ w. w.client) (find (λ w. is_some (cancelled_as s k w)) s.parked) in
    c.earliest_thread.ensures
    ∙ ⊎_elim
    (λ (at : (pid : ℕ) × c.args.cancelling ≡ cancellings.Interrupted pid). subst Same (sym at.1)
    (found-by s _ c.self.view_is alive (is_named s (cancellings.Interrupted at.0)) (cancelled_as s (cancellings.Interrupted at.0))
    (λ w live. agrees at.0 (pid_at s w.client) (thread_at s w.client).has_ended Interrupted live)))
    (λ (at : (client : ℕ) × c.args.cancelling ≡ cancellings.Ended client). subst Same (sym at.1)
    (found-by s _ c.self.view_is alive (is_named s (cancellings.Ended at.0)) (cancelled_as s (cancellings.Ended at.0))
    (λ w live. agrees (process_at s at.0) (process_at s w.client) (thread_at s w.client).has_ended Ended live)))
    c.in-Interrupted.is

one-of : (s : State) (target : ℕ) (b : Bool) → is_waiting s target ≡ b → (if b then Some target else None) ≡ earliest_of s (λ k. k == target)
one-of s target true is = sym (found-one target s.parked is)
one-of s target false isnt = sym (found-none target s.parked isnt)

pub returns-in-ThreadInterrupted : goal.returns-in-ThreadInterrupted
returns-in-ThreadInterrupted c =
    let s = c.args.self.now in
    let target = c.in-ThreadInterrupted.target in
    c.if_waiting.ensures
    ∙ one-of s target (is_waiting s target) refl
    ∙ ap (λ (test : Waiting → Bool). option_map (λ w. w.client) (find test s.parked)) (λ i w. same target w.client i)
    ∙ ap (λ k. option_map (λ w. w.client) (find (λ w. is_some (cancelled_as s k w)) s.parked)) (sym c.in-ThreadInterrupted.is)
  where
    same : (p q : ℕ) → (q == p) ≡ is_some (if p == q then Some Interrupted else None)
    same p q = ⊎_elim
        (λ (e : p ≡ q). eq-eqb q p (sym e) ∙ sym (ap (λ b. is_some (cond b (Some Interrupted) None)) (eq-eqb p q e)))
        (λ (other : p ≢ q). ne_eqb q p (λ e. other (sym e)) ∙ sym (ap (λ b. is_some (cond b (Some Interrupted) None)) (ne_eqb p q other)))
        (cases_eq p q)

only_on : (b : Bool) (o : Option Rule) → (b && is_some (cond b o None)) ≡ is_some (cond b o None)
only_on true o = refl
only_on false o = refl

-- only what waits on the object ends
ends_on : (s : State) (cancelling : Cancelling) (kind : Kind) (id : ℕ) (w : Waiting) → (cancelling ≡ cancellings.Denied kind id) ⊎ (cancelling ≡ cancellings.Removed kind id)
    → (waits_on kind id w.call && is_some (cancelled_as s cancelling w)) ≡ is_some (cancelled_as s cancelling w)
ends_on s cancelling kind id w is =
    ⊎_elim
    (λ (denied : cancelling ≡ cancellings.Denied kind id). rw denied (only_on (waits_on kind id w.call) (first_denial (creds_at s w.client) (needs s w.client w.call))))
    (λ (removed : cancelling ≡ cancellings.Removed kind id). rw removed (only_on (waits_on kind id w.call) (Some Removed)))
    is

pub returns-in-Denied : goal.returns-in-Denied
returns-in-Denied c =
    let s = c.args.self.now in
    let es = c.self.inside.parked in
    let kind = c.in-Denied.kind in
    let id = c.in-Denied.id in
    let rule = cancelled_as s c.args.cancelling in
    let test = λ (e : ℕ × Arrival). is_some (rule (entry_of e)) in
    let all : find test (on_object kind id es) ≡ find test es = find_filter (λ e. waits_on kind id e.1.call) test es
    ∙ ap (λ (t : ℕ × Arrival → Bool). find t es) (λ i e. ends_on s c.args.cancelling kind id (entry_of e) c.in-Denied.is i) in
    picks_find _ (λ client call. is_some (rule (record { client = client; call = call; deadline = None }))) _ _ c.on_object.ensures (λ client call answer says. search rules)
    ∙ ap (λ (t : ℕ × Arrival → Bool). option_map (λ e. e.0) (find t (on_object kind id es))) (λ i e. is_some (without-until s c.args.cancelling (entry_of e) i))
    ∙ ap (λ (o : Option (ℕ × Arrival)). option_map (λ e. e.0) o) all
    ∙ clients_found (λ w. is_some (rule w)) es
    ∙ ap (λ (t : State). option_map (λ (w : Waiting). w.client) (find (λ w. is_some (rule w)) t.parked)) c.self.view_is
