-- The waiting calls that a granted call cancels: the code ends the first until none is left, the definition filters the list.
use Rattle.std.proofs.Common.{◌≡◌, ℕ, ◌+◌, Bool, true, false, List, [], ◌∷◌, ◌++◌, cond, length, append_assoc, refl, sym, ap, subst, ◌∙◌, ⊎_elim, Option, Some, None, Err}
use Rattle.std.specs.Prelude.{◌==◌, ◌&&◌, is_none, is_some, option_map, unwrap_or, IfSome}
use Rattle.std.specs.List.{find, AllByRecursion}
use Rattle.std.proofs.lemmas.Bool.{cases_Bool, false≢true, true≢false}
use Rattle.ipc_call.specs.declared.calls.Call.{Call}
use Rattle.ipc_call.specs.declared.calls.Kind.{Kind}
use Rattle.ipc_call.specs.declared.replies.Waiting.{Waiting}
use Rattle.ipc_call.specs.declared.replies.Completion.{Completion}
use Rattle.ipc_call.specs.declared.rules.Rule.{Rule}
use Rattle.ipc_model.specs.State.{State, creds_at, is_waiting, waiting_of}
use Rattle.ipc_model.specs.Decide.{can_wait, needs, plan, waits_at}
use Rattle.ipc_model.proofs.Alike.{needs-alike}
use Rattle.ipc_model.proofs.Calls.{plan-alike}
use Rattle.ipc_model.specs.Cancelled.{first_denial, is_same, waits_on}
use Rattle.ipc_model.specs.Step.{ended_by_rule, without}
use Rattle.ipc_namespace.specs.declared.cancelling.Cancelling.{Cancelling}
use Rattle.ipc_namespace.specs.declared.cancelling.Cancelling.TheVariants as cancellings
use Rattle.ipc_namespace.specs.Namespace.{ended_as, cancelled_as, kept_by}
use Rattle.ipc_parked.specs.Parked.{AreApart}
use Rattle.ipc_namespace.proofs.Calling.{IfSome-at}
use Rattle.ipc_namespace.proofs.Own.{At, found-at, found-none, length-others, others, own-there}

module _ (rule : Waiting → Option Rule) where
  left-append : (vs ws : List Waiting) → kept_by rule (vs ++ ws) ≡ kept_by rule vs ++ kept_by rule ws
  left-append [] ws = refl
  left-append (v ∷ vs) ws =
      ⊎_elim
      (λ (none : is_none (rule v) ≡ true). rw none (ap (λ us. v ∷ us) (left-append vs ws)))
      (λ (some : is_none (rule v) ≡ false). rw some (left-append vs ws))
      (cases_Bool (is_none (rule v)))

  ended-append : (vs ws : List Waiting) → ended_as rule (vs ++ ws) ≡ ended_as rule vs ++ ended_as rule ws
  ended-append [] ws = refl
  ended-append (v ∷ vs) ws = ap (λ es. ended_by_rule v.client (rule v) ++ es) (ended-append vs ws) ∙ sym (append_assoc (ended_by_rule v.client (rule v)) (ended_as rule vs) (ended_as rule ws))

  pub left-none : (ws : List Waiting) → AllByRecursion (λ w. rule w ≡ None) ws → kept_by rule ws ≡ ws
  left-none [] none = refl
  left-none (v ∷ ws) none = ap (λ o. cond (is_none o) (v ∷ kept_by rule ws) (kept_by rule ws)) none.0 ∙ ap (λ ls. v ∷ ls) (left-none ws none.1)

  pub ended-none : (ws : List Waiting) → AllByRecursion (λ w. rule w ≡ None) ws → ended_as rule ws ≡ []
  ended-none [] none = refl
  ended-none (v ∷ ws) none = ap (λ o. ended_by_rule v.client o ++ ended_as rule ws) none.0 ∙ ended-none ws none.1

  none_from : (o : Option Rule) → is_some o ≡ false → o ≡ None
  none_from None is = refl
  none_from (Some r) is = absurd (true≢false is)

  pub none_fails : (ws : List Waiting) → AllByRecursion (λ w. is_some (rule w) ≡ false) ws → AllByRecursion (λ w. rule w ≡ None) ws
  none_fails [] fails = tt
  none_fails (w ∷ ws) fails = (none_from (rule w) fails.0, none_fails ws fails.1)

  -- the first call that ends leaves: what is left is the same, and what ends has one less
  module _ (ws : List Waiting) (w : Waiting) (r : Rule) (is : rule w ≡ Some r) (at : At (λ v. is_some (rule v)) ws w) where
    pub left-first : kept_by rule ws ≡ kept_by rule (others w.client ws)
    left-first =
        ap (kept_by rule) at.is ∙ left-append at.before (w ∷ at.after) ∙ ap (λ o. kept_by rule at.before ++ cond (is_none o) (w ∷ kept_by rule at.after) (kept_by rule at.after)) is
        ∙ sym (left-append at.before at.after) ∙ ap (kept_by rule) (sym at.left)

    pub ended-first : ended_as rule ws ≡ record { client = w.client; outcome = Err r } ∷ ended_as rule (others w.client ws)
    ended-first =
        let before = ended-none at.before (none_fails at.before at.fails) in
        ap (ended_as rule) at.is ∙ ended-append at.before (w ∷ at.after) ∙ ap (λ es. es ++ ended_as rule (w ∷ at.after)) before ∙ ap (λ o. ended_by_rule w.client o ++ ended_as rule at.after) is
        ∙ ap (λ es. record { client = w.client; outcome = Err r } ∷ es) (sym (ap (ended_as rule) at.left ∙ ended-append at.before at.after ∙ ap (λ es. es ++ ended_as rule at.after) before))

-- a call that waits at an object may wait
waits-can : (kind : Kind) (id : ℕ) (o : Option (Kind × ℕ)) → unwrap_or (option_map (λ at. is_same at.0 kind && at.1 == id) o) false ≡ true → is_some o ≡ true
waits-can kind id None on = absurd (false≢true on)
waits-can kind id (Some at) on = refl

-- what a call that may wait needs, and so what ends, doesn't depend on the waiting list
module _ (s : State) (parked : List Waiting) where
  abbrev other : State
  other = record s { parked = parked }

  needs-same : (client : ℕ) (call : Call) → can_wait call ≡ true → needs other client call ≡ needs s client call
  needs-same client call can = needs-alike (plan other client call) (plan s client call) (plan-alike s parked s.clock client call can)

  denied-alike : (b : Bool) (w : Waiting) → (b ≡ true → can_wait w.call ≡ true) → cond b (first_denial (creds_at s w.client) (needs other w.client w.call)) None ≡ cond b (first_denial (creds_at s w.client) (needs s w.client w.call)) None
  denied-alike true w can = ap (λ ns. first_denial (creds_at s w.client) ns) (needs-same w.client w.call (can refl))
  denied-alike false w can = refl

  cancelled_as-alike : (cancelling : Cancelling) (w : Waiting) → cancelled_as other cancelling w ≡ cancelled_as s cancelling w
  cancelled_as-alike (cancellings.Denied kind id) w = denied-alike (waits_on kind id w.call) w (λ on. waits-can kind id (waits_at w.call) on)
  cancelled_as-alike (cancellings.Removed kind id) w = refl
  cancelled_as-alike (cancellings.Interrupted pid) w = refl
  cancelled_as-alike (cancellings.ThreadInterrupted client) w = refl
  cancelled_as-alike (cancellings.Ended process) w = refl

  pub same_rule : (cancelling : Cancelling) → cancelled_as other cancelling ≡ cancelled_as s cancelling
  same_rule cancelling = λ i w. cancelled_as-alike cancelling w i

-- no deadline makes a difference
pub without-until : (s : State) (cancelling : Cancelling) (w : Waiting) → cancelled_as s cancelling (record { client = w.client; call = w.call; deadline = None }) ≡ cancelled_as s cancelling w
without-until s (cancellings.Denied kind id) w = refl
without-until s (cancellings.Removed kind id) w = refl
without-until s (cancellings.Interrupted pid) w = refl
without-until s (cancellings.ThreadInterrupted client) w = refl
without-until s (cancellings.Ended process) w = refl

-- one turn of those that end by a rule: the first leaves, and what is left to end is the rest
module _ (initial s : State) (f0 : Waiting → Option Rule) (rest : s ≡ record initial { parked = s.parked }) where
  pub leave-turn : (new : State) (client : ℕ) (rule : Rule) (e : Completion) (w : Waiting) → AreApart s.parked → waiting_of s client ≡ Some w → w.client ≡ client
      → f0 w ≡ Some rule → At (λ v. is_some (f0 v)) s.parked w → new ≡ without s client → e ≡ record { client = client; outcome = Err rule }
      → (new ≡ record initial { parked = new.parked }) × (kept_by f0 s.parked ≡ kept_by f0 new.parked) × (ended_as f0 s.parked ≡ e ∷ ended_as f0 new.parked) × (length new.parked + 1 ≡ length s.parked)
  leave-turn new client rule e w apart own same ends at left told =
      let parked : new.parked ≡ others w.client s.parked = ap (λ (t : State). t.parked) left ∙ ap (λ k. others k s.parked) (sym same) in (
        left ∙ ap (λ (t : State). record t { parked = others client s.parked }) rest ∙ ap (λ ws. record initial { parked = ws }) (sym (ap (λ (t : State). t.parked) left)),
        left-first f0 s.parked w rule ends at ∙ ap (kept_by f0) (sym parked),
        ended-first f0 s.parked w rule ends at ∙ ap (λ (x : Completion). x ∷ ended_as f0 (others w.client s.parked)) (λ i. record { client = same i; outcome = Err rule })
            ∙ ap (λ (x : Completion). x ∷ ended_as f0 (others w.client s.parked)) (sym told) ∙ ap (λ ws. e ∷ ended_as f0 ws) (sym parked),
        ap (λ (t : State). length t.parked + 1) left ∙ length-others s.parked client w apart own same,
      )

-- one turn: the first call that ends leaves, and what is left to end is the rest
module _ (initial s : State) (cancelling : Cancelling) (rest : s ≡ record initial { parked = s.parked }) where
  abbrev f0 : Waiting → Option Rule
  f0 = cancelled_as initial cancelling

  rule-same : cancelled_as s cancelling ≡ f0
  rule-same = ap (λ (t : State). cancelled_as t cancelling) rest ∙ same_rule initial s.parked cancelling

  pub cancel-turn : (new : State) (client : ℕ) (rule : Rule) (e : Completion) → AreApart s.parked → is_waiting s client ≡ true
      → find (λ w. is_some (cancelled_as s cancelling w)) s.parked ≡ waiting_of s client → IfSome (waiting_of s client) (λ w. cancelled_as s cancelling w ≡ Some rule)
      → new ≡ without s client → e ≡ record { client = client; outcome = Err rule }
      → (new ≡ record initial { parked = new.parked }) × (kept_by f0 s.parked ≡ kept_by f0 new.parked) × (ended_as f0 s.parked ≡ e ∷ ended_as f0 new.parked) × (length new.parked + 1 ≡ length s.parked)
  cancel-turn new client rule e apart waits first is left told =
      let there = own-there client s.parked waits in
      let w = there.0 in
      let ends : f0 w ≡ Some rule = ap (λ (f : Waiting → Option Rule). f w) (sym rule-same) ∙ IfSome-at (waiting_of s client) w (λ v. cancelled_as s cancelling v ≡ Some rule) there.1 is in
      let at : At (λ v. is_some (f0 v)) s.parked w = subst (λ (f : Waiting → Option Rule). At (λ v. is_some (f v)) s.parked w) rule-same (found-at (λ v. is_some (cancelled_as s cancelling v)) s.parked w apart (first ∙ there.1)) in
      let parked : new.parked ≡ others w.client s.parked = ap (λ (t : State). t.parked) left ∙ ap (λ k. others k s.parked) (sym there.2) in (
        left ∙ ap (λ (t : State). record t { parked = others client s.parked }) rest ∙ ap (λ ws. record initial { parked = ws }) (sym (ap (λ (t : State). t.parked) left)),
        left-first f0 s.parked w rule ends at ∙ ap (kept_by f0) (sym parked),
        ended-first f0 s.parked w rule ends at ∙ ap (λ (x : Completion). x ∷ ended_as f0 (others w.client s.parked)) (λ i. record { client = there.2 i; outcome = Err rule })
            ∙ ap (λ (x : Completion). x ∷ ended_as f0 (others w.client s.parked)) (sym told) ∙ ap (λ ws. e ∷ ended_as f0 ws) (sym parked),
        ap (λ (t : State). length t.parked + 1) left ∙ length-others s.parked client w apart there.1 there.2,
      )

  -- the last: nothing is left to end
  pub cancel-over : find (λ w. is_some (cancelled_as s cancelling w)) s.parked ≡ None → (kept_by f0 s.parked ≡ s.parked) × (ended_as f0 s.parked ≡ [])
  cancel-over none =
      let all = none_fails f0 s.parked (subst (λ (f : Waiting → Option Rule). AllByRecursion (λ w. is_some (f w) ≡ false) s.parked) rule-same (found-none (λ w. is_some (cancelled_as s cancelling w)) s.parked none)) in
      (left-none f0 s.parked all, ended-none f0 s.parked all)
