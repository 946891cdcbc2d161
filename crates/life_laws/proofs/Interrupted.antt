-- Calls whose wait ends by an interrupt, and an interrupt of nobody.
use Rattle.std.proofs.Common.{◌≡◌, ℕ, Bool, true, false, cond, List, [], ◌∷◌, ◌++◌, refl, ap, ◌∙◌, ⊎_elim, arith, Some, None}
use Rattle.std.specs.Prelude.{◌==◌, filter, flat_map, is_none, map, not}
use Rattle.std.specs.List.{AllByRecursion, list_any}
use Rattle.std.proofs.lemmas.Bool.{cases_Bool, or_from}
use Rattle.std.proofs.lemmas.List.{append-nil}
use Rattle.ipc_call.specs.declared.calls.Call.TheVariants.{Interrupt, InterruptThread}
use Rattle.ipc_call.specs.declared.replies.Answer.TheVariants.{Done}
use Rattle.ipc_call.specs.declared.replies.Completion.{Completion}
use Rattle.ipc_call.specs.declared.replies.Waiting.{Waiting}
use Rattle.ipc_call.specs.declared.rules.Rule.TheVariants.{Interrupted, NoProcess}
use Rattle.ipc_creds.specs.Credentials.{cap_sys_admin, has_capability}
use Rattle.ipc_model.specs.State.{State, creds_at, has_exited}
use Rattle.ipc_model.specs.Decision.{Decision, Granted, Refused, outcome_of}
use Rattle.ipc_model.specs.Decide.{decide_call}
use Rattle.ipc_model.specs.Step.{Event, Moved, at_time, begun, cancel, ended_by_rule, entered, expire, is_ready, settled, without}
use Rattle.ipc_model.proofs.Calls.{parked_alike}
use Rattle.ipc_history.specs.History.{History, run, with_event}
use Rattle.ipc_history.proofs.Runs.{tidy-run}
use Rattle.life_laws.specs.Lives.{Interrupts, IsFree, Ticks, event, interrupted}
use Rattle.life_laws.proofs.Decided.{interrupt-decided, interrupt-refused}
use Rattle.life_laws.proofs.Steps.{run-with}
use Rattle.life_laws.proofs.Waits.{all-filter, all-map, done, none-found, none-passes, quiet-begun, quiet-run, settled-none}

turned-around : (a b : ℕ) → (a == b) ≡ (b == a)
turned-around a b = grind arith

-- the calls of one client end, and no other
module _ (target : ℕ) where
  ends-if : (b : Bool) → is_none (cond b (Some Interrupted) None) ≡ not b
  ends-if true = refl
  ends-if false = refl

  left : (ws : List Waiting) → filter (λ w. is_none (cond (target == w.client) (Some Interrupted) None)) ws ≡ filter (λ w. not (w.client == target)) ws
  left [] = refl
  left (w ∷ ws) = λ i. cond ((ends-if (target == w.client) ∙ ap not (turned-around target w.client)) i) (w ∷ left ws i) (left ws i)

  told-if : (b : Bool) (w : Waiting) (vs ws : List Waiting) → vs ≡ ws
      → ended_by_rule w.client (cond b (Some Interrupted) None) ++ map interrupted vs ≡ map interrupted (cond b (w ∷ ws) ws)
  told-if true w vs ws same = ap (λ (us : List Waiting). interrupted w ∷ map interrupted us) same
  told-if false w vs ws same = ap (λ (us : List Waiting). map interrupted us) same

  told : (ws : List Waiting) → flat_map (λ w. ended_by_rule w.client (cond (target == w.client) (Some Interrupted) None)) ws ≡ map interrupted (filter (λ w. w.client == target) ws)
  told [] = refl
  told (w ∷ ws) =
      ap (λ (rest : List Completion). ended_by_rule w.client (cond (target == w.client) (Some Interrupted) None) ++ rest) (told ws)
      ∙ told-if (target == w.client) w (filter (λ v. v.client == target) ws) (filter (λ v. v.client == target) ws) refl
      ∙ ap (λ (b : Bool). map interrupted (cond b (w ∷ filter (λ v. v.client == target) ws) (filter (λ v. v.client == target) ws))) (turned-around target w.client)

  none-waits : (ws : List Waiting) → list_any (λ w. w.client == target) (filter (λ w. not (w.client == target)) ws) ≡ false
  none-waits [] = refl
  none-waits (w ∷ ws) = ⊎_elim
      (λ (own : (w.client == target) ≡ true). rw own (none-waits ws))
      (λ (other : (w.client == target) ≡ false). rw other (or_from (w.client == target) _ other (none-waits ws)))
      (cases_Bool (w.client == target))

  cancels : (s : State) → cancel s (InterruptThread target) ≡ record { state = without s target; ended = map interrupted (filter (λ w. w.client == target) s.parked) }
  cancels s = λ i. record { state = record s { parked = left s.parked i }; ended = told s.parked i }

module _ (h : History) (now client : ℕ) (lives : has_exited (run h) client ≡ false) where
  abbrev at : State
  at = begun (run h) now

  abbrev before : List Completion
  before = (expire (at_time (run h) now)).ended

  at-quiet : AllByRecursion (λ w. is_ready at w ≡ false) at.parked
  at-quiet = none-passes (is_ready at) at.parked (quiet-begun (run h) now (quiet-run h))

  module _ (admin : has_capability (creds_at (run h) client) cap_sys_admin ≡ true) where
    pub interrupt-run : (target : ℕ) → has_exited (run h) target ≡ false → Interrupts h (event now client (InterruptThread target)) target
    interrupt-run target live = record {
      granted = ap (λ (d : Decision State). outcome_of d) decided;
      waits = ap (λ (t : State). list_any (λ w. w.client == target) t.parked) leads ∙ none-waits target at.parked;
      state = leads;
      told =
          ap (λ (d : Decision State). before ++ (entered at client (InterruptThread target) d).ended) decided
          ∙ ap (λ (m : Moved). before ++ (m.ended ++ (settled m.state).ended)) (cancels target at)
          ∙ ap (λ (m : Moved). before ++ (map interrupted (filter (λ w. w.client == target) at.parked) ++ m.ended)) quiet
          ∙ ap (λ (rest : List Completion). before ++ rest) (append-nil (map interrupted (filter (λ w. w.client == target) at.parked)));
    }
      where
        e : Event
        e = event now client (InterruptThread target)

        decided : decide_call at client (InterruptThread target) ≡ Granted Done at
        decided = (interrupt-decided at client lives admin target live).is

        quiet : settled (without at target) ≡ done (without at target)
        quiet = settled-none (without at target) (none-found (is_ready (without at target)) (without at target).parked
            (all-map (λ w. is_ready at w ≡ false) (λ w. is_ready (without at target) w ≡ false) (λ w waits. parked_alike at (without at target).parked w.client w.call ∙ waits)
            (without at target).parked (all-filter (λ w. is_ready at w ≡ false) (λ w. not (w.client == target)) at.parked at-quiet)))

        leads : run (with_event h e) ≡ without at target
        leads =
            run-with h e ∙ ap (λ (d : Decision State). (entered at client (InterruptThread target) d).state) decided
            ∙ ap (λ (m : Moved). (settled m.state).state) (cancels target at) ∙ ap (λ (m : Moved). m.state) quiet

  -- an interrupt of nobody: 0 is no pid
  free-zero : IsFree (run h) 0
  free-zero other live is = let some = (tidy-run h).numbered.shown other live in omega (arith, some, is)

  refused : decide_call at client (Interrupt 0) ≡ Refused NoProcess
  refused = (interrupt-refused at client lives 0 free-zero).is

  pub tick-run : Ticks h (event now client (Interrupt 0))
  tick-run = record {
    refused = ap (λ (d : Decision State). outcome_of d) refused;
    leads = record {
      state = run-with h e ∙ ap (λ (d : Decision State). (entered at client (Interrupt 0) d).state) refused ∙ ap (λ (m : Moved). m.state) quiet;
      told =
          ap (λ (d : Decision State). before ++ (entered at client (Interrupt 0) d).ended) refused
          ∙ ap (λ (m : Moved). before ++ m.ended) quiet
          ∙ append-nil before;
    };
  }
    where
      e : Event
      e = event now client (Interrupt 0)

      quiet : settled at ≡ done at
      quiet = settled-none at (quiet-begun (run h) now (quiet-run h))
