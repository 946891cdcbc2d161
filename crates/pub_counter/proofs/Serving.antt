-- What a client that serves a counter knows after each record.
use Rattle.std.proofs.Common.{◌≡◌, ◌⊎◌, ℕ, ◌<◌, ◌^◌, List, [], ◌∷◌, ◌++◌, sym, refl, ap, ◌∙◌, subst, inl, inr}
use mathlib.Core.Logic.{dite}
use native.Mathlib.Decide.{ℕ_discrete}
use Rattle.pub_rule.specs.Lists.{IsOn}
use Rattle.pub_rule.specs.WorkSteps.{with_work, refusing, replying}
use Rattle.pub_list.specs.Combining.{MayAnswer}
use Rattle.pub_list.specs.declared.asking.Answer.TheVariants.{Reply}
use Rattle.pub_counter.specs.declared.counter.Turn.{Turn}
use Rattle.pub_counter.specs.declared.counter.Counter.{Counter}
use Rattle.pub_counter.specs.Counter.{total, own, replies, replied, unreplied, IsAdded}
use Rattle.pub_counter.specs.Service.{Knowledge, admits_all}
use Rattle.pub_list.specs.Passing.{IsServing, HasTaken}

module _ (n client amount : ℕ) (v : Knowledge) (old : Counter) (taken : HasTaken (λ (s : Counter). s.turns.items) (λ h. total h < 2 ^ 64) replies own admits_all n client amount v old) where
  abbrev turn : Turn
  turn = record { client = client; amount = amount }

  module _ (new : Counter) (sum : ℕ) (added : IsAdded client amount old.turns.items new.turns.items sum) where
    abbrev one_more : new.turns.items ≡ v.work.seen ++ turn ∷ []
    one_more = added.0 ∙ ap (λ (l : List Turn). l ++ turn ∷ []) taken.2

    pub may_answer : MayAnswer (λ (s : Counter). s.turns.items) (λ h. total h < 2 ^ 64) (λ (e : Turn). e.client) (λ (e : Turn). e.amount) n client v new replies (Reply sum)
    may_answer = inl (
      (amount, turn, taken.1, refl, refl, one_more, subst (λ (k : ℕ). k < 2 ^ 64) added.1 added.2, taken.3),
      ap (λ (h : List Turn). replies h client) one_more ∙ (replied v.work.seen turn ∙ ap (λ (k : ℕ). replies v.work.seen client ++ k ∷ []) (ap total (sym one_more) ∙ sym added.1)),
    )

    owes_nothing : (i : ℕ) → (replies new.turns.items i ≡ replies v.work.seen i) ⊎ IsOn i (client ∷ [])
    owes_nothing i = dite (ℕ_discrete i client) (λ e. inr (inl e)) (λ other. inl (ap (λ (h : List Turn). replies h i) one_more ∙ unreplied v.work.seen turn i other))

    pub serves_on : (w : Knowledge) → w ≡ with_work (replying v.work.serving client new.turns.items v.work) v → IsServing (λ (s : Counter). s.turns.items) (λ h. total h < 2 ^ 64) replies n w new
    serves_on w e = subst (λ (z : Knowledge). IsServing (λ (s : Counter). s.turns.items) (λ h. total h < 2 ^ 64) replies n z new) (sym (e ∙ (λ i. with_work (replying (taken.1 i) client new.turns.items v.work) v))) ((taken.0, refl), refl, (λ i _. owes_nothing i), subst (λ (k : ℕ). k < 2 ^ 64) added.1 added.2)

  pub serves_still : (w : Knowledge) (new : Counter) → w ≡ with_work (refusing client v.work) v → new.turns.items ≡ old.turns.items → IsServing (λ (s : Counter). s.turns.items) (λ h. total h < 2 ^ 64) replies n w new
  serves_still w new e same = subst (λ (z : Knowledge). IsServing (λ (s : Counter). s.turns.items) (λ h. total h < 2 ^ 64) replies n z new) (sym e) ((taken.0, refl), same ∙ taken.2, taken.3, taken.7)
