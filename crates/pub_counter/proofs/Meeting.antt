-- What a client that serves swaps knows after each record.
use Rattle.std.proofs.Common.{◌≡◌, ◌≢◌, ℕ, List, [], ◌∷◌, ◌++◌, length, cond, eqb, true, ⊎_elim, None, sym, refl, ap, ◌∙◌, subst, inl, inr, arith, eq-eqb, ne_eqb, length-append}
use mathlib.Core.Logic.{dite}
use native.Mathlib.Decide.{ℕ_discrete}
use Rattle.pub_rule.specs.WorkSteps.{with_work, refusing, leaving, entering, resuming, replying}
use Rattle.pub_list.specs.Combining.{MayAnswer, MayPark, IsCombining, IsOwed, IsTook}
use Rattle.pub_list.specs.declared.combining.Took.{Took}
use Rattle.pub_list.specs.declared.combining.Took.TheVariants as took
use Rattle.pub_list.specs.declared.records.WordState.TheVariants as states
use Rattle.pub_list.specs.declared.asking.Answer.TheVariants.{Reply}
use Rattle.pub_counter.specs.declared.counter.Turn.{Turn}
use Rattle.pub_counter.specs.declared.swap.Swap.{Swap}
use Rattle.pub_counter.specs.Counter.{own, own_call}
use Rattle.pub_counter.specs.Swap.{legal, alone, replies, swapped, waits, meets}
use Rattle.pub_counter.specs.Service.{Knowledge, admits_all}
use Rattle.pub_counter.specs.Swapping.{HasPartner, turns_of}
use Rattle.pub_list.specs.Passing.{IsServing, HasTaken}

nil_behind : (l : List ℕ) → l ++ [] ≡ l
nil_behind [] = refl
nil_behind (y ∷ l) = ap (λ (k : List ℕ). y ∷ k) (nil_behind l)

module _ (n client amount : ℕ) (v : Knowledge) (old : Swap) (taken : HasTaken turns_of legal replies own admits_all n client amount v old) where
  abbrev turn : Turn
  turn = record { client = client; amount = amount }

  module _ (new : Swap) (entered : new.turns.items ≡ old.turns.items ++ turn ∷ []) where
    abbrev one_more : new.turns.items ≡ v.work.seen ++ turn ∷ []
    one_more = entered ∙ ap (λ (l : List Turn). l ++ turn ∷ []) taken.2

    module _ (first : alone old.turns.items ≡ None) where
      waiting : (i : ℕ) → replies new.turns.items i ≡ replies v.work.seen i
      waiting i = ap (λ (h : List Turn). replies h i) one_more ∙ waits v.work.seen turn i (ap alone (sym taken.2) ∙ first)

      pub may_park : MayPark (λ (s : Swap). s.turns.items) legal (λ (e : Turn). e.client) (λ (e : Turn). e.amount) n client v new own replies
      may_park = (
        (amount, turn, taken.1, refl, refl, one_more, tt, taken.3),
        (let same = ap length (waiting client) in let calls = ap length (ap (λ (h : List Turn). own h client) one_more ∙ own_call v.work.seen turn) in let sum = length-append (own v.work.seen client) (amount ∷ []) in let even = taken.4 in omega arith),
      )

      pub parks_on : (w : Knowledge) → w ≡ with_work (leaving client new.turns.items v.work) v → IsServing turns_of legal replies n w new
      parks_on w e = subst (λ (z : Knowledge). IsServing turns_of legal replies n z new) (sym e) ((taken.0, refl), refl, (λ i _. inl (waiting i)), tt)

    module _ (partner other : ℕ) (has : HasPartner n client partner other old) where
      swaps : (i : ℕ) → replies new.turns.items i ≡ replies v.work.seen i ++ swapped partner other turn i
      swaps i = ap (λ (h : List Turn). replies h i) one_more ∙ meets v.work.seen turn i partner other (ap alone (sym taken.2) ∙ has.2)

      abbrev Rest : ℕ → ℕ → List ℕ
      Rest a i = cond (eqb client i) (other ∷ []) []

      to_partner : swapped partner other turn partner ≡ amount ∷ []
      to_partner = ap (λ b. cond b (amount ∷ []) (Rest partner partner)) (eq-eqb partner partner refl)

      to_client : swapped partner other turn client ≡ other ∷ []
      to_client = ap (λ b. cond b (amount ∷ []) (Rest partner client)) (ne_eqb partner client has.1) ∙ ap (λ b. cond b (other ∷ []) []) (eq-eqb client client refl)

      to_others : (i : ℕ) → i ≢ partner → i ≢ client → swapped partner other turn i ≡ []
      to_others i a b = ap (λ z. cond z (amount ∷ []) (Rest partner i)) (ne_eqb partner i (λ e. a (sym e))) ∙ ap (λ z. cond z (other ∷ []) []) (ne_eqb client i (λ e. b (sym e)))

      partner_has : replies new.turns.items partner ≡ replies v.work.seen partner ++ amount ∷ []
      partner_has = swaps partner ∙ ap (λ (l : List ℕ). replies v.work.seen partner ++ l) to_partner

      pub may_reply : MayAnswer (λ (s : Swap). s.turns.items) legal (λ (e : Turn). e.client) (λ (e : Turn). e.amount) n client v new replies (Reply other)
      may_reply = inl ((amount, turn, taken.1, refl, refl, one_more, tt, taken.3), swaps client ∙ ap (λ (l : List ℕ). replies v.work.seen client ++ l) to_client)

      module _ (w : Knowledge) (answered : w ≡ with_work (replying v.work.serving client new.turns.items v.work) v) where
        abbrev after : Knowledge
        after = with_work (entering client new.turns.items v.work) v

        is_after : w ≡ after
        is_after = answered ∙ (λ i. with_work (replying (taken.1 i) client new.turns.items v.work) v)

        pub combines : IsCombining w
        combines = subst IsCombining (sym is_after) (taken.0, refl)

        pub owed : IsOwed replies partner w
        owed = subst (IsOwed replies partner) (sym is_after) (
          (λ e. let size = ap length (sym partner_has ∙ e) in let sum = length-append (replies v.work.seen partner) (amount ∷ []) in omega arith),
          (λ on. ⊎_elim (λ e. has.1 e) (λ t. absurd t) on),
        )

        module _ (u : Knowledge) (c : ℕ) (took : u ≡ with_work (resuming partner c w.work) w) (state : Swap) (same : state.turns.items ≡ new.turns.items) where
          is_then : u ≡ with_work (resuming partner c after.work) after
          is_then = took ∙ ap (λ (z : Knowledge). with_work (resuming partner c z.work) z) is_after

          pub may_hand : MayAnswer (λ (s : Swap). s.turns.items) legal (λ (e : Turn). e.client) (λ (e : Turn). e.amount) n partner u state replies (Reply amount)
          may_hand = subst (λ (z : Knowledge). MayAnswer (λ (s : Swap). s.turns.items) legal (λ (e : Turn). e.client) (λ (e : Turn). e.amount) n partner z state replies (Reply amount)) (sym is_then) (inr (c, replies v.work.seen partner, refl, same, partner_has))

          pub holds : u.work.holds ≡ true
          holds = ap (λ (z : Knowledge). z.work.holds) is_then ∙ taken.0

          pub serves_on : (z : Knowledge) → z ≡ with_work (replying u.work.serving partner state.turns.items u.work) u → IsServing turns_of legal replies n z state
          serves_on z e = subst (λ (k : Knowledge). IsServing turns_of legal replies n k state) (sym (e ∙ ap (λ (k : Knowledge). with_work (replying k.work.serving partner state.turns.items k.work) k) is_then)) (
            (taken.0, refl),
            same,
            (λ i _. dite (ℕ_discrete i partner) (λ a. inr (inl a)) (λ a. dite (ℕ_discrete i client) (λ b. inr (inr (inl b))) (λ b. inl (swaps i ∙ (ap (λ (l : List ℕ). replies v.work.seen i ++ l) (to_others i a b) ∙ nil_behind (replies v.work.seen i)))))),
            tt,
          )

  pub serves_still : (w : Knowledge) (new : Swap) → w ≡ with_work (refusing client v.work) v → new.turns.items ≡ old.turns.items → IsServing turns_of legal replies n w new
  serves_still w new e same = subst (λ (z : Knowledge). IsServing turns_of legal replies n z new) (sym e) ((taken.0, refl), same ∙ taken.2, taken.3, taken.7)

pub took_parked : (r : ℕ) (v w : Knowledge) (t : Took ℕ) → IsTook own replies r v w states.Parked t → (c : ℕ) × (w ≡ with_work (resuming r c v.work) v)
took_parked r v w (took.FromPosted c) h = absurd h
took_parked r v w took.FromParked h = h
took_parked r v w took.Not h = absurd h
