-- The step that leaves a posted call parked keeps the rule.
use Rattle.std.proofs.Common.{◌≡◌, ◌⊎◌, ℕ, true, ◌+◌, ◌<◌, List, [], ◌∷◌, ◌++◌, length, sym, refl, ap, ◌∙◌, subst, inl, ⊎_elim, arith, length-append}
use mathlib.Core.Option.{some}
use Rattle.atomic_table.specs.Table.{State, gives, Allows, rest}
use Rattle.pub_rule.specs.declared.served.Served.{Ghosts}
use Rattle.pub_rule.specs.declared.work.Work.{Work}
use Rattle.pub_rule.specs.declared.work.Stage.{Stage}
use Rattle.pub_rule.specs.declared.work.Stage.TheVariants as stages
use Rattle.pub_rule.specs.declared.work.Serving.TheVariants.{Nothing, Posted}
use Rattle.pub_rule.specs.declared.served.Slot.{Slot}
use Rattle.pub_rule.specs.declared.served.Slot.TheVariants as slots
use Rattle.pub_rule.specs.Words.{state_word}
use Rattle.pub_rule.specs.Lists.{IsOn}
use Rattle.pub_rule.specs.Work.{Phase, taken, parked, Client, IsDealt, IsInStage, IsClient, Serves}
use Rattle.pub_rule.specs.WorkSteps.{with_work, dealt, leaving, call_parked}
use Rattle.pub_rule.specs.WorkLaws.{KeptByPark}
use Rattle.pub_rule.proofs.Numbers.{state_from_head, state_from_next}
use Rattle.pub_rule.proofs.Moves.{Stays}
use Rattle.pub_rule.proofs.Lift.{Served, lift}
use Rattle.pub_rule.proofs.Clientwork.{all_of}
use Rattle.pub_rule.proofs.Answering.{event_step, taken_record}

left_parked : {C : Type 0} (R : Type 0) (c : C) (st : Stage C) → IsInStage {C = C} {R = R} st (taken c) → IsInStage {C = C} {R = R} st (parked c)
left_parked R c stages.Spent h = tt
left_parked R c (stages.Maker k) h = tt
left_parked {C} R c (stages.Away q) h = absurd (subst (λ (p : Phase C R). IsDealt p → ⊥) h (λ f. f) tt)
left_parked {C} R c (stages.Free q) h = absurd (subst (λ (p : Phase C R). IsDealt p → ⊥) h (λ f. f) tt)
left_parked R c (stages.Asking q k) h = h
left_parked R c (stages.Token q) h = tt

module _ {E C R S : Type 0} (served : Ghosts S E C R) (n : ℕ) where
  open served use {history, legal, own, replies, client, call, own_call, own_other, one_more, no_more}

  abbrev Half : State (Slot C R S) (Work E C R) → Type 0
  Half = Served n (Serves served n)

  -- with one reply fewer than calls, the event brought none
  none_brought : (h : List E) (e : E) (q : ℕ) (c : C) (calls : List C) (got : List R) → legal h → legal (h ++ e ∷ []) → own (h ++ e ∷ []) q ≡ calls ++ c ∷ [] → replies h q ≡ got → length calls ≡ length got → length (replies (h ++ e ∷ []) q) + 1 ≡ length (own (h ++ e ∷ []) q) → replies (h ++ e ∷ []) q ≡ got
  none_brought h e q c calls got was law o g even fewer = ⊎_elim (λ same. same ∙ g)
      (λ y. let x : R = y.0 in let a = ap length o in let b = length-append calls (c ∷ []) in let d = ap length (y.1 ∙ ap (λ (l : List R). l ++ x ∷ []) g) in let f = length-append got (x ∷ []) in absurd (omega arith)) (one_more h e q was law)

  park_half : (size id p q : ℕ) (c : C) (e : E) (h : List E) (v : Work E C R) (hands : List (ℕ × Slot C R S)) → IsClient p v.stage → v.holds ≡ true → v.serving ≡ Posted q c → client e ≡ q → call e ≡ c → h ≡ v.seen ++ e ∷ [] → legal h
      → length (replies h q) + 1 ≡ length (own h q) → ((i : ℕ) → i < n → (replies v.seen i ≡ replies v.before i) ⊎ IsOn i v.paid)
      → Allows Half size id (v, (q, slots.Empty) ∷ hands) (state_word q) (λ _. 3) (λ _ m'. m' ≡ (leaving q h v, hands))
  park_half size id p q c e h v hands was holds posts whose what is law fewer owes s r sz at _ = let o : Client E C R = r.world.truth q in let hist : List E = r.world.desk.hist in
      let g = taken_record served n s.words s.homes s.views r id q v c at holds posts in
      let now : h ≡ hist ++ e ∷ [] = is ∙ ap (λ (l : List E). l ++ e ∷ []) g.2 in let law' : legal (hist ++ e ∷ []) = subst legal now law in
      let calls : own (hist ++ e ∷ []) q ≡ o.entered ++ c ∷ [] = subst (λ (z : ℕ). own (hist ++ e ∷ []) z ≡ own hist z ++ call e ∷ []) whose (own_call hist e r.sound.is_legal law') ∙ (λ i. g.3 i ++ what i ∷ []) in
      let still : replies (hist ++ e ∷ []) q ≡ o.got = none_brought hist e q c o.entered o.got r.sound.is_legal law' calls g.4 g.5 (subst (λ (z : List E). length (replies z q) + 1 ≡ length (own z q)) now fewer) in (
        leaving q h v,
        gives,
        tt,
        event_step served n s.words s.homes s.views r id p q 3 (some slots.Empty) v c e [] (record o { phase = parked c; parked_by = hist ++ e ∷ [] }) at was holds posts whose law' owes
            (subst (λ (z : Phase C R). Stays (record o { phase = z }) (record o { phase = parked c; parked_by = hist ++ e ∷ [] })) (sym g.0) record { stage = left_parked R c; entered = refl; got = refl; posts = refl; begun = refl; dealt = λ _. tt; ready = λ h. absurd (omega arith) }) refl refl
            record { calls = calls; even = g.5; replies_are = (g.4, inl still); settled = tt; was_parked = (all_of (hist ++ e ∷ []), calls, still); taken_is = λ z. z } tt (λ i other on. on) (leaving q h v)
            (λ i. dealt q (record v { seen = now i; before = g.2 i; paid = []; serving = Nothing })),
        refl,
      )

  pub park : KeptByPark served n
  park size id p q c e x me took enters fewer hands = lift n (Serves served n) size id (state_word q) (λ _. 3) me (λ _ m'. m' ≡ (leaving q (history x) me.0.work, rest me.1))
      (λ k m'. call_parked served me m' (state_word q) (some (slots.State x))) (λ u. state_from_head q (sym u)) (λ r u. state_from_next q r (sym u))
      (subst (λ (z : List (ℕ × Slot C R S)). Allows Half size id (me.0.work, z) (state_word q) (λ _. 3) (λ _ m'. m' ≡ (leaving q (history x) me.0.work, rest me.1))) (sym hands)
      (park_half size id p q c e (history x) me.0.work (rest me.1) took.client took.holds took.serves enters.by enters.asks enters.one_more enters.is_legal fewer enters.owes_nothing))
      (λ _ w h u. record { state = x; it_said = refl; on = record { client = q; at = refl; left = ap (λ (z : Work E C R × List (ℕ × Slot C R S)). (with_work z.0 me.0, z.1)) u } })
