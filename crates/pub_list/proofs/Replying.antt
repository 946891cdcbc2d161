-- A combiner's seat while it answers a record that it took, or leaves it parked.
use Rattle.std.proofs.Common.{◌≡◌, ℕ, true, eqb, ◌+◌, ◌-◌, ◌<◌, List, ◌∷◌, sym, refl, ap, ◌∙◌, subst, ⊎_elim, arith}
use mathlib.Core.Option.{Option, some, none}
use prog.Atomic.{either}
use Rattle.atomic_table.specs.Table.{Me, rest, Allows}
use Rattle.atomic_table.specs.declared.shared.Seat.{Seat}
use Rattle.pub_rule.specs.declared.served.Served.{Ghosts}
use Rattle.pub_rule.specs.declared.walk.View.{View}
use Rattle.pub_rule.specs.declared.work.Work.{Work}
use Rattle.pub_rule.specs.declared.work.Serving.{Serving}
use Rattle.pub_rule.specs.declared.work.Serving.TheVariants.{Nothing, Posted, Parked}
use Rattle.pub_rule.specs.declared.served.Slot.{Slot}
use Rattle.pub_rule.specs.declared.served.Slot.TheVariants as slots
use Rattle.pub_rule.specs.Rule.{Ruled}
use Rattle.pub_rule.specs.Words.{state_word}
use Rattle.pub_rule.specs.Work.{IsClient, IsTaken, Serves}
use Rattle.pub_rule.specs.WorkSteps.{with_work, entering, leaving, refusing, paying, replying, call_parked, call_refused, reply_put}
use Rattle.pub_rule.proofs.Numbers.{state_from_state}
use Rattle.pub_rule.proofs.Exchanging.{by_exchange}
use Rattle.pub_rule.proofs.Answering.{answer}
use Rattle.pub_rule.proofs.Parking.{park}
use Rattle.pub_rule.proofs.Resuming.{refuse, hand}
use Rattle.pub_list.specs.Joined.{IsJoined, IsWorking, own_slot, with_state, with_taken}
use Rattle.pub_list.specs.Combining.{MayAnswer, MayPark, OwesNothing}
use Rattle.pub_list.specs.declared.asking.Answer.TheVariants as answers
use Rattle.pub_list.proofs.Working.{empty_there, with_both, rejoined}

abbrev state_of : {C R S : Type 0} → Slot C R S → Option S
state_of (slots.State x) = some x
state_of _ = none

abbrev said_in : {C R S : Type 0} → S → Option (Slot C R S) → S
said_in d none = d
said_in d (some (slots.State x)) = x
said_in d (some _) = d

heard_still : {E C R : Type 0} (serving : Serving C) (r : ℕ) (h : List E) (w : Work E C R) → (replying serving r h w).heard ≡ w.heard
heard_still Nothing r h w = refl
heard_still (Posted q c) r h w = refl
heard_still (Parked q c) r h w = refl

-- the slot of the record that is taken lies in front
in_front : {C R S : Type 0} (r : ℕ) (serving : Serving C) (others : List (ℕ × Slot C R S)) → IsTaken r serving → with_taken serving others ≡ (r, slots.Empty) ∷ others
in_front r Nothing others t = absurd t
in_front r (Posted q c) others t = λ i. (sym t i, slots.Empty) ∷ others
in_front r (Parked q c) others t = λ i. (sym t i, slots.Empty) ∷ others

module _ {E C R S : Type 0} where
  -- it has taken none any more
  after_reply : (p n r : ℕ) (h : List E) (w : Work E C R) (hands : List (ℕ × Slot C R S)) (serving : Serving C) → IsWorking p n w hands → w.holds ≡ true → IsWorking {S = S} p n (replying serving r h w) ((n, slots.Empty) ∷ own_slot w.stage)
  after_reply p n r h w hands Nothing i holds = record { own = i.own; live = i.live; hands_are = λ j. with_state n (sym holds j) (own_slot w.stage); quiet = λ _. refl; below = λ r h. absurd h }
  after_reply p n r h w hands (Posted q c) i holds = record { own = i.own; live = i.live; hands_are = λ j. with_state n (sym holds j) (own_slot w.stage); quiet = λ _. refl; below = λ r h. absurd h }
  after_reply p n r h w hands (Parked q c) i holds = record { own = i.own; live = i.live; hands_are = λ j. with_state n (sym holds j) (own_slot w.stage); quiet = λ _. refl; below = λ r h. absurd h }

  after_park : (p n r : ℕ) (h : List E) (w : Work E C R) (hands : List (ℕ × Slot C R S)) → IsWorking p n w hands → w.holds ≡ true → IsWorking {S = S} p n (leaving r h w) ((n, slots.Empty) ∷ own_slot w.stage)
  after_park p n r h w hands i holds = record { own = i.own; live = i.live; hands_are = λ j. with_state n (sym holds j) (own_slot w.stage); quiet = λ _. refl; below = λ r h. absurd h }

  after_refusal : (p n r : ℕ) (w : Work E C R) (hands : List (ℕ × Slot C R S)) → IsWorking p n w hands → w.holds ≡ true → IsWorking {S = S} p n (refusing r w) ((n, slots.Empty) ∷ own_slot w.stage)
  after_refusal p n r w hands i holds = record { own = i.own; live = i.live; hands_are = λ j. with_state n (sym holds j) (own_slot w.stage); quiet = λ _. refl; below = λ r h. absurd h }

  pub taken_of : (history : S → List E) (legal : List E → Type 0) (by : E → ℕ) (call : E → C) (n r : ℕ) (v : View (Work E C R)) (state : S) (replies : List E → ℕ → List R) (y : R) → MayAnswer history legal by call n r v state replies (answers.Reply y) → IsTaken r v.work.serving
  taken_of history legal by call n r v state replies y may = ⊎_elim (λ u. subst (IsTaken r) (sym u.0.2) refl) (λ u. subst (IsTaken r) (sym u.2) refl) may

  -- the seat of client p was old, mid when the slot of client r had x, and is new
  module _ (p r : ℕ) (old : Seat (Slot C R S) (View (Work E C R))) (own : IsJoined p old) (holds : old.me.0.work.holds ≡ true) (takes : IsTaken r old.me.0.work.serving) where
    abbrev others : List (ℕ × Slot C R S)
    others = (old.table_id.slots - 1, slots.Empty) ∷ own_slot old.me.0.work.stage

    pub hands_were : old.me.1 ≡ (r, slots.Empty) ∷ others
    hands_were = with_both p (old.table_id.slots - 1) old.me.0.work old.me.1 old.me.0.work.serving own.working holds refl ∙ in_front r old.me.0.work.serving others takes

    pub was_empty : (x : Slot C R S) → old.me.1 ≡ (r, x) ∷ rest old.me.1 → x ≡ slots.Empty
    was_empty x was = empty_there r old.me.1 others (rest old.me.1) x hands_were was

    pub holds_one : (x : Slot C R S) × (old.me.1 ≡ (r, x) ∷ rest old.me.1)
    holds_one = (slots.Empty, hands_were ∙ ap (λ (l : List (ℕ × Slot C R S)). (r, slots.Empty) ∷ rest l) (sym hands_were))

    -- its slot is empty
    pub same_hands : old.me ≡ (old.me.0, (r, slots.Empty) ∷ rest old.me.1)
    same_hands = λ i. (old.me.0, (hands_were ∙ ap (λ (l : List (ℕ × Slot C R S)). (r, slots.Empty) ∷ rest l) (sym hands_were)) i)

    pub below_all : (size clients : ℕ) → old.table_id.slots ≡ size → size ≡ clients + 1 → r < clients
    below_all size clients at sized = let below = own.working.below r takes in omega arith

    rests : (v : View (Work E C R)) (l : List (ℕ × Slot C R S)) (new : Seat (Slot C R S) (View (Work E C R))) → new.me ≡ (v, rest l) → (x : Slot C R S) → l ≡ (r, x) ∷ rest old.me.1 → new.me ≡ (v, others)
    rests v l new e x is = e ∙ (ap (λ (z : List (ℕ × Slot C R S)). (v, rest z)) is ∙ ap (λ (z : List (ℕ × Slot C R S)). (v, rest z)) hands_were)

    rejoins : (w : Work E C R) (new : Seat (Slot C R S) (View (Work E C R))) → new.me ≡ (with_work w old.me.0, others) → IsWorking p (old.table_id.slots - 1) w others → w.heard ≡ old.me.0.work.heard → new.table_id ≡ old.table_id → IsJoined p new
    rejoins w new is working heard same = rejoined p old new own same (ap (λ (m : Me (Slot C R S) (View (Work E C R))). m.0.walk) is) (ap (λ (m : Me (Slot C R S) (View (Work E C R))). m.0.work.heard) is ∙ heard) (subst (λ (m : Me (Slot C R S) (View (Work E C R))). IsWorking p (old.table_id.slots - 1) m.0.work m.1) (sym is) working)

    module _ (mid : Seat (Slot C R S) (View (Work E C R))) (x : Slot C R S) (put : mid.me ≡ (old.me.0, (r, x) ∷ rest old.me.1)) where
      pub hands_put : mid.me.1 ≡ (r, x) ∷ rest mid.me.1
      hands_put = ap (λ (m : Me (Slot C R S) (View (Work E C R))). m.1) put ∙ ap (λ (m : Me (Slot C R S) (View (Work E C R))). (r, x) ∷ rest m.1) (sym put)

      abbrev view_put : mid.me.0 ≡ old.me.0
      view_put = ap (λ (m : Me (Slot C R S) (View (Work E C R))). m.0) put

      abbrev list_put : mid.me.1 ≡ (r, x) ∷ rest old.me.1
      list_put = ap (λ (m : Me (Slot C R S) (View (Work E C R))). m.1) put

      module _ (word : ℕ) (at : word ≡ state_word r) (new : Seat (Slot C R S) (View (Work E C R))) where
        -- Memory
        refused_now : call_refused mid.me new.me word → new.me ≡ (with_work (refusing r old.me.0.work) old.me.0, others)
        refused_now did = let same : did.client ≡ r = state_from_state did.client r (sym did.at ∙ at) in
            rests (with_work (refusing r old.me.0.work) old.me.0) mid.me.1 new (did.left ∙ (λ i. (with_work (refusing (same i) (view_put i).work) (view_put i), rest mid.me.1))) x list_put

        pub refuses : call_refused mid.me new.me word → new.me.0 ≡ with_work (refusing r old.me.0.work) old.me.0
        refuses did = ap (λ (m : Me (Slot C R S) (View (Work E C R))). m.0) (refused_now did)

        pub refused_joined : call_refused mid.me new.me word → new.table_id ≡ old.table_id → IsJoined p new
        refused_joined did same = rejoins (refusing r old.me.0.work) new (refused_now did) (after_refusal p (old.table_id.slots - 1) r old.me.0.work old.me.1 own.working holds) refl same

        module _ (served : Ghosts S E C R) (state : S) where
          -- parked
          parked_now : call_parked served mid.me new.me word (some (slots.State state)) → new.me ≡ (with_work (leaving r (served.history state) old.me.0.work) old.me.0, others)
          parked_now did = let same : did.on.client ≡ r = state_from_state did.on.client r (sym did.on.at ∙ at) in let its : did.state ≡ state = sym (ap (said_in state) did.it_said) in
              rests (with_work (leaving r (served.history state) old.me.0.work) old.me.0) mid.me.1 new (did.on.left ∙ (λ i. (with_work (leaving (same i) (served.history (its i)) (view_put i).work) (view_put i), rest mid.me.1))) x list_put

          pub parks : call_parked served mid.me new.me word (some (slots.State state)) → new.me.0 ≡ with_work (leaving r (served.history state) old.me.0.work) old.me.0
          parks did = ap (λ (m : Me (Slot C R S) (View (Work E C R))). m.0) (parked_now did)

          pub parked_joined : call_parked served mid.me new.me word (some (slots.State state)) → new.table_id ≡ old.table_id → IsJoined p new
          parked_joined did same = rejoins (leaving r (served.history state) old.me.0.work) new (parked_now did) (after_park p (old.table_id.slots - 1) r (served.history state) old.me.0.work old.me.1 own.working holds) refl same

          -- replied
          module _ (size k : ℕ) where
            by_serving : (serving : Serving C) → reply_put served mid.me new.me word (some (slots.State state)) serving → new.me ≡ (with_work (replying serving r (served.history state) mid.me.0.work) mid.me.0, rest mid.me.1)
            by_serving Nothing did = let same : did.on.client ≡ r = state_from_state did.on.client r (sym did.on.at ∙ at) in let its : did.state ≡ state = sym (ap (said_in state) did.it_said) in did.on.left ∙ (λ i. (with_work (entering (same i) (served.history (its i)) mid.me.0.work) mid.me.0, rest mid.me.1))
            by_serving (Posted q c) did = let same : did.on.client ≡ r = state_from_state did.on.client r (sym did.on.at ∙ at) in let its : did.state ≡ state = sym (ap (said_in state) did.it_said) in did.on.left ∙ (λ i. (with_work (entering (same i) (served.history (its i)) mid.me.0.work) mid.me.0, rest mid.me.1))
            by_serving (Parked q c) did = let same : did.client ≡ r = state_from_state did.client r (sym did.at ∙ at) in did.left ∙ (λ i. (with_work (paying (same i) mid.me.0.work) mid.me.0, rest mid.me.1))

            replied_now : reply_put served mid.me new.me word (some (slots.State state)) mid.me.0.work.serving → new.me ≡ (with_work (replying old.me.0.work.serving r (served.history state) old.me.0.work) old.me.0, others)
            replied_now did = rests (with_work (replying old.me.0.work.serving r (served.history state) old.me.0.work) old.me.0) mid.me.1 new
                (by_serving mid.me.0.work.serving did ∙ (λ i. (with_work (replying (view_put i).work.serving r (served.history state) (view_put i).work) (view_put i), rest mid.me.1))) x list_put

            pub replies_now : reply_put served mid.me new.me word (some (slots.State state)) mid.me.0.work.serving → new.me.0 ≡ with_work (replying old.me.0.work.serving r (served.history state) old.me.0.work) old.me.0
            replies_now did = ap (λ (m : Me (Slot C R S) (View (Work E C R))). m.0) (replied_now did)

            pub replied_joined : reply_put served mid.me new.me word (some (slots.State state)) mid.me.0.work.serving → new.table_id ≡ old.table_id → IsJoined p new
            replied_joined did same = rejoins (replying old.me.0.work.serving r (served.history state) old.me.0.work) new (replied_now did) (after_reply p (old.table_id.slots - 1) r (served.history state) old.me.0.work old.me.1 old.me.0.work.serving own.working holds) (heard_still old.me.0.work.serving r (served.history state) old.me.0.work) same

  -- the laws at a word that the code names
  module _ (served : Ghosts S E C R) (n size id word : ℕ) (me : Me (Slot C R S) (View (Work E C R))) (p r clients : ℕ) (e : word ≡ state_word r) (key : n ≡ clients) (is : IsClient p me.0.work.stage) (holds : me.0.work.holds ≡ true) where
    pub word_refuses : (c : C) → me.0.work.serving ≡ Posted r c → me.1 ≡ (r, slots.Memory) ∷ rest me.1 → Allows (Ruled n (Serves served n)) size id me word (λ _. 4) (λ _ m'. call_refused me m' word)
    word_refuses c takes hands = subst (λ (i : ℕ). Allows (Ruled n (Serves served n)) size id me i (λ _. 4) (λ _ m'. call_refused me m' i)) (sym e) (refuse served n size id p r c me record { client = is; holds = holds; serves = takes } hands)

    module _ (state : S) where
      pub word_parks : MayPark served.history served.legal served.client served.call clients r me.0 state served.own served.replies → me.1 ≡ (r, slots.Empty) ∷ rest me.1
          → Allows (Ruled n (Serves served n)) size id me word (λ k. either (eqb k 2) 3 k) (λ k m'. call_parked served me m' word (some (slots.State state)))
      word_parks may hands = let t = may.0 in subst (λ (i : ℕ). Allows (Ruled n (Serves served n)) size id me i (λ k. either (eqb k 2) 3 k) (λ k m'. call_parked served me m' i (some (slots.State state)))) (sym e)
          (by_exchange served n size id r 3 me (λ k m'. call_parked served me m' (state_word r) (some (slots.State state))) holds (subst (IsTaken r) (sym t.2) refl)
          (park served n size id p r t.0 t.1 state me record { client = is; holds = holds; serves = t.2 } record { by = t.3; asks = t.4; one_more = t.5; is_legal = t.6; owes_nothing = subst (λ (z : ℕ). OwesNothing served.replies z me.0) (sym key) t.7 } may.1 hands))

      pub word_replies : (y : R) → MayAnswer served.history served.legal served.client served.call clients r me.0 state served.replies (answers.Reply y) → me.1 ≡ (r, slots.Reply y) ∷ rest me.1
          → Allows (Ruled n (Serves served n)) size id me word (λ k. either (eqb k 2) 4 k) (λ k m'. reply_put served me m' word (some (slots.State state)) me.0.work.serving)
      word_replies y may hands = subst (λ (i : ℕ). Allows (Ruled n (Serves served n)) size id me i (λ k. either (eqb k 2) 4 k) (λ k m'. reply_put served me m' i (some (slots.State state)) me.0.work.serving)) (sym e) (⊎_elim
          (λ u. let t = u.0 in subst (λ (d : Serving C). Allows (Ruled n (Serves served n)) size id me (state_word r) (λ k. either (eqb k 2) 4 k) (λ k m'. reply_put served me m' (state_word r) (some (slots.State state)) d)) (sym t.2)
          (by_exchange served n size id r 4 me (λ k m'. reply_put served me m' (state_word r) (some (slots.State state)) (Posted r t.0)) holds (subst (IsTaken r) (sym t.2) refl)
          (answer served n size id p r t.0 t.1 state y me record { client = is; holds = holds; serves = t.2 } record { by = t.3; asks = t.4; one_more = t.5; is_legal = t.6; owes_nothing = subst (λ (z : ℕ). OwesNothing served.replies z me.0) (sym key) t.7 } u.1 hands)))
          (λ u. subst (λ (d : Serving C). Allows (Ruled n (Serves served n)) size id me (state_word r) (λ k. either (eqb k 2) 4 k) (λ k m'. reply_put served me m' (state_word r) (some (slots.State state)) d)) (sym u.2)
          (by_exchange served n size id r 4 me (λ k m'. reply_put served me m' (state_word r) (some (slots.State state)) (Parked r u.0)) holds (subst (IsTaken r) (sym u.2) refl)
          (hand served n size id p r u.0 u.1 y me record { client = is; holds = holds; serves = u.2 } u.4 hands))) may)
