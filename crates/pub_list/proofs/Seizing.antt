-- A client's seat while it seizes the state, and while it releases it.
use Rattle.std.proofs.Common.{◌≡◌, ◌≢◌, ℕ, Ok, false, eqb, ◌+◌, ◌-◌, ◌<◌, List, ◌∷◌, sym, refl, ap, ◌∙◌, subst, arith}
use mathlib.Core.Logic.{dite}
use mathlib.Core.Option.{Option, some, none, some-injective}
use native.Mathlib.Decide.{ℕ_discrete}
use prog.Atomic.{either}
use Rattle.atomic_table.specs.Table.{Me, rest, Allows}
use Rattle.atomic_table.specs.declared.shared.Seat.{Seat}
use Rattle.pub_rule.specs.declared.served.Served.{Ghosts}
use Rattle.pub_rule.specs.declared.walk.View.{View}
use Rattle.pub_rule.specs.declared.work.Work.{Work}
use Rattle.pub_rule.specs.declared.work.Serving.TheVariants.{Nothing}
use Rattle.pub_rule.specs.declared.served.Slot.{Slot}
use Rattle.pub_rule.specs.declared.served.Slot.TheVariants as slots
use Rattle.pub_rule.specs.Rule.{Ruled}
use Rattle.pub_rule.specs.Words.{lock_word}
use Rattle.pub_rule.specs.Work.{IsClient, GoesOn, Serves}
use Rattle.pub_rule.specs.WorkSteps.{with_work, holding, meeting, released, Meets, lock_peeked, state_seized, state_released}
use Rattle.pub_rule.proofs.Locking.{seize, peek_lock, release}
use Rattle.pub_list.specs.Joined.{IsJoined, IsWorking, own_slot, with_state, with_taken}
use Rattle.pub_list.specs.Combining.{IsCombining, OwesNothing, IsSeized}
use Rattle.pub_list.proofs.Seats.{told_still}
use Rattle.pub_list.proofs.Working.{slot_in, empty_there, is_client, with_both, rejoined}

-- the state in a slot
abbrev state_in : {C R S : Type 0} → Slot C R S → Option S
state_in (slots.State x) = some x
state_in _ = none

module _ {E C R S : Type 0} where
  -- the seat was old, and is mid when the lock word was read or exchanged
  module _ (client size k : ℕ) (old mid : Seat (Slot C R S) (View (Work E C R))) (own : IsJoined client old) where
    pub met_joined : Meets old.me mid.me (size - 1) k → mid.table_id ≡ old.table_id → IsJoined client mid
    met_joined met same = rejoined client old mid own same (ap (λ (m : Me (Slot C R S) (View (Work E C R))). m.0.walk) met.left) (ap (λ (m : Me (Slot C R S) (View (Work E C R))). m.0.work.heard) met.left)
        (subst (λ (m : Me (Slot C R S) (View (Work E C R))). IsWorking client (old.table_id.slots - 1) m.0.work m.1) (sym met.left) record { own = own.working.own; live = own.working.live; hands_are = own.working.hands_are; quiet = own.working.quiet; below = own.working.below })

    pub peeked_joined : lock_peeked old.me mid.me (size - 1) k → mid.table_id ≡ old.table_id → IsJoined client mid
    peeked_joined did same = dite (ℕ_discrete k 0) (λ free. told_still client old mid own same (did.hit free)) (λ other. met_joined (did.miss other) same)

    -- it named another client
    module _ (clients : ℕ) (at : old.table_id.slots ≡ size) (sized : size ≡ clients + 1) (met : Meets old.me mid.me (size - 1) k) where
      pub meets : (c : ℕ) → c ≡ k - 1 → (c < clients) × (c ≢ client) × (mid.me.0 ≡ with_work (meeting c old.me.0.work) old.me.0)
      meets c e = let is = met.named in let below = met.below in let same : met.holder ≡ c = omega arith in
          subst (λ (z : ℕ). (z < clients) × (z ≢ client) × (mid.me.0 ≡ with_work (meeting z old.me.0.work) old.me.0)) same (
            omega arith,
            met.other client (is_client client (old.table_id.slots - 1) old.me.0.work old.me.1 own.working),
            ap (λ (m : Me (Slot C R S) (View (Work E C R))). m.0) met.left,
          )

  -- the seat is mid when the lock word was exchanged
  module _ (served : Ghosts S E C R) (client clients size k : ℕ) (old mid : Seat (Slot C R S) (View (Work E C R))) (own : IsJoined client old) (free : old.me.0.work.holds ≡ false) (at : old.table_id.slots ≡ size) (sized : size ≡ clients + 1)
      (did : state_seized served old.me mid.me (size - 1) k) where
    module _ (hit : k ≡ 0) where
      abbrev counted : size - 1 ≡ clients
      counted = omega arith

      abbrev state_was : S
      state_was = (did.hit hit).state

      pub hands_hold : mid.me.1 ≡ (clients, slots.State state_was) ∷ old.me.1
      hands_hold = ap (λ (m : Me (Slot C R S) (View (Work E C R))). m.1) (did.hit hit).left ∙ ap (λ (z : ℕ). (z, slots.State state_was) ∷ old.me.1) counted

      pub holds_one : (x : Slot C R S) × (mid.me.1 ≡ (clients, x) ∷ rest mid.me.1)
      holds_one = (slots.State state_was, hands_hold ∙ ap (λ (l : List (ℕ × Slot C R S)). (clients, slots.State state_was) ∷ rest l) (sym hands_hold))

      module _ (new : Seat (Slot C R S) (View (Work E C R))) (x : Slot C R S) (was : mid.me.1 ≡ (clients, x) ∷ rest mid.me.1) (put : new.me ≡ (mid.me.0, (clients, slots.Empty) ∷ rest mid.me.1)) where
        pub is_state : x ≡ slots.State state_was
        is_state = ap slot_in (sym was ∙ hands_hold)

        view_now : new.me.0 ≡ with_work (holding (served.history state_was) old.me.0.work) old.me.0
        view_now = ap (λ (m : Me (Slot C R S) (View (Work E C R))). m.0) put ∙ ap (λ (m : Me (Slot C R S) (View (Work E C R))). m.0) (did.hit hit).left

        hands_now : new.me.1 ≡ (clients, slots.Empty) ∷ old.me.1
        hands_now = ap (λ (m : Me (Slot C R S) (View (Work E C R))). m.1) put ∙ ap (λ (l : List (ℕ × Slot C R S)). (clients, slots.Empty) ∷ rest l) hands_hold

        pub seizes : (state : S) → x ≡ slots.State state → IsSeized served.history served.legal clients client old.me.0 new.me.0 (Ok state)
        seizes state e = let same : state_was ≡ state = some-injective state_was state (ap state_in (sym is_state ∙ e)) in
            subst (λ (z : S). GoesOn old.me.0.work.seen (served.history z) × served.legal (served.history z) × (new.me.0 ≡ with_work (holding (served.history z) old.me.0.work) old.me.0)) same ((did.hit hit).later.later, (did.hit hit).later.is_legal, view_now)

        pub seized_joined : new.table_id ≡ old.table_id → IsJoined client new
        seized_joined same = rejoined client old new own same (ap (λ (v : View (Work E C R)). v.walk) view_now) (ap (λ (v : View (Work E C R)). v.work.heard) view_now)
            (subst (λ (m : Work E C R × List (ℕ × Slot C R S)). IsWorking client (old.table_id.slots - 1) m.0 m.1) (λ i. ((sym view_now i).work, sym hands_now i)) record {
              own = own.working.own;
              live = own.working.live;
              hands_are = (let w = own.working in λ i. (counted_here i, slots.Empty) ∷ (w.hands_are ∙ (λ j. with_taken (w.quiet free j) (with_state (old.table_id.slots - 1) (free j) (own_slot old.me.0.work.stage)))) i);
              quiet = λ h. refl;
              below = λ r h. absurd h;
            })
          where
            counted_here : clients ≡ old.table_id.slots - 1
            counted_here = omega arith

  -- the seat was old, and has the state in its slot
  module _ (client clients : ℕ) (state : S) (old mid : Seat (Slot C R S) (View (Work E C R))) (own : IsJoined client old) (combines : IsCombining old.me.0) (counted : old.table_id.slots - 1 ≡ clients) where
    abbrev hands_were : old.me.1 ≡ (clients, slots.Empty) ∷ own_slot old.me.0.work.stage
    hands_were = with_both client (old.table_id.slots - 1) old.me.0.work old.me.1 Nothing own.working combines.0 combines.1 ∙ ap (λ (z : ℕ). (z, slots.Empty) ∷ own_slot old.me.0.work.stage) counted

    pub was_empty : (x : Slot C R S) → old.me.1 ≡ (clients, x) ∷ rest old.me.1 → x ≡ slots.Empty
    was_empty x was = empty_there clients old.me.1 (own_slot old.me.0.work.stage) (rest old.me.1) x hands_were was

    pub holds_slot : (x : Slot C R S) × (old.me.1 ≡ (clients, x) ∷ rest old.me.1)
    holds_slot = (slots.Empty, hands_were ∙ ap (λ (l : List (ℕ × Slot C R S)). (clients, slots.Empty) ∷ rest l) (sym hands_were))

    module _ (put : mid.me ≡ (old.me.0, (clients, slots.State state) ∷ rest old.me.1)) where
      pub hands_put : mid.me.1 ≡ (clients, slots.State state) ∷ rest mid.me.1
      hands_put = ap (λ (m : Me (Slot C R S) (View (Work E C R))). m.1) put ∙ ap (λ (m : Me (Slot C R S) (View (Work E C R))). (clients, slots.State state) ∷ rest m.1) (sym put)

      module _ (new : Seat (Slot C R S) (View (Work E C R))) (did : state_released mid.me new.me) where
        pub releases : new.me ≡ (with_work (released old.me.0.work) old.me.0, own_slot old.me.0.work.stage)
        releases = did ∙ ((λ i. (with_work (released (put i).0.work) (put i).0, rest (put i).1)) ∙ ap (λ (l : List (ℕ × Slot C R S)). (with_work (released old.me.0.work) old.me.0, rest l)) hands_were)

        pub released_joined : new.table_id ≡ old.table_id → IsJoined client new
        released_joined same = rejoined client old new own same (ap (λ (m : Me (Slot C R S) (View (Work E C R))). m.0.walk) releases) (ap (λ (m : Me (Slot C R S) (View (Work E C R))). m.0.work.heard) releases)
            (subst (λ (m : Me (Slot C R S) (View (Work E C R))). IsWorking client (old.table_id.slots - 1) m.0.work m.1) (sym releases) record { own = own.working.own; live = own.working.live; hands_are = refl; quiet = λ _. refl; below = λ r h. absurd h })

  -- the laws at a word that the code names
  module _ (served : Ghosts S E C R) (n size id word : ℕ) (me : Me (Slot C R S) (View (Work E C R))) where
    pub lock_seizes : (p number : ℕ) → word ≡ lock_word → number ≡ p + 1 → IsClient p me.0.work.stage → me.0.work.holds ≡ false
        → Allows (Ruled n (Serves served n)) size id me word (λ k. either (eqb k 0) number k) (λ k m'. state_seized served me m' (size - 1) k)
    lock_seizes p number e is was free = subst (λ (z : ℕ × ℕ). Allows (Ruled n (Serves served n)) size id me z.0 (λ k. either (eqb k 0) z.1 k) (λ k m'. state_seized served me m' (size - 1) k)) (λ i. (sym e i, sym is i))
        (seize served n size id p me record { client = was; waits = free })

    pub lock_peeks : (p : ℕ) → word ≡ lock_word → IsClient p me.0.work.stage → me.0.work.holds ≡ false
        → Allows (Ruled n (Serves served n)) size id me word (λ k. k) (λ k m'. lock_peeked me m' (size - 1) k)
    lock_peeks p e was free = subst (λ (i : ℕ). Allows (Ruled n (Serves served n)) size id me i (λ k. k) (λ k m'. lock_peeked me m' (size - 1) k)) (sym e)
        (peek_lock served n size id p me record { client = was; waits = free })

    pub lock_releases : (p clients : ℕ) (x : S) → word ≡ lock_word → n ≡ clients → IsClient p me.0.work.stage → IsCombining me.0 → served.history x ≡ me.0.work.seen → OwesNothing served.replies clients me.0 → me.1 ≡ (clients, slots.State x) ∷ rest me.1
        → Allows (Ruled n (Serves served n)) size id me word (λ _. 0) (λ _ m'. state_released me m')
    lock_releases p clients x e key was combines is owes hands = subst (λ (i : ℕ). Allows (Ruled n (Serves served n)) size id me i (λ _. 0) (λ _ m'. state_released me m')) (sym e)
        (release served n size id p x me record { client = was; holds = combines.0; serves = combines.1 } is (subst (λ (z : ℕ). OwesNothing served.replies z me.0) (sym key) owes) (hands ∙ ap (λ (z : ℕ). (z, slots.State x) ∷ rest me.1) (sym key)))
