-- A client's seat while it looks at its own record.
use Rattle.std.proofs.Common.{◌≡◌, ℕ, zero, suc, ◌-◌, ◌<◌, List, sym, refl, ap, ◌∙◌, subst, inl, inr, ⊎_elim, arith}
use Rattle.atomic_table.specs.Table.{Me, Allows}
use Rattle.atomic_table.specs.declared.shared.Seat.{Seat}
use Rattle.pub_rule.specs.declared.served.Served.{Ghosts}
use Rattle.pub_rule.specs.declared.walk.View.{View}
use Rattle.pub_rule.specs.declared.work.Work.{Work}
use Rattle.pub_rule.specs.declared.work.Stage.{Stage}
use Rattle.pub_rule.specs.declared.work.Stage.TheVariants.{Spent, Maker, Away, Free, Asking, Token}
use Rattle.pub_rule.specs.declared.served.Slot.{Slot}
use Rattle.pub_rule.specs.Words.{state_word}
use Rattle.pub_rule.specs.Rule.{Ruled}
use Rattle.pub_rule.specs.Work.{IsClient, Serves}
use Rattle.pub_rule.specs.WorkSplits.{owner_of}
use Rattle.pub_rule.specs.WorkSteps.{with_work, seeing, IsWaiting, LooksAtOwn}
use Rattle.pub_rule.specs.WorkSteps as told
use Rattle.pub_rule.proofs.Clientwork.{look, watch}
use Rattle.pub_list.specs.Joined.{IsJoined, IsWorking}
use Rattle.pub_list.specs.Records.{state_at, number_of, Shows, IsLooked}
use Rattle.pub_list.proofs.Working.{rejoined}

pub number_at : (k : ℕ) → k < 5 → number_of (state_at k) ≡ k
number_at zero h = refl
number_at (suc zero) h = refl
number_at (suc (suc zero)) h = refl
number_at (suc (suc (suc zero))) h = refl
number_at (suc (suc (suc (suc zero)))) h = refl
number_at (suc (suc (suc (suc (suc k))))) h = absurd (omega arith)

pub owner_is : {C : Type 0} (q : ℕ) (st : Stage C) → IsClient q st → owner_of st ≡ q
owner_is q Spent h = absurd h
owner_is q (Maker k) h = absurd h
owner_is q (Away c) h = h
owner_is q (Free c) h = h
owner_is q (Asking c k) h = h
owner_is q (Token c) h = absurd h

module _ {E C R S : Type 0} where
  module _ (served : Ghosts S E C R) (client k : ℕ) (old mid : Seat (Slot C R S) (View (Work E C R))) (own : IsJoined client old) (did : LooksAtOwn served old.me mid.me k) where
    -- what the number k tells its client, and the state that it is
    reads : (q : ℕ) (h : List E) (st : Stage C) → IsClient q st → q ≡ client → told.Shows served q k h old.me.0.work st → (k < 5) × Shows served.own served.replies client h old.me.0.work (state_at k) st
    reads q h Spent is same t = absurd is
    reads q h (Maker n) is same t = absurd is
    reads q h (Token c) is same t = absurd is
    reads q h (Away c) is same t = let zero_now = t.idle in (omega arith, (ap state_at t.idle, subst (λ (z : ℕ). served.own h z ≡ old.me.0.work.entered) same t.calls, subst (λ (z : ℕ). served.replies h z ≡ old.me.0.work.got) same t.answers))
    reads q h (Free c) is same t = let zero_now = t.idle in (omega arith, (ap state_at t.idle, subst (λ (z : ℕ). served.own h z ≡ old.me.0.work.entered) same t.calls, subst (λ (z : ℕ). served.replies h z ≡ old.me.0.work.got) same t.answers))
    reads q h (Asking c call) is same t = (
      t.below,
      (
        (λ e. let z : k ≡ 0 = sym (number_at k t.below) ∙ ap number_of e in let l = t.asks in absurd (omega arith)),
        (λ past e. t.dealt past (sym (number_at k t.below) ∙ ap number_of e)),
        (λ found. ap state_at (t.answered found)),
        (λ w. subst (λ (z : ℕ). IsWaiting served.own served.replies z call h old.me.0.work) same (t.waits (⊎_elim (λ e. inl (sym (number_at k t.below) ∙ ap number_of e)) (λ p. inr (p.0, λ e. p.1 (ap state_at e))) w))),
      ),
    )

    sees : (k < 5) × Shows served.own served.replies client did.history old.me.0.work (state_at k) old.me.0.work.stage
    sees = reads did.client did.history old.me.0.work.stage did.is_client (sym (owner_is did.client old.me.0.work.stage did.is_client) ∙ own.working.own) did.shows

    pub looks : IsLooked served.legal served.own served.replies client old.me.0 mid.me.0 (state_at k)
    looks = (did.history, did.later.later, did.told, did.later.is_legal, ap (λ (m : Me (Slot C R S) (View (Work E C R))). m.0) did.left ∙ ap (λ (b : ℕ). with_work (seeing did.history b old.me.0.work) old.me.0) (sym (number_at k sees.0)), sees.1)

    pub looked_joined : mid.table_id ≡ old.table_id → IsJoined client mid
    looked_joined same = rejoined client old mid own same (ap (λ (m : Me (Slot C R S) (View (Work E C R))). m.0.walk) did.left) (ap (λ (m : Me (Slot C R S) (View (Work E C R))). m.0.work.heard) did.left)
        (subst (λ (m : Me (Slot C R S) (View (Work E C R))). IsWorking client (old.table_id.slots - 1) m.0.work m.1) (sym did.left) record { own = own.working.own; live = own.working.live; hands_are = own.working.hands_are; quiet = own.working.quiet; below = own.working.below })

  -- the laws at a word that the code names
  module _ (served : Ghosts S E C R) (n size id word : ℕ) (me : Me (Slot C R S) (View (Work E C R))) where
    pub word_loads : (r : ℕ) → word ≡ state_word r → r < n → Allows (Ruled n (Serves served n)) size id me word (λ k. k) (λ k m'. (k < 5) × (m' ≡ me))
    word_loads r e small = subst (λ (i : ℕ). Allows (Ruled n (Serves served n)) size id me i (λ k. k) (λ k m'. (k < 5) × (m' ≡ me))) (sym e) (look served n size id r me small)

    pub own_loads : (q : ℕ) → word ≡ state_word q → IsClient q me.0.work.stage → Allows (Ruled n (Serves served n)) size id me word (λ k. k) (λ k m'. LooksAtOwn served me m' k)
    own_loads q e is = subst (λ (i : ℕ). Allows (Ruled n (Serves served n)) size id me i (λ k. k) (λ k m'. LooksAtOwn served me m' k)) (sym e) (watch served n size id q me is)
