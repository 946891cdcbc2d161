-- A combiner's seat while it takes a record.
use Rattle.std.proofs.Common.{◌≡◌, ◌≢◌, ℕ, true, eqb, ◌-◌, ◌<◌, List, ◌∷◌, length, sym, ap, ◌∙◌, subst}
use Rattle.std.proofs.lemmas.Bool.{false≢true}
use mathlib.Core.Logic.{dite}
use native.Mathlib.Decide.{ℕ_discrete}
use mathlib.Core.Option.{Option, some, none, some-injective}
use prog.Atomic.{either}
use Rattle.atomic_table.specs.Table.{Me, rest, Allows}
use Rattle.atomic_table.specs.declared.shared.Seat.{Seat}
use Rattle.pub_rule.specs.declared.served.Served.{Ghosts}
use Rattle.pub_rule.specs.declared.walk.View.{View}
use Rattle.pub_rule.specs.declared.work.Work.{Work}
use Rattle.pub_rule.specs.declared.work.Serving.TheVariants.{Nothing}
use Rattle.pub_rule.specs.declared.served.Slot.{Slot}
use Rattle.pub_rule.specs.declared.served.Slot.TheVariants as slots
use Rattle.pub_rule.specs.Rule.{Ruled}
use Rattle.pub_rule.specs.declared.work.Stage.TheVariants.{Asking}
use Rattle.pub_rule.specs.Words.{state_word}
use Rattle.pub_rule.proofs.Numbers.{state_from_state}
use Rattle.pub_list.specs.Joined.{IsJoined, IsWorking, own_slot, with_state, with_taken}
use Rattle.pub_list.proofs.Seats.{told_still}
use Rattle.pub_list.proofs.Working.{slot_in, rejoined}
use Rattle.pub_rule.specs.Work.{IsClient, Serves}
use Rattle.pub_rule.specs.WorkSteps.{with_work, taking, resuming, dealt, call_taken, Resumes, record_peeked}
use Rattle.pub_rule.proofs.Combiner.{take, peek}
use Rattle.pub_rule.proofs.Resuming.{resume}
use Rattle.pub_list.specs.Combining.{IsCombining, IsOwed, IsTook}
use Rattle.pub_list.specs.declared.combining.Took.TheVariants as took
use Rattle.pub_list.specs.declared.records.WordState.TheVariants as states

abbrev call_of : {C R S : Type 0} → Slot C R S → Option C
call_of (slots.Call c) = some c
call_of _ = none

module _ {E C R S : Type 0} where
  -- it has taken a record, of client r
  taken_working : (p n r : ℕ) (c : C) (w : Work E C R) (hands : List (ℕ × Slot C R S)) → IsWorking p n w hands → w.holds ≡ true → w.serving ≡ Nothing → r < n → IsWorking p n (taking r c w) ((r, slots.Empty) ∷ hands)
  taken_working p n r c w hands i holds idle small = record {
    own = i.own;
    live = i.live;
    hands_are = λ j. (r, slots.Empty) ∷ (i.hands_are ∙ (λ z. with_taken (idle z) (with_state n w.holds (own_slot w.stage)))) j;
    quiet = λ e. absurd (false≢true (sym e ∙ holds));
    below = λ q h. subst (λ (z : ℕ). z < n) (sym h) small;
  }

  resumed_working : (p n r : ℕ) (c : C) (w : Work E C R) (hands : List (ℕ × Slot C R S)) → IsWorking p n w hands → w.holds ≡ true → w.serving ≡ Nothing → r < n → IsWorking p n (resuming r c w) ((r, slots.Empty) ∷ hands)
  resumed_working p n r c w hands i holds idle small = record {
    own = i.own;
    live = i.live;
    hands_are = λ j. (r, slots.Empty) ∷ (i.hands_are ∙ (λ z. with_taken (idle z) (with_state n w.holds (own_slot w.stage)))) j;
    quiet = λ e. absurd (false≢true (sym e ∙ holds));
    below = λ q h. subst (λ (z : ℕ). z < n) (sym h) small;
  }

  -- the seat of client p was old, and is mid when the word of client r was exchanged
  module _ (served : Ghosts S E C R) (p r word k : ℕ) (old mid : Seat (Slot C R S) (View (Work E C R))) (own : IsJoined p old) (combines : IsCombining old.me.0) (at : word ≡ state_word r) (small : r < old.table_id.slots - 1)
      (did : call_taken served old.me mid.me word k) where
    module _ (other : k ≢ 1) where
      abbrev its : (did.miss other).client ≡ r
      its = state_from_state (did.miss other).client r (sym (did.miss other).at ∙ at)

      pub misses : IsTook served.own served.replies r old.me.0 mid.me.0 states.Posted took.Not
      misses = ap (λ (m : Me (Slot C R S) (View (Work E C R))). m.0) (did.miss other).left ∙ ap (λ (z : ℕ). with_work (dealt z old.me.0.work) old.me.0) its

      pub missed_joined : mid.table_id ≡ old.table_id → IsJoined p mid
      missed_joined same = rejoined p old mid own same (ap (λ (m : Me (Slot C R S) (View (Work E C R))). m.0.walk) (did.miss other).left) (ap (λ (m : Me (Slot C R S) (View (Work E C R))). m.0.work.heard) (did.miss other).left)
          (subst (λ (m : Me (Slot C R S) (View (Work E C R))). IsWorking p (old.table_id.slots - 1) m.0.work m.1) (sym (did.miss other).left) record { own = own.working.own; live = own.working.live; hands_are = own.working.hands_are; quiet = own.working.quiet; below = own.working.below })

    module _ (hit : k ≡ 1) where
      abbrev itself : (did.hit hit).client ≡ r
      itself = state_from_state (did.hit hit).client r (sym (did.hit hit).at ∙ at)

      abbrev call_was : C
      call_was = (did.hit hit).call

      me_then : mid.me ≡ (with_work (taking r call_was old.me.0.work) old.me.0, (r, slots.Call call_was) ∷ old.me.1)
      me_then = (did.hit hit).left ∙ (λ i. (with_work (taking (itself i) call_was old.me.0.work) old.me.0, (itself i, slots.Call call_was) ∷ old.me.1))

      pub holds_one : (x : Slot C R S) × (mid.me.1 ≡ (r, x) ∷ rest mid.me.1)
      holds_one = (slots.Call call_was, ap (λ (m : Me (Slot C R S) (View (Work E C R))). m.1) me_then ∙ ap (λ (m : Me (Slot C R S) (View (Work E C R))). (r, slots.Call call_was) ∷ rest m.1) (sym me_then))

      module _ (new : Seat (Slot C R S) (View (Work E C R))) (x : Slot C R S) (was : mid.me.1 ≡ (r, x) ∷ rest mid.me.1) (put : new.me ≡ (mid.me.0, (r, slots.Empty) ∷ rest mid.me.1)) where
        pub is_call : x ≡ slots.Call call_was
        is_call = ap slot_in (sym was ∙ ap (λ (m : Me (Slot C R S) (View (Work E C R))). m.1) me_then)

        me_now : new.me ≡ (with_work (taking r call_was old.me.0.work) old.me.0, (r, slots.Empty) ∷ old.me.1)
        me_now = put ∙ ap (λ (m : Me (Slot C R S) (View (Work E C R))). (m.0, (r, slots.Empty) ∷ rest m.1)) me_then

        same : (call : C) → x ≡ slots.Call call → call_was ≡ call
        same call e = some-injective call_was call (ap call_of (sym is_call ∙ e))

        pub takes : (call : C) → x ≡ slots.Call call → IsTook served.own served.replies r old.me.0 new.me.0 states.Posted (took.FromPosted call)
        takes call e = (
          subst (λ (z : ℕ). length (served.own old.me.0.work.seen z) ≡ length (served.replies old.me.0.work.seen z)) itself (did.hit hit).even,
          (λ h. (did.hit hit).mine (subst (λ (z : ℕ). IsClient z old.me.0.work.stage) (sym itself) h) ∙ ap (λ (z : ℕ). Asking z call_was) itself ∙ ap (λ (z : C). Asking r z) (same call e)),
          ap (λ (m : Me (Slot C R S) (View (Work E C R))). m.0) me_now ∙ ap (λ (z : C). with_work (taking r z old.me.0.work) old.me.0) (some-injective call_was call (ap call_of (sym is_call ∙ e))),
        )

        pub taken_joined : new.table_id ≡ old.table_id → IsJoined p new
        taken_joined same = rejoined p old new own same (ap (λ (m : Me (Slot C R S) (View (Work E C R))). m.0.walk) me_now) (ap (λ (m : Me (Slot C R S) (View (Work E C R))). m.0.work.heard) me_now)
            (subst (λ (m : Me (Slot C R S) (View (Work E C R))). IsWorking p (old.table_id.slots - 1) m.0.work m.1) (sym me_now) (taken_working p (old.table_id.slots - 1) r call_was old.me.0.work old.me.1 own.working combines.0 combines.1 small))

  -- the same from parked
  module _ (served : Ghosts S E C R) (p r word k : ℕ) (old new : Seat (Slot C R S) (View (Work E C R))) (own : IsJoined p old) (combines : IsCombining old.me.0) (at : word ≡ state_word r) (small : r < old.table_id.slots - 1) (did : Resumes old.me new.me word k) where
    abbrev that : did.client ≡ r
    that = state_from_state did.client r (sym did.at ∙ at)

    me_after : new.me ≡ (with_work (resuming r did.call old.me.0.work) old.me.0, (r, slots.Empty) ∷ old.me.1)
    me_after = did.left ∙ (λ i. (with_work (resuming (that i) did.call old.me.0.work) old.me.0, (that i, slots.Empty) ∷ old.me.1))

    pub resumes : IsTook served.own served.replies r old.me.0 new.me.0 states.Parked took.FromParked
    resumes = (did.call, ap (λ (m : Me (Slot C R S) (View (Work E C R))). m.0) me_after)

    pub resumed_joined : new.table_id ≡ old.table_id → IsJoined p new
    resumed_joined same = rejoined p old new own same (ap (λ (m : Me (Slot C R S) (View (Work E C R))). m.0.walk) me_after) (ap (λ (m : Me (Slot C R S) (View (Work E C R))). m.0.work.heard) me_after)
        (subst (λ (m : Me (Slot C R S) (View (Work E C R))). IsWorking p (old.table_id.slots - 1) m.0.work m.1) (sym me_after) (resumed_working p (old.table_id.slots - 1) r did.call old.me.0.work old.me.1 own.working combines.0 combines.1 small))

  -- the seat of client p was old, and is mid when the word of client r was read
  module _ (p r word k : ℕ) (old mid : Seat (Slot C R S) (View (Work E C R))) (own : IsJoined p old) (at : word ≡ state_word r) (did : record_peeked old.me mid.me word k) where
    me_dealt : k ≢ 1 → mid.me ≡ (with_work (dealt r old.me.0.work) old.me.0, old.me.1)
    me_dealt other = (did.miss other).left ∙ ap (λ (z : ℕ). (with_work (dealt z old.me.0.work) old.me.0, old.me.1)) (state_from_state (did.miss other).client r (sym (did.miss other).at ∙ at))

    pub peeked_dealt : k ≢ 1 → mid.me.0 ≡ with_work (dealt r old.me.0.work) old.me.0
    peeked_dealt other = ap (λ (m : Me (Slot C R S) (View (Work E C R))). m.0) (me_dealt other)

    pub peeked_joined : mid.table_id ≡ old.table_id → IsJoined p mid
    peeked_joined same = dite (ℕ_discrete k 1) (λ hit. told_still p old mid own same (did.hit hit))
        (λ other. rejoined p old mid own same (ap (λ (m : Me (Slot C R S) (View (Work E C R))). m.0.walk) (me_dealt other)) (ap (λ (m : Me (Slot C R S) (View (Work E C R))). m.0.work.heard) (me_dealt other))
        (subst (λ (m : Me (Slot C R S) (View (Work E C R))). IsWorking p (old.table_id.slots - 1) m.0.work m.1) (sym (me_dealt other)) record { own = own.working.own; live = own.working.live; hands_are = own.working.hands_are; quiet = own.working.quiet; below = own.working.below }))

  -- the laws at a word that the code names
  module _ (served : Ghosts S E C R) (n size id word : ℕ) (me : Me (Slot C R S) (View (Work E C R))) (p r clients : ℕ) (e : word ≡ state_word r) (key : n ≡ clients) (is : IsClient p me.0.work.stage)
      (combines : IsCombining me.0) (small : r < clients) where
    pub posted_takes : Allows (Ruled n (Serves served n)) size id me word (λ k. either (eqb k 1) 2 k) (λ k m'. call_taken served me m' word k)
    posted_takes = subst (λ (i : ℕ). Allows (Ruled n (Serves served n)) size id me i (λ k. either (eqb k 1) 2 k) (λ k m'. call_taken served me m' i k)) (sym e)
        (take served n size id p r me record { client = is; holds = combines.0; serves = combines.1 } (subst (λ (z : ℕ). r < z) (sym key) small))

    pub parked_takes : IsOwed served.replies r me.0 → Allows (Ruled n (Serves served n)) size id me word (λ k. either (eqb k 3) 2 k) (λ k m'. Resumes me m' word k)
    parked_takes owed = subst (λ (i : ℕ). Allows (Ruled n (Serves served n)) size id me i (λ k. either (eqb k 3) 2 k) (λ k m'. Resumes me m' i k)) (sym e)
        (resume served n size id p r me record { client = is; holds = combines.0; serves = combines.1 } (subst (λ (z : ℕ). r < z) (sym key) small) owed.0 owed.1)

    pub posted_peeks : Allows (Ruled n (Serves served n)) size id me word (λ k. k) (λ k m'. record_peeked me m' word k)
    posted_peeks = subst (λ (i : ℕ). Allows (Ruled n (Serves served n)) size id me i (λ k. k) (λ k m'. record_peeked me m' i k)) (sym e)
        (peek served n size id p r me record { client = is; holds = combines.0; serves = combines.1 } (subst (λ (z : ℕ). r < z) (sym key) small))
