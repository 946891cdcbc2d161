-- A client's seat while it posts, and while it collects.
use Rattle.std.proofs.Common.{◌≡◌, ◌≢◌, ℕ, false, eqb, ◌-◌, List, [], ◌∷◌, sym, refl, ap, ◌∙◌, subst}
use prog.Atomic.{either}
use Rattle.atomic_table.specs.Table.{Me, rest, Allows}
use Rattle.atomic_table.specs.declared.shared.Seat.{Seat}
use Rattle.pub_rule.specs.declared.served.Served.{Ghosts}
use Rattle.pub_rule.specs.declared.walk.View.{View}
use Rattle.pub_rule.specs.declared.work.Work.{Work}
use Rattle.pub_rule.specs.declared.work.Stage.TheVariants.{Free, Asking}
use Rattle.pub_rule.specs.declared.served.Slot.{Slot}
use Rattle.pub_rule.specs.declared.served.Slot.TheVariants as slots
use Rattle.pub_rule.specs.Words.{state_word}
use Rattle.pub_rule.specs.Rule.{Ruled}
use Rattle.pub_rule.specs.Work.{Serves}
use Rattle.pub_rule.specs.WorkSteps.{with_work, asking, Collected, Refused, Replied, slot_of, work_after, Posts, Collects, reply_collected}
use Rattle.pub_rule.proofs.Clientwork.{post, collect}
use Rattle.pub_list.specs.Joined.{IsJoined, IsWorking, is_live, own_slot, with_state, with_taken}
use Rattle.pub_rule.specs.declared.work.Serving.TheVariants.{Nothing}
use Rattle.pub_rule.specs.WorkSplits.{owner_of}
use Rattle.pub_rule.specs.Work.{IsClient, IsTaken}
use Rattle.pub_list.proofs.Looking.{looked_joined}
use Rattle.pub_list.proofs.Working.{place_in, empty_there, call_in, alone, rejoined}

-- it asks nothing then, and nothing else has changed of what it combines and heard of
after_collecting : {E C R : Type 0} (q : ℕ) (c : C) (h : List E) (w : Work E C R) (a : Collected R)
    → ((work_after q c h a w).stage ≡ Free q) × ((work_after q c h a w).holds ≡ w.holds) × ((work_after q c h a w).serving ≡ w.serving) × ((work_after q c h a w).heard ≡ w.heard)
after_collecting q c h w Refused = (refl, refl, refl, refl)
after_collecting q c h w (Replied x) = (refl, refl, refl, refl)

module _ {E C R S : Type 0} where
  -- the seat was old, mid when its slot had the call, and is new
  module _ (client : ℕ) (call : C) (old mid : Seat (Slot C R S) (View (Work E C R))) (own : IsJoined client old) (idle : old.me.0.work.stage ≡ Free client) (free : old.me.0.work.holds ≡ false)
      (put : mid.me ≡ (old.me.0, (client, slots.Call call) ∷ rest old.me.1)) where
    abbrev hands_before : old.me.1 ≡ (client, slots.Empty) ∷ []
    hands_before = alone client (old.table_id.slots - 1) old.me.0.work old.me.1 (Free client) own.working idle free

    pub was_empty : (x : Slot C R S) → old.me.1 ≡ (client, x) ∷ rest old.me.1 → x ≡ slots.Empty
    was_empty x was = empty_there client old.me.1 [] (rest old.me.1) x hands_before was

    pub hands_put : mid.me.1 ≡ (client, slots.Call call) ∷ rest mid.me.1
    hands_put = ap (λ (m : Me (Slot C R S) (View (Work E C R))). m.1) put ∙ ap (λ (m : Me (Slot C R S) (View (Work E C R))). (client, slots.Call call) ∷ rest m.1) (sym put)

    pub still_idle : mid.me.0.work.stage ≡ Free client
    still_idle = ap (λ (m : Me (Slot C R S) (View (Work E C R))). m.0.work.stage) put ∙ idle

    module _ (new : Seat (Slot C R S) (View (Work E C R))) (did : Posts mid.me new.me) where
      pub posts : new.me ≡ (with_work (asking client call old.me.0.work) old.me.0, [])
      posts = let same = sym hands_put ∙ did.held in let q : did.client ≡ client = sym (ap place_in same) in let c : did.call ≡ call = sym (ap (call_in call) same) in
          did.left ∙ (λ i. (with_work (asking (q i) (c i) (put i).0.work) (put i).0, rest (put i).1)) ∙ ap (λ (l : List (ℕ × Slot C R S)). (with_work (asking client call old.me.0.work) old.me.0, rest l)) hands_before

      nothing_left : ◌≡◌ {A = List (ℕ × Slot C R S)} [] (with_taken old.me.0.work.serving (with_state (old.table_id.slots - 1) old.me.0.work.holds []))
      nothing_left = λ j. with_taken (sym (own.working.quiet free) j) (with_state (old.table_id.slots - 1) (sym free j) [])

      pub posted_joined : new.table_id ≡ old.table_id → IsJoined client new
      posted_joined same = rejoined client old new own same (ap (λ (m : Me (Slot C R S) (View (Work E C R))). m.0.walk) posts) (ap (λ (m : Me (Slot C R S) (View (Work E C R))). m.0.work.heard) posts)
          (subst (λ (m : Me (Slot C R S) (View (Work E C R))). IsWorking client (old.table_id.slots - 1) m.0.work m.1) (sym posts) record {
            own = refl;
            live = refl;
            hands_are = nothing_left;
            quiet = own.working.quiet;
            below = own.working.below;
          })

  -- the seat was old, mid when its word was exchanged, and is new when its slot is empty again
  module _ (served : Ghosts S E C R) (client k : ℕ) (old mid : Seat (Slot C R S) (View (Work E C R))) (own : IsJoined client old) (free : old.me.0.work.holds ≡ false)
      (did : reply_collected served old.me mid.me k) where
    pub still_asks : k ≢ 4 → mid.table_id ≡ old.table_id → IsJoined client mid
    still_asks other same = looked_joined served client k old mid own (did.miss other) same

    module _ (hit : k ≡ 4) where
      abbrev got : Collects served old.me mid.me
      got = did.hit hit

      abbrev itself : got.client ≡ client
      itself = sym (ap owner_of got.asked) ∙ own.working.own

      abbrev none_held : old.me.1 ≡ []
      none_held = alone client (old.table_id.slots - 1) old.me.0.work old.me.1 (Asking got.client got.call) own.working got.asked free

      -- its slot has the answer, and nothing else is in its hands
      holds_answer : mid.me.1 ≡ (client, slot_of got.answer) ∷ []
      holds_answer = ap (λ (m : Me (Slot C R S) (View (Work E C R))). m.1) got.left ∙ (λ i. (itself i, slot_of got.answer) ∷ none_held i)

      pub holds_one : (x : Slot C R S) × (mid.me.1 ≡ (client, x) ∷ rest mid.me.1)
      holds_one = (slot_of got.answer, holds_answer ∙ ap (λ (l : List (ℕ × Slot C R S)). (client, slot_of got.answer) ∷ rest l) (sym holds_answer))

      module _ (new : Seat (Slot C R S) (View (Work E C R))) (x : Slot C R S) (was : mid.me.1 ≡ (client, x) ∷ rest mid.me.1) (put : new.me ≡ (mid.me.0, (client, slots.Empty) ∷ rest mid.me.1)) where
        view_now : new.me.0 ≡ mid.me.0
        view_now = ap (λ (m : Me (Slot C R S) (View (Work E C R))). m.0) put

        hands_now : new.me.1 ≡ (client, slots.Empty) ∷ []
        hands_now = ap (λ (m : Me (Slot C R S) (View (Work E C R))). m.1) put ∙ ap (λ (l : List (ℕ × Slot C R S)). (client, slots.Empty) ∷ rest l) holds_answer

        idle_joined : (w : Work E C R) → new.me.0 ≡ with_work w old.me.0 → w.stage ≡ Free client → w.holds ≡ false → w.serving ≡ Nothing → w.heard ≡ old.me.0.work.heard → new.table_id ≡ old.table_id → IsJoined client new
        idle_joined w is stage unheld nothing heard same = rejoined client old new own same (ap (λ (v : View (Work E C R)). v.walk) is) (ap (λ (v : View (Work E C R)). v.work.heard) is ∙ heard)
            (subst (λ (m : Work E C R × List (ℕ × Slot C R S)). IsWorking client (old.table_id.slots - 1) m.0 m.1) (λ i. ((sym is i).work, sym hands_now i)) record {
              own = ap owner_of stage;
              live = ap is_live stage;
              hands_are = λ i. with_taken (sym nothing i) (with_state (old.table_id.slots - 1) (sym unheld i) (own_slot (sym stage i)));
              quiet = λ _. nothing;
              below = λ r h. absurd (subst (IsTaken r) nothing h);
            })

        pub collected_joined : new.table_id ≡ old.table_id → IsJoined client new
        collected_joined same = let t = after_collecting got.client got.call got.history old.me.0.work got.answer in
            idle_joined (work_after got.client got.call got.history got.answer old.me.0.work) (view_now ∙ ap (λ (m : Me (Slot C R S) (View (Work E C R))). m.0) got.left) (t.0 ∙ ap (λ z. Free z) itself) (t.1 ∙ free) (t.2 ∙ own.working.quiet free) t.3 same

  -- the laws at a word that the code names
  module _ (served : Ghosts S E C R) (n size id word : ℕ) (me : Me (Slot C R S) (View (Work E C R))) where
    pub call_posts : (q : ℕ) (c : C) → word ≡ state_word q → me.0.work.stage ≡ Free q → me.1 ≡ (q, slots.Call c) ∷ rest me.1
        → Allows (Ruled n (Serves served n)) size id me word (λ _. 1) (λ _. Posts me)
    call_posts q c e is hands = subst (λ (i : ℕ). Allows (Ruled n (Serves served n)) size id me i (λ _. 1) (λ _. Posts me)) (sym e) (post served n size id q c me is hands)

    pub reply_collects : (q : ℕ) → word ≡ state_word q → IsClient q me.0.work.stage
        → Allows (Ruled n (Serves served n)) size id me word (λ k. either (eqb k 4) 0 k) (λ k m'. reply_collected served me m' k)
    reply_collects q e is = subst (λ (i : ℕ). Allows (Ruled n (Serves served n)) size id me i (λ k. either (eqb k 4) 0 k) (λ k m'. reply_collected served me m' k)) (sym e)
        (collect served n size id q me is)
