-- The steps of the holder keep the rule.
use Rattle.std.proofs.Common.{◌≡◌, ◌≢◌, ℕ, true, eqb, ◌<◌, List, length, get_or, set, sym, refl, ap, ◌∙◌, subst, inl, ⊎_elim, arith, lt_of_not-le}
use lib.ListN.{get_elem?}
use lib.Seq.{set-get_or}
use mathlib.Core.Logic.{dite}
use native.Mathlib.Decide.{dec_le, ℕ_discrete}
use mathlib.Core.Option.{none, some}
use prog.Atomic.{either}
use Rattle.atomic_table.specs.Table.{State, Me, Act, keeps, takes, Valid, stepped, carried_after}
use Rattle.atomic_table.proofs.Lists.{exchanged}
use Rattle.pub_rule.specs.declared.served.Served.{Ghosts}
use Rattle.pub_rule.specs.declared.walk.View.{View}
use Rattle.pub_rule.specs.declared.work.Work.{Work}
use Rattle.pub_rule.specs.declared.work.Stage.{Stage}
use Rattle.pub_rule.specs.declared.work.Stage.TheVariants as stages
use Rattle.pub_rule.specs.declared.work.Serving.{Serving}
use Rattle.pub_rule.specs.declared.work.Serving.TheVariants.{Nothing, Posted}
use Rattle.pub_rule.specs.declared.served.Slot.{Slot}
use Rattle.pub_rule.specs.declared.served.Slot.TheVariants as slots
use Rattle.pub_rule.specs.Words.{state_word}
use Rattle.pub_rule.specs.Work.{Phase, away, free, posted, taken, parked, resumed, refused, replied, Client, Desk, IsTaken, IsTakenIn, word_of, home_of, IsDealt, IsInPhase, IsMarked, HasReplies, IsSettled, IsInStage, IsClient, Serves}
use Rattle.pub_rule.specs.WorkSteps.{with_work, dealt, taking, call_taken, record_peeked}
use Rattle.pub_rule.specs.WorkLaws.{KeptByTake, KeptByPeek}
use Rattle.pub_rule.proofs.Numbers.{state_from_head, state_from_next}
use Rattle.pub_rule.proofs.Moves.{Stays, holder_step, has_seat, view_step}
use Rattle.pub_rule.proofs.Lift.{Served, lift}
use Rattle.pub_rule.proofs.Clientwork.{all_of, idle}
use Rattle.pub_rule.proofs.Passing.{marks_are, past_is}

abbrev pub is_nothing : {C : Type 0} → Serving C → Type 0
is_nothing Nothing = Unit {0}
is_nothing _ = ⊥

-- what is no longer taken
pub retaken : {C R : Type 0} (r : ℕ) (p : Phase C R) (d d' : Serving C) → is_nothing d → ¬ IsTaken r d' → IsTakenIn r d p → IsTakenIn r d' p
retaken r away d d' clear not h = not
retaken r free d d' clear not h = not
retaken r (posted c) d d' clear not h = not
retaken r (taken c) d d' clear not h = absurd (subst is_nothing h clear)
retaken r (parked c) d d' clear not h = not
retaken r (resumed c) d d' clear not h = absurd (subst is_nothing h clear)
retaken r (refused c) d d' clear not h = not
retaken r (replied c x) d d' clear not h = not

-- whose replies are in the history doesn't hang on the record that is taken
pub same_replies : {S E C R : Type 0} (served : Ghosts S E C R) (d : Desk E C) (serving : Serving C) (r : ℕ) (got : List R) (p : Phase C R) → HasReplies served d r got p → HasReplies served (record d { serving = serving }) r got p
same_replies served d serving r got away h = h
same_replies served d serving r got free h = h
same_replies served d serving r got (posted c) h = h
same_replies served d serving r got (taken c) h = h
same_replies served d serving r got (parked c) h = h
same_replies served d serving r got (resumed c) h = h
same_replies served d serving r got (refused c) h = h
same_replies served d serving r got (replied c x) h = h

-- nor whether it was handed out
pub same_settled : {S E C R : Type 0} (served : Ghosts S E C R) (d : Desk E C) (serving : Serving C) (r : ℕ) (p : Phase C R) → IsSettled served d r p → IsSettled served (record d { serving = serving }) r p
same_settled served d serving r away h = h
same_settled served d serving r free h = h
same_settled served d serving r (posted c) h = h
same_settled served d serving r (taken c) h = h
same_settled served d serving r (parked c) h = h
same_settled served d serving r (resumed c) h = h
same_settled served d serving r (refused c) h = h
same_settled served d serving r (replied c x) h = h

-- a record that isn't taken, nor posted, is dealt with
is_dealt : {C R : Type 0} (r : ℕ) (p : Phase C R) (d : Serving C) → is_nothing d → word_of p ≢ 1 → IsTakenIn r d p → IsDealt p
is_dealt r away d clear not h = tt
is_dealt r free d clear not h = tt
is_dealt r (posted c) d clear not h = absurd (not refl)
is_dealt r (taken c) d clear not h = absurd (subst is_nothing h clear)
is_dealt r (parked c) d clear not h = tt
is_dealt r (resumed c) d clear not h = tt
is_dealt r (refused c) d clear not h = tt
is_dealt r (replied c x) d clear not h = tt

one : {C R : Type 0} (p : Phase C R) → word_of p ≡ 1 → (c : C) × (p ≡ posted c)
one away e = absurd (omega arith)
one free e = absurd (omega arith)
one (posted c) e = (c, refl)
one (taken c) e = absurd (omega arith)
one (parked c) e = absurd (omega arith)
one (resumed c) e = absurd (omega arith)
one (refused c) e = absurd (omega arith)
one (replied c x) e = absurd (omega arith)

taken_from : {C : Type 0} (R : Type 0) (c : C) (st : Stage C) → IsInStage {C = C} {R = R} st (posted c) → IsInStage {C = C} {R = R} st (taken c)
taken_from R c stages.Spent h = tt
taken_from R c (stages.Maker k) h = tt
taken_from {C} R c (stages.Away q) h = absurd (subst (λ (p : Phase C R). IsDealt p → ⊥) h (λ f. f) tt)
taken_from {C} R c (stages.Free q) h = absurd (subst (λ (p : Phase C R). IsDealt p → ⊥) h (λ f. f) tt)
taken_from R c (stages.Asking q k) h = h
taken_from R c (stages.Token q) h = tt

-- a client whose record is posted asks
own_posted : {C : Type 0} (R : Type 0) (q : ℕ) (c : C) (st : Stage C) → IsClient q st → IsInStage {C = C} {R = R} st (posted c) → st ≡ stages.Asking q c
own_posted R q c stages.Spent h i = absurd h
own_posted R q c (stages.Maker k) h i = absurd h
own_posted {C} R q c (stages.Away a) h i = absurd (subst (λ (p : Phase C R). IsDealt p → ⊥) i (λ f. f) tt)
own_posted {C} R q c (stages.Free a) h i = absurd (subst (λ (p : Phase C R). IsDealt p → ⊥) i (λ f. f) tt)
own_posted R q c (stages.Asking a k) h i = λ j. stages.Asking (h j) (sym i j)
own_posted R q c (stages.Token a) h i = absurd h

module _ {E C R S : Type 0} (served : Ghosts S E C R) (n : ℕ) where
  open served use {history, legal, own, replies}

  abbrev Half : State (Slot C R S) (Work E C R) → Type 0
  Half = Served n (Serves served n)

  as_many : (hist seen : List E) (q : ℕ) (entered : List C) (got : List R) → seen ≡ hist → own hist q ≡ entered → replies hist q ≡ got → length entered ≡ length got → length (own seen q) ≡ length (replies seen q)
  as_many hist seen q entered got same calls answers even = subst (λ (h : List E). length (own h q) ≡ length (replies h q)) (sym same) (ap length calls ∙ (even ∙ sym (ap length answers)))

  -- a record that isn't posted: a combiner has dealt with its client's last post
  passes_by : (s : State (Slot C R S) (Work E C R)) (r : Half s) (id q : ℕ) (v : Work E C R) → get_elem? s.views id ≡ some v → v.holds ≡ true → v.serving ≡ Nothing → q < n → get_or s.words (state_word q) 0 ≢ 1
      → Serves served n (set s.words (state_word q) (get_or s.words (state_word q) 0)) s.homes (set s.views id (dealt q v))
  passes_by s r id q v at holds nothing inside miss = let k = r.each_seat id v at in let o : Client E C R = r.world.truth q in let rec = r.stored.each_client q inside in let b = k.combines holds in
      let deal : IsDealt o.phase = is_dealt q o.phase r.world.desk.serving (subst is_nothing (sym nothing ∙ b.serving) tt) (λ e. miss (rec.word ∙ e)) rec.phase.taken_is in
      subst (λ (ws : List ℕ). Serves served n ws s.homes (set s.views id (dealt q v))) (sym (set-get_or s.words (state_word q) 0)) (view_step served n s.words s.homes s.views r id (dealt q v) record {
        maker = k.maker;
        client = λ i is. let d = k.client i is in record {
          made_it = d.made_it;
          live = d.live;
          seat_is = d.seat_is;
          stage = d.stage;
          entered = d.entered;
          got = d.got;
          posts = d.posts;
          begun = d.begun;
          past = λ h. ⊎_elim d.past (λ (e : i ≡ q). subst (λ (z : ℕ). IsDealt (r.world.truth z).phase) (sym e) deal) (past_is i q v.stage v.past is h);
          found = d.found;
          holds = d.holds;
          waits = d.waits;
        };
        token = k.token;
        combines = λ h. let c = k.combines h in record { client = c.client; seen = c.seen; before = c.before; paid = c.paid; serving = c.serving };
        saw = k.saw;
        was_told = k.was_told;
        met = k.met;
        heard = k.heard;
        passed = λ i j m. ⊎_elim (λ (h : (i ≡ q) × IsMarked i j v.heard). let g = k.heard i j h.1 in (g.0, g.1, λ _. subst (λ (z : ℕ). IsDealt (r.world.truth z).phase) (sym h.0) deal)) (k.passed i j) (marks_are q i j v.heard v.passed m);
      })

  pub take : KeptByTake served n
  take size id p q me ready inside = let v : Work E C R = me.0.work in let then : ℕ → Me (Slot C R S) (View (Work E C R)) → Type 0 = λ k m'. call_taken served me m' (state_word q) k in
      let half : ℕ → Me (Slot C R S) (Work E C R) → Type 0 = λ k m'. then k (with_work m'.0 me.0, m'.1) in
      lift n (Serves served n) size id (state_word q) (λ k. either (eqb k 1) 2 k) me half then (λ e. state_from_head q (sym e)) (λ r e. state_from_next q r (sym e))
      (λ s r sz at _. let found : ℕ = get_or s.words (state_word q) 0 in
      let k = r.each_seat id v at in let o : Client E C R = r.world.truth q in let b = k.combines ready.holds in let rec = r.stored.each_client q inside in
      let F : ℕ → Type 0 = λ x. (w : Work E C R) × (a : Act (Slot C R S)) × Valid s.homes me.1 a × Half (stepped s (state_word q) x id me.1 w a) × half found (w, carried_after me.1 a) in
      let unserved : is_nothing r.world.desk.serving = subst is_nothing (sym ready.serves ∙ b.serving) tt in
      exchanged found 1 2 F
      (λ hit. let y = one o.phase (sym rec.word ∙ hit) in let c : C = y.0 in let e : o.phase ≡ posted c = y.1 in
      let old : IsInPhase served r.world.desk q (record o { phase = posted c }) = subst (λ (z : Phase C R). IsInPhase served r.world.desk q (record o { phase = z })) e rec.phase in
      let small : q < r.world.made = (dite (dec_le r.world.made q) (λ h. absurd (subst (λ (z : Phase C R). IsDealt z → ⊥) (sym e ∙ has_seat served n s.words s.homes s.views r q h) (λ f. f) tt)) (λ h. lt_of_not-le h)) in
      let desk' : Desk E C = record r.world.desk { serving = Posted q c } in
      let even_now : length (own v.seen q) ≡ length (replies v.seen q) = as_many (r.world.desk.hist) v.seen q o.entered o.got b.seen old.calls old.replies_are old.even in (
        taking q c v,
        takes q (slots.Call c),
        rec.home ∙ ap (λ (z : Phase C R). some (home_of z)) e,
        subst (λ (w : Work E C R). Serves served n (set s.words (state_word q) 2) (set s.homes q none) (set s.views id w)) (λ i. record v { seen = sym b.seen i; before = sym b.before i; paid = sym b.paid i; serving = Posted q c })
            (holder_step served n s.words s.homes s.views r id p q 2 none v (record o { phase = taken c }) desk' v.passed v.past at ready.client ready.holds small
            (subst (λ (z : Phase C R). Stays (record o { phase = z }) (record o { phase = taken c })) (sym e)
            record { stage = taken_from R c; entered = refl; got = refl; posts = refl; begun = refl; dealt = λ h. h; ready = λ h. absurd (omega arith) })
            refl refl record { calls = old.calls; even = old.even; replies_are = old.replies_are; settled = old.settled; was_parked = tt; taken_is = refl }
            (λ i _ other h. record { calls = h.calls; even = h.even; replies_are = same_replies served r.world.desk (Posted q c) i (r.world.truth i).got (r.world.truth i).phase h.replies_are; settled = same_settled served r.world.desk (Posted q c) i (r.world.truth i).phase h.settled; was_parked = h.was_parked; taken_is = retaken i (r.world.truth i).phase r.world.desk.serving (Posted q c) unserved other h.taken_is })
            (all_of r.world.desk.hist) r.sound.is_legal (λ i h. subst (λ (z : ℕ). z < n) (sym h) inside) (λ _ _ m. inl m) (λ h. inl h)),
        record {
          hit = λ _. record { client = q; call = c; at = refl; even = even_now; mine = λ is. own_posted R q c v.stage is (subst (λ (z : Phase C R). IsInStage v.stage z) e (k.client q is).stage); left = refl };
          miss = λ other. absurd (other hit);
        },
      ))
      (λ miss. (
        dealt q v,
        keeps,
        tt,
        passes_by s r id q v at ready.holds ready.serves inside miss,
        record { hit = λ hit. absurd (miss hit); miss = λ _. record { client = q; at = refl; left = refl } },
      )))
      (λ _ _ _ h. h)

  pub peek : KeptByPeek served n
  peek size id p q me ready inside = let v : Work E C R = me.0.work in let then : ℕ → Me (Slot C R S) (View (Work E C R)) → Type 0 = λ k m'. record_peeked me m' (state_word q) k in
      let half : ℕ → Me (Slot C R S) (Work E C R) → Type 0 = λ k m'. then k (with_work m'.0 me.0, m'.1) in
      lift n (Serves served n) size id (state_word q) (λ k. k) me half then (λ e. state_from_head q (sym e)) (λ r e. state_from_next q r (sym e))
      (λ s r sz at _. let found : ℕ = get_or s.words (state_word q) 0 in
      let F : ℕ → Type 0 = λ x. (w : Work E C R) × (a : Act (Slot C R S)) × Valid s.homes me.1 a × Half (stepped s (state_word q) x id me.1 w a) × half found (w, carried_after me.1 a) in
      let answer : F found = dite (ℕ_discrete found 1)
      (λ hit. (v, keeps, tt, idle served n s (state_word q) id v at r, record { hit = λ _. refl; miss = λ other. absurd (other hit) }))
      (λ miss. (
        dealt q v,
        keeps,
        tt,
        passes_by s r id q v at ready.holds ready.serves inside miss,
        record { hit = λ hit. absurd (miss hit); miss = λ _. record { client = q; at = refl; left = refl } },
      )) in answer)
      (λ _ _ _ h. h)
