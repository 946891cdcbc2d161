-- The steps that leave the history keep the rule: a call is refused for memory, and a parked call's reply is handed out.
use Rattle.std.proofs.Common.{◌≡◌, ◌≢◌, ℕ, true, eqb, ◌<◌, List, [], ◌∷◌, ◌++◌, get_or, set, if◌then◌else◌, sym, refl, ap, ◌∙◌, subst, inl, inr, ⊎_elim, arith, lt_of_not-le}
use mathlib.Core.Logic.{dite}
use native.Mathlib.Decide.{dec_le}
use mathlib.Core.Option.{Option, none, some}
use prog.Atomic.{either}
use Rattle.atomic_table.specs.Table.{State, Me, Act, takes, gives, Valid, stepped, carried_after, Allows, rest}
use Rattle.atomic_table.proofs.Lists.{exchanged}
use Rattle.pub_rule.specs.declared.served.Served.{Ghosts}
use Rattle.pub_rule.specs.declared.walk.View.{View}
use Rattle.pub_rule.specs.declared.work.Work.{Work}
use Rattle.pub_rule.specs.declared.work.Stage.{Stage}
use Rattle.pub_rule.specs.declared.work.Stage.TheVariants as stages
use Rattle.pub_rule.specs.declared.work.Serving.{Serving}
use Rattle.pub_rule.specs.declared.work.Serving.TheVariants.{Nothing, Posted, Parked}
use Rattle.pub_rule.specs.declared.served.Slot.{Slot}
use Rattle.pub_rule.specs.declared.served.Slot.TheVariants as slots
use Rattle.pub_rule.specs.Words.{state_word}
use Rattle.pub_rule.specs.Lists.{IsOn}
use Rattle.pub_rule.specs.Work.{Phase, away, free, posted, taken, parked, resumed, refused, replied, Client, Desk, IsTaken, IsTakenIn, IsMarked, word_of, home_of, IsDealt, IsInPhase, HasReplies, IsSettled, IsInStage, IsClient, Serves}
use Rattle.pub_rule.specs.WorkSteps.{with_work, marks_of, is_own, resuming, paying, refusing, call_refused, Resumes, reply_handed}
use Rattle.pub_rule.specs.WorkLaws.{KeptByRefuse, KeptByResume, KeptByHand}
use Rattle.pub_rule.proofs.Numbers.{state_from_head, state_from_next}
use Rattle.pub_rule.proofs.Moves.{Stays, holder_step, has_seat}
use Rattle.pub_rule.proofs.Lift.{Served, lift}
use Rattle.pub_rule.proofs.Clientwork.{all_of}
use Rattle.pub_rule.proofs.Answering.{phase_taken}
use Rattle.pub_rule.proofs.Combiner.{is_nothing, retaken, same_replies, same_settled}
use Rattle.pub_rule.proofs.Passing.{marks_are, past_is}

-- the one record that was taken is no longer
untaken : {C R : Type 0} (i q : ℕ) (p : Phase C R) (d : Serving C) → IsTaken q d → i ≢ q → IsTakenIn i d p → IsTakenIn i Nothing p
untaken i q away d t other h = λ f. f
untaken i q free d t other h = λ f. f
untaken i q (posted c) d t other h = λ f. f
untaken i q (taken c) d t other h = absurd (other (sym (subst (IsTaken q) h t)))
untaken i q (parked c) d t other h = λ f. f
untaken i q (resumed c) d t other h = absurd (other (sym (subst (IsTaken q) h t)))
untaken i q (refused c) d t other h = λ f. f
untaken i q (replied c x) d t other h = λ f. f

abbrev call_parked_or : {C : Type 0} → C → Serving C → C
call_parked_or k (Parked r c) = c
call_parked_or k _ = k

abbrev is_parked : {C : Type 0} → Serving C → Type 0
is_parked (Parked r c) = Unit {0}
is_parked _ = ⊥

phase_resumed : {C R : Type 0} (r : ℕ) (c : C) (p : Phase C R) (d : Serving C) → d ≡ Parked r c → IsTakenIn r d p → p ≡ resumed c
phase_resumed r c away d e h = absurd (h (subst (IsTaken r) (sym e) refl))
phase_resumed r c free d e h = absurd (h (subst (IsTaken r) (sym e) refl))
phase_resumed r c (posted k) d e h = absurd (h (subst (IsTaken r) (sym e) refl))
phase_resumed r c (taken k) d e h = absurd (subst is_parked (sym e ∙ h) tt)
phase_resumed r c (parked k) d e h = absurd (h (subst (IsTaken r) (sym e) refl))
phase_resumed r c (resumed k) d e h = ap (λ z. resumed z) (ap (call_parked_or k) (sym h ∙ e))
phase_resumed r c (refused k) d e h = absurd (h (subst (IsTaken r) (sym e) refl))
phase_resumed r c (replied k x) d e h = absurd (h (subst (IsTaken r) (sym e) refl))

in_refused : {C : Type 0} (R : Type 0) (c : C) (st : Stage C) → IsInStage {C = C} {R = R} st (taken c) → IsInStage {C = C} {R = R} st (refused c)
in_refused R c stages.Spent h = tt
in_refused R c (stages.Maker k) h = tt
in_refused {C} R c (stages.Away q) h = absurd (subst (λ (p : Phase C R). IsDealt p → ⊥) h (λ f. f) tt)
in_refused {C} R c (stages.Free q) h = absurd (subst (λ (p : Phase C R). IsDealt p → ⊥) h (λ f. f) tt)
in_refused R c (stages.Asking q k) h = h
in_refused R c (stages.Token q) h = tt

not_three : {C R : Type 0} (c : C) (p : Phase C R) → parked c ≡ p → word_of p ≡ 0 → ⊥
not_three c p e z = let a = ap word_of e in omega arith

not_two : {C R : Type 0} (c : C) (p : Phase C R) → resumed c ≡ p → word_of p ≡ 0 → ⊥
not_two c p e z = let a = ap word_of e in omega arith

in_resumed : {C : Type 0} (R : Type 0) (c : C) (st : Stage C) → IsInStage {C = C} {R = R} st (parked c) → IsInStage {C = C} {R = R} st (resumed c)
in_resumed R c stages.Spent h = tt
in_resumed R c (stages.Maker k) h = tt
in_resumed {C} R c (stages.Away q) h = absurd (not_three c away h refl)
in_resumed {C} R c (stages.Free q) h = absurd (not_three c free h refl)
in_resumed R c (stages.Asking q k) h = h
in_resumed R c (stages.Token q) h = tt

in_replied : {C : Type 0} (R : Type 0) (c : C) (y : R) (st : Stage C) → IsInStage {C = C} {R = R} st (resumed c) → IsInStage st (replied c y)
in_replied R c y stages.Spent h = tt
in_replied R c y (stages.Maker k) h = tt
in_replied {C} R c y (stages.Away q) h = absurd (not_two c away h refl)
in_replied {C} R c y (stages.Free q) h = absurd (not_two c free h refl)
in_replied R c y (stages.Asking q k) h = h
in_replied R c y (stages.Token q) h = tt

-- the last of a list
abbrev last_of : {A : Type 0} → A → List A → A
last_of d [] = d
last_of d (x ∷ xs) = last_of x xs

last_is : {A : Type 0} (d x : A) (l : List A) → last_of d (l ++ x ∷ []) ≡ x
last_is d x [] = refl
last_is d x (y ∷ l) = last_is y x l

-- the last of a list is one
ends_with : {A : Type 0} (x y : A) (some_before before all : List A) → all ≡ some_before ++ x ∷ [] → all ≡ before ++ y ∷ [] → all ≡ some_before ++ y ∷ []
ends_with x y some_before before all e f = let same : x ≡ y = sym (last_is y x some_before) ∙ (ap (last_of y) (sym e ∙ f) ∙ last_is y y before) in e ∙ (λ i. some_before ++ same i ∷ [])

module _ {E C R S : Type 0} (served : Ghosts S E C R) (n : ℕ) where
  open served use {history, legal, own, replies}

  abbrev Half : State (Slot C R S) (Work E C R) → Type 0
  Half = Served n (Serves served n)

  -- a client whose word isn't 0 has a seat
  seated : (words : List ℕ) (homes : List (Option (Slot C R S))) (works : List (Work E C R)) (s : Serves served n words homes works) (q : ℕ) → (word_of (s.world.truth q).phase ≡ 0 → ⊥) → q < s.world.made
  seated words homes works s q not = dite (dec_le s.world.made q) (λ h. absurd (not (ap word_of (has_seat served n words homes works s q h)))) (λ h. lt_of_not-le h)

  refuse_half : (size id p q : ℕ) (c : C) (v : Work E C R) (hands : List (ℕ × Slot C R S)) → IsClient p v.stage → v.holds ≡ true → v.serving ≡ Posted q c → Allows Half size id (v, (q, slots.Memory) ∷ hands) (state_word q) (λ _. 4) (λ _ m'. m' ≡ (refusing q v, hands))
  refuse_half size id p q c v hands was holds posts s r sz at _ = let b = (r.each_seat id v at).combines holds in let o : Client E C R = r.world.truth q in let d : Desk E C = r.world.desk in
      let serving : d.serving ≡ Posted q c = sym b.serving ∙ posts in let has : IsTaken q d.serving = subst (IsTaken q) (sym serving) refl in let inside : q < n = r.sound.taken_below q has in let rec = (r.stored.each_client q inside).phase in
      let f : o.phase ≡ taken c = phase_taken q c o.phase d.serving serving rec.taken_is in
      let old : IsInPhase served d q (record o { phase = taken c }) = subst (λ (z : Phase C R). IsInPhase served d q (record o { phase = z })) f rec in (
        refusing q v,
        gives,
        tt,
        subst (λ (w : Work E C R). Serves served n (set s.words (state_word q) 4) (set s.homes q (some slots.Memory)) (set s.views id w))
            (λ i. record v { seen = sym b.seen i; before = sym b.before i; paid = sym b.paid i; serving = Nothing; passed = marks_of q v.heard ++ v.passed; past = if is_own q v.stage then true else v.past })
            (holder_step served n s.words s.homes s.views r id p q 4 (some slots.Memory) v (record o { phase = refused c }) (record d { serving = Nothing }) (marks_of q v.heard ++ v.passed) (if is_own q v.stage then true else v.past)
            at was holds (seated s.words s.homes s.views r q (λ z. let a = ap word_of f in omega arith))
            (subst (λ (z : Phase C R). Stays (record o { phase = z }) (record o { phase = refused c })) (sym f) record { stage = in_refused R c; entered = refl; got = refl; posts = refl; begun = refl; dealt = λ _. tt; ready = λ h. absurd (omega arith) })
            refl refl record { calls = old.calls; even = old.even; replies_are = old.replies_are; settled = old.settled; was_parked = tt; taken_is = λ z. z }
            (λ i _ other h. record {
              calls = h.calls;
              even = h.even;
              replies_are = same_replies served d Nothing i (r.world.truth i).got (r.world.truth i).phase h.replies_are;
              settled = same_settled served d Nothing i (r.world.truth i).phase h.settled;
              was_parked = h.was_parked;
              taken_is = untaken i q (r.world.truth i).phase d.serving has other h.taken_is;
            })
            (all_of d.hist) r.sound.is_legal (λ i z. absurd z) (λ a j m. ⊎_elim (λ (h : (a ≡ q) × IsMarked a j v.heard). inr (h.0, h.1, tt)) (λ h. inl h) (marks_are q a j v.heard v.passed m))
            (λ h. ⊎_elim (λ g. inl g) (λ g. inr (g, tt)) (past_is p q v.stage v.past was h))),
        refl,
      )

  pub refuse : KeptByRefuse served n
  refuse size id p q c me took hands = lift n (Serves served n) size id (state_word q) (λ _. 4) me (λ _ m'. m' ≡ (refusing q me.0.work, rest me.1)) (λ k m'. call_refused me m' (state_word q))
      (λ u. state_from_head q (sym u)) (λ r u. state_from_next q r (sym u))
      (subst (λ (z : List (ℕ × Slot C R S)). Allows Half size id (me.0.work, z) (state_word q) (λ _. 4) (λ _ m'. m' ≡ (refusing q me.0.work, rest me.1))) (sym hands) (refuse_half size id p q c me.0.work (rest me.1) took.client took.holds took.serves))
      (λ _ w h u. record { client = q; at = refl; left = ap (λ (z : Work E C R × List (ℕ × Slot C R S)). (with_work z.0 me.0, z.1)) u })

  -- who is owed a reply is parked
  owed_parked : (d : Desk E C) (q : ℕ) (p : Phase C R) → is_nothing d.serving → ¬ (replies d.hist q ≡ replies d.before q) → ¬ IsOn q d.paid → IsSettled served d q p → IsTakenIn q d.serving p → (c : C) × (p ≡ parked c)
  owed_parked d q away clear owed off h t = absurd (⊎_elim owed off h)
  owed_parked d q free clear owed off h t = absurd (⊎_elim owed off h)
  owed_parked d q (posted c) clear owed off h t = absurd (⊎_elim owed off h)
  owed_parked d q (taken c) clear owed off h t = absurd (⊎_elim owed off h)
  owed_parked d q (parked c) clear owed off h t = (c, refl)
  owed_parked d q (resumed c) clear owed off h t = absurd (subst is_nothing t clear)
  owed_parked d q (refused c) clear owed off h t = absurd (⊎_elim owed off h)
  owed_parked d q (replied c x) clear owed off h t = absurd (⊎_elim owed off h)

  reply_owed : (d : Desk E C) (q : ℕ) (got : List R) (c : C) → ¬ (replies d.hist q ≡ replies d.before q) → HasReplies served d q got (parked c) → (x : R) × (replies d.hist q ≡ got ++ x ∷ [])
  reply_owed d q got c owed h = ⊎_elim (λ same. absurd (owed (same ∙ sym h.0))) (λ g. (g.0, g.1)) h.1

  pub resume : KeptByResume served n
  resume size id p q me ready inside owed off = let v : Work E C R = me.0.work in let told : ℕ → Me (Slot C R S) (View (Work E C R)) → Type 0 = λ k m'. Resumes me m' (state_word q) k in
      let half : ℕ → Me (Slot C R S) (Work E C R) → Type 0 = λ k m'. told k (with_work m'.0 me.0, m'.1) in
      lift n (Serves served n) size id (state_word q) (λ k. either (eqb k 3) 2 k) me half told (λ e. state_from_head q (sym e)) (λ r e. state_from_next q r (sym e))
      (λ s r sz at _. let found : ℕ = get_or s.words (state_word q) 0 in let b = (r.each_seat id v at).combines ready.holds in let o : Client E C R = r.world.truth q in let d : Desk E C = r.world.desk in let rec = r.stored.each_client q inside in
      let F : ℕ → Type 0 = λ x. (w : Work E C R) × (a : Act (Slot C R S)) × Valid s.homes me.1 a × Half (stepped s (state_word q) x id me.1 w a) × half found (w, carried_after me.1 a) in
      let unserved : is_nothing d.serving = subst is_nothing (sym ready.serves ∙ b.serving) tt in
      let owed' : ¬ (replies d.hist q ≡ replies d.before q) = λ e. owed (ap (λ (h : List E). replies h q) b.seen ∙ (e ∙ ap (λ (h : List E). replies h q) (sym b.before))) in
      let y = owed_parked d q o.phase unserved owed' (λ on. off (subst (IsOn q) (sym b.paid) on)) rec.phase.settled rec.phase.taken_is in let c : C = y.0 in let e : o.phase ≡ parked c = y.1 in
      let old : IsInPhase served d q (record o { phase = parked c }) = subst (λ (z : Phase C R). IsInPhase served d q (record o { phase = z })) e rec.phase in
      let three : found ≡ 3 = rec.word ∙ ap word_of e in
      exchanged found 3 2 F
      (λ _. (
        resuming q c v,
        takes q slots.Empty,
        rec.home ∙ ap (λ (z : Phase C R). some (home_of z)) e,
        subst (λ (w : Work E C R). Serves served n (set s.words (state_word q) 2) (set s.homes q none) (set s.views id w)) (λ i. record v { seen = sym b.seen i; before = sym b.before i; paid = sym b.paid i; serving = Parked q c })
            (holder_step served n s.words s.homes s.views r id p q 2 none v (record o { phase = resumed c }) (record d { serving = Parked q c }) v.passed v.past at ready.client ready.holds
            (seated s.words s.homes s.views r q (λ z. let a = ap word_of e in omega arith))
            (subst (λ (z : Phase C R). Stays (record o { phase = z }) (record o { phase = resumed c })) (sym e) record { stage = in_resumed R c; entered = refl; got = refl; posts = refl; begun = refl; dealt = λ h. h; ready = λ h. absurd (omega arith) })
            refl refl record {
              calls = old.calls;
              even = old.even;
              replies_are = reply_owed d q o.got c owed' old.replies_are;
              settled = tt;
              was_parked = old.was_parked;
              taken_is = refl;
            }
            (λ i _ other h. record {
              calls = h.calls;
              even = h.even;
              replies_are = same_replies served d (Parked q c) i (r.world.truth i).got (r.world.truth i).phase h.replies_are;
              settled = same_settled served d (Parked q c) i (r.world.truth i).phase h.settled;
              was_parked = h.was_parked;
              taken_is = retaken i (r.world.truth i).phase d.serving (Parked q c) unserved other h.taken_is;
            })
            (all_of d.hist) r.sound.is_legal (λ i h. subst (λ (z : ℕ). z < n) (sym h) inside) (λ _ _ m. inl m) (λ h. inl h)),
        record { client = q; call = c; parked = three; at = refl; left = refl },
      ))
      (λ miss. absurd (miss three)))
      (λ _ _ _ h. h)

  -- one client more is handed its reply
  more_paid : (d : Desk E C) (q i : ℕ) (got : List R) (p : Phase C R) → i ≢ q → HasReplies served d i got p → HasReplies served (record d { paid = q ∷ d.paid; serving = Nothing }) i got p
  more_paid d q i got away other h = h
  more_paid d q i got free other h = h
  more_paid d q i got (posted c) other h = h
  more_paid d q i got (taken c) other h = h
  more_paid d q i got (parked c) other h = (h.0, ⊎_elim (λ e. inl e) (λ y. inr (y.0, y.1, λ on. ⊎_elim other y.2 on)) h.1)
  more_paid d q i got (resumed c) other h = h
  more_paid d q i got (refused c) other h = h
  more_paid d q i got (replied c x) other h = h

  more_settled : (d : Desk E C) (q i : ℕ) (p : Phase C R) → IsSettled served d i p → IsSettled served (record d { paid = q ∷ d.paid; serving = Nothing }) i p
  more_settled d q i away h = ⊎_elim (λ e. inl e) (λ on. inr (inr on)) h
  more_settled d q i free h = ⊎_elim (λ e. inl e) (λ on. inr (inr on)) h
  more_settled d q i (posted c) h = ⊎_elim (λ e. inl e) (λ on. inr (inr on)) h
  more_settled d q i (taken c) h = ⊎_elim (λ e. inl e) (λ on. inr (inr on)) h
  more_settled d q i (parked c) h = tt
  more_settled d q i (resumed c) h = tt
  more_settled d q i (refused c) h = ⊎_elim (λ e. inl e) (λ on. inr (inr on)) h
  more_settled d q i (replied c x) h = ⊎_elim (λ e. inl e) (λ on. inr (inr on)) h

  hand_half : (size id p q : ℕ) (c : C) (front : List R) (y : R) (v : Work E C R) (hands : List (ℕ × Slot C R S)) → IsClient p v.stage → v.holds ≡ true → v.serving ≡ Parked q c → replies v.seen q ≡ front ++ y ∷ []
      → Allows Half size id (v, (q, slots.Reply y) ∷ hands) (state_word q) (λ _. 4) (λ _ m'. m' ≡ (paying q v, hands))
  hand_half size id p q c front y v hands was holds parks last s r sz at _ = let b = (r.each_seat id v at).combines holds in let o : Client E C R = r.world.truth q in let d : Desk E C = r.world.desk in
      let serving : d.serving ≡ Parked q c = sym b.serving ∙ parks in let has : IsTaken q d.serving = subst (IsTaken q) (sym serving) refl in let inside : q < n = r.sound.taken_below q has in let rec = (r.stored.each_client q inside).phase in
      let f : o.phase ≡ resumed c = phase_resumed q c o.phase d.serving serving rec.taken_is in
      let old : IsInPhase served d q (record o { phase = resumed c }) = subst (λ (z : Phase C R). IsInPhase served d q (record o { phase = z })) f rec in let last' : replies d.hist q ≡ front ++ y ∷ [] = subst (λ (h : List E). replies h q ≡ front ++ y ∷ []) b.seen last in (
        paying q v,
        gives,
        tt,
        subst (λ (w : Work E C R). Serves served n (set s.words (state_word q) 4) (set s.homes q (some (slots.Reply y))) (set s.views id w)) (λ i. record v { seen = sym b.seen i; before = sym b.before i; paid = q ∷ sym b.paid i; serving = Nothing })
            (holder_step served n s.words s.homes s.views r id p q 4 (some (slots.Reply y)) v (record o { phase = replied c y }) (record d { paid = q ∷ d.paid; serving = Nothing }) v.passed v.past at was holds
            (seated s.words s.homes s.views r q (λ z. let a = ap word_of f in omega arith))
            (subst (λ (z : Phase C R). Stays (record o { phase = z }) (record o { phase = replied c y })) (sym f) record { stage = in_replied R c y; entered = refl; got = refl; posts = refl; begun = refl; dealt = λ _. tt; ready = λ h. absurd (omega arith) })
            refl refl record { calls = old.calls; even = old.even; replies_are = ends_with old.replies_are.0 y o.got front (replies d.hist q) old.replies_are.1 last'; settled = inr (inl refl); was_parked = tt; taken_is = λ z. z }
            (λ i _ other h. record {
              calls = h.calls;
              even = h.even;
              replies_are = more_paid d q i (r.world.truth i).got (r.world.truth i).phase other h.replies_are;
              settled = more_settled d q i (r.world.truth i).phase h.settled;
              was_parked = h.was_parked;
              taken_is = untaken i q (r.world.truth i).phase d.serving has other h.taken_is;
            })
            (all_of d.hist) r.sound.is_legal (λ i z. absurd z) (λ _ _ m. inl m) (λ h. inl h)),
        refl,
      )

  pub hand : KeptByHand served n
  hand size id p q c front y me took last hands = lift n (Serves served n) size id (state_word q) (λ _. 4) me (λ _ m'. m' ≡ (paying q me.0.work, rest me.1)) (λ k m'. reply_handed me m' (state_word q))
      (λ u. state_from_head q (sym u)) (λ r u. state_from_next q r (sym u))
      (subst (λ (z : List (ℕ × Slot C R S)). Allows Half size id (me.0.work, z) (state_word q) (λ _. 4) (λ _ m'. m' ≡ (paying q me.0.work, rest me.1))) (sym hands) (hand_half size id p q c front y me.0.work (rest me.1) took.client took.holds took.serves last))
      (λ _ w h u. record { client = q; at = refl; left = ap (λ (z : Work E C R × List (ℕ × Slot C R S)). (with_work z.0 me.0, z.1)) u })
