-- The steps of a client on its own record keep the rule.
use Rattle.std.proofs.Common.{◌≡◌, ◌⊎◌, ℕ, false, eqb, ◌≢◌, ◌+◌, ◌<◌, List, [], ◌∷◌, ◌++◌, get_or, set, sym, refl, ap, ◌∙◌, subst, inl, inr, ⊎_elim, arith, length-append}
use Rattle.std.proofs.lemmas.Bool.{false≢true}
use mathlib.Core.Option.{Option, none, some}
use prog.Atomic.{either}
use lib.ListN.{get_elem?}
use lib.Seq.{set-get_or}
use Rattle.atomic_table.specs.Table.{State, Me, Act, keeps, takes, gives, Valid, stepped, carried_after, Allows, rest}
use Rattle.atomic_table.proofs.Lists.{set_again, exchanged}
use Rattle.pub_rule.specs.declared.served.Served.{Ghosts}
use Rattle.pub_rule.specs.declared.walk.View.{View}
use Rattle.pub_rule.specs.declared.work.Work.{Work}
use Rattle.pub_rule.specs.declared.work.Stage.{Stage}
use Rattle.pub_rule.specs.declared.work.Stage.TheVariants.{Spent, Maker, Away, Free, Asking, Token}
use Rattle.pub_rule.specs.declared.served.Slot.{Slot}
use Rattle.pub_rule.specs.declared.served.Slot.TheVariants as slots
use Rattle.pub_rule.specs.Words.{state_word}
use Rattle.pub_rule.specs.Work.{GoesOn, Phase, away, free, posted, taken, parked, resumed, refused, replied, Client, Desk, IsDealt, word_of, home_of, IsInFlight, IsInPhase, IsParkedBy, IsInStage, IsClient, IsAtHome, Serves}
use Rattle.pub_rule.specs.WorkSteps.{with_work, asking, answered, seeing, IsWaiting, Refused, Replied, Posts, ShowsCall, ShowsIdle, Shows, LooksAtOwn, reply_collected, Fetches, slot_given}
use Rattle.pub_rule.specs.WorkSteps as told
use Rattle.pub_rule.specs.WorkLaws.{KeptByPost, KeptByCollect, KeptByFetch, KeptByGive, KeptByLook, KeptByWatch}
use Rattle.pub_rule.proofs.Numbers.{state_from_head, state_from_next}
use Rattle.pub_rule.proofs.Moves.{client_step, view_step}
use Rattle.pub_rule.proofs.Lift.{Served, lift}

-- a call in flight whose word is 4 was refused or replied
pub four : {C R : Type 0} (c : C) (p : Phase C R) → word_of p ≡ 4 → IsInFlight c p → (p ≡ refused c) ⊎ ((x : R) × (p ≡ replied c x))
four c away e h = absurd h
four c free e h = absurd h
four c (posted k) e h = absurd (omega arith)
four c (taken k) e h = absurd (omega arith)
four c (parked k) e h = absurd (omega arith)
four c (resumed k) e h = absurd (omega arith)
four c (refused k) e h = inl (ap (λ z. refused z) h)
four c (replied k x) e h = inr (x, ap (λ z. replied z x) h)

pub all_of : {E : Type 0} (h : List E) → GoesOn h h
all_of h = ([], nil_behind h)
  where
    nil_behind : {E : Type 0} (list : List E) → list ≡ list ++ []
    nil_behind [] = refl
    nil_behind (a ∷ l) = ap (λ b. a ∷ b) (nil_behind l)

-- a client has its slot in its hands, or at home
free_or_home : {C : Type 0} (q : ℕ) (st : Stage C) → IsClient q st → (st ≡ Free q) ⊎ IsAtHome st
free_or_home q Spent h = absurd h
free_or_home q (Maker k) h = absurd h
free_or_home q (Away c) h = inr tt
free_or_home q (Free c) h = inl (λ i. Free (h i))
free_or_home q (Asking c k) h = inr tt
free_or_home q (Token c) h = absurd h

-- no call of the client is in flight
abbrev IsIdle : {C : Type 0} → Stage C → Type 0
IsIdle (Away q) = Unit {0}
IsIdle (Free q) = Unit {0}
IsIdle _ = ⊥

module _ {E C R S : Type 0} (served : Ghosts S E C R) (n : ℕ) where
  open served use {history, legal, own, replies}

  abbrev Half : State (Slot C R S) (Work E C R) → Type 0
  Half = Served n (Serves served n)

  post_half : (size id q : ℕ) (c : C) (v : Work E C R) (hands : List (ℕ × Slot C R S)) → v.stage ≡ Free q → Allows Half size id (v, (q, slots.Call c) ∷ hands) (state_word q) (λ _. 1) (λ _ m'. m' ≡ (asking q c v, hands))
  post_half size id q c v hands is s r sz at _ = let k = r.each_seat id v at in let was : IsClient q v.stage = subst (IsClient q) (sym is) refl in let cl = k.client q was in let o : Client E C R = r.world.truth q in
      let few = r.sound.few in let small = cl.made_it in let inside : q < n = omega arith in
      let phase : o.phase ≡ free = subst (λ (st : Stage C). IsInStage st o.phase) is cl.stage in
      let old : IsInPhase served r.world.desk q (record o { phase = free }) = subst (λ (p : Phase C R). IsInPhase served r.world.desk q (record o { phase = p })) phase (r.stored.each_client q inside).phase in
      let t : Client E C R = record o { phase = posted c; posts = o.posts + 1 } in (
        asking q c v,
        gives,
        tt,
        client_step served n s.words s.homes s.views r id q 1 (some (slots.Call c)) v t (Asking q c) v.seen false at was refl record { posts = omega arith; begun = omega arith; dealt = λ e. absurd (omega arith) } refl
            refl refl record { calls = old.calls; even = old.even; replies_are = old.replies_are; settled = old.settled; was_parked = tt; taken_is = old.taken_is } refl (λ e. absurd (false≢true e)) k.saw (λ h. (k.combines h).seen) (asking q c v)
            (λ i. record v { stage = Asking q c; seen = v.seen; entered = cl.entered i; got = cl.got i; posts = cl.posts i + 1; past = false; found = 0 }),
        refl,
      )

  pub post : KeptByPost served n
  post size id q c me is hands = lift n (Serves served n) size id (state_word q) (λ _. 1) me (λ _ m'. m' ≡ (asking q c me.0.work, rest me.1)) (λ _. Posts me)
      (λ e. state_from_head q (sym e)) (λ r e. state_from_next q r (sym e))
      (subst (λ (h : List (ℕ × Slot C R S)). Allows Half size id (me.0.work, h) (state_word q) (λ _. 1) (λ _ m'. m' ≡ (asking q c me.0.work, rest me.1))) (sym hands) (post_half size id q c me.0.work (rest me.1) is))
      (λ _ w h e. record { client = q; call = c; free = is; held = hands; left = ap (λ (z : Work E C R × List (ℕ × Slot C R S)). (with_work z.0 me.0, z.1)) e })

  -- a client that sees the history, and no more
  pub sees : (words : List ℕ) (homes : List (Option (Slot C R S))) (works : List (Work E C R)) (r : Serves served n words homes works) (id q : ℕ) (v : Work E C R) → get_elem? works id ≡ some v → IsClient q v.stage
      → Serves served n (set words (state_word q) (get_or words (state_word q) 0)) homes (set works id (seeing r.world.desk.hist (get_or words (state_word q) 0) v))
  sees words homes works r id q v at was = let i : ℕ = state_word q in let found : ℕ = get_or words i 0 in let few = r.sound.few in let k = r.each_seat id v at in subst (λ (ws : List ℕ). Serves served n ws homes (set works id (seeing r.world.desk.hist found v))) (sym (set-get_or words i 0))
      (view_step served n words homes works r id (seeing r.world.desk.hist found v) record {
        maker = k.maker;
        client = λ p is. let d = k.client p is in let small = d.made_it in record { made_it = d.made_it; live = d.live; seat_is = d.seat_is; stage = d.stage; entered = d.entered; got = d.got; posts = d.posts; begun = d.begun; past = d.past; found = λ e. found_four p is small e; holds = d.holds; waits = d.waits };
        token = k.token;
        combines = λ e. let b = k.combines e in record { client = b.client; seen = refl; before = b.before; paid = b.paid; serving = b.serving };
        saw = all_of r.world.desk.hist;
        was_told = k.was_told;
        met = k.met;
        heard = k.heard;
        passed = k.passed;
      })
    where
      one_client : (a b : ℕ) (st : Stage C) → IsClient a st → IsClient b st → a ≡ b
      one_client a b Spent h i = absurd h
      one_client a b (Maker k) h i = absurd h
      one_client a b (Away c) h i = sym h ∙ i
      one_client a b (Free c) h i = sym h ∙ i
      one_client a b (Asking c k) h i = sym h ∙ i
      one_client a b (Token c) h i = absurd h

      found_four : (p : ℕ) → IsClient p v.stage → p < r.world.made → get_or words (state_word q) 0 ≡ 4 → word_of (r.world.truth p).phase ≡ 4
      found_four p is small e = let few = r.sound.few in let same : p ≡ q = one_client p q v.stage is was in sym (r.stored.each_client p (omega arith)).word ∙ (ap (λ (z : ℕ). get_or words (state_word z) 0) same ∙ e)

  waits_by : (d : Desk E C) (q : ℕ) (o : Client E C R) (c a : C) (v : Work E C R) → v.entered ≡ o.entered → v.got ≡ o.got → a ≡ c → own d.hist q ≡ o.entered ++ a ∷ [] → IsParkedBy served d.hist q o a → IsWaiting own replies q c d.hist v
  waits_by d q o c a v entered got same calls was = let call : o.entered ++ a ∷ [] ≡ v.entered ++ c ∷ [] = λ i. sym entered i ++ same i ∷ [] in (calls ∙ call, o.parked_by, was.0, was.1 ∙ call, was.2 ∙ sym got)

  -- a call in flight that was dealt with and isn't answered waits
  waiting : (d : Desk E C) (q : ℕ) (o : Client E C R) (c : C) (p : Phase C R) (v : Work E C R) → v.entered ≡ o.entered → v.got ≡ o.got → IsInFlight c p → (word_of p ≡ 3) ⊎ (IsDealt p × (word_of p ≢ 4)) → IsInPhase served d q (record o { phase = p }) → IsWaiting own replies q c d.hist v
  waiting d q o c away v entered got h f old = absurd h
  waiting d q o c free v entered got h f old = absurd h
  waiting d q o c (posted a) v entered got h f old = absurd (⊎_elim (λ e. omega arith) (λ t. t.0) f)
  waiting d q o c (taken a) v entered got h f old = absurd (⊎_elim (λ e. omega arith) (λ t. t.0) f)
  waiting d q o c (parked a) v entered got h f old = waits_by d q o c a v entered got h old.calls old.was_parked
  waiting d q o c (resumed a) v entered got h f old = waits_by d q o c a v entered got h old.calls old.was_parked
  waiting d q o c (refused a) v entered got h f old = absurd (⊎_elim (λ e. omega arith) (λ t. t.1 refl) f)
  waiting d q o c (replied a x) v entered got h f old = absurd (⊎_elim (λ e. omega arith) (λ t. t.1 refl) f)

  in_flight : (c : C) (p : Phase C R) → IsInFlight c p → (0 < word_of p) × (word_of p < 5)
  in_flight c away h = absurd h
  in_flight c free h = absurd h
  in_flight c (posted a) h = (omega arith, omega arith)
  in_flight c (taken a) h = (omega arith, omega arith)
  in_flight c (parked a) h = (omega arith, omega arith)
  in_flight c (resumed a) h = (omega arith, omega arith)
  in_flight c (refused a) h = (omega arith, omega arith)
  in_flight c (replied a x) h = (omega arith, omega arith)

  dealt_unposted : (p : Phase C R) → IsDealt p → word_of p ≢ 1
  dealt_unposted away h e = omega arith
  dealt_unposted free h e = omega arith
  dealt_unposted (posted a) h e = h
  dealt_unposted (taken a) h e = h
  dealt_unposted (parked a) h e = omega arith
  dealt_unposted (resumed a) h e = omega arith
  dealt_unposted (refused a) h e = omega arith
  dealt_unposted (replied a x) h e = omega arith

  at_zero : (p : Phase C R) → (p ≡ away) ⊎ (p ≡ free) → (word_of p ≢ 0) → ⊥
  at_zero p e not = ⊎_elim (λ h. not (ap word_of h)) (λ h. not (ap word_of h)) e

  resting : (d : Desk E C) (q : ℕ) (o : Client E C R) (p : Phase C R) → (p ≡ away) ⊎ (p ≡ free) → IsInPhase served d q (record o { phase = p }) → (word_of p ≡ 0) × (own d.hist q ≡ o.entered) × (replies d.hist q ≡ o.got)
  resting d q o away e h = (refl, h.calls, h.replies_are)
  resting d q o free e h = (refl, h.calls, h.replies_are)
  resting d q o (posted c) e h = absurd (at_zero (posted c) e (λ z. omega arith))
  resting d q o (taken c) e h = absurd (at_zero (taken c) e (λ z. omega arith))
  resting d q o (parked c) e h = absurd (at_zero (parked c) e (λ z. omega arith))
  resting d q o (resumed c) e h = absurd (at_zero (resumed c) e (λ z. omega arith))
  resting d q o (refused c) e h = absurd (at_zero (refused c) e (λ z. omega arith))
  resting d q o (replied c x) e h = absurd (at_zero (replied c x) e (λ z. omega arith))

  idle_phase : (st : Stage C) (p : Phase C R) → IsIdle st → IsInStage st p → (p ≡ away) ⊎ (p ≡ free)
  idle_phase Spent p h i = absurd h
  idle_phase (Maker k) p h i = absurd h
  idle_phase (Away q) p h i = inl i
  idle_phase (Free q) p h i = inr i
  idle_phase (Asking q k) p h i = absurd h
  idle_phase (Token q) p h i = absurd h

  idle_shows : (words : List ℕ) (homes : List (Option (Slot C R S))) (works : List (Work E C R)) (r : Serves served n words homes works) (id q : ℕ) (v : Work E C R) (st : Stage C) → get_elem? works id ≡ some v → v.stage ≡ st → IsClient q st → IsIdle st → ShowsIdle served q (get_or words (state_word q) 0) r.world.desk.hist v
  idle_shows words homes works r id q v st at is h idle = let k = r.each_seat id v at in let cl = k.client q (subst (IsClient q) (sym is) h) in let o : Client E C R = r.world.truth q in let few = r.sound.few in let small = cl.made_it in let inside : q < n = omega arith in let rec = r.stored.each_client q inside in
      let F : Phase C R → Type 0 = λ p. (word_of p ≡ 0) × (own r.world.desk.hist q ≡ o.entered) × (replies r.world.desk.hist q ≡ o.got) in
      let at_rest : (p : Phase C R) → (p ≡ away) ⊎ (p ≡ free) → IsInPhase served r.world.desk q (record o { phase = p }) → F p = λ p e h. resting r.world.desk q o p e h in
      let f : F o.phase = at_rest o.phase (idle_phase st o.phase idle (subst (λ (z : Stage C). IsInStage z o.phase) is cl.stage)) rec.phase in record { idle = rec.word ∙ f.0; calls = f.1 ∙ sym cl.entered; answers = f.2 ∙ sym cl.got }

  -- what its own state word tells a client, by how far it is
  shows : (words : List ℕ) (homes : List (Option (Slot C R S))) (works : List (Work E C R)) (r : Serves served n words homes works) (id q : ℕ) (v : Work E C R) (st : Stage C) → get_elem? works id ≡ some v → v.stage ≡ st → IsClient q st → Shows served q (get_or words (state_word q) 0) r.world.desk.hist v st
  shows words homes works r id q v Spent at is h = absurd h
  shows words homes works r id q v (Maker k) at is h = absurd h
  shows words homes works r id q v (Token k) at is h = absurd h
  shows words homes works r id q v (Away a) at is h = idle_shows words homes works r id q v (Away a) at is h tt
  shows words homes works r id q v (Free a) at is h = idle_shows words homes works r id q v (Free a) at is h tt
  shows words homes works r id q v (Asking a c) at is h = let k = r.each_seat id v at in let cl = k.client q (subst (IsClient q) (sym is) h) in let o : Client E C R = r.world.truth q in
      let few = r.sound.few in let small = cl.made_it in let inside : q < n = omega arith in let rec = r.stored.each_client q inside in let flies : IsInFlight c o.phase = subst (λ (s : Stage C). IsInStage s o.phase) is cl.stage in
      let bounds = in_flight c o.phase flies in let low = bounds.0 in let high = bounds.1 in let word : get_or words (state_word q) 0 ≡ word_of o.phase = rec.word in record {
        asks = omega arith;
        below = omega arith;
        dealt = λ past e. dealt_unposted o.phase (cl.past past) (sym word ∙ e);
        answered = λ found. word ∙ cl.found found;
        waits = λ f. waiting r.world.desk q o c o.phase v cl.entered cl.got flies (⊎_elim (λ e. inl (sym word ∙ e)) (λ t. inr (cl.past t.0, λ e. t.1 (word ∙ e))) f) rec.phase;
      }

  own_look : (words : List ℕ) (homes : List (Option (Slot C R S))) (works : List (Work E C R)) (r : Serves served n words homes works) (id q : ℕ) (me : Me (Slot C R S) (View (Work E C R))) → get_elem? works id ≡ some me.0.work → IsClient q me.0.work.stage
      → LooksAtOwn served me (with_work (seeing r.world.desk.hist (get_or words (state_word q) 0) me.0.work) me.0, me.1) (get_or words (state_word q) 0)
  own_look words homes works r id q me at was = let k = r.each_seat id me.0.work at in record {
    client = q;
    history = r.world.desk.hist;
    is_client = was;
    later = record { later = k.saw; is_legal = r.sound.is_legal };
    told = k.was_told;
    shows = shows words homes works r id q me.0.work me.0.work.stage at refl was;
    left = refl;
  }

  -- a client whose word is 4 asks
  asks_at : (q : ℕ) (st : Stage C) (p : Phase C R) → IsClient q st → IsInStage st p → word_of p ≡ 4 → (c : C) × (st ≡ Asking q c)
  asks_at q Spent p h i e = absurd h
  asks_at q (Maker k) p h i e = absurd h
  asks_at q (Away c) p h i e = absurd (let z = ap word_of i in omega arith)
  asks_at q (Free c) p h i e = absurd (let z = ap word_of i in omega arith)
  asks_at q (Asking c k) p h i e = (k, λ j. Asking (h j) k)
  asks_at q (Token c) p h i e = absurd h

  pub collect : KeptByCollect served n
  collect size id q me was = let v : Work E C R = me.0.work in let then : ℕ → Me (Slot C R S) (View (Work E C R)) → Type 0 = λ k m'. reply_collected served me m' k in
      let half : ℕ → Me (Slot C R S) (Work E C R) → Type 0 = λ k m'. then k (with_work m'.0 me.0, m'.1) in
      lift n (Serves served n) size id (state_word q) (λ k. either (eqb k 4) 0 k) me half then (λ e. state_from_head q (sym e)) (λ r e. state_from_next q r (sym e))
      (λ s r sz at _. let found : ℕ = get_or s.words (state_word q) 0 in
      let k = r.each_seat id v at in let cl = k.client q was in let o : Client E C R = r.world.truth q in
      let few = r.sound.few in let small = cl.made_it in let inside : q < n = omega arith in let rec = r.stored.each_client q inside in let hist : List E = r.world.desk.hist in
      let F : ℕ → Type 0 = λ x. (w : Work E C R) × (a : Act (Slot C R S)) × Valid s.homes me.1 a × Half (stepped s (state_word q) x id me.1 w a) × half found (w, carried_after me.1 a) in
      exchanged found 4 0 F
      (λ hit. let asked = asks_at q v.stage o.phase was cl.stage (sym rec.word ∙ hit) in let c : C = asked.0 in let is : v.stage ≡ Asking q c = asked.1 in let flies : IsInFlight c o.phase = subst (λ (st : Stage C). IsInStage st o.phase) is cl.stage in ⊎_elim
      (λ (e : o.phase ≡ refused c). let old : IsInPhase served r.world.desk q (record o { phase = refused c }) = subst (λ (p : Phase C R). IsInPhase served r.world.desk q (record o { phase = p })) e rec.phase in
      let t : Client E C R = record o { phase = free } in (
        told.refused q hist v,
        takes q slots.Memory,
        rec.home ∙ ap (λ (p : Phase C R). some (home_of p)) e,
        client_step served n s.words s.homes s.views r id q 0 none v t (Free q) hist false at was refl record { posts = omega arith; begun = omega arith; dealt = λ _ _. tt } refl
            refl refl record { calls = old.calls; even = old.even; replies_are = old.replies_are; settled = old.settled; was_parked = tt; taken_is = old.taken_is } refl (λ f. absurd (false≢true f)) (all_of hist) (λ _. refl) (told.refused q hist v)
            (λ i. record v { stage = Free q; seen = hist; entered = cl.entered i; got = cl.got i; posts = cl.posts i; past = false; found = 0 }),
        record { hit = λ _. record { client = q; call = c; history = hist; answer = Refused; asked = is; later = record { later = k.saw; is_legal = r.sound.is_legal }; calls = old.calls ∙ sym cl.entered; answers = old.replies_are ∙ sym cl.got; left = refl }; miss = λ other. absurd (other hit) },
      ))
      (λ (y : (x : R) × (o.phase ≡ replied c x)). let x : R = y.0 in let e : o.phase ≡ replied c x = y.1 in
      let old : IsInPhase served r.world.desk q (record o { phase = replied c x }) = subst (λ (p : Phase C R). IsInPhase served r.world.desk q (record o { phase = p })) e rec.phase in
      let t : Client E C R = record o { phase = free; entered = o.entered ++ c ∷ []; got = o.got ++ x ∷ [] } in (
        answered q c x hist v,
        takes q (slots.Reply x),
        rec.home ∙ ap (λ (p : Phase C R). some (home_of p)) e,
        client_step served n s.words s.homes s.views r id q 0 none v t (Free q) hist false at was refl record { posts = omega arith; begun = omega arith; dealt = λ _ _. tt } refl
            refl refl record {
              calls = old.calls;
              even = let a = length-append o.entered (c ∷ []) in let b = length-append o.got (x ∷ []) in let same = old.even in omega arith;
              replies_are = old.replies_are;
              settled = old.settled;
              was_parked = tt;
              taken_is = old.taken_is;
            } refl (λ f. absurd (false≢true f)) (all_of hist) (λ _. refl) (answered q c x hist v)
            (λ i. record v { stage = Free q; seen = hist; entered = cl.entered i ++ c ∷ []; got = cl.got i ++ x ∷ []; posts = cl.posts i; past = false; found = 0 }),
        record {
          hit = λ _. record { client = q; call = c; history = hist; answer = Replied x; asked = is; later = record { later = k.saw; is_legal = r.sound.is_legal }; calls = old.calls ∙ ap (λ (l : List C). l ++ c ∷ []) (sym cl.entered); answers = old.replies_are ∙ ap (λ (l : List R). l ++ x ∷ []) (sym cl.got); left = refl };
          miss = λ other. absurd (other hit);
        },
      ))
      (four c o.phase (sym rec.word ∙ hit) flies))
      (λ miss. (seeing hist found v, keeps, tt, sees s.words s.homes s.views r id q v at was, record { hit = λ hit. absurd (miss hit); miss = λ _. own_look s.words s.homes s.views r id q me at was })))
      (λ _ _ _ h. h)

  pub fetch : KeptByFetch served n
  fetch size id q me is = let v : Work E C R = me.0.work in let then : ℕ → Me (Slot C R S) (View (Work E C R)) → Type 0 = λ k m'. Fetches me m' in
      let half : ℕ → Me (Slot C R S) (Work E C R) → Type 0 = λ k m'. then k (with_work m'.0 me.0, m'.1) in
      lift n (Serves served n) size id (state_word q) (λ k. k) me half then (λ e. state_from_head q (sym e)) (λ r e. state_from_next q r (sym e))
      (λ s r sz at _. let k = r.each_seat id v at in let was : IsClient q v.stage = subst (IsClient q) (sym is) refl in let cl = k.client q was in let o : Client E C R = r.world.truth q in
      let few = r.sound.few in let small = cl.made_it in let inside : q < n = omega arith in let rec = r.stored.each_client q inside in
      let phase : o.phase ≡ away = subst (λ (st : Stage C). IsInStage st o.phase) is cl.stage in
      let old : IsInPhase served r.world.desk q (record o { phase = away }) = subst (λ (p : Phase C R). IsInPhase served r.world.desk q (record o { phase = p })) phase rec.phase in (
        told.fetched q v,
        takes q slots.Empty,
        rec.home ∙ ap (λ (p : Phase C R). some (home_of p)) phase,
        client_step served n s.words s.homes s.views r id q (get_or s.words (state_word q) 0) none v (record o { phase = free }) (Free q) v.seen v.past at was refl record { posts = omega arith; begun = omega arith; dealt = λ _ _. tt } refl
            (rec.word ∙ ap (λ (p : Phase C R). word_of p) phase) refl record { calls = old.calls; even = old.even; replies_are = old.replies_are; settled = old.settled; was_parked = tt; taken_is = old.taken_is } refl (λ _. tt) k.saw (λ h. (k.combines h).seen)
            (told.fetched q v) (λ i. record v { stage = Free q; seen = v.seen; entered = cl.entered i; got = cl.got i; posts = cl.posts i; past = v.past; found = 0 }),
        record { client = q; away = is; left = refl },
      ))
      (λ _ _ _ h. h)

  -- a seat that sees nothing is as it was
  pub idle : (s : State (Slot C R S) (Work E C R)) (i id : ℕ) (v : Work E C R) → get_elem? s.views id ≡ some v → Half s → Serves served n (set s.words i (get_or s.words i 0)) s.homes (set s.views id v)
  idle s i id v at r = subst (λ (ws : List ℕ). Serves served n ws s.homes (set s.views id v)) (sym (set-get_or s.words i 0)) (subst (Serves served n s.words s.homes) (sym (set_again s.views id v at)) r)

  give_half : (size id q : ℕ) (v : Work E C R) (hands : List (ℕ × Slot C R S)) → v.stage ≡ Free q → Allows Half size id (v, (q, slots.Empty) ∷ hands) (state_word q) (λ k. k) (λ _ m'. m' ≡ (told.given q v, hands))
  give_half size id q v hands is s r sz at _ = let k = r.each_seat id v at in let was : IsClient q v.stage = subst (IsClient q) (sym is) refl in let cl = k.client q was in let o : Client E C R = r.world.truth q in
      let few = r.sound.few in let small = cl.made_it in let inside : q < n = omega arith in let rec = r.stored.each_client q inside in
      let phase : o.phase ≡ free = subst (λ (st : Stage C). IsInStage st o.phase) is cl.stage in
      let old : IsInPhase served r.world.desk q (record o { phase = free }) = subst (λ (p : Phase C R). IsInPhase served r.world.desk q (record o { phase = p })) phase rec.phase in (
        told.given q v,
        gives,
        tt,
        client_step served n s.words s.homes s.views r id q (get_or s.words (state_word q) 0) (some slots.Empty) v (record o { phase = away }) (Away q) v.seen v.past at was refl record { posts = omega arith; begun = omega arith; dealt = λ _ _. tt } refl
            (rec.word ∙ ap (λ (p : Phase C R). word_of p) phase) refl record { calls = old.calls; even = old.even; replies_are = old.replies_are; settled = old.settled; was_parked = tt; taken_is = old.taken_is } refl (λ _. tt) k.saw (λ h. (k.combines h).seen)
            (told.given q v) (λ i. record v { stage = Away q; seen = v.seen; entered = cl.entered i; got = cl.got i; posts = cl.posts i; past = v.past; found = 0 }),
        refl,
      )

  give_other : (size id q : ℕ) (v : Work E C R) (hands : List (ℕ × Slot C R S)) → IsAtHome v.stage → Allows Half size id (v, hands) (state_word q) (λ k. k) (λ _ m'. m' ≡ (v, hands))
  give_other size id q v hands home s r sz at _ = (v, keeps, tt, idle s (state_word q) id v at r, refl)

  pub give : KeptByGive served n
  give size id q me was hands = ⊎_elim
      (λ (is : me.0.work.stage ≡ Free q). lift n (Serves served n) size id (state_word q) (λ k. k) me (λ _ m'. m' ≡ (told.given q me.0.work, rest me.1)) (λ k m'. slot_given me m')
      (λ e. state_from_head q (sym e)) (λ r e. state_from_next q r (sym e))
      (subst (λ (h : List (ℕ × Slot C R S)). Allows Half size id (me.0.work, h) (state_word q) (λ k. k) (λ _ m'. m' ≡ (told.given q me.0.work, rest me.1))) (sym (hands is)) (give_half size id q me.0.work (rest me.1) is))
      (λ _ w h e. inl record { client = q; free = is; held = hands is; left = ap (λ (z : Work E C R × List (ℕ × Slot C R S)). (with_work z.0 me.0, z.1)) e }))
      (λ (home : IsAtHome me.0.work.stage). lift n (Serves served n) size id (state_word q) (λ k. k) me (λ _ m'. m' ≡ (me.0.work, me.1)) (λ k m'. slot_given me m')
      (λ e. state_from_head q (sym e)) (λ r e. state_from_next q r (sym e)) (give_other size id q me.0.work me.1 home)
      (λ _ w h e. inr (home, ap (λ (z : Work E C R × List (ℕ × Slot C R S)). (with_work z.0 me.0, z.1)) e)))
      (free_or_home q me.0.work.stage was)

  pub watch : KeptByWatch served n
  watch size id q me was = let v : Work E C R = me.0.work in let half : ℕ → Me (Slot C R S) (Work E C R) → Type 0 = λ k m'. LooksAtOwn served me (with_work m'.0 me.0, m'.1) k in
      lift n (Serves served n) size id (state_word q) (λ k. k) me half (λ k m'. LooksAtOwn served me m' k) (λ e. state_from_head q (sym e)) (λ r e. state_from_next q r (sym e))
      (λ s r sz at _. (seeing r.world.desk.hist (get_or s.words (state_word q) 0) v, keeps, tt, sees s.words s.homes s.views r id q v at was, own_look s.words s.homes s.views r id q me at was))
      (λ _ _ _ h. h)

  state_below : (p : Phase C R) → word_of p < 5
  state_below away = omega arith
  state_below free = omega arith
  state_below (posted a) = omega arith
  state_below (taken a) = omega arith
  state_below (parked a) = omega arith
  state_below (resumed a) = omega arith
  state_below (refused a) = omega arith
  state_below (replied a x) = omega arith

  pub look : KeptByLook served n
  look size id q me inside = let v : Work E C R = me.0.work in let half : ℕ → Me (Slot C R S) (Work E C R) → Type 0 = λ k m'. (k < 5) × ((with_work m'.0 me.0, m'.1) ≡ me) in
      lift n (Serves served n) size id (state_word q) (λ k. k) me half (λ k m'. (k < 5) × (m' ≡ me)) (λ e. state_from_head q (sym e)) (λ r e. state_from_next q r (sym e))
      (λ s r sz at _. let rec = r.stored.each_client q inside in let below = state_below (r.world.truth q).phase in let word = rec.word in (v, keeps, tt, idle s (state_word q) id v at r, (omega arith, refl)))
      (λ _ _ _ h. h)
