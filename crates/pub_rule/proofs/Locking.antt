-- The steps on the lock word keep the rule.
use Rattle.std.proofs.Common.{◌≡◌, ◌≢◌, ◌⊎◌, ℕ, true, false, eqb, ◌+◌, ◌-◌, ◌<◌, ◌≤◌, List, [], ◌∷◌, ◌++◌, length, get_or, set, sym, refl, ap, ◌∙◌, subst, inl, inr, ⊎_elim, arith, length-append, length-set, get_or-set_other, get_or-set_same}
use Rattle.std.proofs.lemmas.Bool.{false≢true}
use mathlib.Core.Logic.{dite}
use mathlib.Core.Option.{Option, none, some}
use native.Mathlib.Decide.{ℕ_discrete}
use prog.Atomic.{either}
use lib.ListN.{get_elem?}
use lib.Seq.{set-get_or}
use Rattle.atomic_table.specs.Table.{State, Me, Act, keeps, takes, gives, Valid, stepped, carried_after, Allows, rest}
use Rattle.atomic_table.proofs.Lists.{exchanged, set_here, set_else}
use Rattle.pub_rule.specs.declared.served.Served.{Ghosts}
use Rattle.pub_rule.specs.declared.walk.View.{View}
use Rattle.pub_rule.specs.declared.work.Work.{Work}
use Rattle.pub_rule.specs.declared.work.Serving.{Serving}
use Rattle.pub_rule.specs.declared.work.Serving.TheVariants.{Nothing}
use Rattle.pub_rule.specs.declared.served.Slot.{Slot}
use Rattle.pub_rule.specs.declared.served.Slot.TheVariants as slots
use Rattle.pub_rule.specs.Words.{lock_word, state_word}
use Rattle.pub_rule.specs.Lists.{IsOn}
use Rattle.pub_rule.specs.Work.{GoesOn, Phase, away, free, posted, taken, parked, resumed, refused, replied, HasReplies, IsSettled, Client, Desk, word_of, home_of, HasRecord, IsUnheld, IsHeld, IsInPhase, IsClient, Tells, Serves}
use Rattle.pub_rule.specs.WorkSteps.{with_work, holding, meeting, state_seized, lock_peeked, released, state_released}
use Rattle.pub_rule.specs.WorkLaws.{KeptBySeize, KeptByPeekLock, KeptByRelease}
use Rattle.pub_rule.proofs.Numbers.{lock_from_head, lock_from_next, lock_within, state_from_lock}
use Rattle.pub_rule.proofs.Moves.{after, Follows, follows_itself, stays_itself, sole, put_case, put_at, steps, mine_by, met_still, heard_still, passed_still, view_step}
use Rattle.pub_rule.proofs.Lift.{Served, lift}
use Rattle.pub_rule.proofs.Clientwork.{all_of, idle}

module _ {E C R S : Type 0} (served : Ghosts S E C R) (n : ℕ) where
  open served use {history, legal, own, replies}

  abbrev Half : State (Slot C R S) (Work E C R) → Type 0
  Half = Served n (Serves served n)

  module _ (words : List ℕ) (homes : List (Option (Slot C R S))) (works : List (Work E C R)) (s : Serves served n words homes works) where
    seizes : (id p : ℕ) (v : Work E C R) → get_elem? works id ≡ some v → IsClient p v.stage → IsUnheld served n homes s.world
        → Serves served n (set words lock_word (p + 1)) (set homes n none) (set works id (holding s.world.desk.hist v))
    seizes id p v at was u = let k = s.each_seat id v at in let c = k.client p was in let few = s.sound.few in let deep = s.stored.sized in let o : Client E C R = s.world.truth p in let t : Client E C R = record o { begun = o.begun + 1 } in
        let f : Follows o t = record { posts = omega arith; begun = omega arith; dealt = λ _ h. h } in let words' : List ℕ = set words lock_word (p + 1) in let homes' : List (Option (Slot C R S)) = set homes n none in
        let w : Work E C R = holding s.world.desk.hist v in
        let record_of : (r : ℕ) → r < n → (b : Client E C R) → IsInPhase served s.world.desk r b → b.phase ≡ (s.world.truth r).phase → HasRecord served words' homes' s.world.desk r b = λ r l b h same. let old = s.stored.each_client r l in record {
          word = get_or-set_other words lock_word (state_word r) (p + 1) 0 (state_from_lock r) ∙ (old.word ∙ ap (λ z. word_of z) (sym same));
          home = set_else homes n r none (λ e. omega arith) ∙ (old.home ∙ ap (λ z. some (home_of z)) (sym same));
          phase = h;
        } in
        steps served n words homes works s id p t f (λ other. absurd (other c.seat_is)) (p + 1) s.world.desk (all_of s.world.desk.hist)
        (λ r other. let zero = u.zero in ((λ e. absurd (omega arith)), λ _ e. let same : r ≡ p = omega arith in other (ap s.world.seat same ∙ c.seat_is))) (λ _ _ _ _ _ h. h) words' homes' w
        (get_or-set_same words lock_word (p + 1) 0 (subst (λ (z : ℕ). lock_word < z) (sym s.stored.wide) (lock_within n))) (length-set words lock_word (p + 1) ∙ s.stored.wide) (length-set homes n none ∙ s.stored.sized) s.sound.is_legal
        (inr record { holder = p; client = c.made_it; live = c.live; number = refl; home = set_here homes n none (omega arith); begun = subst (λ (b : Client E C R). 1 ≤ b.begun) (sym (put_at s.world.truth p t p refl)) (omega arith) })
        s.sound.taken_below c.made_it
        (λ r l. put_case (HasRecord served words' homes' s.world.desk r) s.world.truth p t r
        (λ e. record_of r l t (subst (λ (z : ℕ). IsInPhase served s.world.desk z t) (sym e)
        (let h = (s.stored.each_client p (subst (λ (z : ℕ). z < n) e l)).phase in record { calls = h.calls; even = h.even; replies_are = h.replies_are; settled = h.settled; was_parked = h.was_parked; taken_is = h.taken_is })) (ap (λ (z : ℕ). (s.world.truth z).phase) (sym e)))
        (λ _. record_of r l (s.world.truth r) (s.stored.each_client r l).phase refl))
        (mine_by served n words homes works s id p t (p + 1) s.world.desk p w was
        (subst (λ (b : Client E C R). Tells (after served n words homes works s p t (p + 1) s.world.desk) id p w b) (sym (put_at s.world.truth p t p refl)) record {
          made_it = c.made_it;
          live = c.live;
          seat_is = c.seat_is;
          stage = c.stage;
          entered = c.entered;
          got = c.got;
          posts = c.posts;
          begun = ap (λ (z : ℕ). z + 1) c.begun;
          past = c.past;
          found = c.found;
          holds = λ _. refl;
          waits = λ e. absurd (false≢true (sym e));
        })
        (λ _. record { client = (p, was); seen = refl; before = sym u.before; paid = sym u.paid; serving = sym u.nothing }) (all_of s.world.desk.hist) (s.each_seat id v at).was_told
        (met_still served n words homes works s id p t f id v at) (heard_still served n words homes works s id p t f id v at) (passed_still served n words homes works s id p t f id v at))

  -- where the lock isn't 0, the seat has met the client that it names
  meets : (s : State (Slot C R S) (Work E C R)) (r : Half s) (id : ℕ) (v : Work E C R) → get_elem? s.views id ≡ some v → v.holds ≡ false → get_or s.words lock_word 0 ≢ 0
      → (c : ℕ) × Serves served n (set s.words lock_word (get_or s.words lock_word 0)) s.homes (set s.views id (meeting c v)) × (get_or s.words lock_word 0 ≡ c + 1) × (c < n) × ((q : ℕ) → IsClient q v.stage → c ≢ q)
  meets s r id v at waits miss = let found : ℕ = get_or s.words lock_word 0 in let k = r.each_seat id v at in ⊎_elim
      (λ u. absurd (miss (r.stored.lock ∙ u.zero)))
      (λ (h : IsHeld served n s.homes r.world). let c : ℕ = h.holder in let few = r.sound.few in let below = h.client in (
        c,
        subst (λ (ws : List ℕ). Serves served n ws s.homes (set s.views id (meeting c v))) (sym (set-get_or s.words lock_word 0))
            (view_step served n s.words s.homes s.views r id (meeting c v) record {
              maker = k.maker;
              client = λ q is. let d = k.client q is in record { made_it = d.made_it; live = d.live; seat_is = d.seat_is; stage = d.stage; entered = d.entered; got = d.got; posts = d.posts; begun = d.begun; past = d.past; found = d.found; holds = d.holds; waits = d.waits };
              token = k.token;
              combines = λ e. let b = k.combines e in record { client = b.client; seen = b.seen; before = b.before; paid = b.paid; serving = b.serving };
              saw = k.saw;
              was_told = k.was_told;
              met = λ q on. ⊎_elim (λ (e : q ≡ c). subst (λ (z : ℕ). (z < r.world.made) × (1 ≤ (r.world.truth z).begun)) (sym e) (h.client, h.begun)) (λ t. k.met q t) on;
              heard = k.heard;
              passed = k.passed;
            }),
        r.stored.lock ∙ h.number,
        omega arith,
        λ q is e. (k.client q is).waits waits (h.number ∙ ap (λ (z : ℕ). z + 1) e),
      )) r.state

  pub seize : KeptBySeize served n
  seize size id p me idling = let v : Work E C R = me.0.work in let then : ℕ → Me (Slot C R S) (View (Work E C R)) → Type 0 = λ k m'. state_seized served me m' (size - 1) k in
      let half : ℕ → Me (Slot C R S) (Work E C R) → Type 0 = λ k m'. then k (with_work m'.0 me.0, m'.1) in
      lift n (Serves served n) size id lock_word (λ k. either (eqb k 0) (p + 1) k) me half then (λ e. lock_from_head (sym e)) (λ r e. lock_from_next r (sym e))
      (λ s r sz at _. let found : ℕ = get_or s.words lock_word 0 in let k = r.each_seat id v at in let deep = r.stored.sized in let counted : n ≡ size - 1 = omega arith in
      let F : ℕ → Type 0 = λ x. (w : Work E C R) × (a : Act (Slot C R S)) × Valid s.homes me.1 a × Half (stepped s lock_word x id me.1 w a) × half found (w, carried_after me.1 a) in
      exchanged found 0 (p + 1) F
      (λ hit. ⊎_elim
      (λ (u : IsUnheld served n s.homes r.world). (
        holding r.world.desk.hist v,
        takes n (slots.State u.state),
        u.home,
        seizes s.words s.homes s.views r id p v at idling.client u,
        record {
          hit = λ _. record {
            state = u.state;
            later = record { later = subst (GoesOn v.seen) (sym u.is) k.saw; is_legal = subst legal (sym u.is) r.sound.is_legal };
            left = λ i. (with_work (holding (sym u.is i) v) me.0, (counted i, slots.State u.state) ∷ me.1);
          };
          miss = λ other. absurd (other hit);
        },
      ))
      (λ h. let number = h.number in let word = r.stored.lock in absurd (omega arith)) r.state)
      (λ miss. let h = meets s r id v at idling.waits miss in let below = h.3 in (meeting h.0 v, keeps, tt, h.1, record { hit = λ hit. absurd (miss hit); miss = λ _. record { holder = h.0; named = h.2; below = omega arith; other = h.4; left = refl } })))
      (λ _ _ _ h. h)

  pub peek_lock : KeptByPeekLock served n
  peek_lock size id p me idling = let v : Work E C R = me.0.work in let then : ℕ → Me (Slot C R S) (View (Work E C R)) → Type 0 = λ k m'. lock_peeked me m' (size - 1) k in
      let half : ℕ → Me (Slot C R S) (Work E C R) → Type 0 = λ k m'. then k (with_work m'.0 me.0, m'.1) in
      lift n (Serves served n) size id lock_word (λ k. k) me half then (λ e. lock_from_head (sym e)) (λ r e. lock_from_next r (sym e))
      (λ s r sz at _. let found : ℕ = get_or s.words lock_word 0 in let deep = r.stored.sized in
      let F : ℕ → Type 0 = λ x. (w : Work E C R) × (a : Act (Slot C R S)) × Valid s.homes me.1 a × Half (stepped s lock_word x id me.1 w a) × half found (w, carried_after me.1 a) in
      let answer : F found = dite (ℕ_discrete found 0)
      (λ hit. (v, keeps, tt, idle served n s lock_word id v at r, record { hit = λ _. refl; miss = λ other. absurd (other hit) }))
      (λ miss. let h = meets s r id v at idling.waits miss in let below = h.3 in (meeting h.0 v, keeps, tt, h.1, record { hit = λ hit. absurd (miss hit); miss = λ _. record { holder = h.0; named = h.2; below = omega arith; other = h.4; left = refl } })) in answer)
      (λ _ _ _ h. h)

  -- where nothing is owed, a parked client's replies are those it got
  settled : (d : Desk E C) (r : ℕ) (got : List R) (p : Phase C R) → (replies d.hist r ≡ replies d.before r) ⊎ IsOn r d.paid → HasReplies served d r got p → HasReplies served (record d { before = d.hist; paid = [] }) r got p
  settled d r got away owed h = h
  settled d r got free owed h = h
  settled d r got (posted c) owed h = h
  settled d r got (taken c) owed h = h
  settled d r got (parked c) owed h = ⊎_elim (λ e. (e, inl e)) (λ y. absurd (⊎_elim
      (λ (same : replies d.hist r ≡ replies d.before r). let x : R = y.0 in let e : length (got ++ x ∷ []) ≡ length got = ap length (sym y.1 ∙ (same ∙ h.0)) in let a = length-append got (x ∷ []) in omega arith) (λ on. y.2 on) owed)) h.1
  settled d r got (resumed c) owed h = h
  settled d r got (refused c) owed h = h
  settled d r got (replied c x) owed h = h

  -- nothing came since
  settles : (h : List E) (p : Phase C R) (r : ℕ) (serving : Serving C) → IsSettled served (record { hist = h; before = h; paid = []; serving = serving }) r p
  settles h away r serving = inl refl
  settles h free r serving = inl refl
  settles h (posted c) r serving = inl refl
  settles h (taken c) r serving = inl refl
  settles h (parked c) r serving = tt
  settles h (resumed c) r serving = tt
  settles h (refused c) r serving = inl refl
  settles h (replied c x) r serving = inl refl

  release_half : (size id p : ℕ) (x : S) (v : Work E C R) (hands : List (ℕ × Slot C R S)) → IsClient p v.stage → v.holds ≡ true → v.serving ≡ Nothing → history x ≡ v.seen → ((r : ℕ) → r < n → (replies v.seen r ≡ replies v.before r) ⊎ IsOn r v.paid)
      → Allows Half size id (v, (n, slots.State x) ∷ hands) lock_word (λ _. 0) (λ _ m'. m' ≡ (released v, hands))
  release_half size id p x v hands was holds nothing is owes st s sz at _ = let k = s.each_seat id v at in let c = k.client p was in let b = k.combines holds in let few = s.sound.few in let deep = s.stored.sized in let o : Client E C R = s.world.truth p in
      let lock : s.world.lock ≡ p + 1 = c.holds holds in let words' : List ℕ = set st.words lock_word 0 in let homes' : List (Option (Slot C R S)) = set st.homes n (some (slots.State x)) in
      let desk' : Desk E C = record s.world.desk { before = s.world.desk.hist; paid = [] } in let idle : s.world.desk.serving ≡ Nothing = sym b.serving ∙ nothing in let w : Work E C R = released v in
      let owed : (r : ℕ) → r < n → (replies s.world.desk.hist r ≡ replies s.world.desk.before r) ⊎ IsOn r s.world.desk.paid = λ r l. ⊎_elim (λ e. inl (ap (λ (h : List E). replies h r) (sym b.seen) ∙ (e ∙ ap (λ (h : List E). replies h r) b.before))) (λ on. inr (subst (IsOn r) b.paid on)) (owes r l) in
      let before_record : (r : ℕ) → r < n → HasRecord served words' homes' desk' r (s.world.truth r) = λ r l. let old = s.stored.each_client r l in let h = old.phase in record {
        word = get_or-set_other st.words lock_word (state_word r) 0 0 (state_from_lock r) ∙ old.word;
        home = set_else st.homes n r (some (slots.State x)) (λ e. omega arith) ∙ old.home;
        phase = record { calls = h.calls; even = h.even; replies_are = settled s.world.desk r (s.world.truth r).got (s.world.truth r).phase (owed r l) h.replies_are; settled = settles s.world.desk.hist (s.world.truth r).phase r s.world.desk.serving; was_parked = h.was_parked; taken_is = h.taken_is };
      } in (
        w,
        gives,
        tt,
        steps served n st.words st.homes st.views s id p o (follows_itself o) (λ _. stays_itself o) 0 desk' (all_of s.world.desk.hist)
            (λ r other. ((λ e. let same : r ≡ p = omega arith in absurd (other (ap s.world.seat same ∙ c.seat_is))), λ _ e. absurd (omega arith)))
            (λ j u other there h _. absurd (sole served n st.words st.homes st.views s id p v at was holds j u other there h)) words' homes' w
            (get_or-set_same st.words lock_word 0 0 (subst (λ (z : ℕ). lock_word < z) (sym s.stored.wide) (lock_within n))) (length-set st.words lock_word 0 ∙ s.stored.wide) (length-set st.homes n (some (slots.State x)) ∙ s.stored.sized) s.sound.is_legal
            (inl record { zero = refl; state = x; home = set_here st.homes n (some (slots.State x)) (omega arith); is = is ∙ b.seen; before = refl; paid = refl; nothing = idle })
            s.sound.taken_below c.made_it
            (λ r l. put_case (HasRecord served words' homes' desk' r) s.world.truth p o r (λ e. subst (λ (z : ℕ). HasRecord served words' homes' desk' r (s.world.truth z)) e (before_record r l)) (λ _. before_record r l))
            (mine_by served n st.words st.homes st.views s id p o 0 desk' p w was
            (subst (λ (z : Client E C R). Tells (after served n st.words st.homes st.views s p o 0 desk') id p w z) (sym (put_at s.world.truth p o p refl)) record {
              made_it = c.made_it;
              live = c.live;
              seat_is = c.seat_is;
              stage = c.stage;
              entered = c.entered;
              got = c.got;
              posts = c.posts;
              begun = c.begun;
              past = c.past;
              found = c.found;
              holds = λ e. absurd (false≢true e);
              waits = λ _ e. absurd (omega arith);
            })
            (λ e. absurd (false≢true e)) k.saw k.was_told
            (met_still served n st.words st.homes st.views s id p o (follows_itself o) id v at) (heard_still served n st.words st.homes st.views s id p o (follows_itself o) id v at)
            (passed_still served n st.words st.homes st.views s id p o (follows_itself o) id v at)),
        refl,
      )

  pub release : KeptByRelease served n
  release size id p x me ready is owes hands = lift n (Serves served n) size id lock_word (λ _. 0) me (λ _ m'. m' ≡ (released me.0.work, rest me.1)) (λ k m'. state_released me m')
      (λ e. lock_from_head (sym e)) (λ r e. lock_from_next r (sym e))
      (subst (λ (h : List (ℕ × Slot C R S)). Allows Half size id (me.0.work, h) lock_word (λ _. 0) (λ _ m'. m' ≡ (released me.0.work, rest me.1))) (sym hands) (release_half size id p x me.0.work (rest me.1) ready.client ready.holds ready.serves is owes))
      (λ _ w h e. ap (λ (z : Work E C R × List (ℕ × Slot C R S)). (with_work z.0 me.0, z.1)) e)
