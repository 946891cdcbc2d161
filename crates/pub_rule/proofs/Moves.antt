-- What combiners serve, after a step of one seat.
use Rattle.std.proofs.Common.{◌≡◌, ◌≢◌, ◌⊎◌, ℕ, Bool, true, ◌+◌, ◌<◌, ◌≤◌, List, [], ◌∷◌, ◌++◌, length, get_or, set, sym, refl, ap, ◌∙◌, subst, inl, inr, ⊎_elim, arith, length-set, get_or-set_other, get_or-set_same}
use mathlib.Core.Option.{Option, some}
use native.Mathlib.Decide.{ℕ_discrete}
use lib.ListN.{get_elem?}
use Rattle.atomic_table.proofs.Lists.{at_set, set_here, set_else}
use Rattle.pub_rule.specs.declared.served.Served.{Ghosts}
use Rattle.pub_rule.specs.declared.work.Mark.{Mark}
use Rattle.pub_rule.specs.declared.work.Work.{Work}
use Rattle.pub_rule.specs.declared.work.Closed.{Closed}
use Rattle.pub_rule.specs.declared.work.Stage.{Stage}
use Rattle.pub_rule.specs.declared.work.Stage.TheVariants.{Spent, Maker, Away, Free, Asking, Token}
use Rattle.pub_rule.specs.declared.served.Slot.{Slot}
use Rattle.pub_rule.specs.Words.{lock_word, state_word, word_count}
use Rattle.pub_rule.specs.Lists.{IsOn}
use Rattle.pub_rule.specs.Work.{GoesOn, IsMarked, away, unmade, Client, Desk, World, IsTaken, word_of, home_of, IsDealt, IsInPhase, HasRecord, IsUnheld, IsHeld, IsInStage, IsClient, Tells, Combines, IsNobodys, Trusts, Serves}
use Rattle.pub_rule.proofs.Numbers.{state_within, state_from_state, state_from_lock}

module _ {A : Type 0} where
  abbrev choose : {P : Type 0} → Dec P → A → A → A
  choose (yes _) a b = a
  choose (no _) a b = b

  -- f, but a at i
  pub put : (ℕ → A) → ℕ → A → ℕ → A
  put f i a j = choose (ℕ_discrete j i) a (f j)

  pub put_case : (F : A → Type 0) (f : ℕ → A) (i : ℕ) (a : A) (j : ℕ) → (j ≡ i → F a) → (j ≢ i → F (f j)) → F (put f i a j)
  unfolding put
  put_case F f i a j here else = go (ℕ_discrete j i)
    where
      go : (d : Dec (j ≡ i)) → F (choose d a (f j))
      go (yes e) = here e
      go (no o) = else o

  pub put_at : (f : ℕ → A) (i : ℕ) (a : A) (j : ℕ) → j ≡ i → put f i a j ≡ a
  put_at f i a j e = put_case (λ b. b ≡ a) f i a j (λ _. refl) (λ o. absurd (o e))

module _ {E C R : Type 0} where
  -- what other seats know of a client still holds
  pub record Follows (o t : Client E C R) : Type 0 where
    pub posts : o.posts ≤ t.posts
    pub begun : o.begun ≤ t.begun
    pub dealt : t.posts ≡ o.posts → IsDealt o.phase → IsDealt t.phase

  -- what its own seat knows still holds
  pub record Stays (o t : Client E C R) : Type 0 where
    pub stage : (st : Stage C) → IsInStage st o.phase → IsInStage st t.phase
    pub entered : o.entered ≡ t.entered
    pub got : o.got ≡ t.got
    pub posts : o.posts ≡ t.posts
    pub begun : o.begun ≡ t.begun
    pub dealt : IsDealt o.phase → IsDealt t.phase
    pub ready : word_of o.phase ≡ 4 → word_of t.phase ≡ 4

  pub follows_itself : (o : Client E C R) → Follows o o
  follows_itself o = record { posts = omega arith; begun = omega arith; dealt = λ _ h. h }

  pub stays_itself : (o : Client E C R) → Stays o o
  stays_itself o = record { stage = λ _ h. h; entered = refl; got = refl; posts = refl; begun = refl; dealt = λ h. h; ready = λ h. h }

module _ {E C R S : Type 0} (served : Ghosts S E C R) (n : ℕ) (words : List ℕ) (homes : List (Option (Slot C R S))) (works : List (Work E C R))
    (s : Serves served n words homes works) where
  open served use {legal}

  -- client q becomes t
  abbrev pub after : ℕ → Client E C R → ℕ → Desk E C → World E C R
  after q t lock' desk' = record s.world { truth = put s.world.truth q t; desk = desk'; lock = lock' }

  -- by a step of the seat id
  module _ (id q : ℕ) (t : Client E C R) (f : Follows (s.world.truth q) t) where
    truth' : ℕ → Client E C R
    truth' = put s.world.truth q t

    pub follow : (r : ℕ) → Follows (s.world.truth r) (put s.world.truth q t r)
    follow r = put_case (Follows (s.world.truth r)) s.world.truth q t r (λ e. subst (λ (x : ℕ). Follows (s.world.truth x) t) (sym e) f) (λ _. follows_itself (s.world.truth r))

    pub met_still : (j : ℕ) (v : Work E C R) → get_elem? works j ≡ some v → (r : ℕ) → IsOn r v.met → (r < s.world.made) × (1 ≤ (put s.world.truth q t r).begun)
    met_still j v at r on = let k = (s.each_seat j v at).met r on in let a = (follow r).begun in let b = k.1 in (k.0, omega arith)

    pub heard_still : (j : ℕ) (v : Work E C R) → get_elem? works j ≡ some v → (r k : ℕ) → IsMarked r k v.heard → (r < s.world.made) × (k ≤ (put s.world.truth q t r).posts)
    heard_still j v at r m on = let k = (s.each_seat j v at).heard r m on in let a = (follow r).posts in let b = k.1 in (k.0, omega arith)

    pub passed_still : (j : ℕ) (v : Work E C R) → get_elem? works j ≡ some v → (r k : ℕ) → IsMarked r k v.passed
        → (r < s.world.made) × (k ≤ (put s.world.truth q t r).posts) × ((put s.world.truth q t r).posts ≡ k → IsDealt (put s.world.truth q t r).phase)
    passed_still j v at r m on = let k = (s.each_seat j v at).passed r m on in let a = (follow r).posts in let b = k.1 in
        (k.0, omega arith, λ e. (follow r).dealt (omega arith) (k.2 (omega arith)))

    module _ (stay : s.world.seat q ≢ id → Stays (s.world.truth q) t) (lock' : ℕ) (desk' : Desk E C) (on : GoesOn s.world.desk.hist desk'.hist)
        (locks : (r : ℕ) → s.world.seat r ≢ id → (s.world.lock ≡ r + 1 → lock' ≡ r + 1) × (s.world.lock ≢ r + 1 → lock' ≢ r + 1))
        (combine : (j : ℕ) (u : Work E C R) → j ≢ id → get_elem? works j ≡ some u → u.holds ≡ true → Combines s.world.desk u → Combines desk' u) where
      stay_all : (r : ℕ) → s.world.seat r ≢ id → Stays (s.world.truth r) (put s.world.truth q t r)
      stay_all r other = put_case (Stays (s.world.truth r)) s.world.truth q t r (λ e. subst (λ (x : ℕ). Stays (s.world.truth x) t) (sym e) (stay (λ same. other (ap s.world.seat e ∙ same)))) (λ _. stays_itself (s.world.truth r))

      pub goes_on : (h : List E) → GoesOn h s.world.desk.hist → GoesOn h desk'.hist
      goes_on h g = (g.0 ++ on.0, on.1 ∙ (ap (λ (l : List E). l ++ on.0) g.1 ∙ append_all h g.0 on.0))
        where
          append_all : (a b c : List E) → (a ++ b) ++ c ≡ a ++ (b ++ c)
          append_all [] b c = refl
          append_all (x ∷ a) b c = ap (λ (l : List E). x ∷ l) (append_all a b c)

      nobodys : (j : ℕ) (closed : List (Closed E C R)) (st : Stage C) → j ≢ id → IsNobodys s.world j closed st → IsNobodys (after q t lock' desk') j closed st
      nobodys j closed Spent other b = record {
        distinct = b.distinct;
        on = b.on;
        told = λ c h. let g = b.told c h in let a = stay_all c.client (λ e. other (sym g.seat_is ∙ e)) in record {
          made_it = g.made_it;
          seat_is = g.seat_is;
          client = g.client;
          home = g.home;
          stage = a.stage c.stage g.stage;
          entered = g.entered ∙ a.entered;
          got = g.got ∙ a.got;
          begun = g.begun ∙ a.begun;
          saw = goes_on c.seen g.saw;
          met = λ r m. let l = g.met r m in let z = (follow r).begun in let y = l.1 in (l.0, omega arith);
        };
      }
      nobodys j closed (Maker k) other b = b
      nobodys j closed (Away c) other b = tt
      nobodys j closed (Free c) other b = tt
      nobodys j closed (Asking c k) other b = tt
      nobodys j closed (Token c) other b = tt

      others : (j : ℕ) (u : Work E C R) → j ≢ id → get_elem? works j ≡ some u → Trusts (after q t lock' desk') j u
      others j u other at = let k = s.each_seat j u at in record {
        maker = nobodys j u.closed u.stage other k.maker;
        client = λ r is. let c = k.client r is in let ne : s.world.seat r ≢ id = λ e. other (sym c.seat_is ∙ e) in let a = stay_all r ne in record {
          made_it = c.made_it;
          live = c.live;
          seat_is = c.seat_is;
          stage = a.stage u.stage c.stage;
          entered = c.entered ∙ a.entered;
          got = c.got ∙ a.got;
          posts = c.posts ∙ a.posts;
          begun = c.begun ∙ a.begun;
          past = λ h. a.dealt (c.past h);
          found = λ h. a.ready (c.found h);
          holds = λ h. (locks r ne).0 (c.holds h);
          waits = λ h. (locks r ne).1 (c.waits h);
        };
        token = λ r is. let c = k.token r is in let a = (follow r).posts in let b = c.1 in (c.0, omega arith);
        combines = λ h. combine j u other at h (k.combines h);
        saw = goes_on u.seen k.saw;
        was_told = goes_on u.hearsay k.was_told;
        met = met_still j u at;
        heard = heard_still j u at;
        passed = passed_still j u at;
      }

      -- the rule after the step
      pub steps : (words' : List ℕ) (homes' : List (Option (Slot C R S))) (w : Work E C R) → get_or words' lock_word 0 ≡ lock' → length words' ≡ word_count n → length homes' ≡ n + 1 → legal desk'.hist
          → IsUnheld served n homes' (after q t lock' desk') ⊎ IsHeld served n homes' (after q t lock' desk') → ((r : ℕ) → IsTaken r desk'.serving → r < n) → q < s.world.made
          → ((r : ℕ) → r < n → HasRecord served words' homes' desk' r (put s.world.truth q t r)) → Trusts (after q t lock' desk') id w
          → Serves served n words' homes' (set works id w)
      steps words' homes' w is wide deep law lock below small clients mine = record {
        world = after q t lock' desk';
        sound = record {
          few = s.sound.few;
          done_made = s.sound.done_made;
          is_legal = law;
          taken_below = below;
          unmade_are = λ r h. put_case (λ b. b ≡ unmade) s.world.truth q t r (λ e. absurd (omega arith)) (λ _. s.sound.unmade_are r h);
        };
        stored = record { wide = wide; sized = deep; lock = is; each_client = clients };
        state = lock;
        each_seat = λ j u e. ⊎_elim (λ (h : (j ≡ id) × (w ≡ u)). subst (λ (x : ℕ × Work E C R). Trusts (after q t lock' desk') x.0 x.1) (λ i. (sym h.0 i, h.1 i)) mine)
            (λ (h : (j ≢ id) × (get_elem? works j ≡ some u)). others j u h.0 h.1) (at_set works id j w u e);
      }

  -- a record that isn't written
  pub record_else : (q x : ℕ) (y : Option (Slot C R S)) (d : Desk E C) (r : ℕ) (t : Client E C R) → r ≢ q → IsInPhase served d r t → HasRecord served words homes s.world.desk r t → HasRecord served (set words (state_word q) x) (set homes q y) d r t
  record_else q x y d r t other phase h = record {
    word = get_or-set_other words (state_word q) (state_word r) x 0 (λ e. other (state_from_state r q e)) ∙ h.word;
    home = set_else homes q r y other ∙ h.home;
    phase = phase;
  }

  -- and one that is
  pub record_here : (q x : ℕ) (y : Option (Slot C R S)) (d : Desk E C) (t : Client E C R) → q < n → x ≡ word_of t.phase → y ≡ home_of t.phase → IsInPhase served d q t → HasRecord served (set words (state_word q) x) (set homes q y) d q t
  record_here q x y d t inside number slot phase = let deep = s.stored.sized in record {
    word = get_or-set_same words (state_word q) x 0 (subst (λ (k : ℕ). state_word q < k) (sym s.stored.wide) (state_within q n inside)) ∙ number;
    home = set_here homes q y (omega arith) ∙ ap (λ (z : Option (Slot C R S)). some z) slot;
    phase = phase;
  }

  -- the lock word isn't the state word of a client
  pub lock_else : (q x : ℕ) → get_or (set words (state_word q) x) lock_word 0 ≡ get_or words lock_word 0
  lock_else q x = get_or-set_other words (state_word q) lock_word x 0 (λ e. state_from_lock q (sym e))

  -- the seat that steps is client p's
  pub mine_by : (id q : ℕ) (t : Client E C R) (lock' : ℕ) (desk' : Desk E C) (p : ℕ) (w : Work E C R) → IsClient p w.stage → Tells (after q t lock' desk') id p w (put s.world.truth q t p) → (w.holds ≡ true → Combines desk' w) → GoesOn w.seen desk'.hist → GoesOn w.hearsay desk'.hist
      → ((r : ℕ) → IsOn r w.met → (r < s.world.made) × (1 ≤ (put s.world.truth q t r).begun)) → ((r k : ℕ) → IsMarked r k w.heard → (r < s.world.made) × (k ≤ (put s.world.truth q t r).posts))
      → ((r k : ℕ) → IsMarked r k w.passed → (r < s.world.made) × (k ≤ (put s.world.truth q t r).posts) × ((put s.world.truth q t r).posts ≡ k → IsDealt (put s.world.truth q t r).phase))
      → Trusts (after q t lock' desk') id w
  mine_by id q t lock' desk' p w is tells combines saw was_told met heard passed = record {
    maker = clients p w.stage is;
    client = λ r h. subst (λ (z : ℕ). Tells (after q t lock' desk') id z w (put s.world.truth q t z)) (one_client p r w.stage is h) tells;
    token = λ r e. absurd (subst (IsClient p) e is);
    combines = combines;
    saw = saw;
    was_told = was_told;
    met = met;
    heard = heard;
    passed = passed;
  }
    where
      clients : (a : ℕ) (st : Stage C) → IsClient a st → IsNobodys (after q t lock' desk') id w.closed st
      clients a Spent h = absurd h
      clients a (Maker k) h = absurd h
      clients a (Away c) h = tt
      clients a (Free c) h = tt
      clients a (Asking c k) h = tt
      clients a (Token c) h = absurd h

      one_client : (a b : ℕ) (st : Stage C) → IsClient a st → IsClient b st → a ≡ b
      one_client a b Spent h i = absurd h
      one_client a b (Maker k) h i = absurd h
      one_client a b (Away c) h i = sym h ∙ i
      one_client a b (Free c) h i = sym h ∙ i
      one_client a b (Asking c k) h i = sym h ∙ i
      one_client a b (Token c) h i = absurd h

  -- a client below n isn't the state's slot
  pub lock_same : (q : ℕ) (t : Client E C R) (y : Option (Slot C R S)) → Follows (s.world.truth q) t → q < s.world.made → IsUnheld served n (set homes q y) (after q t s.world.lock s.world.desk) ⊎ IsHeld served n (set homes q y) (after q t s.world.lock s.world.desk)
  lock_same q t y f small = let few = s.sound.few in let else : get_elem? (set homes q y) n ≡ get_elem? homes n = set_else homes q n y (λ e. omega arith) in
      ⊎_elim (λ u. inl record { zero = u.zero; state = u.state; home = else ∙ u.home; is = u.is; before = u.before; paid = u.paid; nothing = u.nothing })
      (λ h. let a = (follow q q t f h.holder).begun in let b = h.begun in inr record { holder = h.holder; client = h.client; live = h.live; number = h.number; home = else ∙ h.home; begun = omega arith }) s.state

  -- A client's step: it changes its own state word and slot, and what is known of itself
  pub client_step : (id q x : ℕ) (y : Option (Slot C R S)) (v : Work E C R) (t : Client E C R) (st : Stage C) (seen : List E) (past : Bool) → get_elem? works id ≡ some v → IsClient q v.stage → IsClient q st → Follows (s.world.truth q) t → t.begun ≡ (s.world.truth q).begun
      → x ≡ word_of t.phase → y ≡ home_of t.phase → IsInPhase served s.world.desk q t → IsInStage st t.phase → (past ≡ true → IsDealt t.phase) → GoesOn seen s.world.desk.hist → (v.holds ≡ true → seen ≡ s.world.desk.hist)
      → (w : Work E C R) → w ≡ record v { stage = st; seen = seen; entered = t.entered; got = t.got; posts = t.posts; past = past; found = 0 }
      → Serves served n (set words (state_word q) x) (set homes q y) (set works id w)
  client_step id q x y v t st seen past at was is f begun number slot phase stage dealt saw still w same = let k = s.each_seat id v at in let c = k.client q was in let few = s.sound.few in let small = c.made_it in let inside : q < n = omega arith in
      let w' : Work E C R = record v { stage = st; seen = seen; entered = t.entered; got = t.got; posts = t.posts; past = past; found = 0 } in
      subst (λ (z : Work E C R). Serves served n (set words (state_word q) x) (set homes q y) (set works id z)) (sym same)
      (steps id q t f (λ other. absurd (other c.seat_is)) s.world.lock s.world.desk ([], nil_behind s.world.desk.hist) (λ _ _. (λ e. e, λ e. e)) (λ _ _ _ _ _ h. h) (set words (state_word q) x) (set homes q y) w'
      (lock_else q x ∙ s.stored.lock) (length-set words (state_word q) x ∙ s.stored.wide) (length-set homes q y ∙ s.stored.sized) s.sound.is_legal (lock_same q t y f small) s.sound.taken_below small
      (λ r l. put_case (HasRecord served (set words (state_word q) x) (set homes q y) s.world.desk r) s.world.truth q t r
      (λ e. subst (λ (z : ℕ). HasRecord served (set words (state_word q) x) (set homes q y) s.world.desk z t) (sym e) (record_here q x y s.world.desk t inside number slot phase))
      (λ other. record_else q x y s.world.desk r (s.world.truth r) other (s.stored.each_client r l).phase (s.stored.each_client r l)))
      (mine_by id q t s.world.lock s.world.desk q w' is
      (subst (λ (b : Client E C R). Tells (after q t s.world.lock s.world.desk) id q w' b) (sym (put_at s.world.truth q t q refl)) record {
        made_it = small;
        live = c.live;
        seat_is = c.seat_is;
        stage = stage;
        entered = refl;
        got = refl;
        posts = refl;
        begun = c.begun ∙ sym begun;
        past = dealt;
        found = λ h. absurd (omega arith);
        holds = c.holds;
        waits = c.waits;
      })
      (λ h. let b = k.combines h in record { client = (q, is); seen = still h; before = b.before; paid = b.paid; serving = b.serving }) saw k.was_told (met_still id q t f id v at) (heard_still id q t f id v at) (passed_still id q t f id v at)))
    where
      nil_behind : (list : List E) → list ≡ list ++ []
      nil_behind [] = refl
      nil_behind (a ∷ l) = ap (λ (b : List E). a ∷ b) (nil_behind l)

  -- one seat combines
  pub sole : (id p : ℕ) (v : Work E C R) → get_elem? works id ≡ some v → IsClient p v.stage → v.holds ≡ true → (j : ℕ) (u : Work E C R) → j ≢ id → get_elem? works j ≡ some u → u.holds ≡ true → ⊥
  sole id p v at was holds j u other there h = let b = (s.each_seat j u there).combines h in let c = b.client in let mine = (s.each_seat id v at).client p was in let its = (s.each_seat j u there).client c.0 c.1 in
      let l = mine.holds holds in let m = its.holds h in let r : ℕ = c.0 in let same : r ≡ p = omega arith in other (sym its.seat_is ∙ (ap s.world.seat same ∙ mine.seat_is))

  -- the holder's step: it changes the record of client q, and what it knows. What it heard of client q is passed where the client is dealt with
  pub holder_step : (id p q x : ℕ) (y : Option (Slot C R S)) (v : Work E C R) (t : Client E C R) (desk' : Desk E C) (passed' : List Mark) (past' : Bool) → get_elem? works id ≡ some v → IsClient p v.stage → v.holds ≡ true → q < s.world.made → Stays (s.world.truth q) t
      → x ≡ word_of t.phase → y ≡ home_of t.phase → IsInPhase served desk' q t → ((r : ℕ) → r < n → r ≢ q → IsInPhase served s.world.desk r (s.world.truth r) → IsInPhase served desk' r (s.world.truth r))
      → GoesOn s.world.desk.hist desk'.hist → legal desk'.hist → ((r : ℕ) → IsTaken r desk'.serving → r < n)
      → ((r k : ℕ) → IsMarked r k passed' → IsMarked r k v.passed ⊎ ((r ≡ q) × IsMarked r k v.heard × IsDealt t.phase)) → (past' ≡ true → (v.past ≡ true) ⊎ ((p ≡ q) × IsDealt t.phase))
      → Serves served n (set words (state_word q) x) (set homes q y) (set works id (record v { seen = desk'.hist; before = desk'.before; paid = desk'.paid; serving = desk'.serving; passed = passed'; past = past' }))
  holder_step id p q x y v t desk' passed' past' at was holds small stay number slot phase phases on law below marks pasts = let k = s.each_seat id v at in let c = k.client p was in let few = s.sound.few in let inside : q < n = omega arith in
      let f : Follows (s.world.truth q) t = (let a = stay.posts in let b = stay.begun in record { posts = omega arith; begun = omega arith; dealt = λ _ h. stay.dealt h }) in
      let w' : Work E C R = record v { seen = desk'.hist; before = desk'.before; paid = desk'.paid; serving = desk'.serving; passed = passed'; past = past' } in
      let a : Stays (s.world.truth p) (put s.world.truth q t p) = put_case (Stays (s.world.truth p)) s.world.truth q t p (λ e. subst (λ (z : ℕ). Stays (s.world.truth z) t) (sym e) stay) (λ _. stays_itself (s.world.truth p)) in
      let lock : ℕ = s.world.lock in let mine : lock ≡ p + 1 = c.holds holds in
      steps id q t f (λ _. stay) lock desk' on (λ _ _. (λ e. e, λ e. e)) (λ j u other there h _. absurd (sole id p v at was holds j u other there h)) (set words (state_word q) x) (set homes q y) w'
      (lock_else q x ∙ s.stored.lock) (length-set words (state_word q) x ∙ s.stored.wide) (length-set homes q y ∙ s.stored.sized) law
      (⊎_elim (λ u. let zero = u.zero in absurd (omega arith))
      (λ h. let more = (follow id q t f h.holder).begun in let b = h.begun in inr record { holder = h.holder; client = h.client; live = h.live; number = h.number; home = set_else homes q n y (λ e. omega arith) ∙ h.home; begun = omega arith }) s.state)
      below small
      (λ r l. put_case (HasRecord served (set words (state_word q) x) (set homes q y) desk' r) s.world.truth q t r
      (λ e. subst (λ (z : ℕ). HasRecord served (set words (state_word q) x) (set homes q y) desk' z t) (sym e) (record_here q x y desk' t inside number slot phase))
      (λ other. record_else q x y desk' r (s.world.truth r) other (phases r l other (s.stored.each_client r l).phase) (s.stored.each_client r l)))
      (mine_by id q t lock desk' p w' was record {
        made_it = c.made_it;
        live = c.live;
        seat_is = c.seat_is;
        stage = a.stage v.stage c.stage;
        entered = c.entered ∙ a.entered;
        got = c.got ∙ a.got;
        posts = c.posts ∙ a.posts;
        begun = c.begun ∙ a.begun;
        past = λ h. ⊎_elim (λ b. a.dealt (c.past b)) (λ (d : (p ≡ q) × IsDealt t.phase). put_case (λ b. IsDealt b.phase) s.world.truth q t p (λ _. d.1) (λ other. absurd (other d.0))) (pasts h);
        found = λ h. a.ready (c.found h);
        holds = c.holds;
        waits = c.waits;
      }
      (λ _. record { client = (p, was); seen = refl; before = refl; paid = refl; serving = refl }) (all_hist desk'.hist) (goes_on id q t f (λ _. stay) lock desk' on (λ _ _. (λ e. e, λ e. e)) (λ j u other there h _. absurd (sole id p v at was holds j u other there h)) v.hearsay k.was_told) (met_still id q t f id v at) (heard_still id q t f id v at)
      (λ r k m. ⊎_elim (λ b. passed_still id q t f id v at r k b) (λ (d : (r ≡ q) × IsMarked r k v.heard × IsDealt t.phase). let h = heard_still id q t f id v at r k d.1 in (h.0, h.1, λ _. put_case (λ b. IsDealt b.phase) s.world.truth q t r (λ _. d.2) (λ other. absurd (other d.0)))) (marks r k m)))
    where
      all_hist : (h : List E) → GoesOn h h
      all_hist h = ([], nil_behind h)
        where
          nil_behind : (list : List E) → list ≡ list ++ []
          nil_behind [] = refl
          nil_behind (b ∷ l) = ap (λ (z : List E). b ∷ z) (nil_behind l)

  -- a client with a call has a seat
  pub has_seat : (r : ℕ) → s.world.made ≤ r → (s.world.truth r).phase ≡ away
  has_seat r h = ap (λ (o : Client E C R). o.phase) (s.sound.unmade_are r h)

  -- a seat that learns what is true, and steps no further
  pub view_step : (id : ℕ) (w : Work E C R) → Trusts s.world id w → Serves served n words homes (set works id w)
  view_step id w mine = record {
    world = s.world;
    sound = s.sound;
    stored = s.stored;
    state = s.state;
    each_seat = λ j u e. ⊎_elim (λ (h : (j ≡ id) × (w ≡ u)). subst (λ (x : ℕ × Work E C R). Trusts s.world x.0 x.1) (λ i. (sym h.0 i, h.1 i)) mine)
        (λ (h : (j ≢ id) × (get_elem? works j ≡ some u)). s.each_seat j u h.1) (at_set works id j w u e);
  }
