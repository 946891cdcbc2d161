-- The start, and the splits and merges of seats, keep the rule.
use Rattle.std.proofs.Common.{◌≡◌, ◌≢◌, ◌⊎◌, ℕ, zero, suc, Bool, true, false, eqb, ◌||◌, ◌&&◌, ◌+◌, ◌<◌, ◌≤◌, List, [], ◌∷◌, ◌++◌, map, length, get_or, set, replicate, sym, refl, ap, ◌∙◌, subst, inl, inr, ⊎_elim, arith, eqb-true, length-append}
use Rattle.std.proofs.lemmas.Bool.{false≢true}
use mathlib.Core.Option.{Option, some, some-injective, some-ne-none}
use lib.ListN.{get_elem?, length-map, length-replicate}
use Rattle.atomic_table.proofs.Lists.{at_set, set_again, at_snoc, at_last, at_longer, set_else, at_map}
use Rattle.pub_rule.specs.declared.served.Served.{Ghosts}
use Rattle.pub_rule.specs.declared.work.Mark.{Mark}
use Rattle.pub_rule.specs.declared.work.Work.{Work}
use Rattle.pub_rule.specs.declared.work.Closed.{Closed}
use Rattle.pub_rule.specs.declared.work.Stage.{Stage}
use Rattle.pub_rule.specs.declared.work.Stage.TheVariants.{Spent, Maker, Away, Free, Asking, Token}
use Rattle.pub_rule.specs.declared.work.Serving.TheVariants.{Nothing}
use Rattle.pub_rule.specs.declared.served.Slot.{Slot}
use Rattle.pub_rule.specs.declared.served.Slot.TheVariants as slots
use Rattle.pub_rule.specs.Words.{lock_word, state_word, word_count}
use Rattle.pub_rule.specs.Rule.{LetsSplit, LetsMerge, slots_of}
use Rattle.pub_rule.proofs.Clientwork.{all_of}
use Rattle.pub_rule.specs.Work.{IsMarked, unmade, World, IsClient, Tells, IsNobodys, Trusts, Serves}
use Rattle.pub_rule.specs.WorkSplits.{opening_work, owner_of, seats_of, is_marked, more_seats, new_client, telling, taught, spent_work, maker_after, client_made, token_made, view_taught, view_spent, Opens, KeptByClientSplit, KeptByTokenSplit, KeptByTokenMerge}
use Rattle.pub_rule.specs.Lists.{IsOn}
use Rattle.pub_rule.proofs.Kept.{starts}
use Rattle.pub_rule.proofs.Tables.{split_client, split_token, merge_token}
use Rattle.pub_rule.proofs.Moves.{put, put_case, put_at, view_step}

-- posts that are marked
or_true : (a b : Bool) → (a || b) ≡ true → (a ≡ true) ⊎ (b ≡ true)
or_true true b e = inl refl
or_true false b e = inr e

and_true : (a b : Bool) → (a && b) ≡ true → (a ≡ true) × (b ≡ true)
and_true true b e = (refl, e)
and_true false b e = absurd (false≢true e)

pub marked : (r k : ℕ) (l : List Mark) → is_marked r k l ≡ true → IsMarked r k l
marked r k [] e = absurd (false≢true e)
marked r k (x ∷ xs) e = ⊎_elim (λ h. let b = and_true (eqb r x.client) (eqb k x.post) h in inl (eqb-true r x.client b.0, eqb-true k x.post b.1)) (λ h. inr (marked r k xs h)) (or_true (eqb r x.client && eqb k x.post) (is_marked r k xs) e)

marked_either : (r k : ℕ) (a b : List Mark) → IsMarked r k (a ++ b) → IsMarked r k a ⊎ IsMarked r k b
marked_either r k [] b h = inr h
marked_either r k (x ∷ a) b h = ⊎_elim (λ e. inl (inl e)) (λ t. ⊎_elim (λ u. inl (inr u)) (λ u. inr u) (marked_either r k a b t)) h

-- stages
abbrev is_maker : {C : Type 0} → Stage C → Type 0
is_maker (Maker k) = Unit {0}
is_maker _ = ⊥

abbrev is_token : {C : Type 0} → Stage C → Type 0
is_token (Token r) = Unit {0}
is_token _ = ⊥

owner_is : {C : Type 0} (q : ℕ) (st : Stage C) → IsClient q st → owner_of st ≡ q
owner_is q Spent h = absurd h
owner_is q (Maker k) h = absurd h
owner_is q (Away c) h = h
owner_is q (Free c) h = h
owner_is q (Asking c k) h = h
owner_is q (Token c) h = absurd h

module _ {E C R S : Type 0} (served : Ghosts S E C R) (n : ℕ) where
  open served use {history, legal, own, replies}

  abbrev Half : List ℕ → List (Option (Slot C R S)) → List (Work E C R) → Type 0
  Half = Serves served n

  module _ (words : List ℕ) (homes : List (Option (Slot C R S))) (works : List (Work E C R)) (s : Half words homes works) where
    -- one more seat, that knows what is true
    pub view_more : (w : Work E C R) → ((j : ℕ) → Trusts s.world j w) → Half words homes (works ++ w ∷ [])
    view_more w trusts = record {
      world = s.world;
      sound = s.sound;
      stored = s.stored;
      state = s.state;
      each_seat = λ j u e. ⊎_elim (s.each_seat j u) (λ (t : w ≡ u). subst (Trusts s.world j) t (trusts j)) (at_snoc works w u j e);
    }

    -- what a client tells is true
    tells_true : (id r : ℕ) (v : Work E C R) → get_elem? works id ≡ some v → IsClient r v.stage → (j : ℕ) → Trusts s.world j (telling v)
    tells_true id r v at is j = let k = s.each_seat id v at in let c = k.client r is in record {
      maker = tt;
      client = λ q h. absurd h;
      token = λ q e. let same : q ≡ r = sym (ap owner_of e) ∙ owner_is r v.stage is in subst (λ (z : ℕ). (z < s.world.made) × (v.posts ≤ (s.world.truth z).posts)) (sym same) (c.made_it, (let p = c.posts in omega arith));
      combines = λ e. absurd (false≢true e);
      saw = k.saw;
      was_told = (s.world.desk.hist, refl);
      met = λ q h. absurd h;
      heard = λ q m h. absurd h;
      passed = k.passed;
    }

    -- a spent seat knows nothing
    pub spent_true : (j : ℕ) → Trusts s.world j spent_work
    spent_true j = record {
      maker = record { distinct = tt; on = λ r h. absurd h; told = λ c h. absurd h };
      client = λ q h. absurd h;
      token = λ q e. absurd (subst is_token (sym e) tt);
      combines = λ e. absurd (false≢true e);
      saw = (s.world.desk.hist, refl);
      was_told = (s.world.desk.hist, refl);
      met = λ q h. absurd h;
      heard = λ q m h. absurd h;
      passed = λ q m h. absurd h;
    }

    -- what a client is taught is true
    taught_true : (id q other r : ℕ) (v w : Work E C R) → get_elem? works id ≡ some v → get_elem? works other ≡ some w → IsClient q v.stage → w.stage ≡ Token r → Trusts s.world id (taught v w)
    taught_true id q other r v w at there is token = let k = s.each_seat id v at in let f = s.each_seat other w there in let c = k.client q is in record {
      maker = k.maker;
      client = λ p h. let t = k.client p h in record {
        made_it = t.made_it;
        live = t.live;
        seat_is = t.seat_is;
        stage = t.stage;
        entered = t.entered;
        got = t.got;
        posts = t.posts;
        begun = t.begun;
        past = λ e. ⊎_elim t.past (λ m. (let mark = marked (owner_of v.stage) v.posts w.passed m in let mine : IsMarked p v.posts w.passed = subst (λ (z : ℕ). IsMarked z v.posts w.passed) (owner_is p v.stage h) mark in (f.passed p v.posts mine).2 (sym t.posts)))
            (or_true v.past (is_marked (owner_of v.stage) v.posts w.passed) e);
        found = t.found;
        holds = t.holds;
        waits = t.waits;
      };
      token = λ p e. k.token p e;
      combines = λ h. let b = k.combines h in record {
        client = b.client;
        seen = b.seen;
        before = b.before;
        paid = b.paid;
        serving = b.serving;
      };
      saw = k.saw;
      was_told = f.saw;
      met = k.met;
      heard = λ p m h. ⊎_elim (λ (e : (p ≡ owner_of w.stage) × (m ≡ w.posts)). (let t = f.token r token in let same : p ≡ r = e.0 ∙ ap owner_of token in
          subst (λ (z : ℕ). (z < s.world.made) × (m ≤ (s.world.truth z).posts)) (sym same) (t.0, (let a = e.1 in let b = t.1 in omega arith)))) (k.heard p m) h;
      passed = λ p m h. ⊎_elim (f.passed p m) (k.passed p m) (marked_either p m w.passed v.passed h);
    }

  pub lets_tell : (id r : ℕ) (v : Work E C R) → IsClient r v.stage → LetsSplit n Half id v v (telling v)
  lets_tell id r v is words homes works s at = subst (λ (l : List (Work E C R)). Half words homes (l ++ telling v ∷ [])) (sym (set_again works id v at)) (view_more words homes works s (telling v) (tells_true words homes works s id r v at is))

  pub lets_teach : (id q other r : ℕ) (v w : Work E C R) → IsClient q v.stage → w.stage ≡ Token r → LetsMerge n Half id v other w (taught v w) spent_work
  lets_teach id q other r v w is token words homes works s at apart there = let both : Work E C R = taught v w in let was : get_elem? works other ≡ some w = sym (set_else works id other both apart) ∙ there in
      let once : Half words homes (set works id both) = view_step served n words homes works s id both (taught_true words homes works s id q other r v w at was is token) in
      view_step served n words homes (set works id both) once other spent_work (spent_true words homes (set works id both) once other)

  -- the seat of the next client
  module _ (words : List ℕ) (homes : List (Option (Slot C R S))) (works : List (Work E C R)) (s : Half words homes works) (id k : ℕ) (v : Work E C R) (at : get_elem? works id ≡ some v) (is : v.stage ≡ Maker k) (room : k < n) where
    abbrev place : (id ≡ 0) × (k ≡ s.world.made)
    place = subst (IsNobodys s.world id v.closed) is (s.each_seat id v at).maker

    -- the new client's seat was not merged
    unmerged : ¬ IsOn k s.world.done
    unmerged on = let small = s.sound.done_made k on in let next = place.1 in omega arith

    abbrev last : ℕ
    last = length (set works id (more_seats v))

    abbrev more : World E C R
    more = record s.world { made = s.world.made + 1; seat = put s.world.seat k last }

    seat_still : (r : ℕ) → r < s.world.made → put s.world.seat k last r ≡ s.world.seat r
    seat_still r small = let next = place.1 in put_case (λ a. a ≡ s.world.seat r) s.world.seat k last r (λ e. absurd (omega arith)) (λ _. refl)

    -- the lock word isn't the new client's
    unlocked : s.world.lock ≢ k + 1
    unlocked e = let next = place.1 in ⊎_elim (λ u. let zero = u.zero in omega arith) (λ h. let number = h.number in let small = h.client in omega arith) s.state

    more_made : (j : ℕ) (closed : List (Closed E C R)) (st : Stage C) → (is_maker st → ⊥) → IsNobodys s.world j closed st → IsNobodys more j closed st
    more_made j closed Spent other b = record {
      distinct = b.distinct;
      on = b.on;
      told = λ c on. let g = b.told c on in let small = g.made_it in record {
        made_it = omega arith;
        seat_is = seat_still c.client small ∙ g.seat_is;
        client = g.client;
        home = g.home;
        stage = g.stage;
        entered = g.entered;
        got = g.got;
        begun = g.begun;
        saw = g.saw;
        met = λ r h. let l = g.met r h in let y = l.0 in (omega arith, l.1);
      };
    }
    more_made j closed (Maker a) other b = absurd (other tt)
    more_made j closed (Away c) other b = tt
    more_made j closed (Free c) other b = tt
    more_made j closed (Asking c x) other b = tt
    more_made j closed (Token c) other b = tt

    trusts_more : (j : ℕ) (u : Work E C R) → (is_maker u.stage → ⊥) → Trusts s.world j u → Trusts more j u
    trusts_more j u other t = record {
      maker = more_made j u.closed u.stage other t.maker;
      client = λ r h. let c = t.client r h in let small = c.made_it in record {
        made_it = omega arith;
        live = c.live;
        seat_is = seat_still r small ∙ c.seat_is;
        stage = c.stage;
        entered = c.entered;
        got = c.got;
        posts = c.posts;
        begun = c.begun;
        past = c.past;
        found = c.found;
        holds = c.holds;
        waits = c.waits;
      };
      token = λ r e. let a = t.token r e in let small = a.0 in (omega arith, a.1);
      combines = t.combines;
      saw = t.saw;
      was_told = t.was_told;
      met = λ r h. let a = t.met r h in let small = a.0 in (omega arith, a.1);
      heard = λ r m h. let a = t.heard r m h in let small = a.0 in (omega arith, a.1);
      passed = λ r m h. let a = t.passed r m h in let small = a.0 in (omega arith, a.1, a.2);
    }

    maker_true : Trusts more id (more_seats v)
    maker_true = let t = s.each_seat id v at in let next = place.1 in let counted : seats_of v.stage ≡ k = ap seats_of is in record {
      maker = (place.0, omega arith);
      client = λ r h. absurd h;
      token = λ r e. absurd (subst is_token (sym e) tt);
      combines = λ h. let b = t.combines h in absurd (subst (IsClient b.client.0) is b.client.1);
      saw = t.saw;
      was_told = t.was_told;
      met = λ r h. let a = t.met r h in let small = a.0 in (omega arith, a.1);
      heard = λ r m h. let a = t.heard r m h in let small = a.0 in (omega arith, a.1);
      passed = λ r m h. let a = t.passed r m h in let small = a.0 in (omega arith, a.1, a.2);
    }

    client_true : Trusts more last (new_client v)
    client_true = let next = place.1 in let counted : seats_of v.stage ≡ k = ap seats_of is in let blank : s.world.truth k ≡ unmade = s.sound.unmade_are k (omega arith) in record {
      maker = tt;
      client = λ r h. let here : r ≡ k = sym h ∙ counted in subst (λ (z : ℕ). Tells more last z (new_client v) (s.world.truth z)) (sym here)
          (subst (Tells more last k (new_client v)) (sym blank) record {
            made_it = omega arith;
            live = unmerged;
            seat_is = put_at s.world.seat k last k refl;
            stage = refl;
            entered = refl;
            got = refl;
            posts = refl;
            begun = refl;
            past = λ e. absurd (false≢true e);
            found = λ e. absurd (omega arith);
            holds = λ e. absurd (false≢true e);
            waits = λ _. unlocked;
          });
      token = λ r e. absurd (subst is_token (sym e) tt);
      combines = λ e. absurd (false≢true e);
      saw = (s.each_seat id v at).saw;
      was_told = (s.world.desk.hist, refl);
      met = λ q h. absurd h;
      heard = λ q m h. absurd h;
      passed = λ q m h. absurd h;
    }

    makes_client : Half words homes (set works id (more_seats v) ++ new_client v ∷ [])
    makes_client = let next = place.1 in let few = s.sound.few in record {
      world = more;
      sound = record {
        few = omega arith;
        done_made = λ r h. let small = s.sound.done_made r h in omega arith;
        is_legal = s.sound.is_legal;
        taken_below = s.sound.taken_below;
        unmade_are = λ r h. s.sound.unmade_are r (omega arith);
      };
      stored = record { wide = s.stored.wide; sized = s.stored.sized; lock = s.stored.lock; each_client = s.stored.each_client };
      state = ⊎_elim (λ u. inl record { zero = u.zero; state = u.state; home = u.home; is = u.is; before = u.before; paid = u.paid; nothing = u.nothing })
          (λ h. let small = h.client in inr record { holder = h.holder; client = omega arith; live = h.live; number = h.number; home = h.home; begun = h.begun }) s.state;
      each_seat = λ j u e. split_at j u (at_end (set works id (more_seats v)) (new_client v) u j e);
    }
      where
        at_end : (l : List (Work E C R)) (a b : Work E C R) (j : ℕ) → get_elem? (l ++ a ∷ []) j ≡ some b → (get_elem? l j ≡ some b) ⊎ ((j ≡ length l) × (a ≡ b))
        at_end [] a b zero e = inr (refl, some-injective a b e)
        at_end [] a b (suc j) e = absurd (some-ne-none b (sym e))
        at_end (x ∷ xs) a b zero e = inl e
        at_end (x ∷ xs) a b (suc j) e = ⊎_elim (λ h. inl h) (λ h. inr (ap suc h.0, h.1)) (at_end xs a b j e)

        split_at : (j : ℕ) (u : Work E C R) → (get_elem? (set works id (more_seats v)) j ≡ some u) ⊎ ((j ≡ last) × (new_client v ≡ u)) → Trusts more j u
        split_at j u h = ⊎_elim
            (λ a. ⊎_elim (λ (b : (j ≡ id) × (more_seats v ≡ u)). subst (λ (x : ℕ × Work E C R). Trusts more x.0 x.1) (λ i. (sym b.0 i, b.1 i)) maker_true)
            (λ (b : (j ≢ id) × (get_elem? works j ≡ some u)). trusts_more j u (λ m. not_maker j u b.0 b.1 m) (s.each_seat j u b.1)) (at_set works id j (more_seats v) u a))
            (λ (b : (j ≡ last) × (new_client v ≡ u)). subst (λ (x : ℕ × Work E C R). Trusts more x.0 x.1) (λ i. (sym b.0 i, b.1 i)) client_true) h
          where
            maker_is : (st : Stage C) → is_maker st → st ≡ Maker (seats_of st)
            maker_is Spent h = absurd h
            maker_is (Maker a) h = refl
            maker_is (Away c) h = absurd h
            maker_is (Free c) h = absurd h
            maker_is (Asking c x) h = absurd h
            maker_is (Token c) h = absurd h

            not_maker : (j : ℕ) (u : Work E C R) → j ≢ id → get_elem? works j ≡ some u → is_maker u.stage → ⊥
            not_maker j u other at' m = other ((subst (IsNobodys s.world j u.closed) (maker_is u.stage m) (s.each_seat j u at').maker).0 ∙ sym place.0)

  pub lets_make : (id k : ℕ) (v : Work E C R) → v.stage ≡ Maker k → k < n → LetsSplit n Half id v (more_seats v) (new_client v)
  lets_make id k v is room words homes works s at = makes_client words homes works s id k v at is room

  -- the start
  abbrev at_first : S → World E C R
  at_first state = record { truth = λ _. unmade; desk = record { hist = history state; before = history state; paid = []; serving = Nothing }; made = 0; done = []; seat = λ _. 0; lock = 0 }

  pub starts_at_rest : (state : S) → legal (history state) → ((r : ℕ) → own (history state) r ≡ []) → ((r : ℕ) → replies (history state) r ≡ []) → Half (replicate (word_count n) 0) (map some (slots_of n state)) (opening_work (history state) ∷ [])
  starts_at_rest state law none unreplied = record {
    world = at_first state;
    sound = record { few = omega arith; done_made = λ r h. absurd h; is_legal = law; taken_below = λ r h. absurd h; unmade_are = λ r _. refl };
    stored = record {
      wide = length-replicate (word_count n) 0;
      sized = deep_at_start;
      lock = all_zero (word_count n) lock_word;
      each_client = λ r small. record {
        word = all_zero (word_count n) (state_word r);
        home = at_map (λ x. some x) (slots_of n state) r slots.Empty (at_longer (replicate n slots.Empty) (slots.State state ∷ []) r slots.Empty (at_replicate n r slots.Empty small));
        phase = record { calls = none r; even = refl; replies_are = unreplied r; settled = inl refl; was_parked = tt; taken_is = λ h. h };
      };
    };
    state = inl record { zero = refl; state = state; home = state_at; is = refl; before = refl; paid = refl; nothing = refl };
    each_seat = first_true;
  }
    where
      all_zero : (m i : ℕ) → ◌≡◌ {A = ℕ} (get_or (replicate m 0) i 0) 0
      all_zero zero i = refl
      all_zero (suc m) zero = refl
      all_zero (suc m) (suc i) = all_zero m i

      at_replicate : (m r : ℕ) (x : Slot C R S) → r < m → get_elem? (replicate m x) r ≡ some x
      at_replicate zero r x h = absurd (omega arith)
      at_replicate (suc m) zero x h = refl
      at_replicate (suc m) (suc r) x h = at_replicate m r x (omega arith)

      deep_at_start : length (map some (slots_of {C = C} {R = R} n state)) ≡ n + 1
      deep_at_start = length-map (slots_of n state) (λ (x : Slot C R S). some x) ∙ (length-append (replicate n slots.Empty) (slots.State state ∷ []) ∙ ap (λ (k : ℕ). k + 1) (length-replicate n slots.Empty))

      state_at : get_elem? (map some (slots_of {C = C} {R = R} n state)) n ≡ some (some (slots.State state))
      state_at = at_map (λ x. some x) (slots_of n state) n (slots.State state) (at_last (replicate n slots.Empty) (slots.State state) n (length-replicate n slots.Empty))

      first_true : (j : ℕ) (v : Work E C R) → get_elem? (opening_work (history state) ∷ []) j ≡ some v → Trusts (at_first state) j v
      first_true (suc j) v e = absurd (some-ne-none v (sym e))
      first_true zero v e = subst (Trusts (at_first state) 0) (some-injective (opening_work (history state)) v e) record {
        maker = (refl, refl);
        client = λ r h. absurd h;
        token = λ r e. absurd (subst is_token (sym e) tt);
        combines = λ e. absurd (false≢true e);
        saw = all_of (history state);
        was_told = (history state, refl);
        met = λ q h. absurd h;
        heard = λ q m h. absurd h;
        passed = λ q m h. absurd h;
      }

  -- the whole of both halves
  pub opens : Opens served n
  opens state law none = record { walks = starts n; works = starts_at_rest state law none (λ r. no_replies (replies (history state) r) (let less = served.no_more (history state) r law in let size = ap length (none r) in omega arith)) }
    where
      no_replies : (l : List R) → length l ≡ 0 → l ≡ []
      no_replies [] e = refl
      no_replies (x ∷ l) e = absurd (omega arith)

  pub make_client : KeptByClientSplit served n
  make_client id k v is stage room = split_client n Half id k v (maker_after v) (client_made v) is room refl refl (lets_make id k v.work stage room)

  pub make_token : KeptByTokenSplit served n
  make_token id r v is client = split_token n Half id r v v (token_made v) is refl refl (lets_tell id r v.work client)

  pub take_in : KeptByTokenMerge served n
  take_in id q other r v w client token stage = merge_token n Half id other v w (view_taught v w) view_spent token refl refl (lets_teach id q other r v.work w.work client stage)
