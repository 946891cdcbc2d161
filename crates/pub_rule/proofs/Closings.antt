-- The close of the list keeps the rule, and what is known at the end.
use Rattle.std.proofs.Common.{◌≡◌, ◌≢◌, ℕ, false, ◌+◌, ◌<◌, List, map, ◌∷◌, set, sym, refl, ap, ◌∙◌, subst, inl, inr, ⊎_elim}
use Rattle.std.proofs.lemmas.Bool.{false≢true}
use mathlib.Core.Option.{Option, some}
use lib.ListN.{get_elem?}
use Rattle.atomic_table.proofs.Lists.{at_set, set_else}
use Rattle.pub_rule.specs.declared.served.Served.{Ghosts}
use Rattle.pub_rule.specs.declared.work.Work.{Work}
use Rattle.pub_rule.specs.declared.work.Closed.{Closed}
use Rattle.pub_rule.specs.declared.work.Stage.{Stage}
use Rattle.pub_rule.specs.declared.work.Stage.TheVariants.{Spent, Maker, Away, Free, Asking, Token}
use Rattle.pub_rule.specs.declared.served.Slot.{Slot}
use Rattle.pub_rule.specs.Rule.{LetsMerge, work_of}
use Rattle.pub_rule.specs.Work.{World, IsHeld, IsAtHome, IsClient, IsTold, Closes, IsNobodys, Tells, Trusts, IsAmong, Serves}
use Rattle.pub_rule.specs.WorkSplits.{owner_of, spent_work, view_spent}
use Rattle.pub_rule.specs.WorkClosing.{last_told, closing, view_closing, KeptByEnter, KeptByClose}
use Rattle.pub_rule.proofs.Moves.{put, put_case, put_at}
use Rattle.pub_rule.proofs.Spending.{merge_seat, new_seat}
use Rattle.pub_rule.proofs.Splitting.{view_more, spent_true}

abbrev is_token : {C : Type 0} → Stage C → Type 0
is_token (Token r) = Unit {0}
is_token _ = ⊥

-- whose slot is at home
home_client : {C : Type 0} (st : Stage C) → IsAtHome st → IsClient (owner_of st) st
home_client Spent h = absurd h
home_client (Maker k) h = absurd h
home_client (Away q) h = refl
home_client (Free q) h = absurd h
home_client (Asking q k) h = refl
home_client (Token q) h = absurd h

module _ {E C R S : Type 0} (served : Ghosts S E C R) (n : ℕ) where
  open served use {history, legal, own, replies}

  abbrev Half : List ℕ → List (Option (Slot C R S)) → List (Work E C R) → Type 0
  Half = Serves served n

  module _ (words : List ℕ) (homes : List (Option (Slot C R S))) (works : List (Work E C R)) (s : Half words homes works) (id other : ℕ) (v w : Work E C R) (at : get_elem? works id ≡ some v) (is : v.stage ≡ Spent) (apart : other ≢ id) (there : get_elem? works other ≡ some w)
      (home : IsAtHome w.stage) (idle : w.holds ≡ false) where
    abbrev q : ℕ
    q = owner_of w.stage

    -- the client's seat is merged into the seat id
    abbrev merged : World E C R
    merged = record s.world { done = q ∷ s.world.done; seat = put s.world.seat q id }

    abbrev place : Closes s.world id v.closed
    place = subst (IsNobodys s.world id v.closed) is (s.each_seat id v at).maker

    abbrev mine : Tells s.world other q w (s.world.truth q)
    mine = (s.each_seat other w there).client q (home_client w.stage home)

    abbrev Now : ℕ → Work E C R → Type 0
    Now = Trusts merged

    spent_now : Now other spent_work
    spent_now = record {
      maker = record { distinct = tt; on = λ r h. absurd h; told = λ c h. absurd h };
      client = λ r h. absurd h;
      token = λ r e. absurd (subst is_token (sym e) tt);
      combines = λ e. absurd (false≢true e);
      saw = (s.world.desk.hist, refl);
      was_told = (s.world.desk.hist, refl);
      met = λ r h. absurd h;
      heard = λ r m h. absurd h;
      passed = λ r m h. absurd h;
    }

    -- another seat of no client took in other clients
    other_maker : (j : ℕ) (closed : List (Closed E C R)) (st : Stage C) → j ≢ other → IsNobodys s.world j closed st → IsNobodys merged j closed st
    other_maker j closed Spent off b = record {
      distinct = b.distinct;
      on = λ r h. inr (b.on r h);
      told = λ c h. let g = b.told c h in record {
        made_it = g.made_it;
        seat_is = put_case (λ a. a ≡ j) s.world.seat q id c.client (λ same. absurd (off (sym g.seat_is ∙ (ap s.world.seat same ∙ mine.seat_is)))) (λ _. g.seat_is);
        client = g.client;
        home = g.home;
        stage = g.stage;
        entered = g.entered;
        got = g.got;
        begun = g.begun;
        saw = g.saw;
        met = g.met;
      };
    }
    other_maker j closed (Maker k) off b = b
    other_maker j closed (Away c) off b = tt
    other_maker j closed (Free c) off b = tt
    other_maker j closed (Asking c k) off b = tt
    other_maker j closed (Token c) off b = tt

    other_now : (j : ℕ) (u : Work E C R) → j ≢ id → j ≢ other → get_elem? works j ≡ some u → Now j u
    other_now j u off_id off_other e = let t = s.each_seat j u e in record {
      maker = other_maker j u.closed u.stage off_other t.maker;
      client = λ r h. let c = t.client r h in let new : r ≢ q = λ same. off_other (sym c.seat_is ∙ (ap s.world.seat same ∙ mine.seat_is)) in record {
        made_it = c.made_it;
        live = λ on. ⊎_elim new c.live on;
        seat_is = put_case (λ a. a ≡ j) s.world.seat q id r (λ same. absurd (new same)) (λ _. c.seat_is);
        stage = c.stage;
        entered = c.entered;
        got = c.got;
        posts = c.posts;
        begun = c.begun;
        past = c.past;
        found = c.found;
        holds = c.holds;
        waits = c.waits;
      };
      token = t.token;
      combines = t.combines;
      saw = t.saw;
      was_told = t.was_told;
      met = t.met;
      heard = t.heard;
      passed = t.passed;
    }

    told_now : (c : Closed E C R) → IsAmong c (last_told w ∷ v.closed) → IsTold merged id c
    told_now c on = ⊎_elim
        (λ e. subst (IsTold merged id) (sym e) (let t = mine in let u = s.each_seat other w there in record {
          made_it = t.made_it;
          seat_is = put_at s.world.seat q id q refl;
          client = home_client w.stage home;
          home = home;
          stage = t.stage;
          entered = t.entered;
          got = t.got;
          begun = t.begun;
          saw = u.saw;
          met = u.met;
        }))
        (λ h. let g = place.told c h in record {
          made_it = g.made_it;
          seat_is = put_case (λ a. a ≡ id) s.world.seat q id c.client (λ _. refl) (λ _. g.seat_is);
          client = g.client;
          home = g.home;
          stage = g.stage;
          entered = g.entered;
          got = g.got;
          begun = g.begun;
          saw = g.saw;
          met = g.met;
        }) on

    closing_now : Now id (closing v w)
    closing_now = let t = s.each_seat id v at in record {
      maker = subst (IsNobodys merged id (last_told w ∷ v.closed)) (sym is)
          record { distinct = ((λ h. mine.live (place.on q h)), place.distinct); on = λ r h. ⊎_elim (λ e. inl e) (λ t. inr (place.on r t)) h; told = told_now };
      client = λ r h. absurd (subst (IsClient r) is h);
      token = t.token;
      combines = λ h. let b = t.combines h in record { client = b.client; seen = b.seen; before = b.before; paid = b.paid; serving = b.serving };
      saw = t.saw;
      was_told = t.was_told;
      met = t.met;
      heard = t.heard;
      passed = t.passed;
    }

    closes : Half words homes (set (set works id (closing v w)) other spent_work)
    closes = record {
      world = merged;
      sound = record {
        few = s.sound.few;
        done_made = λ r h. ⊎_elim (λ e. subst (λ (z : ℕ). z < s.world.made) (sym e) mine.made_it) (λ t. s.sound.done_made r t) h;
        is_legal = s.sound.is_legal;
        taken_below = s.sound.taken_below;
        unmade_are = s.sound.unmade_are;
      };
      stored = record { wide = s.stored.wide; sized = s.stored.sized; lock = s.stored.lock; each_client = s.stored.each_client };
      state = ⊎_elim (λ u. inl record { zero = u.zero; state = u.state; home = u.home; is = u.is; before = u.before; paid = u.paid; nothing = u.nothing })
          (λ (h : IsHeld served n homes s.world). inr record { holder = h.holder; client = h.client; live = λ on. ⊎_elim (λ e. mine.waits idle (h.number ∙ ap (λ (z : ℕ). z + 1) e)) h.live on; number = h.number; home = h.home; begun = h.begun }) s.state;
      each_seat = λ j u e. ⊎_elim (λ (h : (j ≡ other) × (spent_work ≡ u)). subst (λ (x : ℕ × Work E C R). Now x.0 x.1) (λ i. (sym h.0 i, h.1 i)) spent_now)
          (λ (h : (j ≢ other) × (get_elem? (set works id (closing v w)) j ≡ some u)). ⊎_elim (λ (g : (j ≡ id) × (closing v w ≡ u)). subst (λ (x : ℕ × Work E C R). Now x.0 x.1) (λ i. (sym g.0 i, g.1 i)) closing_now)
          (λ (g : (j ≢ id) × (get_elem? works j ≡ some u)). other_now j u g.0 h.0 g.1) (at_set works id j (closing v w) u h.1)) (at_set (set works id (closing v w)) other j spent_work u e);
    }

  pub lets_close : (id other : ℕ) (v w : Work E C R) → v.stage ≡ Spent → IsAtHome w.stage → w.holds ≡ false → LetsMerge n Half id v other w (closing v w) spent_work
  lets_close id other v w is home idle words homes works s at apart there = closes words homes works s id other v w at is apart (sym (set_else works id other (closing v w) apart) ∙ there) home idle

  pub close : KeptByClose served n
  close id other v w is home idle = merge_seat n Half id other v w (view_closing v w) view_spent refl refl (lets_close id other v.work w.work is home idle)

  pub enter : KeptByEnter served n
  enter size word s r sz small = (view_spent, new_seat n Half s view_spent r refl (view_more served n s.words s.homes (map work_of s.views) r.works spent_work (spent_true served n s.words s.homes (map work_of s.views) r.works)), refl)
