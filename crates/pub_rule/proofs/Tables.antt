-- Each kind of step keeps the rule of the table.
use Rattle.std.proofs.Common.{◌≡◌, ℕ, ◌+◌, ◌-◌, ◌<◌, List, [], ◌∷◌, ◌++◌, map, length, get_or, set, sym, refl, ap, ◌∙◌, subst, inl, inr, ⊎_elim, arith}
use mathlib.Core.List.{map-append}
use mathlib.Core.Option.{Option, none, some}
use lib.ListN.{get_elem?}
use lib.Seq.{set-get_or, map-set}
use Rattle.atomic_table.specs.Table.{State, step, Act, keeps, Valid, stepped, carried_after}
use Rattle.atomic_table.proofs.Lists.{set_again, set_else, exchanged, at_map}
use Rattle.pub_rule.specs.declared.walk.Walk.{Walk}
use Rattle.pub_rule.specs.declared.walk.View.{View}
use Rattle.pub_rule.specs.declared.walk.Role.TheVariants.{Maker, Joined}
use Rattle.pub_rule.specs.Words.{head_word, next_word}
use Rattle.pub_rule.specs.Lists.{IsOn, IsListOf, link_to, after}
use Rattle.pub_rule.specs.Walk.{Walks}
use Rattle.pub_rule.specs.Rule.{IsListWord, walk_of, work_of, IsIndependent, HasSlots, LetsSplit, Ruled}
use Rattle.pub_rule.specs.Steps.{Saw, client_of, made_of, with_list, with_stored, failed, joined, with_walk, head_exchanged, token, learned}
use Rattle.pub_rule.specs.Laws.{KeptBySplitClient, KeptBySplitToken, KeptByMerge, KeptByStoreNext, KeptByLoadHead, KeptByExchangeHead, KeptByLoadNext}
use Rattle.pub_rule.proofs.Numbers.{next_from_next}
use Rattle.pub_rule.proofs.Clients.{on_in_front, ends_with_all}
use Rattle.pub_rule.proofs.Kept.{fresh_below, looks, spends, stores, enters, tells, makes, sees, tried_still, tried_once_more, sees_itself, is_on, behind, known_below}

module _ {T W : Type 0} (n : ℕ) (serves : List ℕ → List (Option T) → List W → Type 0) where
  -- the work that a seat knows stays where the step leaves it
  work_stays : (views : List (View W)) (id : ℕ) (v w : View W) → get_elem? views id ≡ some v → w.work ≡ v.work → map work_of (set views id w) ≡ map work_of views
  work_stays views id v w at same = map-set work_of views id w ∙ (ap (set (map work_of views) id) same ∙ set_again (map work_of views) id v.work (at_map work_of views id v at))

  module _ (deaf : IsIndependent n serves) (deep : HasSlots n serves) where
    counted : (s : State T (View W)) (slots : ℕ) → Ruled n serves s → length s.homes ≡ slots → n ≡ slots - 1
    counted s slots r size = let d = deep s.words s.homes (map work_of s.views) r.works in omega arith

    -- a step that writes x to a word of the list, and leaves the seat with the view w
    writes : (s : State T (View W)) (i x id : ℕ) (v w : View W) → Ruled n serves s → get_elem? s.views id ≡ some v → w.work ≡ v.work → IsListWord n i → Walks n (set s.words i x) (set (map walk_of s.views) id w.walk)
        → Ruled n serves record { words = set s.words i x; homes = s.homes; views = set s.views id w }
    writes s i x id v w r at same listed walks = record {
      walks = subst (Walks n (set s.words i x)) (sym (map-set walk_of s.views id w)) walks;
      works = subst (serves (set s.words i x) s.homes) (sym (work_stays s.views id v w at same)) (deaf s.words s.homes (map work_of s.views) i x listed r.works);
    }

    -- a load writes back what it found
    reads : (s : State T (View W)) (i id : ℕ) (v w : View W) → Ruled n serves s → get_elem? s.views id ≡ some v → w.work ≡ v.work → IsListWord n i → Walks n s.words (set (map walk_of s.views) id w.walk)
        → Ruled n serves record { words = set s.words i (get_or s.words i 0); homes = s.homes; views = set s.views id w }
    reads s i id v w r at same listed walks = writes s i (get_or s.words i 0) id v w r at same listed (subst (λ (ws : List ℕ). Walks n ws (set (map walk_of s.views) id w.walk)) (sym (set-get_or s.words i 0)) walks)

    pub load_head : KeptByLoadHead n serves
    load_head slots id me s r size at _ = let k = r.walks in let v : Walk = me.0.walk in let vs : List Walk = map walk_of s.views in let there = at_map walk_of s.views id me.0 at in (
      with_walk (with_list k.roll.list v) me.0,
      keeps,
      tt,
      reads s head_word id me.0 (with_walk (with_list k.roll.list v) me.0) r at refl (inl refl)
          (looks n s.words vs k id v k.roll.list v.known v.tries there (ends_with_all k.roll.list) (tried_still n s.words vs k id v there) (k.each_seat id v there).told),
      record { list = k.roll.list; left = refl; link = k.head; saw = subst (λ (z : ℕ). Saw z v (with_list k.roll.list v)) (counted s slots r size) (sees n s.words vs k id v.tries v there (tried_still n s.words vs k id v there)) },
    )

    pub store_next : KeptByStoreNext n serves
    store_next slots id c x me is s r size at _ = let vs : List Walk = map walk_of s.views in let there = at_map walk_of s.views id me.0 at in (
      with_walk (with_stored x me.0.walk) me.0,
      keeps,
      tt,
      writes s (next_word c) x id me.0 (with_walk (with_stored x me.0.walk) me.0) r at refl (inr (c, fresh_below n s.words vs r.walks id c me.0.walk there is, refl)) (stores n s.words vs r.walks id c x me.0.walk there is),
      refl,
    )

    pub exchange_head : KeptByExchangeHead n serves
    exchange_head slots id c old new me is stored loaded number s r size at _ = let k = r.walks in let v : Walk = me.0.walk in let vs : List Walk = map walk_of s.views in let there = at_map walk_of s.views id me.0 at in
        let found : ℕ = get_or s.words head_word 0 in let itself : client_of v.role ≡ c = ap client_of is in let then = head_exchanged (step slots head_word old new none) me in
        let F : ℕ → Type 0 = λ x. (w : View W) × (a : Act T) × Valid s.homes me.1 a × Ruled n serves (stepped s head_word x id me.1 w a) × then found (w, carried_after me.1 a) in
        exchanged found old new F
        (λ hit. let same : found ≡ link_to v.list = hit ∙ sym loaded in (
          with_walk (joined v) me.0,
          keeps,
          tt,
          writes s head_word new id me.0 (with_walk (joined v) me.0) r at refl (inl refl)
              (enters n s.words vs k id c new v (joined v) there is (stored ∙ sym loaded) same number (ap (λ (z : ℕ). Joined z) itself) (ap (λ (z : ℕ). z ∷ v.list) itself) refl refl),
          record {
            hit = λ _. record {
              left = refl;
              saw = subst (λ (z : ℕ). Saw z v (joined v)) (counted s slots r size)
                  (sees_itself n s.words vs k id c v (joined v) there is same (ap (λ (z : ℕ). Joined z) itself) (ap (λ (z : ℕ). z ∷ v.list) itself) refl);
            };
            miss = λ other. absurd (other hit);
          },
        ))
        (λ miss. let more = tried_once_more n s.words vs k id v there (λ e. miss (e ∙ loaded)) in (
          with_walk (failed k.roll.list v) me.0,
          keeps,
          tt,
          reads s head_word id me.0 (with_walk (failed k.roll.list v) me.0) r at refl (inl refl)
              (looks n s.words vs k id v k.roll.list v.known (v.tries + 1) there (ends_with_all k.roll.list) more (k.each_seat id v there).told),
          record { hit = λ hit. absurd (miss hit); miss = λ _. record { list = k.roll.list; left = refl; link = k.head; saw = subst (λ (z : ℕ). Saw z v (failed k.roll.list v)) (counted s slots r size) (sees n s.words vs k id (v.tries + 1) v there more) } },
        ))

    pub load_next : KeptByLoadNext n serves
    load_next slots id c me known s r size at _ = let k = r.walks in let v : Walk = me.0.walk in let vs : List Walk = map walk_of s.views in let there = at_map walk_of s.views id me.0 at in
        let b = behind n s.words vs k id c v there known in let inside = known_below n s.words vs k id c v there known in (
          with_walk (with_list b.list v) me.0,
          keeps,
          tt,
          reads s (next_word c) id me.0 (with_walk (with_list b.list v) me.0) r at refl (inr (c, inside, refl))
              (looks n s.words vs k id v b.list v.known v.tries there b.loaded b.tried (k.each_seat id v there).told),
          λ d e _. let same : c ≡ d = next_from_next c d e in record {
            list = b.list;
            left = refl;
            link = b.link ∙ ap (λ (z : ℕ). link_to (after z b.list)) same;
            on = subst (λ (z : ℕ). IsOn z b.list) same b.on;
            same = λ h. b.same (subst (λ (z : ℕ). IsOn z v.list) (sym same) h);
            clients = subst (λ (z : ℕ). IsListOf z b.list) (counted s slots r size) b.clients;
            grown = b.grown;
          },
        )

  -- a split, of which the list's half is kept
  parts : (s : State T (View W)) (id : ℕ) (v left right : View W) → Ruled n serves s → get_elem? s.views id ≡ some v → LetsSplit n serves id v.work left.work right.work
      → Walks n s.words (set (map walk_of s.views) id left.walk ++ right.walk ∷ []) → Ruled n serves record { words = s.words; homes = s.homes; views = set s.views id left ++ right ∷ [] }
  parts s id v left right r at lets walks = record {
    walks = subst (Walks n s.words) (sym (map-append walk_of (set s.views id left) (right ∷ []) ∙ ap (λ (l : List Walk). l ++ right.walk ∷ []) (map-set walk_of s.views id left))) walks;
    works = subst (serves s.words s.homes) (sym (map-append work_of (set s.views id left) (right ∷ []) ∙ ap (λ (l : List W). l ++ right.work ∷ []) (map-set work_of s.views id left)))
        (lets s.words s.homes (map work_of s.views) r.works (at_map work_of s.views id v at));
  }

  pub split_client : KeptBySplitClient n serves
  split_client id k v left right is room l t lets s r at = let vs : List Walk = map walk_of s.views in let there = at_map walk_of s.views id v at in let itself : made_of v.walk.role ≡ k = ap made_of is in
      parts s id v left right r at lets (subst (λ (z : Walk × Walk). Walks n s.words (set vs id z.0 ++ z.1 ∷ [])) (λ i. (sym l i, sym t i))
      (makes n s.words vs r.walks id (made_of v.walk.role) v.walk there (is ∙ ap (λ (z : ℕ). Maker z) (sym itself)) (subst (λ (z : ℕ). z < n) (sym itself) room)))

  pub split_token : KeptBySplitToken n serves
  split_token id c v left right is l t lets s r at = let k = r.walks in let vs : List Walk = map walk_of s.views in let there = at_map walk_of s.views id v at in
      parts s id v left right r at lets (subst (λ (z : List Walk × Walk). Walks n s.words (z.0 ++ z.1 ∷ [])) (λ i. (sym (ap (set vs id) l ∙ set_again vs id v.walk there) i, sym t i))
      (tells n s.words vs k (token v.walk) refl refl refl (λ d h. ⊎_elim (λ e. subst (λ (z : ℕ). IsOn z k.roll.list) (sym (e ∙ ap client_of is)) (is_on n s.words vs k id c v.walk there is)) (λ u. absurd u) h)))

  pub merge_token : KeptByMerge n serves
  merge_token id other v w both gone is b g lets s r at apart there = let k = r.walks in let vs : List Walk = map walk_of s.views in let mine = at_map walk_of s.views id v at in
      let walks_are : map walk_of (set s.views id both) ≡ set vs id (learned v.walk w.walk) = map-set walk_of s.views id both ∙ ap (set vs id) b in let works_are = map-set work_of s.views id both in
      let token_there : get_elem? (set vs id (learned v.walk w.walk)) other ≡ some w.walk = ap (λ (l : List Walk). get_elem? l other) (sym walks_are) ∙ at_map walk_of (set s.views id both) other w there in
      let from_it = (k.each_seat other w.walk (sym (set_else vs id other (learned v.walk w.walk) apart) ∙ token_there)).told in let own = k.each_seat id v.walk mine in
      let told = looks n s.words vs k id v.walk v.walk.list (w.walk.known ++ v.walk.known) v.walk.tries mine own.loaded own.tried (λ c h. ⊎_elim (from_it c) (own.told c) (on_in_front c w.walk.known v.walk.known h)) in record {
        walks = subst (Walks n s.words) (sym (map-set walk_of (set s.views id both) other gone ∙ (ap (λ (l : List Walk). set l other gone.walk) walks_are ∙ ap (set (set vs id (learned v.walk w.walk)) other) g)))
            (spends n s.words (set vs id (learned v.walk w.walk)) told other w.walk token_there);
        works = subst (serves s.words s.homes) (sym (map-set work_of (set s.views id both) other gone ∙ ap (λ (l : List W). set l other gone.work) works_are))
            (lets s.words s.homes (map work_of s.views) r.works (at_map work_of s.views id v at) apart
            (ap (λ (l : List W). get_elem? l other) (sym works_are) ∙ at_map work_of (set s.views id both) other w there));
      }
