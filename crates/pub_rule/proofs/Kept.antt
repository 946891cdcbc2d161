-- The list and what the seats know of it, after a step. Nothing here speaks of slots, nor of other words than the head and the next words.
use Rattle.std.proofs.Common.{◌≡◌, ◌≢◌, ◌⊎◌, ℕ, suc, zero, ◌+◌, ◌<◌, ◌≤◌, List, [], ◌∷◌, ◌++◌, length, get_or, set, replicate, sym, refl, ap, ◌∙◌, subst, inl, inr, ⊎_elim, arith, length-set, get_or-set_other, get_or-set_same}
use mathlib.Core.Logic.{dite}
use mathlib.Core.Option.{some, some-injective, some-ne-none}
use native.Mathlib.Decide.{ℕ_discrete}
use lib.ListN.{get_elem?, length-replicate, get_or-replicate}
use Rattle.atomic_table.proofs.Lists.{at_set, set_here, set_else, at_longer, at_last, at_snoc}
use Rattle.pub_rule.specs.declared.walk.Walk.{Walk}
use Rattle.pub_rule.specs.declared.walk.Role.{Role}
use Rattle.pub_rule.specs.declared.walk.Role.TheVariants.{Spent, Maker, Fresh, Joined, Token}
use Rattle.pub_rule.specs.Words.{head_word, next_word, word_count}
use Rattle.pub_rule.specs.Lists.{IsOn, Distinct, IsListOf, EndsWith, link_to, after}
use Rattle.pub_rule.specs.Walk.{Roll, IsOnByRole, Stands, IsRole, Knows, Walks}
use Rattle.pub_rule.specs.Rule.{blank}
use Rattle.pub_rule.specs.Steps.{Saw, IsKnown, with_stored}
use Rattle.pub_rule.proofs.Numbers.{head_within, next_within, next_from_head, next_from_next}
use Rattle.pub_rule.proofs.Clients.{from, on_or_off, ends_with_all, ends_longer, on_end, end_shorter, same_head, other_head, from_ends, on_from, from_before, after_from, after_end, list_end, listed_below, link_after, linked_still}

abbrev pick : {P : Type 0} → Dec P → ℕ → ℕ → ℕ
pick (yes _) a b = a
pick (no _) a b = b

-- f, but c at i
put : (ℕ → ℕ) → ℕ → ℕ → ℕ → ℕ
put f i c j = pick (ℕ_discrete j i) c (f j)

put_here : (f : ℕ → ℕ) (i c : ℕ) → put f i c i ≡ c
unfolding put
put_here f i c = go (ℕ_discrete i i)
  where
    go : (d : Dec (i ≡ i)) → pick d c (f i) ≡ c
    go (yes _) = refl
    go (no n) = absurd (n refl)

put_else : (f : ℕ → ℕ) (i c j : ℕ) → j ≢ i → put f i c j ≡ f j
unfolding put
put_else f i c j other = go (ℕ_discrete j i)
  where
    go : (d : Dec (j ≡ i)) → pick d c (f j) ≡ f j
    go (yes e) = absurd (other e)
    go (no _) = refl

at_within : (views : List Walk) (i : ℕ) (v : Walk) → get_elem? views i ≡ some v → i < length views
at_within [] i v e = absurd (some-ne-none v (sym e))
at_within (x ∷ xs) zero v e = omega arith
at_within (x ∷ xs) (suc i) v e = let h = at_within xs i v e in omega arith

at_end : (views : List Walk) (w v : Walk) (j : ℕ) → get_elem? (views ++ w ∷ []) j ≡ some v → (get_elem? views j ≡ some v) ⊎ ((j ≡ length views) × (w ≡ v))
at_end [] w v zero e = inr (refl, some-injective w v e)
at_end [] w v (suc j) e = absurd (some-ne-none v (sym e))
at_end (x ∷ xs) w v zero e = inl e
at_end (x ∷ xs) w v (suc j) e = ⊎_elim (λ h. inl h) (λ t. inr (ap suc t.0, t.1)) (at_end xs w v j e)

seats_stay : (K : ℕ → Walk → Type 0) (views : List Walk) (id : ℕ) (w : Walk) → K id w → ((j : ℕ) (v : Walk) → j ≢ id → get_elem? views j ≡ some v → K j v) → (j : ℕ) (v : Walk) → get_elem? (set views id w) j ≡ some v → K j v
seats_stay K views id w mine others j v e = ⊎_elim (λ (t : (j ≡ id) × (w ≡ v)). subst (λ (x : ℕ × Walk). K x.0 x.1) (λ i. (sym t.0 i, t.1 i)) mine)
    (λ (t : (j ≢ id) × (get_elem? views j ≡ some v)). others j v t.0 t.1) (at_set views id j w v e)

-- a client at the seat j, after the seat id went from v to w
stands_still : (r j id : ℕ) (list list' : List ℕ) (views : List Walk) (v w : Walk) → get_elem? views id ≡ some v → (j ≡ id → IsOnByRole r list v.role → IsOnByRole r list' w.role)
    → (j ≢ id → (u : Walk) → IsOnByRole r list u.role → IsOnByRole r list' u.role) → Stands list views r j → Stands list' (set views id w) r j
stands_still r j id list list' views v w at hit miss s = dite (ℕ_discrete j id)
    (λ e. let same : s.0 ≡ v = some-injective s.0 v (sym s.1 ∙ (ap (get_elem? views) e ∙ at)) in
    (w, ap (get_elem? (set views id w)) e ∙ set_here views id w (at_within views id v at), hit e (subst (λ (u : Walk). IsOnByRole r list u.role) same s.2)))
    (λ other. (s.0, set_else views id j w other ∙ s.1, miss other s.0 s.2))

pub role_still : (roll : Roll) (list : List ℕ) (words words' : List ℕ) (j stored : ℕ) (role : Role) → ((c : ℕ) → roll.seat c ≡ j → get_or words' (next_word c) 0 ≡ get_or words (next_word c) 0)
    → IsRole roll words j stored role → IsRole (record roll { list = list }) words' j stored role
role_still roll list words words' j stored Spent same h = tt
role_still roll list words words' j stored (Maker k) same h = h
role_still roll list words words' j stored (Fresh c) same h = (h.0, h.1, same c h.1 ∙ h.2)
role_still roll list words words' j stored (Joined c) same h = h
role_still roll list words words' j stored Token same h = tt

on_by_longer : (r c : ℕ) (list : List ℕ) (role : Role) → r ≢ c → IsOnByRole r list role → IsOnByRole r (c ∷ list) role
on_by_longer r c list Spent other h = h
on_by_longer r c list (Maker k) other h = h
on_by_longer r c list (Fresh d) other h = (h.0, λ t. ⊎_elim other h.1 t)
on_by_longer r c list (Joined d) other h = (h.0, inr h.1)
on_by_longer r c list Token other h = h

nil_behind : (list : List ℕ) → list ≡ list ++ []
nil_behind [] = refl
nil_behind (x ∷ xs) = ap (λ (l : List ℕ). x ∷ l) (nil_behind xs)

made_more : (roll : Roll) (words : List ℕ) (j stored last : ℕ) (role : Role) → j ≢ 0 → IsRole roll words j stored role → IsRole (record roll { made = roll.made + 1; seat = put roll.seat roll.made last }) words j stored role
made_more roll words j stored last Spent other h = tt
made_more roll words j stored last (Maker k) other h = absurd (other h.0)
made_more roll words j stored last (Fresh c) other h = let below = h.0 in (omega arith, put_else roll.seat roll.made last c (λ e. omega arith) ∙ h.1, h.2)
made_more roll words j stored last (Joined c) other h = let below = h.0 in (omega arith, put_else roll.seat roll.made last c (λ e. omega arith) ∙ h.1)
made_more roll words j stored last Token other h = tt

abbrev IsJoined : Role → Type 0
IsJoined (Joined c) = Unit {0}
IsJoined _ = ⊥

module _ (n : ℕ) (words : List ℕ) (views : List Walk) (r : Walks n words views) where
  pub list_is : IsListOf n r.roll.list
  list_is = (r.distinct, λ c h. let a = listed_below r.roll.made words r.roll.list c r.linked h in let b = r.few in omega arith)

  -- what the role of a seat tells
  role_of : (id : ℕ) (v : Walk) (role : Role) → get_elem? views id ≡ some v → v.role ≡ role → IsRole r.roll words id v.stored role
  role_of id v role at is = subst (IsRole r.roll words id v.stored) is (r.each_seat id v at).role

  stands : (id c : ℕ) (v : Walk) (role : Role) → get_elem? views id ≡ some v → v.role ≡ role → c < r.roll.made → r.roll.seat c ≡ id → IsOnByRole c r.roll.list role
  stands id c v role at is small mine = let s = r.each_client c small in
      subst (IsOnByRole c r.roll.list) (ap (λ (u : Walk). u.role) (some-injective s.0 v (sym s.1 ∙ (ap (get_elem? views) mine ∙ at))) ∙ is) s.2

  pub is_off : (id c : ℕ) (v : Walk) → get_elem? views id ≡ some v → v.role ≡ Fresh c → ¬ IsOn c r.roll.list
  is_off id c v at is = let h = role_of id v (Fresh c) at is in (stands id c v (Fresh c) at is h.0 h.1).1

  pub is_on : (id c : ℕ) (v : Walk) → get_elem? views id ≡ some v → v.role ≡ Joined c → IsOn c r.roll.list
  is_on id c v at is = let h = role_of id v (Joined c) at is in (stands id c v (Joined c) at is h.0 h.1).1

  pub fresh_below : (id c : ℕ) (v : Walk) → get_elem? views id ≡ some v → v.role ≡ Fresh c → c < n
  fresh_below id c v at is = let h = role_of id v (Fresh c) at is in let below = h.0 in let few = r.few in omega arith

  -- a step that changes no word, and leaves the seat id with the view w
  becomes : (id : ℕ) (v w : Walk) → get_elem? views id ≡ some v → ((q : ℕ) → IsOnByRole q r.roll.list v.role → IsOnByRole q r.roll.list w.role) → Knows r.roll words id w
      → Walks n words (set views id w)
  becomes id v w at still knows = record {
    roll = r.roll;
    wide = r.wide;
    few = r.few;
    head = r.head;
    linked = r.linked;
    distinct = r.distinct;
    unmade = r.unmade;
    each_client = λ q l. stands_still q (r.roll.seat q) id r.roll.list r.roll.list views v w at (λ _. still q) (λ _ _ h. h) (r.each_client q l);
    each_seat = seats_stay (Knows r.roll words) views id w knows (λ j u _ e. r.each_seat j u e);
  }

  -- the same, by a seat that keeps its role
  pub looks : (id : ℕ) (v : Walk) (list known : List ℕ) (tries : ℕ) → get_elem? views id ≡ some v → EndsWith r.roll.list list → tries ≤ length list → ((c : ℕ) → IsOn c known → IsOn c r.roll.list)
      → Walks n words (set views id (record v { list = list; known = known; tries = tries }))
  looks id v list known tries at loaded tried told = becomes id v (record v { list = list; known = known; tries = tries }) at (λ _ h. h) record {
    role = (r.each_seat id v at).role;
    loaded = loaded;
    tried = tried;
    told = told;
  }

  -- a seat is spent
  pub spends : (id : ℕ) (v : Walk) → get_elem? views id ≡ some v → Walks n words (set views id (blank Spent))
  spends id v at = becomes id v (blank Spent) at (λ _ _. tt) record { role = tt; loaded = (r.roll.list, nil_behind r.roll.list); tried = omega arith; told = λ c h. absurd h }

  -- an unjoined client stores to its next word
  pub stores : (id c x : ℕ) (v : Walk) → get_elem? views id ≡ some v → v.role ≡ Fresh c → Walks n (set words (next_word c) x) (set views id (with_stored x v))
  stores id c x v at is = let mine = role_of id v (Fresh c) at is in let off = is_off id c v at is in let few = r.few in let small = mine.0 in let inside : c < n = omega arith in
      let within : next_word c < length words = subst (λ (k : ℕ). next_word c < k) (sym r.wide) (next_within c n inside) in
      let else : (q : ℕ) → q ≢ c → get_or (set words (next_word c) x) (next_word q) 0 ≡ get_or words (next_word q) 0 = λ q other. get_or-set_other words (next_word c) (next_word q) x 0 (λ e. other (next_from_next q c e)) in
      record {
        roll = r.roll;
        wide = length-set words (next_word c) x ∙ r.wide;
        few = r.few;
        head = get_or-set_other words (next_word c) head_word x 0 (λ e. next_from_head c (sym e)) ∙ r.head;
        linked = linked_still r.roll.made r.roll.made words (set words (next_word c) x) r.roll.list (omega arith) (λ q h. else q (λ e. off (subst (λ (z : ℕ). IsOn z r.roll.list) e h))) r.linked;
        distinct = r.distinct;
        unmade = λ q a b. else q (λ e. omega arith) ∙ r.unmade q a b;
        each_client = λ q l. stands_still q (r.roll.seat q) id r.roll.list r.roll.list views v (with_stored x v) at (λ _ h. h) (λ _ _ h. h) (r.each_client q l);
        each_seat = seats_stay (Knows r.roll (set words (next_word c) x)) views id (with_stored x v)
            (let k = r.each_seat id v at in record {
              role = subst (IsRole r.roll (set words (next_word c) x) id x) (sym is) (mine.0, mine.1, get_or-set_same words (next_word c) x 0 within);
              loaded = k.loaded;
              tried = k.tried;
              told = k.told;
            })
            (λ j u other e. let k = r.each_seat j u e in record {
              role = role_still r.roll r.roll.list words (set words (next_word c) x) j u.stored u.role (λ q s. else q (λ same. other (sym s ∙ (ap r.roll.seat same ∙ mine.1)))) k.role;
              loaded = k.loaded;
              tried = k.tried;
              told = k.told;
            });
      }

  -- the head is as it was loaded: so is the list
  pub same_list : (id : ℕ) (v : Walk) → get_elem? views id ≡ some v → get_or words head_word 0 ≡ link_to v.list → r.roll.list ≡ v.list
  same_list id v at found = same_head r.roll.list v.list r.distinct (r.each_seat id v at).loaded (sym r.head ∙ found)

  -- an unjoined client becomes the head, before the list that its next word leads to
  pub enters : (id c x : ℕ) (v w : Walk) → get_elem? views id ≡ some v → v.role ≡ Fresh c → v.stored ≡ link_to v.list → get_or words head_word 0 ≡ link_to v.list → x ≡ c + 1
      → w.role ≡ Joined c → w.list ≡ c ∷ v.list → w.known ≡ v.known → w.tries ≡ v.tries + 1 → Walks n (set words head_word x) (set views id w)
  enters id c x v w at is stored found number role list known tries = let mine = role_of id v (Fresh c) at is in let off = is_off id c v at is in let same = same_list id v at found in
      let within : head_word < length words = subst (λ (k : ℕ). head_word < k) (sym r.wide) (head_within n) in
      let else : (q : ℕ) → get_or (set words head_word x) (next_word q) 0 ≡ get_or words (next_word q) 0 = λ q. get_or-set_other words head_word (next_word q) x 0 (next_from_head q) in
      record {
        roll = record r.roll { list = c ∷ r.roll.list };
        wide = length-set words head_word x ∙ r.wide;
        few = r.few;
        head = get_or-set_same words head_word x 0 within ∙ number;
        linked = (mine.0, else c ∙ (mine.2 ∙ (stored ∙ ap link_to (sym same))), linked_still r.roll.made r.roll.made words (set words head_word x) r.roll.list (omega arith) (λ q _. else q) r.linked);
        distinct = (off, r.distinct);
        unmade = λ q a b. else q ∙ r.unmade q a b;
        each_client = λ q l. stands_still q (r.roll.seat q) id r.roll.list (c ∷ r.roll.list) views v w at
            (λ _ h. subst (IsOnByRole q (c ∷ r.roll.list)) (sym role) (let t = subst (IsOnByRole q r.roll.list) is h in (t.0, inl (sym t.0))))
            (λ other u h. on_by_longer q c r.roll.list u.role (λ e. other (ap r.roll.seat e ∙ mine.1)) h) (r.each_client q l);
        each_seat = seats_stay (Knows (record r.roll { list = c ∷ r.roll.list }) (set words head_word x)) views id w
            (let k = r.each_seat id v at in let tried = k.tried in let size = ap length list in record {
              role = subst (IsRole (record r.roll { list = c ∷ r.roll.list }) (set words head_word x) id w.stored) (sym role) (mine.0, mine.1);
              loaded = ([], ap (λ (l : List ℕ). c ∷ l) same ∙ sym list);
              tried = omega arith;
              told = λ q h. inr (k.told q (subst (IsOn q) known h));
            })
            (λ j u other e. let k = r.each_seat j u e in record {
              role = role_still r.roll (c ∷ r.roll.list) words (set words head_word x) j u.stored u.role (λ q _. else q) k.role;
              loaded = ends_longer c r.roll.list u.list k.loaded;
              tried = k.tried;
              told = λ q h. inr (k.told q h);
            });
      }

  -- a seat that is nobody's knows nothing
  pub enters_spent : Walks n words (views ++ blank Spent ∷ [])
  enters_spent = record {
    roll = r.roll;
    wide = r.wide;
    few = r.few;
    head = r.head;
    linked = r.linked;
    distinct = r.distinct;
    unmade = r.unmade;
    each_client = λ q l. let s = r.each_client q l in (s.0, at_longer views (blank Spent ∷ []) (r.roll.seat q) s.0 s.1, s.2);
    each_seat = λ j u e. ⊎_elim (r.each_seat j u) (λ (t : blank Spent ≡ u). subst (Knows r.roll words j) t record { role = tt; loaded = (r.roll.list, nil_behind r.roll.list); tried = omega arith; told = λ c h. absurd h }) (at_snoc views (blank Spent) u j e);
  }

  -- a token that tells the truth
  pub tells : (w : Walk) → w.role ≡ Token → w.list ≡ [] → w.tries ≡ 0 → ((c : ℕ) → IsOn c w.known → IsOn c r.roll.list) → Walks n words (views ++ w ∷ [])
  tells w role list tries told = record {
    roll = r.roll;
    wide = r.wide;
    few = r.few;
    head = r.head;
    linked = r.linked;
    distinct = r.distinct;
    unmade = r.unmade;
    each_client = λ q l. let s = r.each_client q l in (s.0, at_longer views (w ∷ []) (r.roll.seat q) s.0 s.1, s.2);
    each_seat = λ j u e. ⊎_elim (r.each_seat j u) (λ (t : w ≡ u). subst (Knows r.roll words j) t record {
      role = subst (IsRole r.roll words j w.stored) (sym role) tt;
      loaded = (r.roll.list, sym (ap (λ (l : List ℕ). r.roll.list ++ l) list ∙ sym (nil_behind r.roll.list)));
      tried = omega arith;
      told = told;
    }) (at_snoc views w u j e);
  }

  -- the first seat makes the seat of the next client
  pub makes : (id k : ℕ) (v : Walk) → get_elem? views id ≡ some v → v.role ≡ Maker k → k < n → Walks n words (set views id (record v { role = Maker (k + 1) }) ++ blank (Fresh k) ∷ [])
  makes id k v at is room = let mine = role_of id v (Maker k) at is in let next = mine.1 in let w : Walk = record v { role = Maker (k + 1) } in let new : Walk = blank (Fresh k) in
      let vs : List Walk = set views id w in let last : ℕ = length vs in let seat' : ℕ → ℕ = put r.roll.seat r.roll.made last in let more : Roll = record r.roll { made = r.roll.made + 1; seat = seat' } in record {
        roll = more;
        wide = r.wide;
        few = omega arith;
        head = r.head;
        linked = linked_still r.roll.made (r.roll.made + 1) words words r.roll.list (omega arith) (λ _ _. refl) r.linked;
        distinct = r.distinct;
        unmade = λ q a b. r.unmade q (omega arith) b;
        each_client = λ q l. dite (ℕ_discrete q r.roll.made)
            (λ e. (
              new,
              ap (get_elem? (vs ++ new ∷ [])) (ap seat' e ∙ put_here r.roll.seat r.roll.made last) ∙ at_last vs new last refl,
              (
                next ∙ sym e,
                λ h. let below = listed_below r.roll.made words r.roll.list q r.linked h in omega arith,
              ),
            ))
            (λ other. let s = stands_still q (r.roll.seat q) id r.roll.list r.roll.list views v w at (λ _ h. absurd (subst (IsOnByRole q r.roll.list) is h)) (λ _ _ h. h) (r.each_client q (omega arith)) in
            (s.0, ap (get_elem? (vs ++ new ∷ [])) (put_else r.roll.seat r.roll.made last q other) ∙ at_longer vs (new ∷ []) (r.roll.seat q) s.0 s.1, s.2));
        each_seat = λ j u e. ⊎_elim
            (seats_stay (Knows more words) views id w
            (let k' = r.each_seat id v at in record { role = (mine.0, ap (λ (z : ℕ). z + 1) next); loaded = k'.loaded; tried = k'.tried; told = k'.told })
            (λ i x other a. let k' = r.each_seat i x a in record {
              role = made_more r.roll words i x.stored last x.role (λ z. other (z ∙ sym mine.0)) k'.role;
              loaded = k'.loaded;
              tried = k'.tried;
              told = k'.told;
            }) j u)
            (λ (t : (j ≡ last) × (new ≡ u)). subst (Knows more words j) t.1 record {
              role = (omega arith, ap seat' next ∙ (put_here r.roll.seat r.roll.made last ∙ sym t.0), r.unmade k (omega arith) room);
              loaded = (r.roll.list, nil_behind r.roll.list);
              tried = omega arith;
              told = λ c h. absurd h;
            }) (at_end vs new u j e);
      }

  -- what the seat id sees where it loads the whole list
  pub sees : (id tries : ℕ) (v : Walk) → get_elem? views id ≡ some v → tries ≤ length r.roll.list → Saw n v (record v { list = r.roll.list; tries = tries })
  sees id tries v at tried = let k = r.each_seat id v at in record {
    clients = list_is;
    grown = k.loaded;
    tried = tried;
    told = k.told;
    joined = λ c is. is_on id c v at is;
    unjoined = λ c is. is_off id c v at is;
  }

  pub tried_still : (id : ℕ) (v : Walk) → get_elem? views id ≡ some v → v.tries ≤ length r.roll.list
  tried_still id v at = let k = r.each_seat id v at in let tried = k.tried in let size = end_shorter r.roll.list v.list k.loaded in omega arith

  -- the head is another one than it was: the list has grown
  pub tried_once_more : (id : ℕ) (v : Walk) → get_elem? views id ≡ some v → get_or words head_word 0 ≢ link_to v.list → v.tries + 1 ≤ length r.roll.list
  tried_once_more id v at other = let k = r.each_seat id v at in let tried = k.tried in let size = other_head r.roll.list v.list k.loaded (λ same. other (r.head ∙ same)) in omega arith

  -- what a client sees as it joins
  pub sees_itself : (id c : ℕ) (v w : Walk) → get_elem? views id ≡ some v → v.role ≡ Fresh c → get_or words head_word 0 ≡ link_to v.list → w.role ≡ Joined c → w.list ≡ c ∷ v.list → w.tries ≡ v.tries + 1 → Saw n v w
  sees_itself id c v w at is found role list tries = let k = r.each_seat id v at in let same = same_list id v at found in let mine = role_of id v (Fresh c) at is in let few = r.few in let small = mine.0 in let tried = k.tried in
      let size = ap length list in record {
        clients = subst (IsListOf n) (sym list ∙ refl) (
          (subst (λ (l : List ℕ). ¬ IsOn c l) same (is_off id c v at is), subst (λ (l : List ℕ). Distinct l) same r.distinct),
          λ q h. ⊎_elim (λ e. omega arith) (λ t. list_is.1 q (subst (IsOn q) (sym same) t)) h,
        );
        grown = (c ∷ [], list);
        tried = omega arith;
        told = λ q h. subst (IsOn q) (sym list) (inr (subst (IsOn q) same (k.told q h)));
        joined = λ q e. subst (IsOn q) (sym list) (inr (subst (IsOn q) same (is_on id q v at e)));
        unjoined = λ q e. absurd (subst IsJoined (sym role ∙ e) tt);
      }

  -- what is seen of a client that is known to have joined: the list that was loaded, or else that from the client on
  known_on : (id c : ℕ) (v : Walk) → get_elem? views id ≡ some v → IsKnown c v → IsOn c r.roll.list
  known_on id c v at h = let k = r.each_seat id v at in ⊎_elim (on_end c r.roll.list v.list k.loaded) (k.told c) h

  pub known_below : (id c : ℕ) (v : Walk) → get_elem? views id ≡ some v → IsKnown c v → c < n
  known_below id c v at h = list_is.1 c (known_on id c v at h)

  pub record Behind (c : ℕ) (v : Walk) : Type 0 where
    pub list : List ℕ
    pub loaded : EndsWith r.roll.list list
    pub grown : EndsWith list v.list
    pub tried : v.tries ≤ length list
    pub on : IsOn c list
    pub same : IsOn c v.list → list ≡ v.list
    pub link : get_or words (next_word c) 0 ≡ link_to (after c list)
    pub clients : IsListOf n list

  behind_by : (id c : ℕ) (v : Walk) → get_elem? views id ≡ some v → IsOn c r.roll.list → Dec (IsOn c v.list) → Behind c v
  behind_by id c v at on (yes here) = let k = r.each_seat id v at in record {
    list = v.list;
    loaded = k.loaded;
    grown = ends_with_all v.list;
    tried = k.tried;
    on = here;
    same = λ _. refl;
    link = link_after r.roll.made words r.roll.list c r.linked on ∙ ap link_to (after_end c r.roll.list v.list r.distinct k.loaded here);
    clients = list_end n r.roll.list v.list list_is k.loaded;
  }
  behind_by id c v at on (no off) = let k = r.each_seat id v at in let ends = from_ends c r.roll.list on in let grown = from_before c r.roll.list v.list k.loaded off on in let tried = k.tried in let size = end_shorter (from c r.roll.list) v.list grown in record {
    list = from c r.roll.list;
    loaded = ends;
    grown = grown;
    tried = omega arith;
    on = on_from c r.roll.list on;
    same = λ here. absurd (off here);
    link = link_after r.roll.made words r.roll.list c r.linked on ∙ ap link_to (sym (after_from c r.roll.list));
    clients = list_end n r.roll.list (from c r.roll.list) list_is ends;
  }

  pub behind : (id c : ℕ) (v : Walk) → get_elem? views id ≡ some v → IsKnown c v → Behind c v
  behind id c v at h = behind_by id c v at (known_on id c v at h) (on_or_off c v.list)

-- the table at the start
pub starts : (n : ℕ) → Walks n (replicate (word_count n) 0) (blank (Maker 0) ∷ [])
starts n = record {
  roll = record { list = []; made = 0; seat = λ _. 0 };
  wide = length-replicate (word_count n) 0;
  few = omega arith;
  head = get_or-replicate (word_count n) head_word 0 0 (head_within n);
  linked = tt;
  distinct = tt;
  unmade = λ q _ b. get_or-replicate (word_count n) (next_word q) 0 0 (next_within q n b);
  each_client = λ q l. absurd (omega arith);
  each_seat = λ j u e. ⊎_elim (λ none. absurd (some-ne-none u (sym none))) (λ (t : (j ≡ 0) × (blank (Maker 0) ≡ u)). subst (Knows (record { list = []; made = 0; seat = λ _. 0 }) (replicate (word_count n) 0) j) t.1
      record { role = (t.0, refl); loaded = ([], refl); tried = omega arith; told = λ c h. absurd h }) (at_end [] (blank (Maker 0)) u j e);
}
