-- The steps of a client at a word that the code names, and its seat after them.
use Rattle.std.proofs.Common.{◌≡◌, ℕ, zero, suc, eqb, ◌+◌, ◌-◌, ◌<◌, ◌≤◌, List, [], ◌∷◌, ◌++◌, length, replicate, IfSome, sym, refl, ap, ◌∙◌, subst, inl, inr, ⊎_elim, arith, Some, None, ne_eqb, Bool, true, false, ◌||◌, ◌&&◌, eq-eqb}
use Rattle.std.specs.Prelude.{◌==◌}
use mathlib.Core.Bool.{cond}
use Rattle.std.specs.List.{slice_get}
use mathlib.Core.Option.{Option, none}
use prog.Atomic.{either}
use Rattle.atomic_table.specs.Table.{Me, step, Allows, opening}
use Rattle.atomic_table.specs.Seated.{TableId}
use Rattle.atomic_table.specs.declared.shared.Seat.{Seat}
use Rattle.pub_rule.specs.declared.served.Served.{Ghosts}
use Rattle.pub_rule.specs.declared.work.Mark.{Mark}
use Rattle.pub_rule.specs.declared.walk.View.{View}
use Rattle.pub_rule.specs.declared.walk.Role.TheVariants as roles
use Rattle.pub_rule.specs.Words.{head_word, next_word, state_word, word_count}
use Rattle.pub_rule.specs.Lists.{IsOn, IsListOf, EndsWith, link_to, head_of, after}
use Rattle.pub_rule.specs.Rule.{Ruled, slots_of, opening_view}
use Rattle.pub_rule.specs.Independent.{independent, sized}
use Rattle.pub_rule.specs.Work.{IsMarked, Serves}
use Rattle.pub_rule.specs.WorkSteps.{Fetches}
use Rattle.pub_rule.specs.WorkSplits.{opening_work, token_made, view_taught, taught, is_marked}
use Rattle.pub_rule.specs.declared.work.Work.{Work}
use Rattle.pub_rule.specs.declared.work.Stage.TheVariants.{Away}
use Rattle.pub_rule.proofs.Clientwork.{fetch}
use Rattle.pub_rule.proofs.Splitting.{opens}
use Rattle.pub_rule.specs.declared.served.Slot.{Slot}
use Rattle.pub_rule.specs.Steps.{IsKnown, with_list, with_walk, head_loaded, next_stored, head_exchanged, next_loaded, client_of}
use Rattle.pub_rule.proofs.Clients.{by_equal}
use Rattle.pub_rule.proofs.Tables.{load_head, store_next, exchange_head, load_next}
use Rattle.pub_list.specs.Records.{IsLooked}
use Rattle.pub_list.specs.Telling.{IsTaught}
use Rattle.pub_list.specs.declared.records.WordState.{WordState}
use Rattle.pub_list.specs.Joined.{IsJoined, is_on, IsWorking, SeesAll, SeesFrom, client_at, seen, told, work}

pub link_small : (n : ℕ) (list : List ℕ) → IsListOf n list → link_to list ≤ n
link_small n [] l = omega arith
link_small n (c ∷ cs) l = let below = l.1 c (inl refl) in omega arith

list_after : (n c : ℕ) (list : List ℕ) → IsListOf n list → IsListOf n (after c list)
list_after n c [] l = l
list_after n c (x ∷ xs) l = let rest : IsListOf n xs = (l.0.1, λ q h. l.1 q (inr h)) in by_equal (λ b. IsListOf n (cond b xs (after c xs))) x c (λ _. rest) (λ _. list_after n c xs rest)

-- the rule where a state is served
module _ {E C R S : Type 0} (served : Ghosts S E C R) (n : ℕ) where
  abbrev pub rule : List ℕ → List (Option (Slot C R S)) → List (Work E C R) → Type 0
  rule = Serves served n

  module _ (slots id word : ℕ) (me : Me (Slot C R S) (View (Work E C R))) where
    pub head_loads : word ≡ head_word → Allows (Ruled n rule) slots id me word (λ x. x) (head_loaded (step slots word 0 0 none) me)
    head_loads e = subst (λ (i : ℕ). Allows (Ruled n rule) slots id me i (λ x. x) (head_loaded (step slots i 0 0 none) me)) (sym e) (load_head n rule (independent served n) (sized served n) slots id me)

    pub next_loads : (c : ℕ) → word ≡ next_word c → IsKnown c me.0.walk → Allows (Ruled n rule) slots id me word (λ x. x) (next_loaded (step slots word 0 0 none) me)
    next_loads c e known = subst (λ (i : ℕ). Allows (Ruled n rule) slots id me i (λ x. x) (next_loaded (step slots i 0 0 none) me)) (sym e) (load_next n rule (independent served n) (sized served n) slots id c me known)

    pub next_stores : (c x : ℕ) → word ≡ next_word c → me.0.walk.role ≡ roles.Fresh c → Allows (Ruled n rule) slots id me word (λ _. x) (λ _. next_stored (step slots word x 0 none) me x)
    next_stores c x e is = subst (λ (i : ℕ). Allows (Ruled n rule) slots id me i (λ _. x) (λ _. next_stored (step slots i x 0 none) me x)) (sym e) (store_next n rule (independent served n) (sized served n) slots id c x me is)

    pub head_exchanges : (c old new : ℕ) → word ≡ head_word → me.0.walk.role ≡ roles.Fresh c → me.0.walk.stored ≡ old → link_to me.0.walk.list ≡ old → new ≡ c + 1
        → Allows (Ruled n rule) slots id me word (λ k. either (eqb k old) new k) (head_exchanged (step slots word old new none) me)
    head_exchanges c old new e is stored loaded number = subst (λ (i : ℕ). Allows (Ruled n rule) slots id me i (λ k. either (eqb k old) new k) (head_exchanged (step slots i old new none) me)) (sym e)
        (exchange_head n rule (independent served n) (sized served n) slots id c old new me is stored loaded number)

    pub slot_fetches : (c : ℕ) → word ≡ state_word c → me.0.work.stage ≡ Away c → Allows (Ruled n rule) slots id me word (λ k. k) (λ k m'. Fetches me m')
    slot_fetches c e is = subst (λ (i : ℕ). Allows (Ruled n rule) slots id me i (λ k. k) (λ k m'. Fetches me m')) (sym e) (fetch served n slots id c me is)

-- who is known to have joined is one of the clients
pub known_small : {E C R S : Type 0} (client clients slots : ℕ) (seat : Seat (Slot C R S) (View (Work E C R))) → IsJoined client seat → seat.table_id.slots ≡ slots → slots ≡ clients + 1 → (c : ℕ) → IsKnown c seat.me.0.walk → c < clients
known_small client clients slots seat own at sized c known = let below : c < seat.table_id.slots - 1 = ⊎_elim (own.listed c) (own.others c) known in omega arith

-- a client's seat after it loaded a list
module _ {E C R S : Type 0} (client clients slots : ℕ) (old new : Seat (Slot C R S) (View (Work E C R))) (own : IsJoined client old) (at : old.table_id.slots ≡ slots) (sized : slots ≡ clients + 1) (same : new.table_id ≡ old.table_id) where
  pub joined_still : (list : List ℕ) → new.me ≡ (with_walk (with_list list old.me.0.walk) old.me.0, old.me.1) → IsListOf (slots - 1) list → IsJoined client new
  joined_still list e l = record {
    role = ap (λ (m : Me (Slot C R S) (View (Work E C R))). m.0.walk.role) e ∙ own.role;
    working = subst (λ (z : TableId). IsWorking client (z.slots - 1) (work new) new.me.1) (sym same) (subst (λ (m : Me (Slot C R S) (View (Work E C R))). IsWorking client (old.table_id.slots - 1) m.0.work m.1) (sym e) own.working);
    small = subst (λ (z : TableId). client + 1 < z.slots) (sym same) own.small;
    listed = λ c h. subst (λ (z : TableId). c < z.slots - 1) (sym same) (subst (λ (k : ℕ). c < k - 1) (sym at) (l.1 c (subst (IsOn c) (ap (λ (m : Me (Slot C R S) (View (Work E C R))). m.0.walk.list) e) h)));
    others = λ c h. subst (λ (z : TableId). c < z.slots - 1) (sym same) (own.others c (subst (IsOn c) (ap (λ (m : Me (Slot C R S) (View (Work E C R))). m.0.walk.known) e) h));
    heard = λ r k h. ap (is_on r) (ap (λ (m : Me (Slot C R S) (View (Work E C R))). m.0.walk.known) e) ∙ own.heard r k (subst (IsMarked r k) (ap (λ (m : Me (Slot C R S) (View (Work E C R))). m.0.work.heard) e) h);
  }

  counted : (list : List ℕ) → IsListOf (slots - 1) list → IsListOf clients list
  counted list l = subst (λ (k : ℕ). IsListOf k list) (omega arith) l

  pub first_read : (word k : ℕ) → head_loaded (step slots word 0 0 none) old.me k new.me → IsJoined client new × (SeesAll client old new × IsListOf clients (seen new)) × (k ≤ clients) × (k ≡ link_to (seen new))
  first_read word k did = let now : seen new ≡ did.list = ap (λ (m : Me (Slot C R S) (View (Work E C R))). m.0.walk.list) did.left in let l = counted did.list did.saw.clients in (
    joined_still did.list did.left did.saw.clients,
    subst (λ (l : List ℕ). (IsOn client l × ((c : ℕ) → IsOn c (told old) → IsOn c l) × EndsWith l (seen old)) × IsListOf clients l) (sym now) ((did.saw.joined client own.role, did.saw.told, did.saw.grown), l),
    subst (λ (x : ℕ). x ≤ clients) (sym did.link) (link_small clients did.list l),
    did.link ∙ ap link_to (sym now),
  )

  pub next_read : (word k c : ℕ) → word ≡ next_word c → IsKnown c old.me.0.walk → next_loaded (step slots word 0 0 none) old.me k new.me
      → IsJoined client new × (SeesFrom c old new × IsListOf clients (seen new)) × (k ≤ clients) × (k ≡ link_to (after c (seen new)))
  next_read word k c is known did = let d = did c is known in let now : seen new ≡ d.list = ap (λ (m : Me (Slot C R S) (View (Work E C R))). m.0.walk.list) d.left in let l = counted d.list d.clients in (
    joined_still d.list d.left d.clients,
    subst (λ (l : List ℕ). (IsOn c l × EndsWith l (seen old) × (IsOn c (seen old) → l ≡ seen old)) × IsListOf clients l) (sym now) ((d.on, d.grown, d.same), l),
    subst (λ (x : ℕ). x ≤ clients) (sym d.link) (link_small clients (after c d.list) (list_after clients c d.list l)),
    d.link ∙ ap (λ (l : List ℕ). link_to (after c l)) (sym now),
  )

-- the client that a link leads to
pub client_read : (k : ℕ) (list : List ℕ) → k ≡ link_to list → client_at k ≡ head_of list
client_read k list e = ap client_at e ∙ go list
  where
    go : (l : List ℕ) → client_at (link_to l) ≡ head_of l
    go [] = refl
    go (c ∷ cs) = ap (λ b. cond b None (Some (c + 1 - 1))) (ne_eqb (c + 1) 0 (λ e. omega arith)) ∙ ap (λ (x : ℕ). Some x) (omega arith)

or_true : (b : Bool) → (b || true) ≡ true
or_true true = refl
or_true false = refl

-- a client tells that it joined, and another learns it
module _ {E C R S : Type 0} where
  pub told_still : (client : ℕ) (old new : Seat (Slot C R S) (View (Work E C R))) → IsJoined client old → new.table_id ≡ old.table_id → new.me ≡ old.me → IsJoined client new
  told_still client old new own same e = record {
    role = ap (λ (m : Me (Slot C R S) (View (Work E C R))). m.0.walk.role) e ∙ own.role;
    working = subst (λ (z : TableId). IsWorking client (z.slots - 1) (work new) new.me.1) (sym same) (subst (λ (m : Me (Slot C R S) (View (Work E C R))). IsWorking client (old.table_id.slots - 1) m.0.work m.1) (sym e) own.working);
    small = subst (λ (z : TableId). client + 1 < z.slots) (sym same) own.small;
    listed = λ c h. subst (λ (z : TableId). c < z.slots - 1) (sym same) (own.listed c (subst (IsOn c) (ap (λ (m : Me (Slot C R S) (View (Work E C R))). m.0.walk.list) e) h));
    others = λ c h. subst (λ (z : TableId). c < z.slots - 1) (sym same) (own.others c (subst (IsOn c) (ap (λ (m : Me (Slot C R S) (View (Work E C R))). m.0.walk.known) e) h));
    heard = λ r k h. ap (is_on r) (ap (λ (m : Me (Slot C R S) (View (Work E C R))). m.0.walk.known) e) ∙ own.heard r k (subst (IsMarked r k) (ap (λ (m : Me (Slot C R S) (View (Work E C R))). m.0.work.heard) e) h);
  }

module _ {E C R S : Type 0} (client teacher : ℕ) (old new from said : Seat (Slot C R S) (View (Work E C R))) (own : IsJoined client old) (its : IsJoined teacher from) (z : TableId) (at : old.table_id ≡ z) (there : from.table_id ≡ z) (same : new.table_id ≡ old.table_id)
    (tells : said.me ≡ (token_made from.me.0, [])) (did : new.me ≡ (view_taught old.me.0 said.me.0, old.me.1)) where
  pub teaches : new.me.0 ≡ view_taught old.me.0 (token_made from.me.0)
  teaches = ap (λ (m : Me (Slot C R S) (View (Work E C R))). m.0) did ∙ ap (λ (m : Me (Slot C R S) (View (Work E C R))). view_taught old.me.0 m.0) tells

  pub is_taught : (legal : List E → Type 0) (owns : List E → ℕ → List C) (replies : List E → ℕ → List R) (then : Seat (Slot C R S) (View (Work E C R))) (s : WordState) → IsLooked legal owns replies client new.me.0 then.me.0 s → IsTaught legal owns replies client old.me.0 from.me.0 then.me.0
  is_taught legal owns replies then s looked = let t = subst (λ (v : View (Work E C R)). IsLooked legal owns replies client v then.me.0 s) teaches looked in (t.0, s, t.1, t.2, t.3, t.4, t.5)

  pub told_more : told new ≡ teacher ∷ told old
  told_more = ap (λ (m : Me (Slot C R S) (View (Work E C R))). m.0.walk.known) did ∙ (ap (λ (m : Me (Slot C R S) (View (Work E C R))). m.0.walk.known ++ told old) tells ∙ ap (λ (c : ℕ). c ∷ told old) (ap client_of its.role))

  heard_more : (work new).heard ≡ record { client = teacher; post = (work from).posts } ∷ (work old).heard
  heard_more = ap (λ (v : View (Work E C R)). v.work.heard) teaches ∙ ap (λ (c : ℕ). record { client = c; post = (work from).posts } ∷ (work old).heard) its.working.own

  still_working : {n : ℕ} → IsWorking client n (work old) old.me.1 → IsWorking client n (taught (work old) (work said)) old.me.1
  still_working w = record { own = w.own; live = w.live; hands_are = w.hands_are; quiet = w.quiet; below = w.below }

  pub has_learned : IsJoined client new
  has_learned = record {
    role = ap (λ (m : Me (Slot C R S) (View (Work E C R))). m.0.walk.role) did ∙ own.role;
    working = subst (λ (z : TableId). IsWorking client (z.slots - 1) (work new) new.me.1) (sym same) (subst (λ (m : Me (Slot C R S) (View (Work E C R))). IsWorking client (old.table_id.slots - 1) m.0.work m.1) (sym did) (still_working own.working));
    small = subst (λ (z : TableId). client + 1 < z.slots) (sym same) own.small;
    listed = λ c h. subst (λ (z : TableId). c < z.slots - 1) (sym same) (own.listed c (subst (IsOn c) (ap (λ (m : Me (Slot C R S) (View (Work E C R))). m.0.walk.list) did) h));
    others = λ c h. subst (λ (z : TableId). c < z.slots - 1) (sym same) (⊎_elim (λ (e : c ≡ teacher). subst (λ (y : TableId). c < y.slots - 1) (there ∙ sym at) (let small = its.small in omega arith)) (own.others c)
        (subst (IsOn c) told_more h));
    heard = λ r k h. ap (is_on r) told_more ∙ ⊎_elim (λ (e : (r ≡ teacher) × (k ≡ (work from).posts)). ap (λ b. b || is_on r (told old)) (eq-eqb r teacher e.0)) (λ (m : IsMarked r k (work old).heard). ap (λ b. (r == teacher) || b) (own.heard r k m) ∙ or_true (r == teacher)) (subst (IsMarked r k) heard_more h);
  }

-- a post that is marked
pub is_marked_by : (r k : ℕ) (l : List Mark) → IsMarked r k l → is_marked r k l ≡ true
is_marked_by r k [] h = absurd h
is_marked_by r k (x ∷ xs) h = ⊎_elim (λ (e : (r ≡ x.client) × (k ≡ x.post)). (λ i. (eqb (e.0 i) x.client && eqb (e.1 i) x.post) || is_marked r k xs) ∙ ((λ i. (eq-eqb x.client x.client refl i && eq-eqb x.post x.post refl i) || is_marked r k xs)))
    (λ t. (λ i. (eqb r x.client && eqb k x.post) || is_marked_by r k xs t i) ∙ or_true (eqb r x.client && eqb k x.post)) h

-- past holds where the other knows so
pub past_by : (a : Bool) (q client k : ℕ) (l : List Mark) → q ≡ client → IsMarked client k l → (a || is_marked q k l) ≡ true
past_by true q client k l e h = refl
past_by false q client k l e h = is_marked_by q k l (subst (λ (z : ℕ). IsMarked z k l) (sym e) h)

-- a list of which each element tells its place, and one more
pub placed_push : {X : Type 0} (P : ℕ → X → Type 0) (xs : List X) (x : X) (n : ℕ) → length xs ≡ n → ((k : ℕ) → IfSome (slice_get xs k) (P k)) → P n x → (k : ℕ) → IfSome (slice_get (xs ++ x ∷ []) k) (P k)
placed_push P [] x n e h p zero = subst (λ (k : ℕ). P k x) (sym e) p
placed_push P [] x n e h p (suc k) = tt
placed_push P (y ∷ ys) x zero e h p k = absurd (omega arith)
placed_push P (y ∷ ys) x (suc n) e h p zero = h zero
placed_push P (y ∷ ys) x (suc n) e h p (suc k) = placed_push (λ j. P (suc j)) ys x n (omega arith) (λ j. h (suc j)) p k

-- the table at the start
module _ {E C R S : Type 0} (served : Ghosts S E C R) where
  pub opens_at : (n m k : ℕ) (words : List ℕ) (slots : List (Slot C R S)) (state kept : S) → kept ≡ state → served.legal (served.history state) → ((r : ℕ) → served.own (served.history state) r ≡ []) → m ≡ n → words ≡ replicate k 0 → k ≡ word_count n → slots ≡ slots_of n state
      → Ruled m (Serves served m) (opening words slots (opening_view (opening_work (served.history kept))))
  opens_at n m k words slots state kept same law uncalled number w count s = subst (λ (z : ℕ × List ℕ × List (Slot C R S) × S). Ruled z.0 (Serves served z.0) (opening z.1 z.2 (opening_view (opening_work (served.history z.3)))))
      (λ i. (sym number i, sym (w ∙ ap (λ (j : ℕ). replicate j 0) count) i, sym s i, sym same i)) (opens served n state law uncalled)
