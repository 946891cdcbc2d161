-- What is known at the end, when each client's seat was merged into the first one.
use Rattle.std.proofs.Common.{◌≡◌, ◌⊎◌, ℕ, suc, ◌<◌, ◌≤◌, List, [], ◌∷◌, ◌++◌, length, sym, refl, ap, ◌∙◌, subst, inl, inr, ⊎_elim, arith}
use mathlib.Core.Logic.{dite}
use mathlib.Core.Option.{Option, some}
use lib.ListN.{get_elem?}
use Rattle.atomic_table.proofs.Lists.{at_map}
use Rattle.pub_rule.specs.declared.served.Served.{Ghosts}
use Rattle.pub_rule.specs.declared.work.Closed.{Closed}
use Rattle.pub_rule.specs.declared.work.Stage.{Stage}
use Rattle.pub_rule.specs.declared.work.Stage.TheVariants.{Spent, Maker, Away, Free, Asking, Token}
use Rattle.pub_rule.specs.declared.work.Serving.{Serving}
use Rattle.pub_rule.specs.declared.work.Serving.TheVariants.{Nothing}
use Rattle.pub_rule.specs.declared.served.Slot.{Slot}
use Rattle.pub_rule.specs.declared.served.Slot.TheVariants as slots
use Rattle.pub_rule.specs.Lists.{IsOn, Distinct}
use Rattle.pub_rule.specs.Rule.{work_of}
use Rattle.pub_rule.specs.Work.{Phase, away, free, posted, taken, parked, resumed, refused, replied, Client, Desk, World, IsTakenIn, home_of, IsInPhase, IsInStage, IsClient, IsAtHome, IsTold, IsNobodys, clients_of, IsAmong}
use Rattle.pub_rule.specs.WorkClosing.{IsTrueOf, KnownAtEnd}
use Rattle.pub_rule.proofs.Clients.{on_or_off, at_most}
use Rattle.pub_rule.proofs.Told.{told_by}

abbrev is_nothing : {C : Type 0} → Serving C → Type 0
is_nothing Nothing = Unit {0}
is_nothing _ = ⊥

-- a client that isn't taken, and gave its slot back or asks, has it at home
slot_home : {C R : Type 0} (S : Type 0) (r : ℕ) (st : Stage C) (p : Phase C R) (d : Serving C) → is_nothing d → IsTakenIn r d p → IsAtHome st → IsInStage st p → (y : Slot C R S) × (home_of p ≡ some y)
slot_home S r Spent p d clear t h i = absurd h
slot_home S r (Maker k) p d clear t h i = absurd h
slot_home S r (Away q) p d clear t h i = (slots.Empty, ap (λ z. home_of z) i)
slot_home S r (Free q) p d clear t h i = absurd h
slot_home S r (Token q) p d clear t h i = absurd h
slot_home S r (Asking q k) away d clear t h i = absurd i
slot_home S r (Asking q k) free d clear t h i = absurd i
slot_home S r (Asking q k) (posted c) d clear t h i = (slots.Call c, refl)
slot_home S r (Asking q k) (taken c) d clear t h i = absurd (subst is_nothing t clear)
slot_home S r (Asking q k) (parked c) d clear t h i = (slots.Empty, refl)
slot_home S r (Asking q k) (resumed c) d clear t h i = absurd (subst is_nothing t clear)
slot_home S r (Asking q k) (refused c) d clear t h i = (slots.Memory, refl)
slot_home S r (Asking q k) (replied c x) d clear t h i = (slots.Reply x, refl)

length_clients : {E C R : Type 0} (l : List (Closed E C R)) → length (clients_of l) ≡ length l
length_clients [] = refl
length_clients (x ∷ xs) = ap suc (length_clients xs)

-- as many distinct clients below n as there are numbers are all of them
all_on : (n : ℕ) (list : List ℕ) → Distinct list → ((c : ℕ) → IsOn c list → c < n) → length list ≡ n → (r : ℕ) → r < n → IsOn r list
all_on n list d below full r inside = dite (on_or_off r list) (λ on. on)
    (λ off. let most = at_most n (r ∷ list) ((off, d), λ c on. ⊎_elim (λ e. subst (λ (z : ℕ). z < n) (sym e) inside) (below c) on) in absurd (omega arith))

module _ {S E C R : Type 0} (served : Ghosts S E C R) where
  open served use {own, replies}

  -- the calls and replies of a client, by what its seat told
  calls_by : (d : Desk E C) (q : ℕ) (st : Stage C) (o : Client E C R) (p : Phase C R) → IsClient q st → IsAtHome st → IsInStage st p → IsInPhase served d q (record o { phase = p }) → (own d.hist q ≡ o.entered) ⊎ ((k : C) × (st ≡ Asking q k) × (own d.hist q ≡ o.entered ++ k ∷ []))
  calls_by d q Spent o p is h i old = absurd h
  calls_by d q (Maker k) o p is h i old = absurd h
  calls_by d q (Away a) o p is h i old = inl (subst (λ (z : Phase C R). IsInPhase served d q (record o { phase = z })) i old).calls
  calls_by d q (Free a) o p is h i old = absurd h
  calls_by d q (Token a) o p is h i old = absurd h
  calls_by d q (Asking a k) o away is h i old = absurd i
  calls_by d q (Asking a k) o free is h i old = absurd i
  calls_by d q (Asking a k) o (posted c) is h i old = inl old.calls
  calls_by d q (Asking a k) o (taken c) is h i old = inl old.calls
  calls_by d q (Asking a k) o (parked c) is h i old = inr (k, (λ j. Asking (is j) k), old.calls ∙ (λ j. o.entered ++ i j ∷ []))
  calls_by d q (Asking a k) o (resumed c) is h i old = inr (k, (λ j. Asking (is j) k), old.calls ∙ (λ j. o.entered ++ i j ∷ []))
  calls_by d q (Asking a k) o (refused c) is h i old = inl old.calls
  calls_by d q (Asking a k) o (replied c x) is h i old = inr (k, (λ j. Asking (is j) k), old.calls ∙ (λ j. o.entered ++ i j ∷ []))

  answers_by : (d : Desk E C) (q : ℕ) (st : Stage C) (o : Client E C R) (p : Phase C R) → IsClient q st → IsAtHome st → IsInStage st p → IsInPhase served d q (record o { phase = p })
      → (replies d.hist q ≡ o.got) ⊎ ((k : C) × (x : R) × (st ≡ Asking q k) × (replies d.hist q ≡ o.got ++ x ∷ []) × (own d.hist q ≡ o.entered ++ k ∷ []))
  answers_by d q Spent o p is h i old = absurd h
  answers_by d q (Maker k) o p is h i old = absurd h
  answers_by d q (Away a) o p is h i old = inl (subst (λ (z : Phase C R). IsInPhase served d q (record o { phase = z })) i old).replies_are
  answers_by d q (Free a) o p is h i old = absurd h
  answers_by d q (Token a) o p is h i old = absurd h
  answers_by d q (Asking a k) o away is h i old = absurd i
  answers_by d q (Asking a k) o free is h i old = absurd i
  answers_by d q (Asking a k) o (posted c) is h i old = inl old.replies_are
  answers_by d q (Asking a k) o (taken c) is h i old = inl old.replies_are
  answers_by d q (Asking a k) o (parked c) is h i old = ⊎_elim (λ e. inl e) (λ y. inr (k, y.0, (λ j. Asking (is j) k), y.1, old.calls ∙ (λ j. o.entered ++ i j ∷ []))) old.replies_are.1
  answers_by d q (Asking a k) o (resumed c) is h i old = let y = old.replies_are in inr (k, y.0, (λ j. Asking (is j) k), y.1, old.calls ∙ (λ j. o.entered ++ i j ∷ []))
  answers_by d q (Asking a k) o (refused c) is h i old = inl old.replies_are
  answers_by d q (Asking a k) o (replied c x) is h i old = inr (k, x, (λ j. Asking (is j) k), old.replies_are, old.calls ∙ (λ j. o.entered ++ i j ∷ []))

  -- what a client told is true of the history
  true_of : (w : World E C R) (j : ℕ) (closed : List (Closed E C R)) (c : Closed E C R) → IsTold w j c → IsInPhase served w.desk c.client (w.truth c.client)
      → ((r : ℕ) → IsOn r c.met → (b : Closed E C R) × IsAmong b closed × (b.client ≡ r) × (1 ≤ b.begun)) → IsTrueOf own replies w.desk.hist closed c
  true_of w j closed c g rec met = let d : Desk E C = w.desk in let o : Client E C R = w.truth c.client in record {
    saw = g.saw;
    calls = entered_by o.entered c.entered g.entered (calls_by d c.client c.stage o o.phase g.client g.home g.stage rec);
    answers = got_by o.entered c.entered o.got c.got g.entered g.got (answers_by d c.client c.stage o o.phase g.client g.home g.stage rec);
    met = met;
  }
    where
      entered_by : (calls entered : List C) → entered ≡ calls → (own w.desk.hist c.client ≡ calls) ⊎ ((k : C) × (c.stage ≡ Asking c.client k) × (own w.desk.hist c.client ≡ calls ++ k ∷ []))
          → (own w.desk.hist c.client ≡ entered) ⊎ ((k : C) × (c.stage ≡ Asking c.client k) × (own w.desk.hist c.client ≡ entered ++ k ∷ []))
      entered_by calls entered e h = subst (λ (l : List C). (own w.desk.hist c.client ≡ l) ⊎ ((k : C) × (c.stage ≡ Asking c.client k) × (own w.desk.hist c.client ≡ l ++ k ∷ []))) (sym e) h

      got_by : (calls entered : List C) (answers got : List R) → entered ≡ calls → got ≡ answers
          → (replies w.desk.hist c.client ≡ answers) ⊎ ((k : C) × (x : R) × (c.stage ≡ Asking c.client k) × (replies w.desk.hist c.client ≡ answers ++ x ∷ []) × (own w.desk.hist c.client ≡ calls ++ k ∷ []))
          → (replies w.desk.hist c.client ≡ got) ⊎ ((k : C) × (x : R) × (c.stage ≡ Asking c.client k) × (replies w.desk.hist c.client ≡ got ++ x ∷ []) × (own w.desk.hist c.client ≡ entered ++ k ∷ []))
      got_by calls entered answers got e f h =
          subst (λ (l : List C × List R). (replies w.desk.hist c.client ≡ l.1) ⊎ ((k : C) × (x : R) × (c.stage ≡ Asking c.client k) × (replies w.desk.hist c.client ≡ l.1 ++ x ∷ []) × (own w.desk.hist c.client ≡ l.0 ++ k ∷ []))) (λ i. (sym e i, sym f i)) h

-- who began told so
began : {E C R : Type 0} (truth : ℕ → Client E C R) (r : ℕ) (b : Closed E C R) → r ≡ b.client → b.begun ≡ (truth b.client).begun → 1 ≤ (truth r).begun → 1 ≤ b.begun
began truth r b same begun low = subst (λ (z : ℕ). 1 ≤ z) (ap (λ (z : ℕ). (truth z).begun) same ∙ sym begun) low

met_by : {E C R : Type 0} (truth : ℕ → Client E C R) (r : ℕ) (closed : List (Closed E C R)) → IsOn r (clients_of closed) → ((b : Closed E C R) → IsAmong b closed → b.begun ≡ (truth b.client).begun) → 1 ≤ (truth r).begun → (b : Closed E C R) × IsAmong b closed × (b.client ≡ r) × (1 ≤ b.begun)
met_by truth r closed on begun low = let b = told_by r closed on in (b.0, b.1, sym b.2, began truth r b.0 b.2 (begun b.0 b.1) low)

module _ {E C R S : Type 0} (served : Ghosts S E C R) (n : ℕ) where
  open served use {history, legal, own, replies}

  slot_by : (w : World E C R) (j q : ℕ) (c : Closed E C R) → w.desk.serving ≡ Nothing → IsTold w j c → q ≡ c.client → IsTakenIn q w.desk.serving (w.truth q).phase → (y : Slot C R S) × (home_of (w.truth q).phase ≡ some y)
  slot_by w j q c none g same t = slot_home S q c.stage (w.truth q).phase w.desk.serving (subst is_nothing (sym none) tt) t g.home (subst (λ (z : ℕ). IsInStage c.stage (w.truth z).phase) (sym same) g.stage)

  slot_of : (homes : List (Option (Slot C R S))) (q : ℕ) (p : Phase C R) → get_elem? homes q ≡ some (home_of p) → (y : Slot C R S) × (home_of p ≡ some y) → (y : Slot C R S) × (get_elem? homes q ≡ some (some y))
  slot_of homes q p home y = (y.0, home ∙ ap (λ (z : Option (Slot C R S)). some z) y.1)

  pub end : KnownAtEnd served n
  end s id v ruled at is full = let r = ruled.works in let t = r.each_seat id v.work (at_map work_of s.views id v at) in let m = subst (IsNobodys r.world id v.work.closed) is t.maker in let few = r.sound.few in
      let below : (q : ℕ) → IsOn q (clients_of v.work.closed) → q < n = λ q on. let c = told_by q v.work.closed on in let small = (m.told c.0 c.1).made_it in let e = c.2 in omega arith in
      let every : (q : ℕ) → q < n → IsOn q (clients_of v.work.closed) = all_on n (clients_of v.work.closed) m.distinct below (length_clients v.work.closed ∙ full) in
      ⊎_elim
      (λ u. record {
        state = u.state;
        home = u.home;
        is_legal = subst legal (sym u.is) r.sound.is_legal;
        every = every;
        told = λ c on. subst (λ (h : List E). IsTrueOf own replies h v.work.closed c) (sym u.is) (let g = m.told c on in let small = g.made_it in true_of served r.world id v.work.closed c g (r.stored.each_client c.client (omega arith)).phase
            (λ q h. let l = g.met q h in let inside = l.0 in met_by r.world.truth q v.work.closed (every q (omega arith)) (λ b h. (m.told b h).begun) l.1));
        slot = λ q inside. let b = told_by q v.work.closed (every q inside) in slot_of s.homes q (r.world.truth q).phase (r.stored.each_client q inside).home (slot_by r.world id q b.0 u.nothing (m.told b.0 b.1) b.2 (r.stored.each_client q inside).phase.taken_is);
      })
      (λ h. let small = h.client in absurd (h.live (m.on h.holder (every h.holder (omega arith))))) r.state
