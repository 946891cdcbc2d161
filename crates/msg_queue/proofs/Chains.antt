-- Lists that are linked in both directions: what an appended place and one that leaves them change.
use Rattle.std.proofs.Common.{◌≡◌, ◌≢◌, ℕ, Bool, true, false, eqb, List, [], ◌∷◌, ◌++◌, refl, sym, ap, subst, ◌∙◌, ◌⊎◌, ⊎_elim, inl, inr, Option, Some, None}
use Rattle.std.specs.List.{AllByRecursion}
use Rattle.std.proofs.lemmas.Bool.{cases_Bool, eqb-true, eqb-false}
use Rattle.std.proofs.lemmas.Option.{none-some, same_Some}
use Rattle.msg_queue.specs.Queues.{Placed}
use Rattle.msg_queue.specs.Links.{Linked, Away, AreApart, IsAmong, without}

-- a place of the list, or the one before it; a place of the list, or its end
abbrev pub IsSource : Option ℕ → List Placed → Option ℕ → Type 0
IsSource at ms o = (o ≡ at) ⊎ IsAmong o ms

pub turn : {a b : Option ℕ} → a ≢ b → b ≢ a
turn apart e = apart (sym e)

-- a place that is none of them follows none of them
module _ (next previous : Option ℕ → Option ℕ) where
  -- what stands before one of them, or before the end, is one of them or `at`
  pub behind : (a at : Option ℕ) (ms : List Placed) (o : Option ℕ) → Linked next previous at ms → Away a ms → a ≢ at → IsSource None ms o → a ≢ previous o
  behind a at [] o l away apart here =
      ⊎_elim (λ (is : o ≡ None). λ e. apart (e ∙ ap previous is ∙ l.1)) (λ (none : IsAmong o []). absurd none) here
  behind a at (m ∷ ms) o l away apart here =
      ⊎_elim
      (λ (is : o ≡ None). behind a (Some m.place) ms o l.2 away.1 away.0 (inl is))
      (λ (among : IsAmong o (m ∷ ms)).
      ⊎_elim
      (λ (is : o ≡ Some m.place). λ e. apart (e ∙ ap previous is ∙ l.1))
      (λ (later : IsAmong o ms). behind a (Some m.place) ms o l.2 away.1 away.0 (inr later))
      among)
      here

  -- what follows one of them, or `at`, is one of them or the end
  pub ahead : (a : ℕ) (at : Option ℕ) (ms : List Placed) (o : Option ℕ) → Linked next previous at ms → Away (Some a) ms → IsSource at ms o → next o ≢ Some a
  ahead a at [] o l away here =
      ⊎_elim (λ (is : o ≡ at). λ e. none-some a (sym (ap next is ∙ l.0) ∙ e)) (λ (none : IsAmong o []). absurd none) here
  ahead a at (m ∷ ms) o l away here =
      ⊎_elim
      (λ (is : o ≡ at). λ e. away.0 (sym e ∙ ap next is ∙ l.0))
      (λ (among : IsAmong o (m ∷ ms)).
      ⊎_elim
      (λ (is : o ≡ Some m.place). ahead a (Some m.place) ms o l.2 away.1 (inl is))
      (λ (later : IsAmong o ms). ahead a (Some m.place) ms o l.2 away.1 (inr later))
      among)
      here

  -- the neighbours of one of them
  pub before_is : (at : Option ℕ) (ms : List Placed) (o : Option ℕ) → Linked next previous at ms → IsAmong o ms → IsSource at ms (previous o)
  before_is at [] o l among = absurd among
  before_is at (m ∷ ms) o l among =
      ⊎_elim
      (λ (is : o ≡ Some m.place). inl (ap previous is ∙ l.1))
      (λ (later : IsAmong o ms). inr (before_is (Some m.place) ms o l.2 later))
      among

  pub after_is : (at : Option ℕ) (ms : List Placed) (o : Option ℕ) → Linked next previous at ms → IsSource at ms o → IsSource None ms (next o)
  after_is at [] o l here =
      ⊎_elim (λ (is : o ≡ at). inl (ap next is ∙ l.0)) (λ (none : IsAmong o []). absurd none) here
  after_is at (m ∷ ms) o l here =
      ⊎_elim
      (λ (is : o ≡ at). inr (inl (ap next is ∙ l.0)))
      (λ (among : IsAmong o (m ∷ ms)).
      ⊎_elim
      (λ (is : o ≡ Some m.place). further (after_is (Some m.place) ms o l.2 (inl is)))
      (λ (later : IsAmong o ms). further (after_is (Some m.place) ms o l.2 (inr later)))
      among)
      here
    where
      further : IsSource None ms (next o) → IsSource None (m ∷ ms) (next o)
      further found = ⊎_elim (λ (is : next o ≡ None). inl is) (λ (later : IsAmong (next o) ms). inr (inr later)) found

  -- the last, before the end
  pub last_source : (at : Option ℕ) (ms : List Placed) → Linked next previous at ms → IsSource at ms (previous None)
  last_source at [] l = inl l.1
  last_source at (m ∷ ms) l = inr (last_source (Some m.place) ms l.2)

  -- none is its own neighbour
  pub not_before : (at : Option ℕ) (ms : List Placed) (o : Option ℕ) → Linked next previous at ms → AreApart ms → Away at ms → IsAmong o ms → o ≢ previous o
  not_before at [] o l apart away among = absurd among
  not_before at (m ∷ ms) o l apart away among =
      ⊎_elim
      (λ (is : o ≡ Some m.place). λ e. away.0 (sym l.1 ∙ ap previous (sym is) ∙ sym e ∙ is))
      (λ (later : IsAmong o ms). not_before (Some m.place) ms o l.2 apart.1 apart.0 later)
      among

  pub not_after : (at : Option ℕ) (ms : List Placed) (k : ℕ) → Linked next previous at ms → AreApart ms → IsAmong (Some k) ms → next (Some k) ≢ Some k
  not_after at [] k l apart among = absurd among
  not_after at (m ∷ ms) k l apart among =
      ⊎_elim
      (λ (is : Some k ≡ Some m.place). ahead k (Some m.place) ms (Some k) l.2 (subst (λ (o : Option ℕ). Away o ms) (sym is) apart.0) (inl is))
      (λ (later : IsAmong (Some k) ms). not_after (Some m.place) ms k l.2 apart.1 later)
      among

-- links that are the same at each place of the list
module _ (next previous next' previous' : Option ℕ → Option ℕ) where
  pub linked_alike : (at : Option ℕ) (ms : List Placed) → Linked next previous at ms → next' at ≡ next at → previous' None ≡ previous None
      → AllByRecursion (λ m. (next' (Some m.place) ≡ next (Some m.place)) × (previous' (Some m.place) ≡ previous (Some m.place))) ms → Linked next' previous' at ms
  linked_alike at [] l start end each = (start ∙ l.0, end ∙ l.1)
  linked_alike at (m ∷ ms) l start end each =
      (start ∙ l.0, each.0.1 ∙ l.1, linked_alike (Some m.place) ms l.2 each.0.0 end each.1)

pub without_away : (k : ℕ) (ms : List Placed) → Away (Some k) ms → without k ms ≡ ms
without_away k [] away = refl
without_away k (m ∷ ms) away =
    let other : eqb m.place k ≡ false = by (eqb m.place k) refl in
    rw other (ap (λ (rest : List Placed). m ∷ rest) (without_away k ms away.1))
  where
    by : (b : Bool) → eqb m.place k ≡ b → eqb m.place k ≡ false
    by true is = absurd (away.0 (ap (λ (x : ℕ). Some x) (sym (eqb-true m.place k is))))
    by false is = is

-- a place k leaves
module _ (next previous next' previous' : Option ℕ → Option ℕ) (k : ℕ)
    (joined : next' (previous (Some k)) ≡ next (Some k)) (others : (o : Option ℕ) → o ≢ previous (Some k) → o ≢ Some k → next' o ≡ next o)
    (joined' : previous' (next (Some k)) ≡ previous (Some k)) (others' : (o : Option ℕ) → o ≢ next (Some k) → o ≢ Some k → previous' o ≡ previous o) where
  each_other : (a : Option ℕ) (ms : List Placed) → Away a ms → Away (Some k) ms → Away (next (Some k)) ms → a ≡ previous (Some k)
      → AllByRecursion (λ m. (next' (Some m.place) ≡ next (Some m.place)) × (previous' (Some m.place) ≡ previous (Some m.place))) ms
  each_other a [] away free far is = tt
  each_other a (m ∷ ms) away free far is = (
    (others (Some m.place) (λ e. away.0 (is ∙ sym e)) (turn free.0), others' (Some m.place) (turn far.0) (turn free.0)),
    each_other a ms away.1 free.1 far.1 is,
  )

  -- where it is the first that is left
  relinked : (at : Option ℕ) (ms : List Placed) → Linked next previous (Some k) ms → previous (Some k) ≡ at → Away at ms → Away (Some k) ms → AreApart ms → Linked next' previous' at ms
  relinked at [] l is away free apart =
      (ap next' (sym is) ∙ joined ∙ l.0, ap previous' (sym l.0) ∙ joined' ∙ is)
  relinked at (m ∷ ms) l is away free apart = (
    ap next' (sym is) ∙ joined ∙ l.0,
    ap previous' (sym l.0) ∙ joined' ∙ is,
    linked_alike next previous next' previous' (Some m.place) ms l.2
        (others (Some m.place) (λ e. away.0 (sym is ∙ sym e)) (turn free.0))
        (others' None (λ e. none-some m.place (e ∙ l.0)) (none-some k))
        (each_other at ms away.1 free.1 (subst (λ (o : Option ℕ). Away o ms) (sym l.0) apart.0) (sym is)),
  )

  pub unlinked : (at : Option ℕ) (ms : List Placed) → Linked next previous at ms → AreApart ms → Away at ms → at ≢ Some k → IsAmong (Some k) ms → Linked next' previous' at (without k ms)
  unlinked at [] l apart away other among = absurd among
  unlinked at (m ∷ ms) l apart away other among =
      ⊎_elim
      (λ (here : eqb m.place k ≡ true).
      let is : m.place ≡ k = eqb-true m.place k here in
      let free : Away (Some k) ms = subst (λ (x : ℕ). Away (Some x) ms) is apart.0 in
      let l' : Linked next previous (Some k) ms = subst (λ (x : ℕ). Linked next previous (Some x) ms) is l.2 in
      let before : previous (Some k) ≡ at = subst (λ (x : ℕ). previous (Some x) ≡ at) is l.1 in
      rw (here, without_away k ms free) (relinked at ms l' before away.1 free apart.1))
      (λ (elsewhere : eqb m.place k ≡ false).
      let apart_k : Some m.place ≢ Some k = λ e. eqb-false m.place k elsewhere (same_Some m.place k e) in
      let later : IsAmong (Some k) ms = ⊎_elim (λ (e : Some k ≡ Some m.place). absurd (apart_k (sym e))) (λ (h : IsAmong (Some k) ms). h) among in
      rw elsewhere (
        others at (behind next previous at (Some m.place) ms (Some k) l.2 away.1 away.0 (inr later)) other ∙ l.0,
        others' (Some m.place) (turn (ahead next previous m.place (Some m.place) ms (Some k) l.2 apart.0 (inr later))) apart_k ∙ l.1,
        unlinked (Some m.place) ms l.2 apart.1 apart.0 apart_k later,
      ))
      (cases_Bool (eqb m.place k))

-- a place becomes the last
module _ (next previous next' previous' : Option ℕ → Option ℕ) (new : Placed)
    (joined : next' (previous None) ≡ Some new.place) (last : next' (Some new.place) ≡ None)
    (before : previous' (Some new.place) ≡ previous None) (end : previous' None ≡ Some new.place)
    (others : (o : Option ℕ) → o ≢ previous None → o ≢ Some new.place → next' o ≡ next o)
    (others' : (k : ℕ) → Some k ≢ Some new.place → previous' (Some k) ≡ previous (Some k)) where
  pub appended : (at : Option ℕ) (ms : List Placed) → Linked next previous at ms → AreApart ms → Away at ms → at ≢ Some new.place → Away (Some new.place) ms → Linked next' previous' at (ms ++ new ∷ [])
  appended at [] l apart away other free =
      (ap next' (sym l.1) ∙ joined, before ∙ l.1, (last, end))
  appended at (m ∷ ms) l apart away other free = (
    others at (behind next previous at (Some m.place) ms None l.2 away.1 away.0 (inl refl)) other ∙ l.0,
    others' m.place (turn free.0) ∙ l.1,
    appended (Some m.place) ms l.2 apart.1 apart.0 (turn free.0) free.1,
  )
