-- Lists of messages with their places: filters, positions and counts.
use Rattle.std.proofs.Common.{◌≡◌, ◌≢◌, ℕ, zero, suc, ◌+◌, ◌<◌, Bool, true, false, cond, eqb, ltb, get_or, List, [], ◌∷◌, ◌++◌, length, remove, refl, sym, ap, subst, ◌∙◌, ⊎_elim, inl, inr, Option, Some, None, IsSome, IfSome, slice_get, arith}
use Rattle.std.specs.List.{AllByRecursion, AllPairs, filter, position, position_or_len}
use Rattle.std.specs.Option.{option_map}
use Rattle.std.proofs.lemmas.Bool.{cases_Bool, eqb-true, eqb-false, eq-eqb}
use Rattle.std.proofs.lemmas.Bool.Decides.{nat_tests}
use Rattle.std.proofs.lemmas.List.Sums.{sum_by-cons}
use Rattle.std.proofs.lemmas.Option.{none-some, same_Some}
use Rattle.msg_queue.specs.declared.messages.Message.{Message}
use Rattle.msg_queue.specs.Messages.{bytes_of}
use Rattle.msg_queue.specs.Queues.{Placed, ChoosesIn, messages_of, position_in}
use Rattle.msg_queue.specs.Links.{AreApart, Away, IsAmong, first_place, without}
use Rattle.msg_queue.proofs.Chains.{IsSource, turn, without_away}

-- of a filter
module _ (test : Placed → Bool) where
  pub away_filter : (a : Option ℕ) (ms : List Placed) → Away a ms → Away a (filter test ms)
  away_filter a [] away = tt
  away_filter a (m ∷ ms) away =
      ⊎_elim
      (λ (yes : test m ≡ true). rw yes (away.0, away_filter a ms away.1))
      (λ (no : test m ≡ false). rw no (away_filter a ms away.1))
      (cases_Bool (test m))

  pub apart_filter : (ms : List Placed) → AreApart ms → AreApart (filter test ms)
  apart_filter [] apart = tt
  apart_filter (m ∷ ms) apart =
      ⊎_elim
      (λ (yes : test m ≡ true). rw yes (away_filter (Some m.place) ms apart.0, apart_filter ms apart.1))
      (λ (no : test m ≡ false). rw no (apart_filter ms apart.1))
      (cases_Bool (test m))

  pub all_filter : (P : Placed → Type 0) (ms : List Placed) → AllByRecursion P ms → AllByRecursion P (filter test ms)
  all_filter P [] all = tt
  all_filter P (m ∷ ms) all =
      ⊎_elim
      (λ (yes : test m ≡ true). rw yes (all.0, all_filter P ms all.1))
      (λ (no : test m ≡ false). rw no (all_filter P ms all.1))
      (cases_Bool (test m))

  pub among_all : (o : Option ℕ) (ms : List Placed) → IsSource None (filter test ms) o → IsSource None ms o
  among_all o ms source =
      ⊎_elim (λ (e : o ≡ None). inl e) (λ (among : IsAmong o (filter test ms)). inr (each ms among)) source
    where
      each : (ls : List Placed) → IsAmong o (filter test ls) → IsAmong o ls
      each [] among = absurd among
      each (m ∷ ls) among =
          ⊎_elim
          (λ (yes : test m ≡ true).
          let found : IsAmong o (m ∷ filter test ls) = rw yes at among in
          ⊎_elim (λ (e : o ≡ Some m.place). inl e) (λ (later : IsAmong o (filter test ls)). inr (each ls later)) found)
          (λ (no : test m ≡ false). let found : IsAmong o (filter test ls) = rw no at among in inr (each ls found))
          (cases_Bool (test m))

  -- the order of two does not matter
  pub filter_turned : (other : Placed → Bool) (ms : List Placed) → filter test (filter other ms) ≡ filter other (filter test ms)
  filter_turned other [] = refl
  filter_turned other (m ∷ ms) =
      ⊎_elim
      (λ (yes : test m ≡ true).
      ⊎_elim
      (λ (also : other m ≡ true). rw (yes, also) (rw yes (ap (λ (rest : List Placed). m ∷ rest) (filter_turned other ms))))
      (λ (not_also : other m ≡ false). rw (yes, not_also) (filter_turned other ms))
      (cases_Bool (other m)))
      (λ (no : test m ≡ false).
      ⊎_elim
      (λ (also : other m ≡ true). rw (no, also) (rw no (filter_turned other ms)))
      (λ (not_also : other m ≡ false). rw (no, not_also) (filter_turned other ms))
      (cases_Bool (other m)))
      (cases_Bool (test m))

  pub filter_last : (ms : List Placed) (m : Placed) → filter test (ms ++ m ∷ []) ≡ filter test ms ++ cond (test m) (m ∷ []) []
  filter_last [] m = refl
  filter_last (x ∷ ms) m =
      ⊎_elim
      (λ (yes : test x ≡ true). rw yes (ap (λ (rest : List Placed). x ∷ rest) (filter_last ms m)))
      (λ (no : test x ≡ false). rw no (filter_last ms m))
      (cases_Bool (test x))

pub all_map : (P Q : Placed → Type 0) (ms : List Placed) → ((m : Placed) → P m → Q m) → AllByRecursion P ms → AllByRecursion Q ms
all_map P Q [] f all = tt
all_map P Q (m ∷ ms) f all = (f m all.0, all_map P Q ms f all.1)

pub all_last : (P : Placed → Type 0) (ms : List Placed) (m : Placed) → AllByRecursion P ms → P m → AllByRecursion P (ms ++ m ∷ [])
all_last P [] m all here = (here, tt)
all_last P (x ∷ ms) m all here = (all.0, all_last P ms m all.1 here)

away_last : (a : Option ℕ) (ms : List Placed) (m : Placed) → Away a ms → a ≢ Some m.place → Away a (ms ++ m ∷ [])
away_last a [] m away here = (here, tt)
away_last a (x ∷ ms) m away here = (away.0, away_last a ms m away.1 here)

pub apart_last : (ms : List Placed) (m : Placed) → AreApart ms → Away (Some m.place) ms → AreApart (ms ++ m ∷ [])
apart_last [] m apart free = (tt, tt)
apart_last (x ∷ ms) m apart free = (away_last (Some x.place) ms m apart.0 (turn free.0), apart_last ms m apart.1 free.1)

pub messages-last : (ms : List Placed) (m : Placed) → messages_of (ms ++ m ∷ []) ≡ messages_of ms ++ m.message ∷ []
messages-last [] m = refl
messages-last (x ∷ ms) m = ap (λ (rest : List Message). x.message ∷ rest) (messages-last ms m)

pub length-last : (ms : List Placed) (m : Placed) → length (ms ++ m ∷ []) ≡ length ms + 1
length-last [] m = refl
length-last (x ∷ ms) m = omega (arith, length-last ms m)

-- positions, from the head on
pub position-cons : {X : Type 0} (p : X → Bool) (x : X) (xs : List X) → position p (x ∷ xs) ≡ cond (p x) (Some 0) (option_map suc (position p xs))
position-cons p x xs =
    ⊎_elim
    (λ (yes : p x ≡ true). rw yes (let t : ltb 0 (suc (length xs)) ≡ true = grind (arith, nat_tests) in rw t refl))
    (λ (no : p x ≡ false). rw no (by (ltb (position_or_len p xs) (length xs)) refl))
    (cases_Bool (p x))
  where
    by : (b : Bool) → ltb (position_or_len p xs) (length xs) ≡ b
        → cond (ltb (1 + position_or_len p xs) (suc (length xs))) (Some (1 + position_or_len p xs)) None ≡ option_map suc (cond (ltb (position_or_len p xs) (length xs)) (Some (position_or_len p xs)) None)
    by true is = let more : ltb (1 + position_or_len p xs) (suc (length xs)) ≡ true = grind (arith, nat_tests) in let one : 1 + position_or_len p xs ≡ suc (position_or_len p xs) = omega arith in rw (more, is) (ap (λ (n : ℕ). Some n) one)
    by false is = let more : ltb (1 + position_or_len p xs) (suc (length xs)) ≡ false = grind (arith, nat_tests) in rw (more, is) refl

if_suc : (o : Option ℕ) (P : ℕ → Type 0) → IfSome o (λ i. P (suc i)) → IfSome (option_map suc o) P
if_suc None P h = tt
if_suc (Some i) P h = h

some_suc : (o : Option ℕ) → IsSome (option_map suc o) → IsSome o
some_suc None h = cc
some_suc (Some i) h = refl

pub among_position : (k : ℕ) (ms : List Placed) → IsSome (position_in ms k) → IsAmong (Some k) ms
among_position k [] is = cc
among_position k (m ∷ ms) is =
    ⊎_elim
    (λ (here : eqb m.place k ≡ true). inl (ap (λ (x : ℕ). Some x) (sym (eqb-true m.place k here))))
    (λ (elsewhere : eqb m.place k ≡ false).
    let rest : IsSome (option_map suc (position_in ms k)) = rw elsewhere at (subst (λ (o : Option ℕ). IsSome o) (position-cons (λ (p : Placed). eqb p.place k) m ms) is) in
    inr (among_position k ms (some_suc (position_in ms k) rest)))
    (cases_Bool (eqb m.place k))

-- what is at a position, and what is left without it
pub at_position : (P : Placed → Type 0) (k : ℕ) (ms : List Placed) → AreApart ms → AllByRecursion (λ m. Some k ≡ Some m.place → P m) ms
    → IfSome (position_in ms k) (λ i. IfSome (slice_get ms i) P)
at_position P k [] apart each = tt
at_position P k (m ∷ ms) apart each =
    subst (λ (o : Option ℕ). IfSome o (λ i. IfSome (slice_get (m ∷ ms) i) P)) (sym (position-cons (λ (p : Placed). eqb p.place k) m ms)) (
    ⊎_elim
    (λ (here : eqb m.place k ≡ true). rw here (each.0 (ap (λ (x : ℕ). Some x) (sym (eqb-true m.place k here)))))
    (λ (elsewhere : eqb m.place k ≡ false). rw elsewhere (if_suc (position_in ms k) (λ i. IfSome (slice_get (m ∷ ms) i) P) (at_position P k ms apart.1 each.1)))
    (cases_Bool (eqb m.place k))
    )

pub without_position : (k : ℕ) (ms : List Placed) → AreApart ms → IfSome (position_in ms k) (λ i. messages_of (without k ms) ≡ remove (messages_of ms) i)
without_position k [] apart = tt
without_position k (m ∷ ms) apart =
    subst (λ (o : Option ℕ). IfSome o (λ i. messages_of (without k (m ∷ ms)) ≡ remove (messages_of (m ∷ ms)) i)) (sym (position-cons (λ (p : Placed). eqb p.place k) m ms)) (
    ⊎_elim
    (λ (here : eqb m.place k ≡ true).
    let free : Away (Some k) ms = subst (λ (x : ℕ). Away (Some x) ms) (eqb-true m.place k here) apart.0 in
    rw here (ap messages_of (without_away k ms free)))
    (λ (elsewhere : eqb m.place k ≡ false).
    rw elsewhere (if_suc (position_in ms k) (λ i. m.message ∷ messages_of (without k ms) ≡ remove (m.message ∷ messages_of ms) i)
    (more (position_in ms k) (without_position k ms apart.1))))
    (cases_Bool (eqb m.place k))
    )
  where
    more : (o : Option ℕ) → IfSome o (λ i. messages_of (without k ms) ≡ remove (messages_of ms) i) → IfSome o (λ i. m.message ∷ messages_of (without k ms) ≡ remove (m.message ∷ messages_of ms) (suc i))
    more None h = tt
    more (Some i) h = ap (λ (rest : List Message). m.message ∷ rest) h

-- how many are left, and how many bytes
pub length-without : (k : ℕ) (ms : List Placed) → AreApart ms → IsAmong (Some k) ms → length (without k ms) + 1 ≡ length ms
length-without k [] apart among = absurd among
length-without k (m ∷ ms) apart among =
    ⊎_elim
    (λ (here : eqb m.place k ≡ true).
    let free : Away (Some k) ms = subst (λ (x : ℕ). Away (Some x) ms) (eqb-true m.place k here) apart.0 in
    rw (here, without_away k ms free) (omega arith))
    (λ (elsewhere : eqb m.place k ≡ false).
    let later : IsAmong (Some k) ms = ⊎_elim (λ (e : Some k ≡ Some m.place). absurd (eqb-false m.place k elsewhere (sym (same_Some k m.place e)))) (λ (h : IsAmong (Some k) ms). h) among in
    let less = length-without k ms apart.1 later in
    rw elsewhere (omega (arith, less)))
    (cases_Bool (eqb m.place k))

pub bytes-without : (k : ℕ) (message : Message) (ms : List Placed) → AreApart ms → IsAmong (Some k) ms → AllByRecursion (λ m. Some k ≡ Some m.place → m.message ≡ message) ms
    → bytes_of (messages_of (without k ms)) + length message.text ≡ bytes_of (messages_of ms)
bytes-without k message [] apart among each = absurd among
bytes-without k message (m ∷ ms) apart among each =
    let all = sum_by-cons (λ (x : Message). length x.text) m.message (messages_of ms) in
    ⊎_elim
    (λ (here : eqb m.place k ≡ true).
    let free : Away (Some k) ms = subst (λ (x : ℕ). Away (Some x) ms) (eqb-true m.place k here) apart.0 in
    let is : m.message ≡ message = each.0 (ap (λ (x : ℕ). Some x) (sym (eqb-true m.place k here))) in
    let long : length m.message.text ≡ length message.text = ap (λ (x : Message). length x.text) is in
    rw (here, without_away k ms free) (omega (arith, all, long)))
    (λ (elsewhere : eqb m.place k ≡ false).
    let later : IsAmong (Some k) ms = ⊎_elim (λ (e : Some k ≡ Some m.place). absurd (eqb-false m.place k elsewhere (sym (same_Some k m.place e)))) (λ (h : IsAmong (Some k) ms). h) among in
    let less = bytes-without k message ms apart.1 later each.1 in
    let rest = sum_by-cons (λ (x : Message). length x.text) m.message (messages_of (without k ms)) in
    rw elsewhere (omega (arith, all, rest, less)))
    (cases_Bool (eqb m.place k))

-- the first that passes
pub first_away : (test : Message → Bool) (a : ℕ) (ms : List Placed) → Away (Some a) ms → first_place test ms ≢ Some a
first_away test a [] away = none-some a
first_away test a (m ∷ ms) away =
    ⊎_elim
    (λ (yes : test m.message ≡ true). rw yes (λ e. away.0 (sym e)))
    (λ (no : test m.message ≡ false). rw no (first_away test a ms away.1))
    (cases_Bool (test m.message))

pub chooses_first : (test : Message → Bool) (ms : List Placed) → AreApart ms → ChoosesIn ms (first_place test ms) (position test (messages_of ms))
chooses_first test [] apart = refl
chooses_first test (m ∷ ms) apart =
    subst (λ (o : Option ℕ). ChoosesIn (m ∷ ms) (first_place test (m ∷ ms)) o) (sym (position-cons test m.message (messages_of ms))) (
    ⊎_elim
    (λ (yes : test m.message ≡ true). rw yes (
      position-cons (λ (p : Placed). eqb p.place m.place) m ms ∙ ap (λ (b : Bool). cond b (Some 0) (option_map suc (position_in ms m.place))) (eq-eqb m.place m.place refl),
      refl,
    ))
    (λ (no : test m.message ≡ false). rw no (by (first_place test ms) refl (chooses_first test ms apart.1)))
    (cases_Bool (test m.message))
    )
  where
    by : (o : Option ℕ) → first_place test ms ≡ o → ChoosesIn ms o (position test (messages_of ms)) → ChoosesIn (m ∷ ms) o (option_map suc (position test (messages_of ms)))
    by None is h = rw h refl
    by (Some k) is h =
        let other : eqb m.place k ≡ false = differ (eqb m.place k) refl in (
          position-cons (λ (p : Placed). eqb p.place k) m ms ∙ ap (λ (b : Bool). cond b (Some 0) (option_map suc (position_in ms k))) other ∙ ap (option_map suc) h.0,
          some_more (position test (messages_of ms)) h.1,
        )
      where
        differ : (b : Bool) → eqb m.place k ≡ b → eqb m.place k ≡ false
        differ true same = absurd (first_away test m.place ms apart.0 (is ∙ ap (λ (x : ℕ). Some x) (sym (eqb-true m.place k same))))
        differ false same = same

        some_more : (o : Option ℕ) → IsSome o → IsSome (option_map suc o)
        some_more None h = cc
        some_more (Some i) h = refl

-- no two have one place
away_at : (a : ℕ) (ms : List Placed) (j : ℕ) (d : Placed) → Away (Some a) ms → j < length ms → a ≢ (get_or ms j d).place
away_at a [] j d away within = absurd (omega (arith, within))
away_at a (m ∷ ms) zero d away within = λ e. away.0 (ap (λ (x : ℕ). Some x) e)
away_at a (m ∷ ms) (suc j) d away within = away_at a ms j d away.1 (omega (arith, within))

pub places_differ : (ms : List Placed) → AreApart ms → AllPairs (λ (x y : Placed). x.place ≢ y.place) ms
places_differ [] apart i j d before within = absurd (omega (arith, within))
places_differ (m ∷ ms) apart i zero d before within = absurd (omega (arith, before))
places_differ (m ∷ ms) apart zero (suc j) d before within = away_at m.place ms j d apart.0 (omega (arith, within))
places_differ (m ∷ ms) apart (suc i) (suc j) d before within = places_differ ms apart.1 i j d (omega (arith, before)) (omega (arith, within))
