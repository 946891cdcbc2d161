-- The rows of deadlines: where one stands, what one more or less changes, and which is the first.
use Rattle.std.proofs.Common.{◌≡◌, ◌≢◌, ℕ, zero, suc, ◌+◌, ◌<◌, ◌≤◌, Bool, true, false, cond, ◌&&◌, ◌||◌, eqb, get_or, List, [], ◌∷◌, ◌++◌, length, take, drop, remove, slice_get, refl, sym, ap, subst, ◌∙◌, ⊎_elim, inl, inr, Option, Some, None, arith}
use Rattle.std.specs.Prelude.{◌⊎◌, nat_lt}
use Rattle.std.specs.List.Sorted.{IsPartitionPoint, IsPartitionedBy}
use Rattle.std.specs.List.{AllByRecursion, insert}
use Rattle.std.proofs.lemmas.Bool.{cases_Bool, cases_lt, true≢false, and_cases, and_from, and_parts, or_cases, or_from, or_left, or_parts, or_right, eqb-true, eqb-false, eq-eqb, ne_eqb, ltb-true, ltb-false, lt-ltb, le-ltb}
use Rattle.ipc_parked.specs.declared.deadlines.Due.{Due}
use Rattle.ipc_parked.specs.Deadlines.{AreSorted, IsFirstReached, IsIn, IsRank, IsSoonest, first_of, is_sooner, rows_at}
use Rattle.ipc_parked.proofs.Lists.{each_drop, each_from_parts, each_insert, each_map, each_push, each_remove}

-- the order of two rows
abbrev Sooner : Due → Due → Type 0
Sooner a b = (a.deadline < b.deadline) ⊎ ((a.deadline ≡ b.deadline) × (a.number < b.number))

sooner_fact : (a b : Due) → is_sooner a b ≡ true → Sooner a b
sooner_fact a b h =
    ⊎_elim
    (λ (less : nat_lt a.deadline b.deadline ≡ true). inl (ltb-true a.deadline b.deadline less))
    (λ (same : (eqb a.deadline b.deadline && nat_lt a.number b.number) ≡ true).
    let parts = and_parts (eqb a.deadline b.deadline) (nat_lt a.number b.number) same in
    inr (eqb-true a.deadline b.deadline parts.0, ltb-true a.number b.number parts.1))
    (or_cases (nat_lt a.deadline b.deadline) (eqb a.deadline b.deadline && nat_lt a.number b.number) h)

sooner_test : (a b : Due) → Sooner a b → is_sooner a b ≡ true
sooner_test a b h =
    ⊎_elim
    (λ (less : a.deadline < b.deadline). or_left (nat_lt a.deadline b.deadline) (eqb a.deadline b.deadline && nat_lt a.number b.number) (lt-ltb a.deadline b.deadline less))
    (λ (same : (a.deadline ≡ b.deadline) × (a.number < b.number)).
    or_right (nat_lt a.deadline b.deadline) (eqb a.deadline b.deadline && nat_lt a.number b.number)
    (and_from (eqb a.deadline b.deadline) (nat_lt a.number b.number) (eq-eqb a.deadline b.deadline same.0) (lt-ltb a.number b.number same.1)))
    h

pub sooner_through : (a b c : Due) → is_sooner a b ≡ true → is_sooner b c ≡ true → is_sooner a c ≡ true
sooner_through a b c first second =
    sooner_test a c
    (⊎_elim
    (λ (l : a.deadline < b.deadline).
    ⊎_elim
    (λ (m : b.deadline < c.deadline). let r : Sooner a c = inl (omega (arith, l, m)) in r)
    (λ (m : (b.deadline ≡ c.deadline) × (b.number < c.number)). let n = m.0 in let r : Sooner a c = inl (omega (arith, l, n)) in r)
    (sooner_fact b c second))
    (λ (l : (a.deadline ≡ b.deadline) × (a.number < b.number)).
    let k = l.0 in
    let j = l.1 in
    ⊎_elim
    (λ (m : b.deadline < c.deadline). let r : Sooner a c = inl (omega (arith, k, m)) in r)
    (λ (m : (b.deadline ≡ c.deadline) × (b.number < c.number)). let n = m.0 in let o = m.1 in let r : Sooner a c = inr (omega (arith, k, n), omega (arith, j, o)) in r)
    (sooner_fact b c second))
    (sooner_fact a b first))

not_itself : (a : Due) → is_sooner a a ≡ true → ⊥
not_itself a h =
    ⊎_elim
    (λ (l : a.deadline < a.deadline). let r : ⊥ = omega (arith, l) in r)
    (λ (l : (a.deadline ≡ a.deadline) × (a.number < a.number)). let k = l.1 in let r : ⊥ = omega (arith, k) in r)
    (sooner_fact a a h)

le_deadline : (a b : Due) → is_sooner a b ≡ true → a.deadline ≤ b.deadline
le_deadline a b h =
    ⊎_elim
    (λ (l : a.deadline < b.deadline). let r : a.deadline ≤ b.deadline = omega (arith, l) in r)
    (λ (l : (a.deadline ≡ b.deadline) × (a.number < b.number)). let k = l.0 in let r : a.deadline ≤ b.deadline = omega (arith, k) in r)
    (sooner_fact a b h)

-- of rows of different arrivals one is before the other
one_sooner : (a b : Due) → is_sooner b a ≡ false → (b.number ≡ a.number → ⊥) → is_sooner a b ≡ true
one_sooner a b h apart =
    let parts = or_parts (nat_lt b.deadline a.deadline) (eqb b.deadline a.deadline && nat_lt b.number a.number) h in
    let le = ltb-false b.deadline a.deadline parts.0 in
    sooner_test a b
    (⊎_elim
    (λ (l : a.deadline < b.deadline). let r : Sooner a b = inl l in r)
    (λ (l : b.deadline ≤ a.deadline).
    let same : a.deadline ≡ b.deadline = omega (arith, le, l) in
    ⊎_elim
    (λ (e : eqb b.deadline a.deadline ≡ false). let r : Sooner a b = absurd (eqb-false b.deadline a.deadline e (sym same)) in r)
    (λ (e : nat_lt b.number a.number ≡ false).
    let k = ltb-false b.number a.number e in
    let r : Sooner a b = inr (same, omega (arith, k, apart)) in r)
    (and_cases (eqb b.deadline a.deadline) (nat_lt b.number a.number) parts.1))
    (cases_lt a.deadline b.deadline))

-- the search: where a row is before another, so are those before it
all_at : (P : Due → Type 0) (rows : List Due) (j : ℕ) (d : Due) → AllByRecursion P rows → j < length rows → P (get_or rows j d)
all_at P [] j d all lt = absurd (omega (arith, lt))
all_at P (r ∷ rows) zero d all lt = all.0
all_at P (r ∷ rows) (suc j) d all lt = all_at P rows j d all.1 (omega (arith, lt))

pub sorted_parted : (rows : List Due) (row : Due) → AreSorted rows → IsPartitionedBy (λ other. is_sooner other row) rows
sorted_parted [] row sorted i j d le lt here = absurd (omega (arith, lt))
sorted_parted (r ∷ rows) row sorted zero zero d le lt here = here
sorted_parted (r ∷ rows) row sorted zero (suc j) d le lt here =
    sooner_through r (get_or rows j d) row (all_at (λ later. is_sooner r later ≡ true) rows j d sorted.0 (omega (arith, lt))) here
sorted_parted (r ∷ rows) row sorted (suc i) zero d le lt here = absurd (omega (arith, le))
sorted_parted (r ∷ rows) row sorted (suc i) (suc j) d le lt here = sorted_parted rows row sorted.1 i j d (omega (arith, le)) (omega (arith, lt)) here

-- and the rows are parted at its rank
taken : (P : Due → Type 0) (rows : List Due) (at : ℕ) → at ≤ length rows → ((k : ℕ) (d : Due) → k < at → P (get_or rows k d)) → AllByRecursion P (take at rows)
taken P [] zero within each = tt
taken P (r ∷ rows) zero within each = tt
taken P [] (suc at) within each = absurd (omega (arith, within))
taken P (r ∷ rows) (suc at) within each = (each zero r (omega arith), taken P rows at (omega (arith, within)) (λ k d lt. each (suc k) d (omega (arith, lt))))

dropped : (P : Due → Type 0) (rows : List Due) (at : ℕ) → ((k : ℕ) (d : Due) → at ≤ k → k < length rows → P (get_or rows k d)) → AllByRecursion P (drop at rows)
dropped P [] zero each = tt
dropped P [] (suc at) each = tt
dropped P (r ∷ rows) zero each = (each zero r (omega arith) (omega arith), dropped P rows zero (λ k d le lt. each (suc k) d (omega arith) (omega (arith, lt))))
dropped P (r ∷ rows) (suc at) each = dropped P rows at (λ k d le lt. each (suc k) d (omega (arith, le)) (omega (arith, lt)))

pub rank_parted : (rows : List Due) (row : Due) (at : ℕ) → at ≤ length rows → IsPartitionPoint (λ other. is_sooner other row ≡ true) (λ other. is_sooner other row ≡ false) rows at → IsRank rows row at
rank_parted rows row at within point = record {
  within = within;
  below = taken (λ other. is_sooner other row ≡ true) rows at within (λ k d lt. point.0 k d (omega arith) lt);
  above = dropped (λ other. is_sooner other row ≡ false) rows at (λ k d le lt. point.1 k d le lt);
}

-- rows of an arrival
not_first : (k : ℕ) (r : Due) (rows : List Due) → rows_at k (r ∷ rows) ≡ [] → (eqb r.number k ≡ false) × (rows_at k rows ≡ [])
not_first k r rows none =
    ⊎_elim
    (λ (own : eqb r.number k ≡ true). let e = rw own at none in let l = ap length e in absurd (omega (arith, l)))
    (λ (other : eqb r.number k ≡ false). (other, let e = rw other at none in e))
    (cases_Bool (eqb r.number k))

-- a row more
pub rows_inserted : (rows : List Due) (at : ℕ) (row : Due) → rows_at row.number rows ≡ [] → (k : ℕ) → rows_at k (insert rows at row) ≡ cond (eqb row.number k) (row ∷ []) (rows_at k rows)
rows_inserted [] zero row none k = ⊎_elim (λ (own : eqb row.number k ≡ true). rw own refl) (λ (other : eqb row.number k ≡ false). rw other refl) (cases_Bool (eqb row.number k))
rows_inserted [] (suc at) row none k = ⊎_elim (λ (own : eqb row.number k ≡ true). rw own refl) (λ (other : eqb row.number k ≡ false). rw other refl) (cases_Bool (eqb row.number k))
rows_inserted (r ∷ rows) zero row none k =
    ⊎_elim
    (λ (own : eqb row.number k ≡ true).
    rw own (ap (λ (rs : List Due). row ∷ rs) (subst (λ (n : ℕ). rows_at n (r ∷ rows) ≡ []) (eqb-true row.number k own) none)))
    (λ (other : eqb row.number k ≡ false). rw other refl)
    (cases_Bool (eqb row.number k))
rows_inserted (r ∷ rows) (suc at) row none k =
    let parts = not_first row.number r rows none in
    let later = rows_inserted rows at row parts.1 k in
    ⊎_elim
    (λ (here : eqb r.number k ≡ true).
    let apart : eqb row.number k ≡ false = ne_eqb row.number k (λ is. eqb-false r.number row.number parts.0 (eqb-true r.number k here ∙ sym is)) in
    let l = rw apart at later in
    rw (here, apart) (ap (λ (rs : List Due). r ∷ rs) l))
    (λ (not_here : eqb r.number k ≡ false). rw not_here later)
    (cases_Bool (eqb r.number k))

further : {r : Due} {rows : List Due} {row : Due} {at : ℕ} → IsRank (r ∷ rows) row (suc at) → IsRank rows row at
further {r} {rows} {row} {at} rank = record {
  within = let w = rank.within in omega (arith, w);
  below = rank.below.1;
  above = rank.above;
}

each_later : (rows : List Due) (row : Due) → rows_at row.number rows ≡ [] → AllByRecursion (λ other. is_sooner other row ≡ false) rows → AllByRecursion (λ other. is_sooner row other ≡ true) rows
each_later [] row none above = tt
each_later (r ∷ rows) row none above =
    let parts = not_first row.number r rows none in
    (one_sooner row r above.0 (eqb-false r.number row.number parts.0), each_later rows row parts.1 above.1)

pub sorted_inserted : (rows : List Due) (at : ℕ) (row : Due) → AreSorted rows → rows_at row.number rows ≡ [] → IsRank rows row at → AreSorted (insert rows at row)
sorted_inserted [] zero row sorted none rank = (tt, tt)
sorted_inserted [] (suc at) row sorted none rank = (tt, tt)
sorted_inserted (r ∷ rows) zero row sorted none rank = (each_later (r ∷ rows) row none rank.above, sorted)
sorted_inserted (r ∷ rows) (suc at) row sorted none rank =
    (each_insert (λ (later : Due). is_sooner r later ≡ true) rows at row sorted.0 rank.below.0, sorted_inserted rows at row sorted.1 (not_first row.number r rows none).1 (further rank))

-- a row less
pub sorted_removed : (rows : List Due) (at : ℕ) → AreSorted rows → AreSorted (remove rows at)
sorted_removed [] zero sorted = tt
sorted_removed [] (suc at) sorted = tt
sorted_removed (r ∷ rows) zero sorted = sorted.1
sorted_removed (r ∷ rows) (suc at) sorted = (each_remove (λ (later : Due). is_sooner r later ≡ true) rows at sorted.0, sorted_removed rows at sorted.1)

head_is : (r row : Due) (rs : List Due) → r ∷ rs ≡ row ∷ [] → (r ≡ row) × (rs ≡ [])
head_is r row rs is = (cc, cc)

-- the first of the arrival, or later
own_or_later : (k : ℕ) (r row : Due) (rows : List Due) → rows_at k (r ∷ rows) ≡ row ∷ []
    → ((r ≡ row) × (rows_at k rows ≡ [])) ⊎ ((eqb r.number k ≡ false) × (rows_at k rows ≡ row ∷ []))
own_or_later k r row rows is =
    ⊎_elim
    (λ (own : eqb r.number k ≡ true). inl (head_is r row (rows_at k rows) (let e = rw own at is in e)))
    (λ (other : eqb r.number k ≡ false). inr (other, let e = rw other at is in e))
    (cases_Bool (eqb r.number k))

of_all : (P : Due → Type 0) (k : ℕ) (row : Due) (rows : List Due) → rows_at k rows ≡ row ∷ [] → AllByRecursion P rows → P row
of_all P k row [] is all = absurd (let l = ap length is in omega (arith, l))
of_all P k row (r ∷ rows) is all =
    ⊎_elim
    (λ (own : (r ≡ row) × (rows_at k rows ≡ [])). subst P own.0 all.0)
    (λ (later : (eqb r.number k ≡ false) × (rows_at k rows ≡ row ∷ [])). of_all P k row rows later.1 all.1)
    (own_or_later k r row rows is)

pub rank_within : (rows : List Due) (at : ℕ) (row : Due) → rows_at row.number rows ≡ row ∷ [] → IsRank rows row at → at < length rows
rank_within [] at row is rank = absurd (let l = ap length is in omega (arith, l))
rank_within (r ∷ rows) zero row is rank = omega arith
rank_within (r ∷ rows) (suc at) row is rank =
    ⊎_elim
    (λ (own : (r ≡ row) × (rows_at row.number rows ≡ [])).
    let r : suc at < length (r ∷ rows) = absurd (not_itself row (subst (λ (x : Due). is_sooner x row ≡ true) own.0 rank.below.0)) in r)
    (λ (later : (eqb r.number row.number ≡ false) × (rows_at row.number rows ≡ row ∷ [])).
    let l = rank_within rows at row later.1 (further rank) in
    let r : suc at < length (r ∷ rows) = omega (arith, l) in r)
    (own_or_later row.number r row rows is)

pub rows_removed : (rows : List Due) (at : ℕ) (row : Due) → AreSorted rows → rows_at row.number rows ≡ row ∷ [] → IsRank rows row at
    → (k : ℕ) → rows_at k (remove rows at) ≡ cond (eqb row.number k) [] (rows_at k rows)
rows_removed [] at row sorted is rank k = absurd (let l = ap length is in omega (arith, l))
rows_removed (r ∷ rows) zero row sorted is rank k =
    ⊎_elim
    (λ (own : (r ≡ row) × (rows_at row.number rows ≡ [])).
    ⊎_elim
    (λ (here : eqb row.number k ≡ true). rw here (subst (λ (n : ℕ). rows_at n rows ≡ []) (eqb-true row.number k here) own.1))
    (λ (other : eqb row.number k ≡ false).
    let first : eqb r.number k ≡ false = ap (λ (x : Due). eqb x.number k) own.0 ∙ other in
    rw (other, first) refl)
    (cases_Bool (eqb row.number k)))
    (λ (later : (eqb r.number row.number ≡ false) × (rows_at row.number rows ≡ row ∷ [])).
    absurd (true≢false (sym (of_all (λ (x : Due). is_sooner r x ≡ true) row.number row rows later.1 sorted.0) ∙ rank.above.0)))
    (own_or_later row.number r row rows is)
rows_removed (r ∷ rows) (suc at) row sorted is rank k =
    ⊎_elim
    (λ (own : (r ≡ row) × (rows_at row.number rows ≡ [])).
    absurd (not_itself row (subst (λ (x : Due). is_sooner x row ≡ true) own.0 rank.below.0)))
    (λ (later : (eqb r.number row.number ≡ false) × (rows_at row.number rows ≡ row ∷ [])).
    let left = rows_removed rows at row sorted.1 later.1 (further rank) k in
    ⊎_elim
    (λ (here : eqb r.number k ≡ true).
    let apart : eqb row.number k ≡ false = ne_eqb row.number k (λ same. eqb-false r.number row.number later.0 (eqb-true r.number k here ∙ sym same)) in
    let l = rw apart at left in
    rw (here, apart) (ap (λ (rs : List Due). r ∷ rs) l))
    (λ (not_here : eqb r.number k ≡ false). rw not_here left)
    (cases_Bool (eqb r.number k)))
    (own_or_later row.number r row rows is)

-- the soonest
pub soonest_first : (rows : List Due) (row : Due) → AreSorted rows → slice_get rows 0 ≡ Some row → IsSoonest rows (Some row.deadline)
soonest_first [] row sorted is = absurd (none_is row is)
  where
    none_is : (x : Due) → None ≡ Some x → ⊥
    none_is x h = cc
soonest_first (r ∷ rows) row sorted is =
    let same : r ≡ row = cc in
    subst (λ (x : Due). IsSoonest (r ∷ rows) (Some x.deadline)) same
    ((r, inl refl, refl), (omega arith, each_map (λ (f : Due). is_sooner r f ≡ true) (λ (f : Due). r.deadline ≤ f.deadline) rows (λ f h. le_deadline r f h) sorted.0))

-- the walk over those that are reached
in_push : (f row : Due) (rows : List Due) → IsIn f rows → IsIn f (rows ++ row ∷ [])
in_push f row [] is = absurd is
in_push f row (r ∷ rows) is = ⊎_elim (λ (here : r ≡ f). inl here) (λ (later : IsIn f rows). inr (in_push f row rows later)) is

in_last : (row : Due) (rows : List Due) → IsIn row (rows ++ row ∷ [])
in_last row [] = inl refl
in_last row (r ∷ rows) = inr (in_last row rows)

pub first_more : (clock : ℕ) (rows : List Due) (first : Option Due) (row : Due) → IsFirstReached clock rows first → row.deadline ≤ clock → IsFirstReached clock (rows ++ row ∷ []) (Some (first_of first row))
first_more clock rows None row is reached = (
  in_last row rows,
  reached,
  each_push (λ (r : Due). r.deadline ≤ clock → row.number ≤ r.number) rows row
      (each_map (λ (r : Due). clock < r.deadline) (λ (r : Due). r.deadline ≤ clock → row.number ≤ r.number) rows (λ r late early. absurd (omega (arith, late, early))) is)
      (λ _. omega arith),
)
first_more clock rows (Some first) row is reached =
    ⊎_elim
    (λ (less : nat_lt first.number row.number ≡ true).
    let l = ltb-true first.number row.number less in
    rw less (in_push first row rows is.0, is.1, each_push (λ (r : Due). r.deadline ≤ clock → first.number ≤ r.number) rows row is.2 (λ _. omega (arith, l))))
    (λ (more : nat_lt first.number row.number ≡ false).
    let m = ltb-false first.number row.number more in
    rw more (
      in_last row rows,
      reached,
      each_push (λ (r : Due). r.deadline ≤ clock → row.number ≤ r.number) rows row
          (each_map (λ (r : Due). r.deadline ≤ clock → first.number ≤ r.number) (λ (r : Due). r.deadline ≤ clock → row.number ≤ r.number) rows (λ r before early. let b = before early in omega (arith, b, m)) is.2)
          (λ _. omega arith),
    ))
    (cases_Bool (nat_lt first.number row.number))

in_take : (f : Due) (rows : List Due) (i : ℕ) → IsIn f (take i rows) → IsIn f rows
in_take f [] zero is = is
in_take f [] (suc i) is = is
in_take f (r ∷ rows) zero is = absurd is
in_take f (r ∷ rows) (suc i) is = ⊎_elim (λ (here : r ≡ f). inl here) (λ (later : IsIn f (take i rows)). inr (in_take f rows i later)) is

late_from : (clock : ℕ) (rows : List Due) (i : ℕ) (row : Due) → AreSorted rows → slice_get rows i ≡ Some row → clock < row.deadline → AllByRecursion (λ r. clock < r.deadline) (drop i rows)
late_from clock [] i row sorted is late = absurd (none_is row is)
  where
    none_is : (x : Due) → None ≡ Some x → ⊥
    none_is x h = cc
late_from clock (r ∷ rows) zero row sorted is late =
    let same : r ≡ row = cc in
    let here : clock < r.deadline = subst (λ (x : Due). clock < x.deadline) (sym same) late in
    (here, each_map (λ (f : Due). is_sooner r f ≡ true) (λ (f : Due). clock < f.deadline) rows (λ f h. let l = le_deadline r f h in omega (arith, l, here)) sorted.0)
late_from clock (r ∷ rows) (suc i) row sorted is late = late_from clock rows i row sorted.1 is late

pub first_stop : (clock : ℕ) (rows : List Due) (i : ℕ) (row : Due) (first : Option Due) → AreSorted rows → slice_get rows i ≡ Some row → clock < row.deadline → IsFirstReached clock (take i rows) first → IsFirstReached clock rows first
first_stop clock rows i row None sorted is late of_taken =
    each_from_parts (λ (r : Due). clock < r.deadline) rows i of_taken (late_from clock rows i row sorted is late)
first_stop clock rows i row (Some first) sorted is late of_taken = (
  in_take first rows i of_taken.0,
  of_taken.1,
  each_from_parts (λ (r : Due). r.deadline ≤ clock → first.number ≤ r.number) rows i of_taken.2
      (each_map (λ (r : Due). clock < r.deadline) (λ (r : Due). r.deadline ≤ clock → first.number ≤ r.number) (drop i rows) (λ r later early. absurd (omega (arith, later, early))) (late_from clock rows i row sorted is late)),
)

pub take_last : (rows : List Due) (i : ℕ) (row : Due) → slice_get rows i ≡ Some row → take (suc i) rows ≡ take i rows ++ row ∷ []
take_last [] i row is = absurd (none_is row is)
  where
    none_is : (x : Due) → None ≡ Some x → ⊥
    none_is x h = cc
take_last (r ∷ rows) zero row is = let same : r ≡ row = cc in ap (λ (x : Due). x ∷ []) same
take_last (r ∷ rows) (suc i) row is = ap (λ (rs : List Due). r ∷ rs) (take_last rows i row is)
