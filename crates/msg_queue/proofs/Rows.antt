-- The rows of the types: where one stands, and what a new one, a changed one and one that leaves change.
use Rattle.std.proofs.Common.{int_lt, ◌≡◌, ℕ, zero, suc, ◌+◌, ◌<◌, ◌≤◌, Bool, true, false, cond, not, ◌||◌, ℤ, List, [], ◌∷◌, length, take, drop, set, slice_get, refl, sym, ap, subst, ◌∙◌, ⊎_elim, Option, Some, None, is_some, IsSome, IfSome, arith}
use Rattle.std.specs.List.{AllByRecursion, filter, find, insert}
use Rattle.std.specs.Ordering.{int_eq}
use Rattle.std.proofs.lemmas.Bool.{cases_Bool, true≢false}
use Rattle.std.proofs.lemmas.Int.{ints}
use Rattle.std.proofs.lemmas.Option.{none-some, same_Some}
use Rattle.msg_queue.specs.declared.nodes.Ends.{Ends}
use Rattle.msg_queue.specs.declared.types.Row.{Row}
use Rattle.msg_queue.specs.Links.{no_ends}
use Rattle.msg_queue.specs.Types.{AreRising, IsLeast, IsPlace, ends_here, ends_in, has_messages, is_lower_than, is_row_of, is_unused_in, is_used}
use Rattle.msg_queue.proofs.Holding.{own_eq, same_type}

-- the order of numbers
below_trans : (a b c : ℤ) → int_lt a b ≡ true → int_lt b c ≡ true → int_lt a c ≡ true
below_trans a b c h k = grind (arith, ints)

above_trans : (a b c : ℤ) → int_lt a b ≡ true → int_lt a c ≡ false → int_lt b c ≡ false
above_trans a b c h k = grind (arith, ints)

eq_below : (a b : ℤ) → int_lt a b ≡ true → int_eq a b ≡ false
eq_below a b h = grind (arith, ints)

eq_above : (a b : ℤ) → int_lt b a ≡ true → int_eq a b ≡ false
eq_above a b h = grind (arith, ints)

above_or_eq : (a b : ℤ) → int_lt a b ≡ false → int_eq a b ≡ false → int_lt b a ≡ true
above_or_eq a b h k = grind (arith, ints)

-- lists
all_map : (P Q : Row → Type 0) (rows : List Row) → ((row : Row) → P row → Q row) → AllByRecursion P rows → AllByRecursion Q rows
all_map P Q [] f all = tt
all_map P Q (row ∷ rows) f all = (f row all.0, all_map P Q rows f all.1)

all_insert : (P : Row → Type 0) (rows : List Row) (i : ℕ) (new : Row) → AllByRecursion P rows → P new → AllByRecursion P (insert rows i new)
all_insert P [] zero new all here = (here, tt)
all_insert P [] (suc i) new all here = (here, tt)
all_insert P (row ∷ rows) zero new all here = (here, all)
all_insert P (row ∷ rows) (suc i) new all here = (all.0, all_insert P rows i new all.1 here)

all_set : (P : Row → Type 0) (rows : List Row) (i : ℕ) (new : Row) → AllByRecursion P rows → P new → AllByRecursion P (set rows i new)
all_set P [] i new all here = tt
all_set P (row ∷ rows) zero new all here = (here, all.1)
all_set P (row ∷ rows) (suc i) new all here = (all.0, all_set P rows i new all.1 here)

-- the search: what the row in the middle tells of those before it, and of those from it on
lower_all : (z t : ℤ) (rows : List Row) (i : ℕ) → AllByRecursion (λ r. int_lt z r.mtype ≡ true) rows → is_lower_than t (slice_get rows i) ≡ true → int_lt z t ≡ true
lower_all z t [] i all here = absurd (true≢false (sym here))
lower_all z t (row ∷ rows) zero all here = below_trans z row.mtype t all.0 here
lower_all z t (row ∷ rows) (suc i) all here = lower_all z t rows i all.1 here

pub lower_half : (rows : List Row) (i : ℕ) (t : ℤ) → AreRising rows → is_lower_than t (slice_get rows i) ≡ true → AllByRecursion (λ row. int_lt row.mtype t ≡ true) (take (suc i) rows)
lower_half [] i t rising here = absurd (true≢false (sym here))
lower_half (row ∷ rows) zero t rising here = (here, tt)
lower_half (row ∷ rows) (suc i) t rising here = (lower_all row.mtype t rows i rising.0 here, lower_half rows i t rising.1 here)

pub upper_half : (rows : List Row) (i : ℕ) (t : ℤ) → AreRising rows → i < length rows → is_lower_than t (slice_get rows i) ≡ false → AllByRecursion (λ row. int_lt row.mtype t ≡ false) (drop i rows)
upper_half [] i t rising within here = absurd (omega (arith, within))
upper_half (row ∷ rows) zero t rising within here = (here, all_map (λ (r : Row). int_lt row.mtype r.mtype ≡ true) (λ (r : Row). int_lt r.mtype t ≡ false) rows (λ r h. above_trans row.mtype r.mtype t h here) rising.0)
upper_half (row ∷ rows) (suc i) t rising within here = upper_half rows i t rising.1 (omega (arith, within)) here

further : {row : Row} {rows : List Row} {t : ℤ} {at : ℕ} → IsPlace (row ∷ rows) t (suc at) → IsPlace rows t at
further {row} {rows} {t} {at} place = record {
  within = let w = place.within in omega (arith, w);
  below = place.below.1;
  above = place.above;
}

-- a type of which there is no row
absent : (rows : List Row) (t : ℤ) → AllByRecursion (λ row. int_eq row.mtype t ≡ false) rows → ends_in rows t ≡ no_ends
absent [] t none = refl
absent (row ∷ rows) t none = let no = none.0 in rw no (absent rows t none.1)

-- a row that is higher, and all after it
higher : (row : Row) (rows : List Row) (t : ℤ) → AreRising (row ∷ rows) → int_lt t row.mtype ≡ true → AllByRecursion (λ r. int_eq r.mtype t ≡ false) rows
higher row rows t rising h =
    all_map (λ (r : Row). int_lt row.mtype r.mtype ≡ true) (λ (r : Row). int_eq r.mtype t ≡ false) rows (λ r k. eq_above r.mtype t (below_trans t row.mtype r.mtype h k)) rising.0

pub ends_found : (rows : List Row) (t : ℤ) (at : ℕ) → AreRising rows → IsPlace rows t at → ends_in rows t ≡ cond (is_row_of t (slice_get rows at)) (ends_here (slice_get rows at)) no_ends
ends_found [] t at rising place = refl
ends_found (row ∷ rows) t zero rising place =
    ⊎_elim
    (λ (yes : int_eq row.mtype t ≡ true). rw yes refl)
    (λ (no : int_eq row.mtype t ≡ false). rw no (absent rows t (higher row rows t rising (above_or_eq row.mtype t place.above.0 no))))
    (cases_Bool (int_eq row.mtype t))
ends_found (row ∷ rows) t (suc at) rising place =
    let no = eq_below row.mtype t place.below.0 in rw no (ends_found rows t at rising.1 (further place))

-- a lower row in front changes nothing of it
module _ (row : Row) (t u : ℤ) (lower : int_lt row.mtype t ≡ true) (ends a b : Ends) (is : a ≡ cond (int_eq t u) ends b) where
  in_front : cond (int_eq row.mtype u) row.ends a ≡ cond (int_eq t u) ends (cond (int_eq row.mtype u) row.ends b)
  in_front =
      ⊎_elim
      (λ (yes : int_eq row.mtype u ≡ true).
      let no : int_eq t u ≡ false = ap (int_eq t) (sym (same_type row.mtype u yes)) ∙ eq_above t row.mtype lower in rw (yes, no) refl)
      (λ (no : int_eq row.mtype u ≡ false). rw no is)
      (cases_Bool (int_eq row.mtype u))

-- a new row
abbrev pub IsFree : List Row → ℤ → ℕ → Type 0
IsFree rows t at = IfSome (slice_get rows at) (λ row. int_eq row.mtype t ≡ false)

abbrev pub row_of : ℤ → Ends → Row
row_of t ends = record { mtype = t; ends = ends }

pub ends_inserted : (rows : List Row) (t : ℤ) (at : ℕ) (ends : Ends) (u : ℤ) → IsPlace rows t at → ends_in (insert rows at (row_of t ends)) u ≡ cond (int_eq t u) ends (ends_in rows u)
ends_inserted [] t zero ends u place = refl
ends_inserted [] t (suc at) ends u place = absurd (let w = place.within in omega (arith, w))
ends_inserted (row ∷ rows) t zero ends u place = refl
ends_inserted (row ∷ rows) t (suc at) ends u place = in_front row t u place.below.0 ends _ _ (ends_inserted rows t at ends u (further place))

pub rising_inserted : (rows : List Row) (t : ℤ) (at : ℕ) (ends : Ends) → AreRising rows → IsPlace rows t at → IsFree rows t at → AreRising (insert rows at (row_of t ends))
rising_inserted [] t zero ends rising place free = (tt, tt)
rising_inserted [] t (suc at) ends rising place free = absurd (let w = place.within in omega (arith, w))
rising_inserted (row ∷ rows) t zero ends rising place free =
    let above : int_lt t row.mtype ≡ true = above_or_eq row.mtype t place.above.0 free in
    ((above, all_map (λ (r : Row). int_lt row.mtype r.mtype ≡ true) (λ (r : Row). int_lt t r.mtype ≡ true) rows (λ r h. below_trans t row.mtype r.mtype above h) rising.0), rising)
rising_inserted (row ∷ rows) t (suc at) ends rising place free =
    (all_insert (λ (r : Row). int_lt row.mtype r.mtype ≡ true) rows at (row_of t ends) rising.0 place.below.0, rising_inserted rows t at ends rising.1 (further place) free)

-- a row that is there
abbrev pub IsHere : List Row → ℤ → ℕ → Type 0
IsHere rows t at = (row : Row) × (slice_get rows at ≡ Some row) × (int_eq row.mtype t ≡ true)

here_at : {row first : Row} (t : ℤ) → Some first ≡ Some row → int_eq row.mtype t ≡ true → int_eq first.mtype t ≡ true
here_at {row} {first} t is h = ap (λ (r : Row). int_eq r.mtype t) (let e : first ≡ row = cc in e) ∙ h

pub ends_set : (rows : List Row) (t : ℤ) (at : ℕ) (ends : Ends) (u : ℤ) → IsPlace rows t at → IsHere rows t at → ends_in (set rows at (row_of t ends)) u ≡ cond (int_eq t u) ends (ends_in rows u)
ends_set [] t at ends u place here = absurd (let e = here.1 in cc)
ends_set (row ∷ rows) t zero ends u place here =
    let own : row.mtype ≡ t = same_type row.mtype t (here_at t here.1 here.2) in
    ⊎_elim
    (λ (yes : int_eq t u ≡ true). rw yes refl)
    (λ (no : int_eq t u ≡ false). let other : int_eq row.mtype u ≡ false = ap (λ (x : ℤ). int_eq x u) own ∙ no in rw (no, other) refl)
    (cases_Bool (int_eq t u))
ends_set (row ∷ rows) t (suc at) ends u place here = in_front row t u place.below.0 ends _ _ (ends_set rows t at ends u (further place) here)

pub rising_set : (rows : List Row) (t : ℤ) (at : ℕ) (ends : Ends) → AreRising rows → IsPlace rows t at → IsHere rows t at → AreRising (set rows at (row_of t ends))
rising_set [] t at ends rising place here = tt
rising_set (row ∷ rows) t zero ends rising place here =
    let own : row.mtype ≡ t = same_type row.mtype t (here_at t here.1 here.2) in
    (subst (λ (x : ℤ). AllByRecursion (λ r. int_lt x r.mtype ≡ true) rows) own rising.0, rising.1)
rising_set (row ∷ rows) t (suc at) ends rising place here =
    (all_set (λ (r : Row). int_lt row.mtype r.mtype ≡ true) rows at (row_of t ends) rising.0 place.below.0, rising_set rows t at ends rising.1 (further place) here)

-- what the test of the row tells
pub here_from : (rows : List Row) (t : ℤ) (at : ℕ) → is_row_of t (slice_get rows at) ≡ true → IsHere rows t at
here_from rows t at h = by (slice_get rows at) refl h
  where
    by : (o : Option Row) → slice_get rows at ≡ o → is_row_of t o ≡ true → IsHere rows t at
    by None is h = absurd (true≢false (sym h))
    by (Some row) is h = (row, is, h)

pub free_from : (rows : List Row) (t : ℤ) (at : ℕ) → is_row_of t (slice_get rows at) ≡ false → IsFree rows t at
free_from rows t at h = by (slice_get rows at) h
  where
    by : (o : Option Row) → is_row_of t o ≡ false → IfSome o (λ row. int_eq row.mtype t ≡ false)
    by None h = tt
    by (Some row) h = h

-- where there is no row there are no ends
pub none_here : (rows : List Row) (t : ℤ) (at : ℕ) → AreRising rows → IsPlace rows t at → is_row_of t (slice_get rows at) ≡ false → ends_in rows t ≡ no_ends
none_here rows t at rising place h = ends_found rows t at rising place ∙ ap (λ (b : Bool). cond b (ends_here (slice_get rows at)) no_ends) h

pub some_here : (rows : List Row) (t : ℤ) (at : ℕ) → AreRising rows → IsPlace rows t at → is_row_of t (slice_get rows at) ≡ true → ends_in rows t ≡ ends_here (slice_get rows at)
some_here rows t at rising place h = ends_found rows t at rising place ∙ ap (λ (b : Bool). cond b (ends_here (slice_get rows at)) no_ends) h

-- the search is over; u is the number that the code compares with
pub place_found : (rows : List Row) (t u : ℤ) (low high : ℕ) → u ≡ t → low ≡ high → high ≤ length rows → AllByRecursion (λ row. int_lt row.mtype u ≡ true) (take low rows) → AllByRecursion (λ row. int_lt row.mtype u ≡ false) (drop high rows) → IsPlace rows t low
place_found rows t u low high same met within below above = record {
  within = omega (arith, met, within);
  below = subst (λ (x : ℤ). AllByRecursion (λ row. int_lt row.mtype x ≡ true) (take low rows)) same below;
  above = subst (λ (x : ℤ). AllByRecursion (λ row. int_lt row.mtype x ≡ false) (drop low rows)) same (subst (λ (n : ℕ). AllByRecursion (λ row. int_lt row.mtype u ≡ false) (drop n rows)) (sym met) above);
}

-- the row that was set last
lower_at : (z t : ℤ) (rows : List Row) (i : ℕ) → AllByRecursion (λ r. int_lt z r.mtype ≡ true) rows → is_row_of t (slice_get rows i) ≡ true → int_lt z t ≡ true
lower_at z t [] i all here = absurd (true≢false (sym here))
lower_at z t (row ∷ rows) zero all here = ap (int_lt z) (sym (same_type row.mtype t here)) ∙ all.0
lower_at z t (row ∷ rows) (suc i) all here = lower_at z t rows i all.1 here

not_lower : (a b : ℤ) → int_eq a b ≡ true → int_lt a b ≡ false
not_lower a b h = grind (arith, ints)

pub place_of_row : (rows : List Row) (i : ℕ) (t : ℤ) → AreRising rows → is_row_of t (slice_get rows i) ≡ true → IsPlace rows t i
place_of_row [] i t rising here = absurd (true≢false (sym here))
place_of_row (row ∷ rows) zero t rising here =
    let no : int_lt row.mtype t ≡ false = not_lower row.mtype t here in
    record {
      within = omega arith;
      below = tt;
      above = (no, all_map (λ (r : Row). int_lt row.mtype r.mtype ≡ true) (λ (r : Row). int_lt r.mtype t ≡ false) rows (λ r h. above_trans row.mtype r.mtype t h no) rising.0);
    }
place_of_row (row ∷ rows) (suc i) t rising here =
    let place = place_of_row rows i t rising.1 here in
    record {
      within = let w = place.within in omega (arith, w);
      below = (lower_at row.mtype t rows i rising.0 here, place.below);
      above = place.above;
    }

-- a row that no message needs
none_from : (o : Option ℕ) → is_some o ≡ false → o ≡ None
none_from None h = refl
none_from (Some x) h = absurd (true≢false h)

neither : (a b : Bool) → (a || b) ≡ false → (a ≡ false) × (b ≡ false)
neither true b h = absurd (true≢false h)
neither false b h = (refl, h)

fails : (b : Bool) → not b ≡ true → b ≡ false
fails true h = absurd (true≢false (sym h))
fails false h = refl

unused_ends : (row : Row) → is_used row ≡ false → row.ends ≡ no_ends
unused_ends row h =
    let both = neither (is_some row.ends.first) (is_some row.ends.last) h in
    λ i. record { first = none_from row.ends.first both.0 i; last = none_from row.ends.last both.1 i }

first_gone : (row : Row) (rows : List Row) (t : ℤ) → AreRising (row ∷ rows) → is_used row ≡ false → ends_in rows t ≡ ends_in (row ∷ rows) t
first_gone row rows t rising h =
    ⊎_elim
    (λ (yes : int_eq row.mtype t ≡ true).
    let is : row.mtype ≡ t = same_type row.mtype t yes in
    rw yes (absent rows t (all_map (λ (r : Row). int_lt row.mtype r.mtype ≡ true) (λ (r : Row). int_eq r.mtype t ≡ false) rows (λ r k. ap (int_eq r.mtype) (sym is) ∙ eq_above r.mtype row.mtype k) rising.0) ∙ sym (unused_ends row h)))
    (λ (no : int_eq row.mtype t ≡ false). rw no refl)
    (cases_Bool (int_eq row.mtype t))

pub unused_within : (rows : List Row) (at : ℕ) → is_unused_in (slice_get rows at) ≡ true → at < length rows
unused_within [] at h = absurd (true≢false (sym h))
unused_within (row ∷ rows) zero h = omega arith
unused_within (row ∷ rows) (suc at) h = let w = unused_within rows at h in omega (arith, w)

pub next_rising : (rows : List Row) (at : ℕ) → AreRising (drop at rows) → AreRising (drop (suc at) rows)
next_rising [] zero rising = tt
next_rising [] (suc at) rising = tt
next_rising (row ∷ rows) zero rising = rising.1
next_rising (row ∷ rows) (suc at) rising = next_rising rows at rising

pub next_ends : (rows : List Row) (at : ℕ) (t : ℤ) → AreRising (drop at rows) → is_unused_in (slice_get rows at) ≡ true → ends_in (drop (suc at) rows) t ≡ ends_in (drop at rows) t
next_ends [] at t rising h = absurd (true≢false (sym h))
next_ends (row ∷ rows) zero t rising h = first_gone row rows t rising (fails (is_used row) h)
next_ends (row ∷ rows) (suc at) t rising h = next_ends rows at t rising h

-- the rows that are used
all_filter : (P : Row → Type 0) (rows : List Row) → AllByRecursion P rows → AllByRecursion P (filter is_used rows)
all_filter P [] all = tt
all_filter P (row ∷ rows) all =
    ⊎_elim
    (λ (yes : is_used row ≡ true). rw yes (all.0, all_filter P rows all.1))
    (λ (no : is_used row ≡ false). rw no (all_filter P rows all.1))
    (cases_Bool (is_used row))

pub used_rising : (rows : List Row) → AreRising rows → AreRising (filter is_used rows)
used_rising [] rising = tt
used_rising (row ∷ rows) rising =
    ⊎_elim
    (λ (yes : is_used row ≡ true). rw yes (all_filter (λ (r : Row). int_lt row.mtype r.mtype ≡ true) rows rising.0, used_rising rows rising.1))
    (λ (no : is_used row ≡ false). rw no (used_rising rows rising.1))
    (cases_Bool (is_used row))

pub used_ends : (rows : List Row) (t : ℤ) → AreRising rows → ends_in (filter is_used rows) t ≡ ends_in rows t
used_ends [] t rising = refl
used_ends (row ∷ rows) t rising =
    ⊎_elim
    (λ (yes : is_used row ≡ true). rw yes (ap (λ (e : Ends). cond (int_eq row.mtype t) row.ends e) (used_ends rows t rising.1)))
    (λ (no : is_used row ≡ false). rw no (used_ends rows t rising.1 ∙ first_gone row rows t rising no))
    (cases_Bool (is_used row))

-- the first row of a type that has messages
least_is : (row : Row) (rows : List Row) → AreRising (row ∷ rows) → has_messages row ≡ true → IsLeast (row ∷ rows) (row.mtype, row.ends)
least_is row rows rising has = (
  (let e = own_eq row.mtype in rw e refl),
  has,
  λ t some. by t some (int_lt t row.mtype) refl,
)
  where
    by : (t : ℤ) → IsSome (ends_in (row ∷ rows) t).first → (b : Bool) → int_lt t row.mtype ≡ b → int_lt t row.mtype ≡ false
    by t some true lower =
        let gone : ends_in (row ∷ rows) t ≡ no_ends = absent (row ∷ rows) t (eq_above row.mtype t lower, higher row rows t rising lower) in
        let e : IsSome {T = ℕ} None = subst (λ (x : Ends). IsSome x.first) gone some in
        cc
    by t some false above = above

all_found : (P : Row → Type 0) (rows : List Row) (row : Row) → AllByRecursion P rows → find has_messages rows ≡ Some row → P row
all_found P [] row all is = absurd (none-some row is)
all_found P (first ∷ rows) row all is =
    ⊎_elim
    (λ (yes : has_messages first ≡ true). let own : Some first ≡ Some row = rw yes at is in subst P (same_Some first row own) all.0)
    (λ (no : has_messages first ≡ false). let later : find has_messages rows ≡ Some row = rw no at is in all_found P rows row all.1 later)
    (cases_Bool (has_messages first))

pub least_found : (rows : List Row) (row : Row) → AreRising rows → find has_messages rows ≡ Some row → IsLeast rows (row.mtype, row.ends)
least_found [] row rising is = absurd (none-some row is)
least_found (first ∷ rows) row rising is =
    ⊎_elim
    (λ (yes : has_messages first ≡ true).
    let own : Some first ≡ Some row = rw yes at is in
    subst (λ (r : Row). IsLeast (first ∷ rows) (r.mtype, r.ends)) (same_Some first row own) (least_is first rows rising yes))
    (λ (no : has_messages first ≡ false).
    let later : find has_messages rows ≡ Some row = rw no at is in
    let least = least_found rows row rising.1 later in
    let lower = all_found (λ (r : Row). int_lt first.mtype r.mtype ≡ true) rows row rising.0 later in
    let other = eq_below first.mtype row.mtype lower in
    (rw other least.0, least.1, λ t some. by t (int_eq first.mtype t) refl some no (least.2 t)))
    (cases_Bool (has_messages first))
  where
    by : (t : ℤ) (b : Bool) → int_eq first.mtype t ≡ b → IsSome (ends_in (first ∷ rows) t).first → has_messages first ≡ false → (IsSome (ends_in rows t).first → int_lt t row.mtype ≡ false) → int_lt t row.mtype ≡ false
    by t true own some lacks rest = let e : IsSome first.ends.first = rw own at some in absurd (true≢false (sym e ∙ lacks))
    by t false other some lacks rest = let e : IsSome (ends_in rows t).first = rw other at some in rest e

pub none_found : (rows : List Row) → find has_messages rows ≡ None → (t : ℤ) → (ends_in rows t).first ≡ None
none_found [] is t = refl
none_found (row ∷ rows) is t =
    ⊎_elim
    (λ (yes : has_messages row ≡ true). let e : Some row ≡ None = rw yes at is in absurd (none-some row (sym e)))
    (λ (no : has_messages row ≡ false).
    let later : find has_messages rows ≡ None = rw no at is in
    ⊎_elim
    (λ (own : int_eq row.mtype t ≡ true). rw own (none_from row.ends.first no))
    (λ (other : int_eq row.mtype t ≡ false). rw other (none_found rows later t))
    (cases_Bool (int_eq row.mtype t)))
    (cases_Bool (has_messages row))

-- where rows in front were let go
pub drop_insert : (n : ℕ) (rows : List Row) (i : ℕ) (row : Row) → n ≤ length rows → drop n (insert rows (n + i) row) ≡ insert (drop n rows) i row
drop_insert zero rows i row within = let same : 0 + i ≡ i = omega arith in ap (λ (n : ℕ). insert rows n row) same
drop_insert (suc n) [] i row within = absurd (omega (arith, within))
drop_insert (suc n) (first ∷ rows) i row within =
    let later : suc n + i ≡ suc (n + i) = omega arith in
    ap (λ (at : ℕ). drop (suc n) (insert (first ∷ rows) at row)) later ∙ drop_insert n rows i row (omega (arith, within))

pub longer_insert : (rows : List Row) (i : ℕ) (row : Row) → length rows ≤ length (insert rows i row)
longer_insert [] zero row = omega arith
longer_insert [] (suc i) row = omega arith
longer_insert (first ∷ rows) zero row = omega arith
longer_insert (first ∷ rows) (suc i) row = let more = longer_insert rows i row in omega (arith, more)
