-- The rows of an index: the place of one, and what a row more or less changes.
use Rattle.std.proofs.Common.{◌≡◌, ℕ, zero, suc, ◌-◌, ◌<◌, ◌≤◌, Bool, true, false, ◌&&◌, eqb, get_or, List, [], ◌∷◌, length, take, drop, remove, slice_get, refl, sym, ap, ◌∙◌, ⊎_elim, Option, Some, None, arith}
use Rattle.std.specs.Prelude.{◌||◌, nat_lt, not, IfNone, IfSome}
use Rattle.std.specs.List.Sorted.{IsPartitionPoint, IsPartitionedBy}
use Rattle.std.proofs.lemmas.Bool.Decides.{nat_tests}
use Rattle.std.specs.List.{AllByRecursion, insert}
use Rattle.std.proofs.lemmas.Bool.{cases_eq, true≢false, eqb-false, eq-eqb, ne_eqb, ltb-true, ltb-false, or_parts}
use Rattle.std.proofs.lemmas.Option.{none-some, same_Some}
use Rattle.process_table.specs.Rows.{AreRising, IsPlace, holds, is_below}

pub all_map : (P Q : ℕ → Type 0) (rows : List ℕ) → ((row : ℕ) → P row → Q row) → AllByRecursion P rows → AllByRecursion Q rows
all_map P Q [] f all = tt
all_map P Q (row ∷ rows) f all = (f row all.0, all_map P Q rows f all.1)

all_insert : (P : ℕ → Type 0) (rows : List ℕ) (i : ℕ) (new : ℕ) → AllByRecursion P rows → P new → AllByRecursion P (insert rows i new)
all_insert P [] zero new all here = (here, tt)
all_insert P [] (suc i) new all here = (here, tt)
all_insert P (row ∷ rows) zero new all here = (here, all)
all_insert P (row ∷ rows) (suc i) new all here = (all.0, all_insert P rows i new all.1 here)

all_remove : (P : ℕ → Type 0) (rows : List ℕ) (i : ℕ) → AllByRecursion P rows → AllByRecursion P (remove rows i)
all_remove P [] zero all = tt
all_remove P [] (suc i) all = tt
all_remove P (row ∷ rows) zero all = all.1
all_remove P (row ∷ rows) (suc i) all = (all.0, all_remove P rows i all.1)

all-at : (P : ℕ → Type 0) (rows : List ℕ) (j d : ℕ) → AllByRecursion P rows → j < length rows → P (get_or rows j d)
all-at P [] j d all lt = absurd (omega (arith, lt))
all-at P (row ∷ rows) zero d all lt = all.0
all-at P (row ∷ rows) (suc j) d all lt = all-at P rows j d all.1 (omega (arith, lt))

taken : (P : ℕ → Type 0) (rows : List ℕ) (at : ℕ) → at ≤ length rows → ((k d : ℕ) → k < at → P (get_or rows k d)) → AllByRecursion P (take at rows)
taken P [] zero within each = tt
taken P (row ∷ rows) zero within each = tt
taken P [] (suc at) within each = absurd (omega (arith, within))
taken P (row ∷ rows) (suc at) within each = (each zero row (omega arith), taken P rows at (omega (arith, within)) (λ k d lt. each (suc k) d (omega (arith, lt))))

dropped : (P : ℕ → Type 0) (rows : List ℕ) (at : ℕ) → ((k d : ℕ) → at ≤ k → k < length rows → P (get_or rows k d)) → AllByRecursion P (drop at rows)
dropped P [] zero each = tt
dropped P [] (suc at) each = tt
dropped P (row ∷ rows) zero each = (each zero row (omega arith) (omega arith), dropped P rows zero (λ k d le lt. each (suc k) d (omega arith) (omega (arith, lt))))
dropped P (row ∷ rows) (suc at) each = dropped P rows at (λ k d le lt. each (suc k) d (omega (arith, le)) (omega (arith, lt)))

-- the search: where a row is below a bound, so are those before it
rising-at : (rows : List ℕ) (i j d : ℕ) → AreRising rows → i ≤ j → j < length rows → get_or rows i d ≤ get_or rows j d
rising-at [] i j d rising le lt = absurd (omega (arith, lt))
rising-at (row ∷ rows) zero zero d rising le lt = omega arith
rising-at (row ∷ rows) zero (suc j) d rising le lt = let above = all-at (λ later. row < later) rows j d rising.0 (omega (arith, lt)) in omega (arith, above)
rising-at (row ∷ rows) (suc i) zero d rising le lt = absurd (omega (arith, le))
rising-at (row ∷ rows) (suc i) (suc j) d rising le lt = rising-at rows i j d rising.1 (omega (arith, le)) (omega (arith, lt))

pub rising-parted : (rows : List ℕ) (bound : ℕ) → AreRising rows → IsPartitionedBy (λ row. nat_lt row bound) rows
rising-parted rows bound rising i j d le lt below =
    let order = rising-at rows i j d rising le lt in
    let lower = ltb-true (get_or rows j d) bound below in
    grind (arith, nat_tests, order, lower)

-- and the rows are parted at its place
pub place-parted : (rows : List ℕ) (bound at : ℕ) → at ≤ length rows → IsPartitionPoint (λ row. nat_lt row bound ≡ true) (λ row. nat_lt row bound ≡ false) rows at → IsPlace rows bound at
place-parted rows bound at within point = record {
  within = within;
  below = taken (λ row. row < bound) rows at within (λ k d lt. ltb-true (get_or rows k d) bound (point.0 k d (omega arith) lt));
  above = dropped (λ row. bound ≤ row) rows at (λ k d le lt. ltb-false (get_or rows k d) bound (point.1 k d le lt));
}

further : {row : ℕ} {rows : List ℕ} {bound at : ℕ} → IsPlace (row ∷ rows) bound (suc at) → IsPlace rows bound at
further {row} {rows} {bound} {at} place = record {
  within = let w = place.within in omega (arith, w);
  below = place.below.1;
  above = place.above;
}

other_below : (a b : ℕ) → a < b → eqb a b ≡ false
other_below a b h = ne_eqb a b (λ (e : a ≡ b). omega (arith, h, e))

other_above : (a b : ℕ) → b < a → eqb a b ≡ false
other_above a b h = ne_eqb a b (λ (e : a ≡ b). omega (arith, h, e))

or-both : (a b : Bool) → a ≡ false → b ≡ false → a || b ≡ false
or-both a b is also = (λ i. is i || b) ∙ also

-- a row below all isn't there
absent : (row : ℕ) (rows : List ℕ) → AllByRecursion (λ r. row < r) rows → holds row rows ≡ false
absent row [] above = refl
absent row (r ∷ rows) above = or-both (eqb r row) (holds row rows) (other_above r row above.0) (absent row rows above.1)

-- no row from the bound on, where there is none at its place
pub next-none : (rows : List ℕ) (bound at : ℕ) → IsPlace rows bound at → slice_get rows at ≡ None → (row : ℕ) → bound ≤ row → holds row rows ≡ false
next-none [] bound at place none row from = refl
next-none (r ∷ rows) bound zero place none row from = absurd (none-some r (sym none))
next-none (r ∷ rows) bound (suc at) place none row from =
    or-both (eqb r row) (holds row rows) (other_below r row (let b = place.below.0 in omega (arith, b, from))) (next-none rows bound at (further place) none row from)

-- the row at its place is there, from the bound on, and none is between
pub next-there : (rows : List ℕ) (at next : ℕ) → slice_get rows at ≡ Some next → holds next rows ≡ true
next-there [] at next here = absurd (none-some next here)
next-there (r ∷ rows) zero next here = λ i. eq-eqb r next (same_Some r next here) i || holds next rows
next-there (r ∷ rows) (suc at) next here = by (eqb r next) (next-there rows at next here)
  where
    by : (b : Bool) → holds next rows ≡ true → b || holds next rows ≡ true
    by true is = refl
    by false is = is

pub next-from : (rows : List ℕ) (bound at next : ℕ) → IsPlace rows bound at → slice_get rows at ≡ Some next → bound ≤ next
next-from [] bound at next place here = absurd (none-some next here)
next-from (r ∷ rows) bound zero next place here = let above = place.above.0 in let same = same_Some r next here in omega (arith, above, same)
next-from (r ∷ rows) bound (suc at) next place here = next-from rows bound at next (further place) here

pub next-least : (rows : List ℕ) (bound at next : ℕ) → AreRising rows → IsPlace rows bound at → slice_get rows at ≡ Some next
    → (row : ℕ) → bound ≤ row → row < next → holds row rows ≡ false
next-least [] bound at next rising place here row from before = refl
next-least (r ∷ rows) bound zero next rising place here row from before =
    let same = same_Some r next here in
    absent row (r ∷ rows) (omega (arith, same, before), all_map (λ (x : ℕ). r < x) (λ (x : ℕ). row < x) rows (λ x h. omega (arith, same, before, h)) rising.0)
next-least (r ∷ rows) bound (suc at) next rising place here row from before =
    or-both (eqb r row) (holds row rows) (other_below r row (let b = place.below.0 in omega (arith, b, from))) (next-least rows bound at next rising.1 (further place) here row from before)

-- a row more
or-swap : (a b c : Bool) → a || (b || c) ≡ b || (a || c)
or-swap true true c = refl
or-swap true false c = refl
or-swap false b c = refl

pub holds-inserted : (rows : List ℕ) (at row other : ℕ) → holds other (insert rows at row) ≡ eqb row other || holds other rows
holds-inserted [] zero row other = refl
holds-inserted [] (suc at) row other = refl
holds-inserted (r ∷ rows) zero row other = refl
holds-inserted (r ∷ rows) (suc at) row other =
    (λ i. eqb r other || holds-inserted rows at row other i) ∙ or-swap (eqb r other) (eqb row other) (holds other rows)

above-strictly : (row : ℕ) (rows : List ℕ) → AllByRecursion (λ r. row ≤ r) rows → holds row rows ≡ false → AllByRecursion (λ r. row < r) rows
above-strictly row [] above new = tt
above-strictly row (r ∷ rows) above new =
    let parts = or_parts (eqb r row) (holds row rows) new in
    (let apart = eqb-false r row parts.0 in let h = above.0 in omega (arith, h, apart), above-strictly row rows above.1 parts.1)

pub rising-inserted : (rows : List ℕ) (at row : ℕ) → AreRising rows → IsPlace rows row at → holds row rows ≡ false → AreRising (insert rows at row)
rising-inserted [] zero row rising place new = (tt, tt)
rising-inserted [] (suc at) row rising place new = (tt, tt)
rising-inserted (r ∷ rows) zero row rising place new = (above-strictly row (r ∷ rows) place.above new, rising)
rising-inserted (r ∷ rows) (suc at) row rising place new =
    (all_insert (λ (x : ℕ). r < x) rows at row rising.0 place.below.0, rising-inserted rows at row rising.1 (further place) (or_parts (eqb r row) (holds row rows) new).1)

-- a row less: it stands at its place
pub place-there : (rows : List ℕ) (row at : ℕ) → AreRising rows → IsPlace rows row at → holds row rows ≡ true → slice_get rows at ≡ Some row
place-there [] row at rising place there = absurd (true≢false (sym there))
place-there (r ∷ rows) row zero rising place there = ⊎_elim
    (λ (same : r ≡ row). ap (λ (x : ℕ). Some x) same)
    (λ (apart : r ≡ row → ⊥).
    let first = place.above.0 in
    let low : row < r = omega (arith, first, apart) in
    absurd (true≢false (sym there ∙ absent row (r ∷ rows) (low, all_map (λ (x : ℕ). r < x) (λ (x : ℕ). row < x) rows (λ x h. omega (arith, low, h)) rising.0))))
    (cases_eq r row)
place-there (r ∷ rows) row (suc at) rising place there =
    let low = place.below.0 in
    place-there rows row at rising.1 (further place) (sym (λ i. other_below r row low i || holds row rows) ∙ there)

pub some-within : (rows : List ℕ) (at row : ℕ) → slice_get rows at ≡ Some row → at < length rows
some-within [] at row here = absurd (none-some row here)
some-within (r ∷ rows) zero row here = omega arith
some-within (r ∷ rows) (suc at) row here = let later = some-within rows at row here in omega (arith, later)

pub rising-removed : (rows : List ℕ) (at : ℕ) → AreRising rows → AreRising (remove rows at)
rising-removed [] zero rising = tt
rising-removed [] (suc at) rising = tt
rising-removed (r ∷ rows) zero rising = rising.1
rising-removed (r ∷ rows) (suc at) rising = (all_remove (λ (x : ℕ). r < x) rows at rising.0, rising-removed rows at rising.1)

pub holds-removed : (rows : List ℕ) (at row other : ℕ) → AreRising rows → slice_get rows at ≡ Some row
    → holds other (remove rows at) ≡ holds other rows && not (eqb row other)
holds-removed [] at row other rising here = absurd (none-some row here)
holds-removed (r ∷ rows) zero row other rising here = ⊎_elim
    (λ (same : r ≡ other).
    let gone : holds other rows ≡ false = absent other rows (all_map (λ (x : ℕ). r < x) (λ (x : ℕ). other < x) rows (λ x h. omega (arith, same, h)) rising.0) in
    gone ∙ sym ((λ i. (eqb r other || holds other rows) && not (eq-eqb row other (sym (same_Some r row here) ∙ same) i)) ∙ none (eqb r other || holds other rows)))
    (λ (apart : r ≡ other → ⊥).
    sym ((λ i. (ne_eqb r other apart i || holds other rows) && not (ne_eqb row other (λ e. apart (same_Some r row here ∙ e)) i)) ∙ all (holds other rows)))
    (cases_eq r other)
  where
    none : (b : Bool) → b && false ≡ false
    none true = refl
    none false = refl

    all : (b : Bool) → b && true ≡ b
    all true = refl
    all false = refl
holds-removed (r ∷ rows) (suc at) row other rising here = ⊎_elim
    (λ (same : r ≡ other).
    let later = at-above rows at row rising.0 here in
    let apart : eqb row other ≡ false = other_above row other (omega (arith, later, same)) in
    (λ i. eq-eqb r other same i || holds other (remove rows at))
    ∙ sym (λ i. (eq-eqb r other same i || holds other rows) && not (apart i)))
    (λ (apart : r ≡ other → ⊥).
    (λ i. ne_eqb r other apart i || holds other (remove rows at))
    ∙ holds-removed rows at row other rising.1 here
    ∙ sym (λ i. (ne_eqb r other apart i || holds other rows) && not (eqb row other)))
    (cases_eq r other)
  where
    at-above : (xs : List ℕ) (i x : ℕ) → AllByRecursion (λ later. r < later) xs → slice_get xs i ≡ Some x → r < x
    at-above [] i x above is = absurd (none-some x is)
    at-above (y ∷ xs) zero x above is = let first = above.0 in let e = same_Some y x is in omega (arith, first, e)
    at-above (y ∷ xs) (suc i) x above is = at-above xs i x above.1 is

-- what the row at the place of a bound tells
module _ (rows : List ℕ) (bound at : ℕ) (rising : AreRising rows) (place : IsPlace rows bound at) where
  pub found-none : (o : Option ℕ) → o ≡ slice_get rows at → IfNone o ((row : ℕ) → bound ≤ row → holds row rows ≡ false)
  found-none None is = next-none rows bound at place (sym is)
  found-none (Some next) is = tt

  pub found-there : (o : Option ℕ) → o ≡ slice_get rows at → IfSome o (λ next. holds next rows ≡ true)
  found-there None is = tt
  found-there (Some next) is = next-there rows at next (sym is)

  pub found-from : (o : Option ℕ) → o ≡ slice_get rows at → IfSome o (λ next. bound ≤ next)
  found-from None is = tt
  found-from (Some next) is = next-from rows bound at next place (sym is)

  pub found-least : (o : Option ℕ) → o ≡ slice_get rows at → IfSome o (λ next. (row : ℕ) → bound ≤ row → row < next → holds row rows ≡ false)
  found-least None is = tt
  found-least (Some next) is = next-least rows bound at next rising place (sym is)

got : (rows : List ℕ) (at row d : ℕ) → slice_get rows at ≡ Some row → get_or rows at d ≡ row
got [] at row d here = absurd (none-some row here)
got (r ∷ rows) zero row d here = same_Some r row here
got (r ∷ rows) (suc at) row d here = got rows at row d here

-- where the last row is below a bound, all are
ended : (rows : List ℕ) (bound last : ℕ) → AreRising rows → slice_get rows (length rows - 1) ≡ Some last → last < bound → IsPlace rows bound (length rows)
ended rows bound last rising there low = record {
  within = omega arith;
  below = taken (λ row. row < bound) rows (length rows) (omega arith) (λ k d lt.
      let order = rising-at rows k (length rows - 1) d rising (omega (arith, lt)) (omega (arith, lt)) in
      let same = got rows (length rows - 1) last d there in
      omega (arith, order, same, low));
  above = dropped (λ row. bound ≤ row) rows (length rows) (λ k d le lt. absurd (omega (arith, le, lt)));
}

ended-by : (rows : List ℕ) (bound : ℕ) (last : Option ℕ) → AreRising rows → slice_get rows (length rows - 1) ≡ last → is_below bound last ≡ true → IsPlace rows bound (length rows)
ended-by rows bound None rising there low = absurd (true≢false (sym low))
ended-by rows bound (Some last) rising there low = ended rows bound last rising there (ltb-true last bound low)

pub place-ended : (rows : List ℕ) (bound : ℕ) → AreRising rows → is_below bound (slice_get rows (length rows - 1)) ≡ true → IsPlace rows bound (length rows)
place-ended rows bound rising low = ended-by rows bound (slice_get rows (length rows - 1)) rising refl low
