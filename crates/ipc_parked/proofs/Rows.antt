-- The rows of waiting clients: where those of an object stand, and what a row more or less changes.
use Rattle.std.proofs.Common.{◌≡◌, ℕ, zero, suc, ◌+◌, ◌<◌, ◌≤◌, Bool, true, false, cond, ◌&&◌, eqb, get_or, List, [], ◌∷◌, ◌++◌, length, take, drop, remove, slice_get, refl, sym, ap, ◌∙◌, ⊎_elim, Some, None, arith}
use Rattle.std.specs.Prelude.{nat_lt}
use Rattle.std.specs.List.Sorted.{IsPartitionPoint, IsPartitionedBy}
use Rattle.std.proofs.lemmas.Bool.Decides.{nat_tests}
use Rattle.std.specs.List.{AllByRecursion, insert}
use Rattle.std.proofs.lemmas.Bool.{cases_Bool, true≢false, eqb-true, eqb-false, eq-eqb, ne_eqb, ltb-true, ltb-false}
use Rattle.ipc_parked.specs.declared.waits.Wait.{Wait}
use Rattle.ipc_parked.specs.Waits.{AreRising, IsPlace, NoneIs, client_if, clients_at, is_wait, without_first}

-- lists
pub all_map : (P Q : Wait → Type 0) (rows : List Wait) → ((row : Wait) → P row → Q row) → AllByRecursion P rows → AllByRecursion Q rows
all_map P Q [] f all = tt
all_map P Q (row ∷ rows) f all = (f row all.0, all_map P Q rows f all.1)

pub all_insert : (P : Wait → Type 0) (rows : List Wait) (i : ℕ) (new : Wait) → AllByRecursion P rows → P new → AllByRecursion P (insert rows i new)
all_insert P [] zero new all here = (here, tt)
all_insert P [] (suc i) new all here = (here, tt)
all_insert P (row ∷ rows) zero new all here = (here, all)
all_insert P (row ∷ rows) (suc i) new all here = (all.0, all_insert P rows i new all.1 here)

pub all_remove : (P : Wait → Type 0) (rows : List Wait) (i : ℕ) → AllByRecursion P rows → AllByRecursion P (remove rows i)
all_remove P [] zero all = tt
all_remove P [] (suc i) all = tt
all_remove P (row ∷ rows) zero all = all.1
all_remove P (row ∷ rows) (suc i) all = (all.0, all_remove P rows i all.1)

-- the search: where a row is below a bound, so are those before it
all-at : (P : Wait → Type 0) (rows : List Wait) (j : ℕ) (d : Wait) → AllByRecursion P rows → j < length rows → P (get_or rows j d)
all-at P [] j d all lt = absurd (omega (arith, lt))
all-at P (row ∷ rows) zero d all lt = all.0
all-at P (row ∷ rows) (suc j) d all lt = all-at P rows j d all.1 (omega (arith, lt))

rising-at : (rows : List Wait) (i j : ℕ) (d : Wait) → AreRising rows → i ≤ j → j < length rows → (get_or rows i d).id ≤ (get_or rows j d).id
rising-at [] i j d rising le lt = absurd (omega (arith, lt))
rising-at (row ∷ rows) zero zero d rising le lt = omega arith
rising-at (row ∷ rows) zero (suc j) d rising le lt = all-at (λ later. row.id ≤ later.id) rows j d rising.0 (omega (arith, lt))
rising-at (row ∷ rows) (suc i) zero d rising le lt = absurd (omega (arith, le))
rising-at (row ∷ rows) (suc i) (suc j) d rising le lt = rising-at rows i j d rising.1 (omega (arith, le)) (omega (arith, lt))

pub rising-parted : (rows : List Wait) (bound : ℕ) → AreRising rows → IsPartitionedBy (λ row. nat_lt row.id bound) rows
rising-parted rows bound rising i j d le lt below =
    let order = rising-at rows i j d rising le lt in
    let lower = ltb-true (get_or rows j d).id bound below in
    grind (arith, nat_tests, order, lower)

-- and the rows are parted at its place
taken : (P : Wait → Type 0) (rows : List Wait) (at : ℕ) → at ≤ length rows → ((k : ℕ) (d : Wait) → k < at → P (get_or rows k d)) → AllByRecursion P (take at rows)
taken P [] zero within each = tt
taken P (row ∷ rows) zero within each = tt
taken P [] (suc at) within each = absurd (omega (arith, within))
taken P (row ∷ rows) (suc at) within each = (each zero row (omega arith), taken P rows at (omega (arith, within)) (λ k d lt. each (suc k) d (omega (arith, lt))))

dropped : (P : Wait → Type 0) (rows : List Wait) (at : ℕ) → ((k : ℕ) (d : Wait) → at ≤ k → k < length rows → P (get_or rows k d)) → AllByRecursion P (drop at rows)
dropped P [] zero each = tt
dropped P [] (suc at) each = tt
dropped P (row ∷ rows) zero each = (each zero row (omega arith) (omega arith), dropped P rows zero (λ k d le lt. each (suc k) d (omega arith) (omega (arith, lt))))
dropped P (row ∷ rows) (suc at) each = dropped P rows at (λ k d le lt. each (suc k) d (omega (arith, le)) (omega (arith, lt)))

pub place-parted : (rows : List Wait) (bound at : ℕ) → at ≤ length rows → IsPartitionPoint (λ row. nat_lt row.id bound ≡ true) (λ row. nat_lt row.id bound ≡ false) rows at → IsPlace rows bound at
place-parted rows bound at within point = record {
  within = within;
  below = taken (λ row. row.id < bound) rows at within (λ k d lt. ltb-true (get_or rows k d).id bound (point.0 k d (omega arith) lt));
  above = dropped (λ row. bound ≤ row.id) rows at (λ k d le lt. ltb-false (get_or rows k d).id bound (point.1 k d le lt));
}

further : {row : Wait} {rows : List Wait} {bound at : ℕ} → IsPlace (row ∷ rows) bound (suc at) → IsPlace rows bound at
further {row} {rows} {bound} {at} place = record {
  within = let w = place.within in omega (arith, w);
  below = place.below.1;
  above = place.above;
}

other_below : (a b : ℕ) → a < b → eqb a b ≡ false
other_below a b h = ne_eqb a b (λ (e : a ≡ b). omega (arith, h, e))

other_above : (a b : ℕ) → b < a → eqb a b ≡ false
other_above a b h = ne_eqb a b (λ (e : a ≡ b). omega (arith, h, e))

-- rows of higher objects are none of this one
absent : (id : ℕ) (rows : List Wait) → AllByRecursion (λ row. id < row.id) rows → clients_at id rows ≡ []
absent id [] above = refl
absent id (row ∷ rows) above = rw (other_above row.id id above.0) (absent id rows above.1)

none_here : (id : ℕ) (rows : List Wait) (i : ℕ) → AllByRecursion (λ row. id < row.id) rows → client_if id (slice_get rows i) ≡ None
none_here id [] i above = refl
none_here id (row ∷ rows) zero above = rw (other_above row.id id above.0) refl
none_here id (row ∷ rows) (suc i) above = none_here id rows i above.1

higher : (id : ℕ) (row : Wait) (rows : List Wait) → id < row.id → AllByRecursion (λ later. row.id ≤ later.id) rows → AllByRecursion (λ later. id < later.id) rows
higher id row rows h all = all_map (λ (r : Wait). row.id ≤ r.id) (λ (r : Wait). id < r.id) rows (λ r k. omega (arith, h, k)) all

-- the clients of an object are those from its place on
from_place : (rows : List Wait) (id at : ℕ) → AllByRecursion (λ row. row.id < id) (take at rows) → clients_at id (drop at rows) ≡ clients_at id rows
from_place [] id zero below = refl
from_place [] id (suc at) below = refl
from_place (row ∷ rows) id zero below = refl
from_place (row ∷ rows) id (suc at) below = rw (other_below row.id id below.0) (from_place rows id at below.1)

rising_drop : (rows : List Wait) (at : ℕ) → AreRising rows → AreRising (drop at rows)
rising_drop [] zero rising = tt
rising_drop [] (suc at) rising = tt
rising_drop (row ∷ rows) zero rising = rising
rising_drop (row ∷ rows) (suc at) rising = rising_drop rows at rising.1

nth_of : (rows : List Wait) (id i : ℕ) → AreRising rows → AllByRecursion (λ row. id ≤ row.id) rows → client_if id (slice_get rows i) ≡ slice_get (clients_at id rows) i
nth_of [] id i rising above = refl
nth_of (row ∷ rows) id zero rising above =
    ⊎_elim
    (λ (own : eqb row.id id ≡ true). rw own refl)
    (λ (other : eqb row.id id ≡ false).
    let first = above.0 in
    let apart = eqb-false row.id id other in
    let none : clients_at id rows ≡ [] = absent id rows (higher id row rows (omega (arith, first, apart)) rising.0) in
    rw (other, none) refl)
    (cases_Bool (eqb row.id id))
nth_of (row ∷ rows) id (suc i) rising above =
    ⊎_elim
    (λ (own : eqb row.id id ≡ true). rw own (nth_of rows id i rising.1 above.1))
    (λ (other : eqb row.id id ≡ false).
    let first = above.0 in
    let apart = eqb-false row.id id other in
    let later = higher id row rows (omega (arith, first, apart)) rising.0 in
    rw (other, absent id rows later) (none_here id rows i later))
    (cases_Bool (eqb row.id id))

pub nth_is : (rows : List Wait) (id at i : ℕ) → AreRising rows → IsPlace rows id at → client_if id (slice_get (drop at rows) i) ≡ slice_get (clients_at id rows) i
nth_is rows id at i rising place =
    nth_of (drop at rows) id i (rising_drop rows at rising) place.above ∙ ap (λ (clients : List ℕ). slice_get clients i) (from_place rows id at place.below)

-- a row more, after those of its object and of lower ones
pub clients_inserted : (rows : List Wait) (id at client i : ℕ) → IsPlace rows (id + 1) at
    → clients_at i (insert rows at (record { id = id; client = client })) ≡ cond (eqb id i) (clients_at i rows ++ client ∷ []) (clients_at i rows)
clients_inserted [] id zero client i place =
    ⊎_elim (λ (own : eqb id i ≡ true). rw own refl) (λ (other : eqb id i ≡ false). rw other refl) (cases_Bool (eqb id i))
clients_inserted [] id (suc at) client i place = absurd (let w = place.within in omega (arith, w))
clients_inserted (row ∷ rows) id zero client i place =
    ⊎_elim
    (λ (own : eqb id i ≡ true).
    let above = all_map (λ (r : Wait). id + 1 ≤ r.id) (λ (r : Wait). i < r.id) (row ∷ rows) (λ r h. let e = eqb-true id i own in omega (arith, h, e)) place.above in
    rw own (ap (λ (clients : List ℕ). client ∷ clients) (absent i (row ∷ rows) above) ∙ ap (λ (clients : List ℕ). clients ++ client ∷ []) (sym (absent i (row ∷ rows) above))))
    (λ (other : eqb id i ≡ false). rw other refl)
    (cases_Bool (eqb id i))
clients_inserted (row ∷ rows) id (suc at) client i place =
    let later = clients_inserted rows id at client i (further place) in
    ⊎_elim
    (λ (here : eqb row.id i ≡ true).
    ⊎_elim
    (λ (own : eqb id i ≡ true). let e = rw own at later in rw (own, here) (ap (λ (clients : List ℕ). row.client ∷ clients) e))
    (λ (other : eqb id i ≡ false). let e = rw other at later in rw (other, here) (ap (λ (clients : List ℕ). row.client ∷ clients) e))
    (cases_Bool (eqb id i)))
    (λ (not_here : eqb row.id i ≡ false). rw not_here later)
    (cases_Bool (eqb row.id i))

pub rising_inserted : (rows : List Wait) (id at client : ℕ) → AreRising rows → IsPlace rows (id + 1) at → AreRising (insert rows at (record { id = id; client = client }))
rising_inserted [] id zero client rising place = (tt, tt)
rising_inserted [] id (suc at) client rising place = absurd (let w = place.within in omega (arith, w))
rising_inserted (row ∷ rows) id zero client rising place =
    (all_map (λ (r : Wait). id + 1 ≤ r.id) (λ (r : Wait). id ≤ r.id) (row ∷ rows) (λ r h. omega (arith, h)) place.above, rising)
rising_inserted (row ∷ rows) id (suc at) client rising place =
    let first = place.below.0 in
    (all_insert (λ (r : Wait). row.id ≤ r.id) rows at (record { id = id; client = client }) rising.0 (omega (arith, first)), rising_inserted rows id at client rising.1 (further place))

-- a row less
pub rising_removed : (rows : List Wait) (at : ℕ) → AreRising rows → AreRising (remove rows at)
rising_removed [] zero rising = tt
rising_removed [] (suc at) rising = tt
rising_removed (row ∷ rows) zero rising = rising.1
rising_removed (row ∷ rows) (suc at) rising = (all_remove (λ (r : Wait). row.id ≤ r.id) rows at rising.0, rising_removed rows at rising.1)

-- a row of the object, of another client, stays
passes : (row : Wait) (id client i : ℕ) (clients : List ℕ) → is_wait id client (Some row) ≡ false → eqb row.id i ≡ true
    → cond (eqb id i) (without_first client (row.client ∷ clients)) (row.client ∷ clients) ≡ row.client ∷ cond (eqb id i) (without_first client clients) clients
passes row id client i clients apart here =
    ⊎_elim
    (λ (own : eqb id i ≡ true).
    let same : eqb row.id id ≡ true = eq-eqb row.id id (eqb-true row.id i here ∙ sym (eqb-true id i own)) in
    let other : eqb row.client client ≡ false = rw same at apart in rw (own, other) refl)
    (λ (other : eqb id i ≡ false). rw other refl)
    (cases_Bool (eqb id i))

pub clients_removed : (rows : List Wait) (id at client i : ℕ) → is_wait id client (slice_get rows at) ≡ true → NoneIs id client (take at rows)
    → clients_at i (remove rows at) ≡ cond (eqb id i) (without_first client (clients_at i rows)) (clients_at i rows)
clients_removed [] id at client i is none = absurd (true≢false (sym is))
clients_removed (row ∷ rows) id zero client i is none = first (eqb row.id id) (eqb row.client client) refl refl is
  where
    first : (a b : Bool) → eqb row.id id ≡ a → eqb row.client client ≡ b → (eqb row.id id && eqb row.client client) ≡ true
        → clients_at i rows ≡ cond (eqb id i) (without_first client (clients_at i (row ∷ rows))) (clients_at i (row ∷ rows))
    first true true own same is =
        let e : row.id ≡ id = eqb-true row.id id own in
        ⊎_elim
        (λ (here : eqb id i ≡ true). let h : eqb row.id i ≡ true = ap (λ (k : ℕ). eqb k i) e ∙ here in rw (here, h, same) refl)
        (λ (apart : eqb id i ≡ false). let h : eqb row.id i ≡ false = ap (λ (k : ℕ). eqb k i) e ∙ apart in rw (apart, h) refl)
        (cases_Bool (eqb id i))
    first true false own same is = absurd (true≢false (let e = rw (own, same) at is in sym e))
    first false b own same is = absurd (true≢false (let e = rw own at is in sym e))
clients_removed (row ∷ rows) id (suc at) client i is none =
    let later = clients_removed rows id at client i is none.1 in
    ⊎_elim
    (λ (here : eqb row.id i ≡ true). rw here (ap (λ (clients : List ℕ). row.client ∷ clients) later ∙ sym (passes row id client i (clients_at i rows) none.0 here)))
    (λ (not_here : eqb row.id i ≡ false). rw not_here later)
    (cases_Bool (eqb row.id i))

-- nothing to remove
pub none_removed : (rows : List Wait) (id client i : ℕ) → NoneIs id client rows → clients_at i rows ≡ cond (eqb id i) (without_first client (clients_at i rows)) (clients_at i rows)
none_removed [] id client i none =
    ⊎_elim (λ (own : eqb id i ≡ true). rw own refl) (λ (other : eqb id i ≡ false). rw other refl) (cases_Bool (eqb id i))
none_removed (row ∷ rows) id client i none =
    let later = none_removed rows id client i none.1 in
    ⊎_elim
    (λ (here : eqb row.id i ≡ true). rw here (ap (λ (clients : List ℕ). row.client ∷ clients) later ∙ sym (passes row id client i (clients_at i rows) none.0 here)))
    (λ (not_here : eqb row.id i ≡ false). rw not_here later)
    (cases_Bool (eqb row.id i))

-- the walk from the object's place on
pub none_below : (rows : List Wait) (id client at : ℕ) → AllByRecursion (λ row. row.id < id) (take at rows) → NoneIs id client (take at rows)
none_below rows id client at below =
    all_map (λ (r : Wait). r.id < id) (λ (r : Wait). is_wait id client (Some r) ≡ false) (take at rows) (λ r h. let e = other_below r.id id h in rw e refl) below

pub none_more : (rows : List Wait) (id client at : ℕ) → NoneIs id client (take at rows) → is_wait id client (slice_get rows at) ≡ false → NoneIs id client (take (suc at) rows)
none_more [] id client zero none here = tt
none_more [] id client (suc at) none here = tt
none_more (row ∷ rows) id client zero none here = (here, tt)
none_more (row ∷ rows) id client (suc at) none here = (none.0, none_more rows id client at none.1 here)

pub none_all : (rows : List Wait) (id client at : ℕ) → length rows ≤ at → NoneIs id client (take at rows) → NoneIs id client rows
none_all [] id client at within none = tt
none_all (row ∷ rows) id client zero within none = absurd (omega (arith, within))
none_all (row ∷ rows) id client (suc at) within none = (none.0, none_all rows id client at (omega (arith, within)) none.1)
