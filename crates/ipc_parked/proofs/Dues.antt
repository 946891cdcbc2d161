-- The rows of deadlines and the calls that wait.
use Rattle.std.proofs.Common.{◌≡◌, ℕ, ◌<◌, ◌≤◌, Bool, true, false, cond, eqb, List, [], ◌∷◌, ◌++◌, append_assoc, append-nil, refl, sym, ap, subst, ◌∙◌, ⊎_elim, inl, inr, Option, Some, None, arith}
use Rattle.std.specs.Prelude.{◌⊎◌}
use Rattle.std.specs.List.{find, AllByRecursion}
use Rattle.std.specs.Option.{option_map}
use Rattle.std.proofs.lemmas.Bool.{cases_Bool, true≢false, eqb-true, eqb-false, eq-eqb, ne_eqb, leb-true, le-leb, lt-leb, le-ltb}
use Rattle.std.proofs.lemmas.Option.{none-some, same_Some}
use Rattle.ipc_model.specs.Decide.{is_reached}
use Rattle.ipc_parked.specs.declared.arrivals.Stay.{Stay}
use Rattle.ipc_parked.specs.declared.deadlines.Due.{Due}
use Rattle.ipc_parked.specs.declared.parked.Arrival.{Arrival}
use Rattle.ipc_parked.specs.Arrivals.{IsLine, entries, other_stays, stay_from, stay_of}
use Rattle.ipc_parked.specs.Deadlines.{AreDues, IsFirstReached, IsIn, IsSoonest, dues_at, dues_of, rows_at}
use Rattle.ipc_parked.specs.Parked.{is_before, soonest_deadline}
use Rattle.ipc_parked.proofs.Line.{number_above}
use Rattle.ipc_parked.proofs.Lists.{each_map}
use Rattle.ipc_parked.proofs.Sooner.{IsOne, NoneBefore, one_none, soonest_is}

-- a call's rows
abbrev row_in : ℕ → ℕ × Stay → List Due
row_in n e = cond (eqb e.1.number n) (dues_of e.0 e.1.number e.1.arrival.deadline) []

pub dues_none : (rows : List Due) (es : List (ℕ × Stay)) → rows ≡ [] → es ≡ [] → AreDues rows es
dues_none rows es no_rows no_calls =
    λ n. ap (λ (rs : List Due). rows_at n rs) no_rows ∙ ap (λ (ds : List (ℕ × Stay)). dues_at n ds) (sym no_calls)

-- a call more
dues-append : (n : ℕ) (es fs : List (ℕ × Stay)) → dues_at n (es ++ fs) ≡ dues_at n es ++ dues_at n fs
dues-append n [] fs = refl
dues-append n (e ∷ es) fs = ap (λ (rs : List Due). row_in n e ++ rs) (dues-append n es fs) ∙ sym (append_assoc (row_in n e) (dues_at n es) (dues_at n fs))

pub fresh : (next : ℕ) (es : List (ℕ × Stay)) → IsLine next es → dues_at next es ≡ []
fresh next [] line = refl
fresh next (e ∷ es) line =
    let low = line.1 in
    let apart : eqb e.1.number next ≡ false = ne_eqb e.1.number next (λ (is : e.1.number ≡ next). omega (arith, low, is)) in
    rw apart (fresh next es line.2)

pub dues_push : (rows after : List Due) (next c : ℕ) (a : Arrival) (es : List (ℕ × Stay)) → IsLine next es → AreDues rows es
    → ((n : ℕ) → rows_at n after ≡ cond (eqb next n) (dues_of c next a.deadline) (rows_at n rows)) → AreDues after (es ++ (c, stay_from next a) ∷ [])
dues_push rows after next c a es line are added =
    λ n. added n ∙ step n ∙ sym (dues-append n es ((c, stay_from next a) ∷ []))
  where
    step : (n : ℕ) → cond (eqb next n) (dues_of c next a.deadline) (rows_at n rows) ≡ dues_at n es ++ (cond (eqb next n) (dues_of c next a.deadline) [] ++ [])
    step n =
        ⊎_elim
        (λ (own : eqb next n ≡ true).
        let none : dues_at n es ≡ [] = subst (λ (k : ℕ). dues_at k es ≡ []) (eqb-true next n own) (fresh next es line) in
        rw own (sym (ap (λ (rs : List Due). rs ++ (dues_of c next a.deadline ++ [])) none ∙ append-nil (dues_of c next a.deadline))))
        (λ (other : eqb next n ≡ false). rw other (are n ∙ sym (append-nil (dues_at n es))))
        (cases_Bool (eqb next n))

-- a call less
none_after : (n m : ℕ) (es : List (ℕ × Stay)) → AllByRecursion (λ later. (eqb later.0 m ≡ false) × (n < later.1.number)) es → dues_at n es ≡ []
none_after n m [] all = refl
none_after n m (e ∷ es) all =
    let high = all.0.1 in
    let apart : eqb e.1.number n ≡ false = ne_eqb e.1.number n (λ (is : e.1.number ≡ n). omega (arith, high, is)) in
    rw apart (none_after n m es all.1)

pub own_dues : (next c : ℕ) (s : Stay) (es : List (ℕ × Stay)) → IsLine next es → stay_of c es ≡ Some s → dues_at s.number es ≡ dues_of c s.number s.arrival.deadline
own_dues next c s [] line is = absurd (none-some s is)
own_dues next c s (e ∷ es) line is =
    ⊎_elim
    (λ (own : eqb e.0 c ≡ true).
    let same : e.1 ≡ s = same_Some e.1 s (let i = rw own at is in i) in
    let number : e.1.number ≡ s.number = ap (λ (t : Stay). t.number) same in
    let none : dues_at s.number es ≡ [] = subst (λ (k : ℕ). dues_at k es ≡ []) number (none_after e.1.number e.0 es line.0) in
    rw (eq-eqb e.1.number s.number number)
    (ap (λ (rs : List Due). dues_of e.0 e.1.number e.1.arrival.deadline ++ rs) none ∙ append-nil (dues_of e.0 e.1.number e.1.arrival.deadline)
    ∙ ap (λ (k : ℕ). dues_of k e.1.number e.1.arrival.deadline) (eqb-true e.0 c own) ∙ ap (λ (t : Stay). dues_of c t.number t.arrival.deadline) same))
    (λ (other : eqb e.0 c ≡ false).
    let later : stay_of c es ≡ Some s = rw other at is in
    let high = number_above c e.1.number e.0 s es line.0 later in
    let apart : eqb e.1.number s.number ≡ false = ne_eqb e.1.number s.number (λ (same : e.1.number ≡ s.number). omega (arith, high, same)) in
    rw apart (own_dues next c s es line.2 later))
    (cases_Bool (eqb e.0 c))

-- the client's call is the one of that number
matched : (next c : ℕ) (s : Stay) (es : List (ℕ × Stay)) → IsLine next es → stay_of c es ≡ Some s → AllByRecursion (λ e. eqb e.0 c ≡ eqb e.1.number s.number) es
matched next c s [] line is = absurd (none-some s is)
matched next c s (e ∷ es) line is =
    ⊎_elim
    (λ (own : eqb e.0 c ≡ true).
    let same : e.1 ≡ s = same_Some e.1 s (let i = rw own at is in i) in
    let number : e.1.number ≡ s.number = ap (λ (t : Stay). t.number) same in
    let client : e.0 ≡ c = eqb-true e.0 c own in (
      own ∙ sym (eq-eqb e.1.number s.number number),
      each_map (λ (later : ℕ × Stay). (eqb later.0 e.0 ≡ false) × (e.1.number < later.1.number)) (λ (f : ℕ × Stay). eqb f.0 c ≡ eqb f.1.number s.number) es
          (λ f apart.
          let high = apart.1 in
          let differs : eqb f.1.number s.number ≡ false = ne_eqb f.1.number s.number (λ (i : f.1.number ≡ s.number). omega (arith, high, i, number)) in
          ap (λ (k : ℕ). eqb f.0 k) (sym client) ∙ apart.0 ∙ sym differs)
          line.0,
    ))
    (λ (other : eqb e.0 c ≡ false).
    let later : stay_of c es ≡ Some s = rw other at is in
    let high = number_above c e.1.number e.0 s es line.0 later in
    let apart : eqb e.1.number s.number ≡ false = ne_eqb e.1.number s.number (λ (same : e.1.number ≡ s.number). omega (arith, high, same)) in
    (other ∙ sym apart, matched next c s es line.2 later))
    (cases_Bool (eqb e.0 c))

gone : (n c m : ℕ) (es : List (ℕ × Stay)) → AllByRecursion (λ e. eqb e.0 c ≡ eqb e.1.number m) es → dues_at n (other_stays c es) ≡ cond (eqb m n) [] (dues_at n es)
gone n c m [] all = ⊎_elim (λ (here : eqb m n ≡ true). rw here refl) (λ (not_here : eqb m n ≡ false). rw not_here refl) (cases_Bool (eqb m n))
gone n c m (e ∷ es) all =
    let later = gone n c m es all.1 in
    ⊎_elim
    (λ (own : eqb e.0 c ≡ true).
    let number : e.1.number ≡ m = eqb-true e.1.number m (sym all.0 ∙ own) in
    ⊎_elim
    (λ (here : eqb m n ≡ true). let l = rw here at later in rw (own, here) l)
    (λ (not_here : eqb m n ≡ false).
    let l = rw not_here at later in
    let apart : eqb e.1.number n ≡ false = ap (λ (k : ℕ). eqb k n) number ∙ not_here in
    rw (own, not_here, apart) l)
    (cases_Bool (eqb m n)))
    (λ (other : eqb e.0 c ≡ false).
    let number : e.1.number ≡ m → ⊥ = eqb-false e.1.number m (sym all.0 ∙ other) in
    ⊎_elim
    (λ (here : eqb m n ≡ true).
    let l = rw here at later in
    let apart : eqb e.1.number n ≡ false = ne_eqb e.1.number n (λ is. number (is ∙ sym (eqb-true m n here))) in
    rw (other, here, apart) l)
    (λ (not_here : eqb m n ≡ false). let l = rw not_here at later in rw (other, not_here) (ap (λ (rs : List Due). row_in n e ++ rs) l))
    (cases_Bool (eqb m n)))
    (cases_Bool (eqb e.0 c))

pub dues_others : (rows after : List Due) (next c : ℕ) (s : Stay) (es : List (ℕ × Stay)) → IsLine next es → stay_of c es ≡ Some s → AreDues rows es
    → ((n : ℕ) → rows_at n after ≡ cond (eqb s.number n) [] (rows_at n rows)) → AreDues after (other_stays c es)
dues_others rows after next c s es line is are removed =
    λ n. removed n ∙ ap (λ (rs : List Due). cond (eqb s.number n) [] rs) (are n) ∙ sym (gone n c s.number es (matched next c s es line is))

-- what is true of each row is true of that of each call
module _ (Q : Due → Type 0) where
  each_kept : (n : ℕ) (rows : List Due) → AllByRecursion Q rows → AllByRecursion Q (rows_at n rows)
  each_kept n [] all = tt
  each_kept n (r ∷ rows) all =
      ⊎_elim
      (λ (own : eqb r.number n ≡ true). rw own (all.0, each_kept n rows all.1))
      (λ (other : eqb r.number n ≡ false). rw other (each_kept n rows all.1))
      (cases_Bool (eqb r.number n))

  later_part : (xs ys : List Due) → AllByRecursion Q (xs ++ ys) → AllByRecursion Q ys
  later_part [] ys all = all
  later_part (x ∷ xs) ys all = later_part xs ys all.1

  first_part : (xs ys : List Due) (r : Due) → xs ≡ r ∷ [] → AllByRecursion Q (xs ++ ys) → Q r
  first_part [] ys r is all = cc
  first_part (x ∷ xs) ys r is all = let same : x ≡ r = cc in subst Q same all.0

  from_at : (es : List (ℕ × Stay)) → ((n : ℕ) → AllByRecursion Q (dues_at n es)) → AllByRecursion (λ e. (r : Due) → dues_of e.0 e.1.number e.1.arrival.deadline ≡ r ∷ [] → Q r) es
  from_at [] all = tt
  from_at (e ∷ es) all = (
    λ r is. first_part (row_in e.1.number e) (dues_at e.1.number es) r (rw (eq-eqb e.1.number e.1.number refl) is) (all e.1.number),
    from_at es (λ n. later_part (row_in n e) (dues_at n es) (all n)),
  )

  pub due_all : (rows : List Due) (es : List (ℕ × Stay)) → AreDues rows es → AllByRecursion Q rows → AllByRecursion (λ e. (r : Due) → dues_of e.0 e.1.number e.1.arrival.deadline ≡ r ∷ [] → Q r) es
  due_all rows es are all = from_at es (λ n. subst (λ (rs : List Due). AllByRecursion Q rs) (are n) (each_kept n rows all))

-- a row is that of a call
abbrev IsDueOf : Due → List (ℕ × Stay) → Type 0
IsDueOf f [] = ⊥
IsDueOf f (e ∷ es) = (dues_of e.0 e.1.number e.1.arrival.deadline ≡ f ∷ []) ⊎ IsDueOf f es

in_kept : (f : Due) (rows : List Due) → IsIn f rows → IsIn f (rows_at f.number rows)
in_kept f [] is = absurd is
in_kept f (r ∷ rows) is =
    ⊎_elim
    (λ (own : eqb r.number f.number ≡ true).
    rw own (⊎_elim
    (λ (here : r ≡ f). let i : IsIn f (r ∷ rows_at f.number rows) = inl here in i)
    (λ (later : IsIn f rows). let i : IsIn f (r ∷ rows_at f.number rows) = inr (in_kept f rows later) in i)
    is))
    (λ (other : eqb r.number f.number ≡ false).
    rw other (⊎_elim
    (λ (here : r ≡ f). let i : IsIn f (rows_at f.number rows) = absurd (eqb-false r.number f.number other (ap (λ (x : Due). x.number) here)) in i)
    (λ (later : IsIn f rows). in_kept f rows later)
    is))
    (cases_Bool (eqb r.number f.number))

split : (f : Due) (c m : ℕ) (d : Option ℕ) (rest : List Due) → IsIn f (dues_of c m d ++ rest) → (dues_of c m d ≡ f ∷ []) ⊎ IsIn f rest
split f c m None rest is = inr is
split f c m (Some d) rest is =
    ⊎_elim
    (λ (here : (record { deadline = d; number = m; client = c }) ≡ f). let i : (dues_of c m (Some d) ≡ f ∷ []) ⊎ IsIn f rest = inl (ap (λ (r : Due). r ∷ []) here) in i)
    (λ (later : IsIn f rest). let i : (dues_of c m (Some d) ≡ f ∷ []) ⊎ IsIn f rest = inr later in i)
    is

in_dues : (f : Due) (n : ℕ) (es : List (ℕ × Stay)) → IsIn f (dues_at n es) → IsDueOf f es
in_dues f n [] is = is
in_dues f n (e ∷ es) is =
    ⊎_elim
    (λ (own : eqb e.1.number n ≡ true).
    let there : IsIn f (dues_of e.0 e.1.number e.1.arrival.deadline ++ dues_at n es) = rw own at is in
    ⊎_elim
    (λ (here : dues_of e.0 e.1.number e.1.arrival.deadline ≡ f ∷ []). let i : IsDueOf f (e ∷ es) = inl here in i)
    (λ (later : IsIn f (dues_at n es)). let i : IsDueOf f (e ∷ es) = inr (in_dues f n es later) in i)
    (split f e.0 e.1.number e.1.arrival.deadline (dues_at n es) there))
    (λ (other : eqb e.1.number n ≡ false).
    let later : IsIn f (dues_at n es) = rw other at is in
    let i : IsDueOf f (e ∷ es) = inr (in_dues f n es later) in i)
    (cases_Bool (eqb e.1.number n))

due_in : (rows : List Due) (es : List (ℕ × Stay)) (f : Due) → AreDues rows es → IsIn f rows → IsDueOf f es
due_in rows es f are is = in_dues f f.number es (subst (λ (rs : List Due). IsIn f rs) (are f.number) (in_kept f rows is))

due_is : (c m : ℕ) (d : Option ℕ) (f : Due) → dues_of c m d ≡ f ∷ [] → (c ≡ f.client) × (m ≡ f.number) × (d ≡ Some f.deadline)
due_is c m None f is = cc
due_is c m (Some d) f is =
    let same : (record { deadline = d; number = m; client = c }) ≡ f = cc in
    (ap (λ (r : Due). r.client) same, ap (λ (r : Due). r.number) same, ap (λ (r : Due). Some r.deadline) same)

-- the earliest of those that are reached
unreached : (clock c m : ℕ) (d : Option ℕ) → ((r : Due) → dues_of c m d ≡ r ∷ [] → clock < r.deadline) → is_reached clock d ≡ false
unreached clock c m None late = refl
unreached clock c m (Some d) late = lt-leb d clock (late (record { deadline = d; number = m; client = c }) refl)

none_found : (clock : ℕ) (es : List (ℕ × Stay)) → AllByRecursion (λ e. (r : Due) → dues_of e.0 e.1.number e.1.arrival.deadline ≡ r ∷ [] → clock < r.deadline) es
    → None ≡ find (λ (e : ℕ × Arrival). is_reached clock e.1.deadline) (entries es)
none_found clock [] all = refl
none_found clock (e ∷ es) all = rw (unreached clock e.0 e.1.number e.1.arrival.deadline all.0) (none_found clock es all.1)

reached_number : (clock c m n : ℕ) (d : Option ℕ) → is_reached clock d ≡ true → ((r : Due) → dues_of c m d ≡ r ∷ [] → r.deadline ≤ clock → n ≤ r.number) → n ≤ m
reached_number clock c m n None is least = absurd (true≢false (sym is))
reached_number clock c m n (Some d) is least = least (record { deadline = d; number = m; client = c }) refl (leb-true d clock is)

due_above : (n m : ℕ) (f : Due) (es : List (ℕ × Stay)) → AllByRecursion (λ later. (eqb later.0 m ≡ false) × (n < later.1.number)) es → IsDueOf f es → n < f.number
due_above n m f [] all is = absurd is
due_above n m f (e ∷ es) all is =
    ⊎_elim
    (λ (here : dues_of e.0 e.1.number e.1.arrival.deadline ≡ f ∷ []). subst (λ (k : ℕ). n < k) (due_is e.0 e.1.number e.1.arrival.deadline f here).1 all.0.1)
    (λ (later : IsDueOf f es). due_above n m f es all.1 later)
    is

first_found : (clock next : ℕ) (f : Due) (es : List (ℕ × Stay)) → IsLine next es → IsDueOf f es → f.deadline ≤ clock
    → AllByRecursion (λ e. (r : Due) → dues_of e.0 e.1.number e.1.arrival.deadline ≡ r ∷ [] → r.deadline ≤ clock → f.number ≤ r.number) es
    → Some f.client ≡ option_map {T = ℕ × Arrival} {U = ℕ} (λ e. e.0) (find (λ (e : ℕ × Arrival). is_reached clock e.1.deadline) (entries es))
first_found clock next f [] line is reached least = absurd is
first_found clock next f (e ∷ es) line is reached least =
    ⊎_elim
    (λ (here : is_reached clock e.1.arrival.deadline ≡ true).
    let low = reached_number clock e.0 e.1.number f.number e.1.arrival.deadline here least.0 in
    rw here (⊎_elim
    (λ (own : dues_of e.0 e.1.number e.1.arrival.deadline ≡ f ∷ []). ap (λ (k : ℕ). Some k) (sym (due_is e.0 e.1.number e.1.arrival.deadline f own).0))
    (λ (later : IsDueOf f es). let high = due_above e.1.number e.0 f es line.0 later in absurd (omega (arith, low, high)))
    is))
    (λ (not_here : is_reached clock e.1.arrival.deadline ≡ false).
    rw not_here (⊎_elim
    (λ (own : dues_of e.0 e.1.number e.1.arrival.deadline ≡ f ∷ []).
    let deadline = (due_is e.0 e.1.number e.1.arrival.deadline f own).2 in
    let both : true ≡ false = sym (le-leb f.deadline clock reached) ∙ ap (λ (d : Option ℕ). is_reached clock d) (sym deadline) ∙ not_here in
    absurd (true≢false both))
    (λ (later : IsDueOf f es). first_found clock next f es line.2 later reached least.1)
    is))
    (cases_Bool (is_reached clock e.1.arrival.deadline))

pub first_due_is : (clock next : ℕ) (rows : List Due) (es : List (ℕ × Stay)) (first : Option Due) → IsLine next es → AreDues rows es → IsFirstReached clock rows first
    → option_map {T = Due} {U = ℕ} (λ r. r.client) first ≡ option_map {T = ℕ × Arrival} {U = ℕ} (λ e. e.0) (find (λ (e : ℕ × Arrival). is_reached clock e.1.deadline) (entries es))
first_due_is clock next rows es None line are is =
    ap (λ (o : Option (ℕ × Arrival)). option_map {T = ℕ × Arrival} {U = ℕ} (λ e. e.0) o) (none_found clock es (due_all (λ (r : Due). clock < r.deadline) rows es are is))
first_due_is clock next rows es (Some f) line are is =
    first_found clock next f es line (due_in rows es f are is.0) is.1 (due_all (λ (r : Due). r.deadline ≤ clock → f.number ≤ r.number) rows es are is.2)

-- the soonest deadline
no_deadline : (c m : ℕ) (d : Option ℕ) → ((r : Due) → dues_of c m d ≡ r ∷ [] → ⊥) → is_before d None ≡ false
no_deadline c m None none = refl
no_deadline c m (Some d) none = absurd (none (record { deadline = d; number = m; client = c }) refl)

none_with : (es : List (ℕ × Stay)) → AllByRecursion (λ e. (r : Due) → dues_of e.0 e.1.number e.1.arrival.deadline ≡ r ∷ [] → ⊥) es → NoneBefore None (entries es)
none_with [] all = tt
none_with (e ∷ es) all = (no_deadline e.0 e.1.number e.1.arrival.deadline all.0, none_with es all.1)

not_sooner : (c m deadline : ℕ) (d : Option ℕ) → ((r : Due) → dues_of c m d ≡ r ∷ [] → deadline ≤ r.deadline) → is_before d (Some deadline) ≡ false
not_sooner c m deadline None all = refl
not_sooner c m deadline (Some d) all = le-ltb d deadline (all (record { deadline = d; number = m; client = c }) refl)

none_sooner : (deadline : ℕ) (es : List (ℕ × Stay)) → AllByRecursion (λ e. (r : Due) → dues_of e.0 e.1.number e.1.arrival.deadline ≡ r ∷ [] → deadline ≤ r.deadline) es → NoneBefore (Some deadline) (entries es)
none_sooner deadline [] all = tt
none_sooner deadline (e ∷ es) all = (not_sooner e.0 e.1.number deadline e.1.arrival.deadline all.0, none_sooner deadline es all.1)

one_of : (f : Due) (es : List (ℕ × Stay)) → IsDueOf f es → IsOne (Some f.deadline) (entries es)
one_of f [] is = absurd is
one_of f (e ∷ es) is =
    ⊎_elim
    (λ (here : dues_of e.0 e.1.number e.1.arrival.deadline ≡ f ∷ []). let i : IsOne (Some f.deadline) (entries (e ∷ es)) = inl (due_is e.0 e.1.number e.1.arrival.deadline f here).2 in i)
    (λ (later : IsDueOf f es). let i : IsOne (Some f.deadline) (entries (e ∷ es)) = inr (one_of f es later) in i)
    is

pub soonest_due : (rows : List Due) (es : List (ℕ × Stay)) (deadline : Option ℕ) → AreDues rows es → IsSoonest rows deadline → deadline ≡ soonest_deadline (entries es)
soonest_due rows es None are is =
    soonest_is None (entries es) (none_with es (due_all (λ (r : Due). ⊥) rows es are (subst (λ (rs : List Due). AllByRecursion (λ (r : Due). ⊥) rs) (sym is) tt))) (one_none (entries es))
soonest_due rows es (Some deadline) are is =
    soonest_is (Some deadline) (entries es) (none_sooner deadline es (due_all (λ (r : Due). deadline ≤ r.deadline) rows es are is.1))
    (subst (λ (d : ℕ). IsOne (Some d) (entries es)) is.0.2 (one_of is.0.0 es (due_in rows es is.0.0 are is.0.1)))
