-- The soonest of the deadlines.
use Rattle.std.proofs.Common.{◌≡◌, ℕ, true, false, List, [], ◌∷◌, refl, sym, ap, subst, ◌∙◌, ⊎_elim, inr, arith, Option, Some, None}
use Rattle.std.specs.Prelude.{◌⊎◌}
use Rattle.std.specs.List.{find, AllByRecursion}
use Rattle.std.proofs.lemmas.Bool.{cases_Bool, true≢false, le-ltb, lt-leb, ltb-true, ltb-false, leb-false}
use Rattle.ipc_model.specs.Decide.{is_reached}
use Rattle.ipc_parked.specs.declared.parked.Arrival.{Arrival}
use Rattle.ipc_parked.specs.Parked.{is_before, soonest_deadline, sooner_of}

-- no deadline is before the bound
abbrev pub NoneBefore : Option ℕ → List (ℕ × Arrival) → Type 0
NoneBefore bound es = AllByRecursion (λ e. is_before e.1.deadline bound ≡ false) es

-- it is one of the deadlines, or None
abbrev pub IsOne : Option ℕ → List (ℕ × Arrival) → Type 0
IsOne bound [] = bound ≡ None
IsOne bound (e ∷ es) = (e.1.deadline ≡ bound) ⊎ IsOne bound es

pub one_none : (es : List (ℕ × Arrival)) → IsOne None es
one_none [] = refl
one_none (e ∷ es) = inr (one_none es)

-- the sooner of two
sooner_second : (a b : Option ℕ) → is_before a b ≡ false → sooner_of a b ≡ b
sooner_second a b h = rw h refl

sooner_first : (a b : Option ℕ) → is_before b a ≡ false → sooner_of a b ≡ a
sooner_first None None h = refl
sooner_first None (Some b) h = absurd (true≢false h)
sooner_first (Some a) None h = refl
sooner_first (Some a) (Some b) h =
    ⊎_elim
    (λ (first : is_before (Some a) (Some b) ≡ true). rw first refl)
    (λ (same : is_before (Some a) (Some b) ≡ false).
    let is : b ≡ a = omega (arith, ltb-false b a h, ltb-false a b same) in
    rw same (ap (λ (n : ℕ). Some n) is))
    (cases_Bool (is_before (Some a) (Some b)))

-- a bound that none is before isn't after the soonest
bounded : (bound : Option ℕ) (es : List (ℕ × Arrival)) → NoneBefore bound es → is_before (soonest_deadline es) bound ≡ false
unfolding soonest_deadline
bounded bound [] all = refl
bounded bound (e ∷ es) all =
    ⊎_elim
    (λ (first : is_before e.1.deadline (soonest_deadline es) ≡ true). rw first all.0)
    (λ (later : is_before e.1.deadline (soonest_deadline es) ≡ false). rw later (bounded bound es all.1))
    (cases_Bool (is_before e.1.deadline (soonest_deadline es)))

pub soonest_is : (bound : Option ℕ) (es : List (ℕ × Arrival)) → NoneBefore bound es → IsOne bound es → bound ≡ soonest_deadline es
unfolding soonest_deadline
soonest_is bound [] all one = one
soonest_is bound (e ∷ es) all one =
    ⊎_elim
    (λ (here : e.1.deadline ≡ bound).
    sym here ∙ sym (sooner_first e.1.deadline (soonest_deadline es) (ap (λ (b : Option ℕ). is_before (soonest_deadline es) b) here ∙ bounded bound es all.1)))
    (λ (later : IsOne bound es).
    let is = soonest_is bound es all.1 later in
    is ∙ sym (sooner_second e.1.deadline (soonest_deadline es) (ap (λ (b : Option ℕ). is_before e.1.deadline b) (sym is) ∙ all.0)))
    one

-- where the soonest isn't reached, none is
not-reached : (clock : ℕ) (d bound : Option ℕ) → is_before d bound ≡ false → is_reached clock bound ≡ false → is_reached clock d ≡ false
not-reached clock None bound before reached = refl
not-reached clock (Some d) None before reached = absurd (true≢false before)
not-reached clock (Some d) (Some b) before reached = lt-leb d clock (omega (arith, ltb-false d b before, leb-false b clock reached))

before-through : (d a b : Option ℕ) → is_before d a ≡ false → is_before a b ≡ false → is_before d b ≡ false
before-through None a b first later = refl
before-through (Some d) None b first later = absurd (true≢false first)
before-through (Some d) (Some a) None first later = absurd (true≢false later)
before-through (Some d) (Some a) (Some b) first later = le-ltb d b (omega (arith, ltb-false d a first, ltb-false a b later))

itself : (d : Option ℕ) → is_before d d ≡ false
itself None = refl
itself (Some d) = le-ltb d d (omega arith)

after : (d a : Option ℕ) → is_before d a ≡ true → is_before a d ≡ false
after None a h = absurd (true≢false (sym h))
after (Some d) None h = refl
after (Some d) (Some a) h = le-ltb a d (let l = ltb-true d a h in omega (arith, l))

weaker : (a b : Option ℕ) (es : List (ℕ × Arrival)) → is_before a b ≡ false → NoneBefore a es → NoneBefore b es
weaker a b [] later all = tt
weaker a b (e ∷ es) later all = (before-through e.1.deadline a b all.0 later, weaker a b es later all.1)

pub soonest_bounds : (es : List (ℕ × Arrival)) → NoneBefore (soonest_deadline es) es
unfolding soonest_deadline
soonest_bounds [] = tt
soonest_bounds (e ∷ es) =
    ⊎_elim
    (λ (first : is_before e.1.deadline (soonest_deadline es) ≡ true).
    let is : sooner_of e.1.deadline (soonest_deadline es) ≡ e.1.deadline = rw first refl in
    subst (λ (b : Option ℕ). NoneBefore b (e ∷ es)) (sym is) (itself e.1.deadline, weaker (soonest_deadline es) e.1.deadline es (after e.1.deadline (soonest_deadline es) first) (soonest_bounds es)))
    (λ (later : is_before e.1.deadline (soonest_deadline es) ≡ false).
    let is : sooner_of e.1.deadline (soonest_deadline es) ≡ soonest_deadline es = rw later refl in
    subst (λ (b : Option ℕ). NoneBefore b (e ∷ es)) (sym is) (later, soonest_bounds es))
    (cases_Bool (is_before e.1.deadline (soonest_deadline es)))

pub none-due : (clock : ℕ) (bound : Option ℕ) (es : List (ℕ × Arrival)) → NoneBefore bound es → is_reached clock bound ≡ false → None ≡ find (λ (e : ℕ × Arrival). is_reached clock e.1.deadline) es
none-due clock bound [] all reached = refl
none-due clock bound (e ∷ es) all reached = rw (not-reached clock e.1.deadline bound all.0 reached) (none-due clock bound es all.1 reached)
