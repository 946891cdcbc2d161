-- The calls that wait with the numbers of their arrivals: what one more or less changes, and where one stands.
use Rattle.std.proofs.Common.{◌≡◌, ◌≢◌, ℕ, zero, suc, ◌+◌, ◌<◌, ◌≤◌, Bool, true, false, cond, eqb, List, [], ◌∷◌, ◌++◌, get_or, length, map, set, take, drop, remove, slice_get, refl, sym, ap, subst, ◌∙◌, ⊎_elim, arith, Option, Some, None, is_some}
use Rattle.std.specs.Prelude.{nat_lt, option_copied}
use Rattle.std.specs.Borrow.{Bor}
use Rattle.std.specs.List.{AllByRecursion}
use Rattle.std.specs.Option.{option_map}
use Rattle.std.proofs.lemmas.Bool.{cases_Bool, true≢false, eqb-true, eqb-false, eq-eqb, ne_eqb, ltb-true, ltb-false, lt-ltb, le-ltb}
use Rattle.std.proofs.lemmas.List.{get_or-set_same, get_or-set_other}
use Rattle.std.proofs.lemmas.Option.{none-some, same_Some}
use Rattle.ipc_call.specs.declared.replies.Waiting.{Waiting}
use Rattle.ipc_parked.specs.declared.arrivals.Stay.{Stay}
use Rattle.ipc_parked.specs.declared.parked.Arrival.{Arrival}
use Rattle.ipc_parked.specs.Arrivals.{Holds, IsLine, IsTurn, entries, is_below_number, other_stays, slot_at, stay_from, stay_of, stays_in}
use Rattle.ipc_parked.specs.Parked.{AreDistinct, arrival_of, comes_before, entry_of, is_there, others, waiting}
use Rattle.ipc_parked.proofs.Clients.{turned}
use Rattle.ipc_parked.proofs.Lists.{each_both, each_map, each_push}

-- without the numbers
pub entries-push : (es : List (ℕ × Stay)) (e : ℕ × Stay) → entries (es ++ e ∷ []) ≡ entries es ++ (e.0, e.1.arrival) ∷ []
entries-push [] e = refl
entries-push (d ∷ es) e = ap (λ (ds : List (ℕ × Arrival)). (d.0, d.1.arrival) ∷ ds) (entries-push es e)

pub entries-others : (c : ℕ) (es : List (ℕ × Stay)) → entries (other_stays c es) ≡ others c (entries es)
entries-others c [] = refl
entries-others c (e ∷ es) =
    ⊎_elim
    (λ (own : eqb e.0 c ≡ true). rw own (entries-others c es))
    (λ (other : eqb e.0 c ≡ false). rw other (ap (λ (ds : List (ℕ × Arrival)). (e.0, e.1.arrival) ∷ ds) (entries-others c es)))
    (cases_Bool (eqb e.0 c))

pub there : (c : ℕ) (es : List (ℕ × Stay)) → is_some (stay_of c es) ≡ is_there c (entries es)
there c [] = refl
there c (e ∷ es) =
    ⊎_elim
    (λ (own : eqb e.0 c ≡ true). rw own refl)
    (λ (other : eqb e.0 c ≡ false). rw other (there c es))
    (cases_Bool (eqb e.0 c))

pub arrival_is : (c : ℕ) (es : List (ℕ × Stay)) → option_map {T = Stay} {U = Arrival} (λ s. s.arrival) (stay_of c es) ≡ arrival_of c (entries es)
arrival_is c [] = refl
arrival_is c (e ∷ es) =
    ⊎_elim
    (λ (own : eqb e.0 c ≡ true). rw own refl)
    (λ (other : eqb e.0 c ≡ false). rw other (arrival_is c es))
    (cases_Bool (eqb e.0 c))

pub length-entries : (es : List (ℕ × Stay)) → length (entries es) ≡ length es
length-entries [] = refl
length-entries (e ∷ es) = ap suc (length-entries es)

pub waiting_is : (es : List (ℕ × Stay)) (i : ℕ) → option_map {T = ℕ × Stay} {U = Waiting} (λ e. entry_of (e.0, e.1.arrival)) (slice_get es i) ≡ slice_get (waiting (entries es)) i
waiting_is [] i = refl
waiting_is (e ∷ es) zero = refl
waiting_is (e ∷ es) (suc i) = waiting_is es i

none_from : {X : Type 0} (o : Option X) → is_some o ≡ false → o ≡ None
none_from None h = refl
none_from (Some x) h = cc

pub free_from : (c : ℕ) (es : List (ℕ × Stay)) → is_there c (entries es) ≡ false → stay_of c es ≡ None
free_from c es free = none_from (stay_of c es) (there c es ∙ free)

apart_all : (c n : ℕ) (es : List (ℕ × Stay)) → AllByRecursion (λ later. (eqb later.0 c ≡ false) × (n < later.1.number)) es → is_there c (entries es) ≡ false
apart_all c n [] all = refl
apart_all c n (e ∷ es) all = rw all.0.0 (apart_all c n es all.1)

pub distinct_of : (next : ℕ) (es : List (ℕ × Stay)) → IsLine next es → AreDistinct (entries es)
unfolding AreDistinct
distinct_of next [] line = tt
distinct_of next (e ∷ es) line = (apart_all e.0 e.1.number es line.0, distinct_of next es line.2)

pub line_none : (next : ℕ) (es : List (ℕ × Stay)) → es ≡ [] → IsLine next es
line_none next es is = subst (λ (ds : List (ℕ × Stay)). IsLine next ds) (sym is) tt

-- one more
none_first : (c : ℕ) (e : ℕ × Stay) (es : List (ℕ × Stay)) → stay_of c (e ∷ es) ≡ None → (eqb e.0 c ≡ false) × (stay_of c es ≡ None)
none_first c e es is =
    ⊎_elim
    (λ (own : eqb e.0 c ≡ true). absurd (none-some e.1 (let i = rw own at is in sym i)))
    (λ (other : eqb e.0 c ≡ false). (other, let i = rw other at is in i))
    (cases_Bool (eqb e.0 c))

pub line-push : (next c : ℕ) (a : Arrival) (es : List (ℕ × Stay)) → IsLine next es → stay_of c es ≡ None → IsLine (next + 1) (es ++ (c, stay_from next a) ∷ [])
line-push next c a [] line free = (tt, omega arith, tt)
line-push next c a (e ∷ es) line free =
    let parts = none_first c e es free in
    let low = line.1 in (
      each_push (λ (later : ℕ × Stay). (eqb later.0 e.0 ≡ false) × (e.1.number < later.1.number)) es (c, stay_from next a) line.0 (turned c e.0 ∙ parts.0, low),
      omega (arith, low),
      line-push next c a es line.2 parts.1,
    )

pub stay-push : (c d : ℕ) (s : Stay) (es : List (ℕ × Stay)) → eqb c d ≡ false → stay_of d (es ++ (c, s) ∷ []) ≡ stay_of d es
stay-push c d s [] apart = rw apart refl
stay-push c d s (e ∷ es) apart =
    ⊎_elim
    (λ (own : eqb e.0 d ≡ true). rw own refl)
    (λ (other : eqb e.0 d ≡ false). rw other (stay-push c d s es apart))
    (cases_Bool (eqb e.0 d))

pub stay-came : (c : ℕ) (s : Stay) (es : List (ℕ × Stay)) → stay_of c es ≡ None → stay_of c (es ++ (c, s) ∷ []) ≡ Some s
stay-came c s [] free = rw (eq-eqb c c refl) refl
stay-came c s (e ∷ es) free = let parts = none_first c e es free in rw parts.0 (stay-came c s es parts.1)

-- one less
each_other : (P : ℕ × Stay → Type 0) (c : ℕ) (es : List (ℕ × Stay)) → AllByRecursion P es → AllByRecursion P (other_stays c es)
each_other P c [] all = tt
each_other P c (e ∷ es) all =
    ⊎_elim
    (λ (own : eqb e.0 c ≡ true). rw own (each_other P c es all.1))
    (λ (other : eqb e.0 c ≡ false). rw other (all.0, each_other P c es all.1))
    (cases_Bool (eqb e.0 c))

pub line-others : (next c : ℕ) (es : List (ℕ × Stay)) → IsLine next es → IsLine next (other_stays c es)
line-others next c [] line = tt
line-others next c (e ∷ es) line =
    ⊎_elim
    (λ (own : eqb e.0 c ≡ true). rw own (line-others next c es line.2))
    (λ (other : eqb e.0 c ≡ false). rw other (each_other (λ (later : ℕ × Stay). (eqb later.0 e.0 ≡ false) × (e.1.number < later.1.number)) c es line.0, line.1, line-others next c es line.2))
    (cases_Bool (eqb e.0 c))

none-others : (c : ℕ) (es : List (ℕ × Stay)) → stay_of c (other_stays c es) ≡ None
none-others c [] = refl
none-others c (e ∷ es) =
    ⊎_elim
    (λ (own : eqb e.0 c ≡ true). rw own (none-others c es))
    (λ (other : eqb e.0 c ≡ false). rw (other, other) (none-others c es))
    (cases_Bool (eqb e.0 c))

stay-others : (c d : ℕ) (es : List (ℕ × Stay)) → d ≢ c → stay_of d (other_stays c es) ≡ stay_of d es
stay-others c d [] apart = refl
stay-others c d (e ∷ es) apart =
    ⊎_elim
    (λ (own : eqb e.0 c ≡ true). rw (own, ne_eqb e.0 d (λ here. apart (sym here ∙ eqb-true e.0 c own))) (stay-others c d es apart))
    (λ (other : eqb e.0 c ≡ false).
    ⊎_elim
    (λ (here : eqb e.0 d ≡ true). rw (other, here) refl)
    (λ (not_here : eqb e.0 d ≡ false). rw (other, not_here) (stay-others c d es apart))
    (cases_Bool (eqb e.0 d)))
    (cases_Bool (eqb e.0 c))

-- the slots hold the list
found_own : (next : ℕ) (es : List (ℕ × Stay)) → IsLine next es → AllByRecursion (λ e. stay_of e.0 es ≡ Some e.1) es
found_own next [] line = tt
found_own next (e ∷ es) line = (
  rw (eq-eqb e.0 e.0 refl) refl,
  each_both (λ (later : ℕ × Stay). (eqb later.0 e.0 ≡ false) × (e.1.number < later.1.number)) (λ (f : ℕ × Stay). stay_of f.0 es ≡ Some f.1) (λ (f : ℕ × Stay). stay_of f.0 (e ∷ es) ≡ Some f.1) es
      (λ f apart own. rw (turned e.0 f.0 ∙ apart.0) own)
      line.0 (found_own next es line.2),
)

all_in : (slots : List (Option Stay)) (es : List (ℕ × Stay)) → AllByRecursion (λ e. slot_at slots e.0 ≡ Some e.1) es → stays_in slots (map (λ e. e.0) es) ≡ es
all_in slots [] all = refl
all_in slots (e ∷ es) all = rw all.0 (ap (λ (ds : List (ℕ × Stay)). e ∷ ds) (all_in slots es all.1))

pub held : (slots : List (Option Stay)) (order : List ℕ) (next : ℕ) (es : List (ℕ × Stay)) → Holds slots order es → IsLine next es → stays_in slots order ≡ es
held slots order next es holds line =
    ap (λ (cs : List ℕ). stays_in slots cs) holds.0
    ∙ all_in slots es (each_map (λ (e : ℕ × Stay). stay_of e.0 es ≡ Some e.1) (λ (e : ℕ × Stay). slot_at slots e.0 ≡ Some e.1) es (λ e own. holds.1 e.0 ∙ own) (found_own next es line))

pub settled : (slots : List (Option Stay)) (order : List ℕ) (next : ℕ) (es : List (ℕ × Stay)) → Holds slots order es → IsLine next es
    → IsLine next (stays_in slots order) × Holds slots order (stays_in slots order)
settled slots order next es holds line =
    subst (λ (ds : List (ℕ × Stay)). IsLine next ds × Holds slots order ds) (sym (held slots order next es holds line)) (line, holds)

-- slots that are the same hold the same
pub same_slots : (slots after : List (Option Stay)) (order : List ℕ) → ((c : ℕ) → slot_at after c ≡ slot_at slots c) → stays_in after order ≡ stays_in slots order
same_slots slots after [] same = refl
same_slots slots after (c ∷ order) same = rw (same c, same_slots slots after order same) refl

pub holds_same : (slots after : List (Option Stay)) (order : List ℕ) (es : List (ℕ × Stay)) → ((c : ℕ) → slot_at after c ≡ slot_at slots c) → Holds slots order es → Holds after order es
holds_same slots after order es same holds = (holds.0, λ c. same c ∙ holds.1 c)

clients-push : (es : List (ℕ × Stay)) (e : ℕ × Stay) → map {A = ℕ × Stay} {B = ℕ} (λ e. e.0) (es ++ e ∷ []) ≡ map {A = ℕ × Stay} {B = ℕ} (λ e. e.0) es ++ e.0 ∷ []
clients-push [] e = refl
clients-push (d ∷ es) e = ap (λ (cs : List ℕ). d.0 ∷ cs) (clients-push es e)

pub holds_push : (slots : List (Option Stay)) (order : List ℕ) (es : List (ℕ × Stay)) (c : ℕ) (s : Stay) → Holds slots order es → stay_of c es ≡ None → c < length slots
    → Holds (set slots c (Some s)) (order ++ c ∷ []) (es ++ (c, s) ∷ [])
holds_push slots order es c s holds free within = (
  ap (λ (cs : List ℕ). cs ++ c ∷ []) holds.0 ∙ sym (clients-push es (c, s)),
  λ d. ⊎_elim
      (λ (own : eqb c d ≡ true).
      subst (λ (k : ℕ). slot_at (set slots c (Some s)) k ≡ stay_of k (es ++ (c, s) ∷ [])) (eqb-true c d own)
      (get_or-set_same slots c (Some s) None within ∙ sym (stay-came c s es free)))
      (λ (other : eqb c d ≡ false).
      get_or-set_other slots c d (Some s) None (λ is. eqb-false c d other (sym is)) ∙ holds.1 d ∙ sym (stay-push c d s es other))
      (cases_Bool (eqb c d)),
)

-- which of all is at an index
pub nth_held : (slots : List (Option Stay)) (next : ℕ) (es : List (ℕ × Stay)) (order : List ℕ) (i c : ℕ) → Holds slots order es → IsLine next es → slice_get order i ≡ Some c
    → (s : Stay) × (stay_of c es ≡ Some s) × (slice_get es i ≡ Some (c, s))
nth_held slots next es order i c holds line is =
    at es i (found_own next es line) (ap (λ (cs : List ℕ). slice_get cs i) (sym holds.0) ∙ is)
  where
    at : (ds : List (ℕ × Stay)) (k : ℕ) → AllByRecursion (λ e. stay_of e.0 es ≡ Some e.1) ds → slice_get (map (λ e. e.0) ds) k ≡ Some c
        → (s : Stay) × (stay_of c es ≡ Some s) × (slice_get ds k ≡ Some (c, s))
    at [] k all own = absurd (none-some c own)
    at (d ∷ ds) zero all own =
        let same = same_Some d.0 c own in
        (d.1, subst (λ (k : ℕ). stay_of k es ≡ Some d.1) same all.0, ap (λ (k : ℕ). Some (k, d.1)) same)
    at (d ∷ ds) (suc k) all own = at ds k all.1 own

past_order : (es : List (ℕ × Stay)) (i : ℕ) → slice_get (map {A = ℕ × Stay} {B = ℕ} (λ e. e.0) es) i ≡ None → slice_get es i ≡ None
past_order [] i is = refl
past_order (e ∷ es) zero is = absurd (none-some e.0 (sym is))
past_order (e ∷ es) (suc i) is = past_order es i is

pub none_held : (slots : List (Option Stay)) (es : List (ℕ × Stay)) (order : List ℕ) (i : ℕ) → Holds slots order es → slice_get order i ≡ None → slice_get es i ≡ None
none_held slots es order i holds is = past_order es i (ap (λ (cs : List ℕ). slice_get cs i) (sym holds.0) ∙ is)

pub length_held : (slots : List (Option Stay)) (es : List (ℕ × Stay)) (order : List ℕ) → Holds slots order es → length order ≡ length es
length_held slots es order holds = ap (λ (cs : List ℕ). length cs) holds.0 ∙ count es
  where
    count : (ds : List (ℕ × Stay)) → length (map {A = ℕ × Stay} {B = ℕ} (λ e. e.0) ds) ≡ length ds
    count [] = refl
    count (d ∷ ds) = ap suc (count ds)

-- numbers
pub number_above : (c n m : ℕ) (s : Stay) (es : List (ℕ × Stay)) → AllByRecursion (λ later. (eqb later.0 m ≡ false) × (n < later.1.number)) es → stay_of c es ≡ Some s → n < s.number
number_above c n m s [] all is = absurd (none-some s is)
number_above c n m s (e ∷ es) all is =
    ⊎_elim
    (λ (own : eqb e.0 c ≡ true). subst (λ (t : Stay). n < t.number) (same_Some e.1 s (let i = rw own at is in i)) all.0.1)
    (λ (other : eqb e.0 c ≡ false). number_above c n m s es all.1 (let i = rw other at is in i))
    (cases_Bool (eqb e.0 c))

-- the search
lower_all : (low number : ℕ) (m : ℕ) (es : List (ℕ × Stay)) (i : ℕ) → AllByRecursion (λ later. (eqb later.0 m ≡ false) × (low < later.1.number)) es → is_below_number number (slice_get es i) ≡ true → low < number
lower_all low number m [] i all here = absurd (true≢false (sym here))
lower_all low number m (e ∷ es) zero all here = let first = all.0.1 in let lower = ltb-true e.1.number number here in omega (arith, first, lower)
lower_all low number m (e ∷ es) (suc i) all here = lower_all low number m es i all.1 here

pub lower_turn : (next : ℕ) (es : List (ℕ × Stay)) (i number at : ℕ) → IsLine next es → is_below_number number (slice_get es i) ≡ true → at ≤ suc i → AllByRecursion (λ e. e.1.number < number) (take at es)
lower_turn next [] i number at line here within = absurd (true≢false (sym here))
lower_turn next (e ∷ es) i number zero line here within = tt
lower_turn next (e ∷ es) zero number (suc zero) line here within = (ltb-true e.1.number number here, tt)
lower_turn next (e ∷ es) zero number (suc (suc at)) line here within = absurd (omega (arith, within))
lower_turn next (e ∷ es) (suc i) number (suc at) line here within =
    (lower_all e.1.number number e.0 es i line.0 here, lower_turn next es i number at line.2 here (omega (arith, within)))

pub upper_turn : (next : ℕ) (es : List (ℕ × Stay)) (i number : ℕ) → IsLine next es → i < length es → is_below_number number (slice_get es i) ≡ false → AllByRecursion (λ e. number ≤ e.1.number) (drop i es)
upper_turn next [] i number line within here = absurd (omega (arith, within))
upper_turn next (e ∷ es) zero number line within here =
    let first : number ≤ e.1.number = ltb-false e.1.number number here in
    (first, each_map (λ (later : ℕ × Stay). (eqb later.0 e.0 ≡ false) × (e.1.number < later.1.number)) (λ (f : ℕ × Stay). number ≤ f.1.number) es (λ f h. let k = h.1 in omega (arith, first, k)) line.0)
upper_turn next (e ∷ es) (suc i) number line within here = upper_turn next es i number line.2 (omega (arith, within)) here

-- what stands there
others_none : (c m : ℕ) (es : List (ℕ × Stay)) → AllByRecursion (λ later. (eqb later.0 c ≡ false) × (m < later.1.number)) es → other_stays c es ≡ es
others_none c m [] all = refl
others_none c m (e ∷ es) all = rw all.0.0 (ap (λ (ds : List (ℕ × Stay)). e ∷ ds) (others_none c m es all.1))

turn_removed : (next c at : ℕ) (s : Stay) (es : List (ℕ × Stay)) → IsLine next es → stay_of c es ≡ Some s
    → AllByRecursion (λ e. e.1.number < s.number) (take at es) → AllByRecursion (λ e. s.number ≤ e.1.number) (drop at es) → remove es at ≡ other_stays c es
turn_removed next c at s [] line is below above = absurd (none-some s is)
turn_removed next c zero s (e ∷ es) line is below above =
    ⊎_elim
    (λ (own : eqb e.0 c ≡ true).
    rw own (sym (others_none c e.1.number es (subst (λ (k : ℕ). AllByRecursion (λ (later : ℕ × Stay). (eqb later.0 k ≡ false) × (e.1.number < later.1.number)) es) (eqb-true e.0 c own) line.0))))
    (λ (other : eqb e.0 c ≡ false).
    let high = number_above c e.1.number e.0 s es line.0 (let i = rw other at is in i) in
    let low = above.0 in
    absurd (omega (arith, high, low)))
    (cases_Bool (eqb e.0 c))
turn_removed next c (suc at) s (e ∷ es) line is below above =
    ⊎_elim
    (λ (own : eqb e.0 c ≡ true).
    let same = same_Some e.1 s (let i = rw own at is in i) in
    let low : s.number < s.number = subst (λ (t : Stay). t.number < s.number) same below.0 in
    absurd (omega (arith, low)))
    (λ (other : eqb e.0 c ≡ false).
    rw other (ap (λ (ds : List (ℕ × Stay)). e ∷ ds) (turn_removed next c at s es line.2 (let i = rw other at is in i) below.1 above)))
    (cases_Bool (eqb e.0 c))

clients-remove : (es : List (ℕ × Stay)) (at : ℕ) → map {A = ℕ × Stay} {B = ℕ} (λ e. e.0) (remove es at) ≡ remove (map {A = ℕ × Stay} {B = ℕ} (λ e. e.0) es) at
clients-remove [] zero = refl
clients-remove [] (suc at) = refl
clients-remove (e ∷ es) zero = refl
clients-remove (e ∷ es) (suc at) = ap (λ (cs : List ℕ). e.0 ∷ cs) (clients-remove es at)

slot_empty : (slots : List (Option Stay)) (c : ℕ) → get_or (set slots c None) c None ≡ None
slot_empty [] c = refl
slot_empty (s ∷ slots) zero = refl
slot_empty (s ∷ slots) (suc c) = slot_empty slots c

pub holds_removed : (slots : List (Option Stay)) (order : List ℕ) (next : ℕ) (es : List (ℕ × Stay)) (c number at : ℕ) (s : Stay) → Holds slots order es → IsLine next es
    → stay_of c es ≡ Some s → number ≡ s.number → IsTurn es number at → Holds (set slots c None) (remove order at) (other_stays c es)
holds_removed slots order next es c number at s holds line is own turn =
    let its = subst (λ (n : ℕ). IsTurn es n at) own turn in (
      ap (λ (cs : List ℕ). remove cs at) holds.0 ∙ sym (clients-remove es at)
          ∙ ap (λ (ds : List (ℕ × Stay)). map {A = ℕ × Stay} {B = ℕ} (λ e. e.0) ds) (turn_removed next c at s es line is its.below its.above),
      λ d. ⊎_elim
          (λ (here : eqb c d ≡ true).
          subst (λ (k : ℕ). slot_at (set slots c None) k ≡ stay_of k (other_stays c es)) (eqb-true c d here) (slot_empty slots c ∙ sym (none-others c es)))
          (λ (other : eqb c d ≡ false).
          let apart : d ≢ c = λ is. eqb-false c d other (sym is) in
          get_or-set_other slots c d None None apart ∙ holds.1 d ∙ sym (stay-others c d es apart))
          (cases_Bool (eqb c d)),
    )

-- of two calls the one of the lower number came first
pub earlier_is : (next c o : ℕ) (s t : Stay) (es : List (ℕ × Stay)) → IsLine next es → stay_of c es ≡ Some s → stay_of o es ≡ Some t → nat_lt s.number t.number ≡ comes_before c o (entries es)
unfolding comes_before
earlier_is next c o s t [] line is other_is = absurd (none-some s is)
earlier_is next c o s t (e ∷ es) line is other_is =
    ⊎_elim
    (λ (own : eqb e.0 o ≡ true).
    let second = same_Some e.1 t (let i = rw own at other_is in i) in
    let no_later : e.1.number ≤ s.number =
    ⊎_elim
    (λ (same : eqb e.0 c ≡ true). subst (λ (x : Stay). e.1.number ≤ x.number) (same_Some e.1 s (let i = rw same at is in i)) (omega arith))
    (λ (apart : eqb e.0 c ≡ false). let high = number_above c e.1.number e.0 s es line.0 (let i = rw apart at is in i) in let l : e.1.number ≤ s.number = omega (arith, high) in l)
    (cases_Bool (eqb e.0 c)) in
    rw own (le-ltb s.number t.number (subst (λ (x : Stay). x.number ≤ s.number) second no_later)))
    (λ (other : eqb e.0 o ≡ false).
    let later : stay_of o es ≡ Some t = rw other at other_is in
    ⊎_elim
    (λ (own : eqb e.0 c ≡ true).
    let first = same_Some e.1 s (let i = rw own at is in i) in
    rw (other, own) (lt-ltb s.number t.number (subst (λ (x : Stay). x.number < t.number) first (number_above o e.1.number e.0 t es line.0 later))))
    (λ (apart : eqb e.0 c ≡ false). rw (other, apart) (earlier_is next c o s t es line.2 (let i = rw apart at is in i) later))
    (cases_Bool (eqb e.0 c)))
    (cases_Bool (eqb e.0 o))

-- there is one more than are below
pub turn_within : (next c at : ℕ) (s : Stay) (es : List (ℕ × Stay)) → stay_of c es ≡ Some s → at ≤ length es → AllByRecursion (λ e. e.1.number < s.number) (take at es) → at < length es
turn_within next c at s [] is within below = absurd (none-some s is)
turn_within next c zero s (e ∷ es) is within below = omega arith
turn_within next c (suc at) s (e ∷ es) is within below =
    ⊎_elim
    (λ (own : eqb e.0 c ≡ true).
    let same = same_Some e.1 s (let i = rw own at is in i) in
    let low : s.number < s.number = subst (λ (t : Stay). t.number < s.number) same below.0 in
    absurd (omega (arith, low)))
    (λ (other : eqb e.0 c ≡ false).
    let later = turn_within next c at s es (let i = rw other at is in i) (omega (arith, within)) below.1 in
    omega (arith, later))
    (cases_Bool (eqb e.0 c))

-- what a borrow of a call shows
pub shown_some : (r : Option (Bor Stay)) (s : Stay) → option_copied r ≡ Some s → is_some r ≡ true
shown_some None s is = absurd (none-some s is)
shown_some (Some b) s is = refl

pub slot_more : (slots : List (Option Stay)) (c : ℕ) → slot_at (slots ++ None ∷ []) c ≡ slot_at slots c
slot_more [] zero = refl
slot_more [] (suc c) = refl
slot_more (s ∷ slots) zero = refl
slot_more (s ∷ slots) (suc c) = slot_more slots c

pub shown_is : (r : Option (Bor Stay)) → is_some r ≡ is_some (option_copied r)
shown_is None = refl
shown_is (Some b) = refl

pub arrival_shown : (c : ℕ) (es : List (ℕ × Stay)) (now : List (ℕ × Arrival)) (s : Stay) → entries es ≡ now → Some s ≡ stay_of c es → arrival_of c now ≡ Some s.arrival
arrival_shown c es now s is shown =
    ap (λ (ds : List (ℕ × Arrival)). arrival_of c ds) (sym is) ∙ sym (arrival_is c es) ∙ ap (λ (o : Option Stay). option_map {T = Stay} {U = Arrival} (λ s. s.arrival) o) (sym shown)

-- a call that waits is shown
pub shown_there : (c : ℕ) (es : List (ℕ × Stay)) (now : List (ℕ × Arrival)) (r : Option (Bor Stay)) → entries es ≡ now → option_copied r ≡ stay_of c es → is_there c now ≡ true → is_some r ≡ true
shown_there c es now r is shown here =
    shown_is r ∙ ap (λ (o : Option Stay). is_some o) shown ∙ there c es ∙ ap (λ (ds : List (ℕ × Arrival)). is_there c ds) is ∙ here

pub shown_by : (c : ℕ) (es : List (ℕ × Stay)) (r : Option (Bor Stay)) (b : Bor Stay) → option_copied r ≡ stay_of c es → r ≡ Some b → Some b.now ≡ stay_of c es
shown_by c es r b shown is = ap (λ (o : Option (Bor Stay)). option_copied o) (sym is) ∙ shown
