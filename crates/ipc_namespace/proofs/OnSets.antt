-- The earliest call that is ready among those on a list of sets, set by set, and that no more sets are listed than calls wait.
use Rattle.std.proofs.Common.{◌≡◌, ◌∙◌, ℕ, zero, suc, ◌+◌, ◌<◌, ◌≤◌, Bool, true, false, cond, List, [], ◌∷◌, ◌++◌, length, refl, sym, ap, arith, ⊎_elim, Option, Some, None}
use Rattle.std.specs.Prelude.{◌&&◌, ◌||◌, ◌==◌, filter, nat_lt, option_map, slice_get, is_some, unwrap_or, IfSome}
use Rattle.std.specs.List.{AllByRecursion, find, list_any}
use Rattle.std.proofs.lemmas.Bool.{cases_Bool, eq-eqb, eqb-true, false≢true, true≢false}
use Rattle.std.proofs.lemmas.Bool.Decides.{nat_tests}
use Rattle.std.proofs.lemmas.Option.{none-some, same_Some}
use Rattle.ipc_call.specs.declared.calls.Call.{Call}
use Rattle.ipc_call.specs.declared.calls.Call.TheVariants.{MsgSnd, MsgRcv, SemOp}
use Rattle.ipc_call.specs.declared.calls.SemOper.{SemOper}
use Rattle.ipc_call.specs.declared.replies.Completion.{Completion}
use Rattle.ipc_call.specs.declared.calls.Kind.{Kind}
use Rattle.ipc_call.specs.declared.calls.Kind.TheVariants as kinds
use Rattle.ipc_call.specs.declared.replies.Waiting.{Waiting}
use Rattle.ipc_model.specs.Cancelled.{is_same, waits_on}
use Rattle.ipc_model.specs.Decide.{waits_at}
use Rattle.ipc_model.specs.State.{State}
use Rattle.ipc_model.specs.Step.{Moved, end_waiting, first_ready, is_ready}
use Rattle.ipc_model.proofs.Touched.{ready_touched}
use Rattle.ipc_parked.specs.Parked.{AreApart}
use Rattle.ipc_namespace.specs.Namespace.{AreQuietBut, is_found, stands}
use Rattle.ipc_namespace.specs.Touching.{first_on, is_listed}
use Rattle.ipc_namespace.proofs.Earliest.{first_of, found-one, passes-over, stops-at}
use Rattle.ipc_namespace.proofs.Own.{none-found}
use Rattle.ipc_namespace.proofs.Owing.{listed-more, on}
use Rattle.ipc_namespace.proofs.Parked.{turned}

abbrev pub client_of : Option Waiting → Option ℕ
client_of o = option_map (λ w. w.client) o

-- tests that agree find the same
pub find-alike : (f g : Waiting → Bool) (ws : List Waiting) → ((w : Waiting) → f w ≡ g w) → find f ws ≡ find g ws
find-alike f g ws same = ap (λ (test : Waiting → Bool). find test ws) (λ i w. same w i)

pub find-filter : (passes ready : Waiting → Bool) (ws : List Waiting) → find ready (filter passes ws) ≡ find (λ w. passes w && ready w) ws
find-filter passes ready [] = refl
find-filter passes ready (w ∷ ws) =
    ⊎_elim
    (λ (yes : passes w ≡ true). rw yes (ap (λ o. cond (ready w) (Some w) o) (find-filter passes ready ws)))
    (λ (no : passes w ≡ false). rw no (find-filter passes ready ws))
    (cases_Bool (passes w))

-- no other call is ready
pub quiet-first : (s : State) (passes : Waiting → Bool) → AreQuietBut passes s → first_ready s ≡ find (λ w. passes w && is_ready s w) s.parked
quiet-first s passes quiet = ready_touched passes s quiet ∙ find-filter passes (is_ready s) s.parked

or-one : (a b : Bool) → b ≡ true → a || b ≡ true
or-one true b is = refl
or-one false b is = is

or-none : (a b : Bool) → a ≡ false → b ≡ false → a || b ≡ false
or-none a b fst snd = rw (fst, snd) refl

-- what is found is of another client than one that isn't among these
not-found : (test : Waiting → Bool) (ws : List Waiting) (client : ℕ) (o : Option Waiting) → list_any (λ v. v.client == client) ws ≡ false → find test ws ≡ o → is_found (client_of o) client ≡ false
not-found test ws client None away is = refl
not-found test ws client (Some v) away is = turned v.client client (none-found (λ u. u.client == client) test ws v away is)

-- of the earliest that passes one test and the earliest that passes another, the earlier is the earliest that passes one of them
pub found-either : (f g : Waiting → Bool) (ws : List Waiting) → AreApart ws → first_of (λ k. is_found (client_of (find f ws)) k || is_found (client_of (find g ws)) k) ws ≡ client_of (find (λ w. f w || g w) ws)
unfolding AreApart
found-either f g [] apart = refl
found-either f g (w ∷ ws) apart =
    ⊎_elim
    (λ (here : f w ≡ true).
    stops-at (λ k. is_found (client_of (find f (w ∷ ws))) k || is_found (client_of (find g (w ∷ ws))) k) w ws
    (ap (λ b. is_found (client_of (cond b (Some w) (find f ws))) w.client || is_found (client_of (find g (w ∷ ws))) w.client) here
    ∙ ap (λ b. b || is_found (client_of (find g (w ∷ ws))) w.client) (eq-eqb w.client w.client refl))
    ∙ sym (ap (λ b. client_of (cond (b || g w) (Some w) (find (λ v. f v || g v) ws))) here))
    (λ (past : f w ≡ false).
    ⊎_elim
    (λ (also : g w ≡ true).
    stops-at (λ k. is_found (client_of (find f (w ∷ ws))) k || is_found (client_of (find g (w ∷ ws))) k) w ws
    (or-one (is_found (client_of (find f (w ∷ ws))) w.client) (is_found (client_of (find g (w ∷ ws))) w.client)
    (ap (λ b. is_found (client_of (cond b (Some w) (find g ws))) w.client) also ∙ eq-eqb w.client w.client refl))
    ∙ sym (ap (λ b. client_of (cond (b || g w) (Some w) (find (λ v. f v || g v) ws))) past ∙ ap (λ b. client_of (cond b (Some w) (find (λ v. f v || g v) ws))) also))
    (λ (none : g w ≡ false).
    ap (λ b. first_of (λ k. is_found (client_of (cond b (Some w) (find f ws))) k || is_found (client_of (find g (w ∷ ws))) k) (w ∷ ws)) past
    ∙ ap (λ b. first_of (λ k. is_found (client_of (find f ws)) k || is_found (client_of (cond b (Some w) (find g ws))) k) (w ∷ ws)) none
    ∙ passes-over (λ k. is_found (client_of (find f ws)) k || is_found (client_of (find g ws)) k) w ws
    (or-none (is_found (client_of (find f ws)) w.client) (is_found (client_of (find g ws)) w.client)
    (not-found f ws w.client (find f ws) apart.0 refl) (not-found g ws w.client (find g ws) apart.0 refl))
    ∙ found-either f g ws apart.1
    ∙ sym (ap (λ b. client_of (cond (b || g w) (Some w) (find (λ v. f v || g v) ws))) past ∙ ap (λ b. client_of (cond b (Some w) (find (λ v. f v || g v) ws))) none))
    (cases_Bool (g w)))
    (cases_Bool (f w))

-- of a client that was found and of none, that client
pub found-itself : (ws : List Waiting) (o : Option ℕ) → IfSome o (λ client. list_any (λ w. w.client == client) ws ≡ true) → o ≡ first_of (λ k. is_found o k || false) ws
found-itself ws None there = sym (never ws)
  where
    never : (ws : List Waiting) → first_of (λ k. false) ws ≡ None
    never [] = refl
    never (w ∷ ws) = never ws
found-itself ws (Some client) there = sym (found-one client ws there) ∙ ap (λ (test : ℕ → Bool). first_of test ws) (λ i k. or-false (k == client) i)
  where
    or-false : (b : Bool) → b ≡ b || false
    or-false true = refl
    or-false false = refl

-- on one more set
pub first-more : (s : State) (ids : List ℕ) (id : ℕ)
    → client_of (find (λ w. (is_listed ids w && is_ready s w) || (on id w && is_ready s w)) s.parked) ≡ first_on s (is_listed (ids ++ id ∷ []))
first-more s ids id =
    ap client_of (find-alike (λ w. (is_listed ids w && is_ready s w) || (on id w && is_ready s w)) (λ w. is_listed (ids ++ id ∷ []) w && is_ready s w) s.parked
    (λ w. over (is_listed ids w) (on id w) (is_ready s w) ∙ ap (λ b. b && is_ready s w) (sym (listed-more ids id w))))
  where
    over : (a b c : Bool) → (a && c) || (b && c) ≡ (a || b) && c
    over true true true = refl
    over true true false = refl
    over true false true = refl
    over true false false = refl
    over false b c = refl

-- on none
pub first-nowhere : (ready : Waiting → Bool) (ws : List Waiting) → client_of (find (λ w. false && ready w) ws) ≡ None
first-nowhere ready [] = refl
first-nowhere ready (w ∷ ws) = first-nowhere ready ws

-- a call waits on a set where there is a first that does
pub any-first : (test : Waiting → Bool) (ws : List Waiting) → is_some (client_of (slice_get (filter test ws) 0)) ≡ list_any test ws
any-first test [] = refl
any-first test (w ∷ ws) =
    ⊎_elim
    (λ (yes : test w ≡ true). rw yes refl)
    (λ (no : test w ≡ false). rw no (any-first test ws))
    (cases_Bool (test w))

pub none-any : (test : Waiting → Bool) (ws : List Waiting) → list_any test ws ≡ false → AllByRecursion (λ w. test w ≡ false) ws
none-any test [] none = tt
none-any test (w ∷ ws) none =
    ⊎_elim
    (λ (yes : test w ≡ true). absurd (true≢false (sym (ap (λ b. b || list_any test ws) yes) ∙ none)))
    (λ (no : test w ≡ false). (no, none-any test ws (sym (ap (λ b. b || list_any test ws) no) ∙ none)))
    (cases_Bool (test w))

-- how many pass
abbrev pub one_if : Bool → ℕ
one_if true = 1
one_if false = 0

abbrev pub tally : (Waiting → Bool) → List Waiting → ℕ
tally test [] = 0
tally test (w ∷ ws) = one_if (test w) + tally test ws

pub tally-all : (test : Waiting → Bool) (ws : List Waiting) → tally test ws ≤ length ws
tally-all test [] = omega arith
tally-all test (w ∷ ws) = let rest = tally-all test ws in let few = by (test w) in omega (arith, rest, few)
  where
    by : (b : Bool) → one_if b ≤ 1
    by true = omega arith
    by false = omega arith

pub tally-some : (test : Waiting → Bool) (ws : List Waiting) → list_any test ws ≡ true → 1 ≤ tally test ws
tally-some test [] any = absurd (false≢true any)
tally-some test (w ∷ ws) any =
    ⊎_elim
    (λ (yes : test w ≡ true). let here : one_if (test w) ≡ 1 = ap one_if yes in omega (arith, here))
    (λ (no : test w ≡ false). let rest = tally-some test ws (sym (ap (λ b. b || list_any test ws) no) ∙ any) in omega (arith, rest))
    (cases_Bool (test w))

-- those on sets before the next one; each comes before none
abbrev before : Option ℕ → ℕ → Bool
before None id = true
before (Some next) id = nat_lt id next

abbrev pub on_before : Option ℕ → Waiting → Bool
on_before next w = unwrap_or (option_map (λ at. is_same kinds.Sems at.0 && before next at.1) (waits_at w.call)) false

abbrev pub IsPast : ℕ → Option ℕ → Type 0
IsPast here next = IfSome next (λ n. here + 1 ≤ n)

-- those before a set and those on it are before the next
numbers : (here id : ℕ) (next : Option ℕ) → IsPast here next → one_if (nat_lt id here) + one_if (id == here) ≤ one_if (before next id)
numbers here id None past = by (nat_lt id here) (id == here) refl refl
  where
    by : (a b : Bool) → nat_lt id here ≡ a → (id == here) ≡ b → one_if a + one_if b ≤ 1
    by true true lt eq = absurd (let less : id < here = grind (arith, nat_tests) in let same : id ≡ here = eqb-true id here eq in omega (arith, less, same))
    by true false lt eq = omega arith
    by false true lt eq = omega arith
    by false false lt eq = omega arith
numbers here id (Some n) past = by (nat_lt id here) (id == here) (nat_lt id n) refl refl refl
  where
    by : (a b c : Bool) → nat_lt id here ≡ a → (id == here) ≡ b → nat_lt id n ≡ c → one_if a + one_if b ≤ one_if c
    by true true c lt eq under = absurd (let less : id < here = grind (arith, nat_tests) in let same : id ≡ here = eqb-true id here eq in omega (arith, less, same))
    by true false true lt eq under = omega arith
    by true false false lt eq under = absurd (let less : id < here = grind (arith, nat_tests) in let more : n ≤ id = grind (arith, nat_tests) in omega (arith, less, more, past))
    by false true true lt eq under = omega arith
    by false true false lt eq under = absurd (let same : id ≡ here = eqb-true id here eq in let more : n ≤ id = grind (arith, nat_tests) in omega (arith, same, more, past))
    by false false true lt eq under = omega arith
    by false false false lt eq under = omega arith

places : (here : ℕ) (next : Option ℕ) → IsPast here next → (place : Option (Kind × ℕ))
    → one_if (unwrap_or (option_map (λ at. is_same kinds.Sems at.0 && before (Some here) at.1) place) false) + one_if (unwrap_or (option_map (λ at. is_same at.0 kinds.Sems && at.1 == here) place) false)
    ≤ one_if (unwrap_or (option_map (λ at. is_same kinds.Sems at.0 && before next at.1) place) false)
places here next past None = omega arith
places here next past (Some (kinds.Queue, id)) = omega arith
places here next past (Some (kinds.Sems, id)) = numbers here id next past
places here next past (Some (kinds.Segment, id)) = omega arith

pub tally-step : (here : ℕ) (next : Option ℕ) (ws : List Waiting) → IsPast here next → tally (on_before (Some here)) ws + tally (on here) ws ≤ tally (on_before next) ws
tally-step here next [] past = omega arith
tally-step here next (w ∷ ws) past = let rest = tally-step here next ws past in let own : one_if (on_before (Some here) w) + one_if (on here w) ≤ one_if (on_before next w) = places here next past (waits_at w.call) in omega (arith, rest, own)

-- one more on a list
pub length-more : (ids : List ℕ) (id : ℕ) → length (ids ++ id ∷ []) ≡ length ids + 1
length-more [] id = refl
length-more (i ∷ ids) id = let rest = length-more ids id in omega (arith, rest)

pub all-more : (P : ℕ → Type 0) (ids : List ℕ) (id : ℕ) → AllByRecursion P ids → P id → AllByRecursion P (ids ++ id ∷ [])
all-more P [] id all own = (own, tt)
all-more P (i ∷ ids) id all own = (all.0, all-more P ids id all.1 own)

pub nth-passes : (test : Waiting → Bool) (ws : List Waiting) (i : ℕ) (w : Waiting) → slice_get (filter test ws) i ≡ Some w → test w ≡ true
nth-passes test [] i w is = absurd (none-some w is)
nth-passes test (v ∷ ws) zero w is =
    ⊎_elim
    (λ (yes : test v ≡ true). let there : Some v ≡ Some w = rw yes at is in ap test (sym (same_Some v w there)) ∙ yes)
    (λ (no : test v ≡ false). let there : slice_get (filter test ws) zero ≡ Some w = rw no at is in nth-passes test ws zero w there)
    (cases_Bool (test v))
nth-passes test (v ∷ ws) (suc i) w is =
    ⊎_elim
    (λ (yes : test v ≡ true). let there : slice_get (filter test ws) i ≡ Some w = rw yes at is in nth-passes test ws i w there)
    (λ (no : test v ≡ false). let there : slice_get (filter test ws) (suc i) ≡ Some w = rw no at is in nth-passes test ws (suc i) w there)
    (cases_Bool (test v))

-- a call that stands and waits on a set is a semop
pub semop-alone : (call : Call) → stands call ≡ true → ((id : ℕ) (ops : List SemOper) → call ≡ SemOp id ops → ⊥) → (id : ℕ) → waits_on kinds.Sems id call ≡ true → ⊥
semop-alone (MsgSnd queue mtype text flags) can other id waits = false≢true waits
semop-alone (MsgRcv queue size msgtyp flags) can other id waits = false≢true waits
semop-alone (SemOp set ops) can other id waits = other set ops refl
semop-alone call can other id waits = false≢true can

-- the call that was found, with its client
pub named : (client : ℕ) (o : Option Waiting) → Some client ≡ client_of o → (w : Waiting) × (o ≡ Some w) × (w.client ≡ client)
named client None is = absurd (none-some client (sym is))
named client (Some w) is = (w, refl, sym (same_Some client w.client is))

pub unnamed : (o : Option Waiting) → None ≡ client_of o → o ≡ None
unnamed None is = refl
unnamed (Some w) is = absurd (none-some w.client is)

-- where it can proceed it ends
pub completes : (s new : State) (w : Waiting) (o : Option Waiting) (ended : Option Completion) → o ≡ Some w → is_some ended ≡ true → IfSome ended (λ e. end_waiting s w ≡ record { state = new; ended = e ∷ [] })
    → option_map (end_waiting s) o ≡ option_map {U = Moved} (λ e. record { state = new; ended = e ∷ [] }) ended
completes s new w o None is some ends = absurd (false≢true some)
completes s new w o (Some e) is some ends = ap (option_map (end_waiting s)) is ∙ ap (λ (m : Moved). Some m) ends

pub whatever : {A : Type 0} (o : Option A) (P : Type 0) → P → IfSome o (λ _. P)
whatever None P p = tt
whatever (Some x) P p = p

-- the call that is tried, at an index among those that wait on the set
pub found-first : (s : State) (id : ℕ) (o : Option Waiting) → find (is_ready s) (filter (on id) s.parked) ≡ o → client_of o ≡ first_on s (on id)
found-first s id o is = sym (ap client_of is) ∙ ap client_of (find-filter (on id) (is_ready s) s.parked)
