-- The earliest waiting call of the clients that pass a test.
use Rattle.std.proofs.Common.{◌≡◌, ◌≢◌, ◌∙◌, ℕ, zero, suc, ◌+◌, ◌-◌, ◌<◌, ◌≤◌, Bool, true, false, cond, eqb, get_or, List, [], ◌∷◌, length, refl, sym, ap, arith, inl, inr, ⊎_elim, Option, Some, None}
use Rattle.std.specs.Prelude.{◌⊎◌, ◌==◌, ◌&&◌, ◌||◌, nat_lt, not, IfNone, IfSome}
use Rattle.std.specs.List.{find, list_any}
use Rattle.std.specs.Option.{option_map}
use Rattle.std.proofs.lemmas.Bool.{and_parts, cases_Bool, cases_eq, eq-eqb, eqb-true, false≢true, ne_eqb, true≢false}
use Rattle.std.proofs.lemmas.Bool.Decides.{nat_tests}
use Rattle.ipc_model.specs.State.{State, Thread, no_thread, process_at, thread_at}
use Rattle.ipc_parked.specs.declared.parked.Arrival.{Arrival}
use Rattle.ipc_call.specs.declared.replies.Waiting.{Waiting}
use Rattle.ipc_parked.specs.Parked.{comes_before, entry_of, is_there, waiting}
use Rattle.ipc_namespace.specs.Namespace.{is_found, is_named}
use Rattle.ipc_namespace.specs.declared.cancelling.Cancelling.{Cancelling}
use Rattle.ipc_namespace.specs.declared.cancelling.Cancelling.TheVariants as cancellings

abbrev Entry : Type 0
Entry = ℕ × Arrival

-- of the calls in a list
abbrev pub first_of : (ℕ → Bool) → List Waiting → Option ℕ
first_of test ws = option_map (λ w. w.client) (find (λ w. test w.client) ws)

abbrev pub is_among : ℕ → List Waiting → Bool
is_among client ws = list_any (λ w. w.client == client) ws

pub passes-over : (test : ℕ → Bool) (w : Waiting) (ws : List Waiting) → test w.client ≡ false → first_of test (w ∷ ws) ≡ first_of test ws
passes-over test w ws isnt = rw isnt refl

pub stops-at : (test : ℕ → Bool) (w : Waiting) (ws : List Waiting) → test w.client ≡ true → first_of test (w ∷ ws) ≡ Some w.client
stops-at test w ws is = rw is refl

or-none : (a b : Bool) → a ≡ false → b ≡ false → a || b ≡ false
or-none a b fst snd = rw (fst, snd) refl

or-one : (a b : Bool) → b ≡ true → a || b ≡ true
or-one true b is = refl
or-one false b is = is

-- a client whose call waits is found by its number
pub found-one : (client : ℕ) (ws : List Waiting) → is_among client ws ≡ true → first_of (λ k. k == client) ws ≡ Some client
found-one client [] there = absurd (false≢true there)
found-one client (w ∷ ws) there =
    ⊎_elim
    (λ (is : (w.client == client) ≡ true). stops-at (λ k. k == client) w ws is ∙ ap (λ k. Some k) (eqb-true w.client client is))
    (λ (isnt : (w.client == client) ≡ false). passes-over (λ k. k == client) w ws isnt ∙ found-one client ws (sym (ap (λ b. b || is_among client ws) isnt) ∙ there))
    (cases_Bool (w.client == client))

-- and no other
pub found-none : (client : ℕ) (ws : List Waiting) → is_among client ws ≡ false → first_of (λ k. k == client) ws ≡ None
found-none client [] away = refl
found-none client (w ∷ ws) away =
    ⊎_elim
    (λ (is : (w.client == client) ≡ true). absurd (true≢false (sym (ap (λ b. b || is_among client ws) is) ∙ away)))
    (λ (isnt : (w.client == client) ≡ false). passes-over (λ k. k == client) w ws isnt ∙ found-none client ws (sym (ap (λ b. b || is_among client ws) isnt) ∙ away))
    (cases_Bool (w.client == client))

-- of two of which one has no call that waits
pub found-alone : (other client : ℕ) (ws : List Waiting) → is_among other ws ≡ true → is_among client ws ≡ false → first_of (λ k. k == other || k == client) ws ≡ Some other
found-alone other client [] there away = absurd (false≢true there)
found-alone other client (w ∷ ws) there away =
    ⊎_elim
    (λ (same : (w.client == client) ≡ true). absurd (true≢false (sym (ap (λ b. b || is_among client ws) same) ∙ away)))
    (λ (isnt : (w.client == client) ≡ false). ⊎_elim
    (λ (is : (w.client == other) ≡ true). stops-at (λ k. k == other || k == client) w ws (ap (λ b. b || w.client == client) is) ∙ ap (λ k. Some k) (eqb-true w.client other is))
    (λ (past : (w.client == other) ≡ false). passes-over (λ k. k == other || k == client) w ws (or-none (w.client == other) (w.client == client) past isnt)
    ∙ found-alone other client ws (sym (ap (λ b. b || is_among other ws) past) ∙ there) (sym (ap (λ b. b || is_among client ws) isnt) ∙ away))
    (cases_Bool (w.client == other)))
    (cases_Bool (w.client == client))

-- what is found passes, and waits
pub found-passes : (test : ℕ → Bool) (ws : List Waiting) (client : ℕ) → first_of test ws ≡ Some client → (test client ≡ true) × (is_among client ws ≡ true)
found-passes test [] client is = cc
found-passes test (w ∷ ws) client is =
    ⊎_elim
    (λ (here : test w.client ≡ true).
    let same : w.client ≡ client = let e : Some w.client ≡ Some client = sym (stops-at test w ws here) ∙ is in cc in
    (ap test (sym same) ∙ here, ap (λ b. b || is_among client ws) (eq-eqb w.client client same)))
    (λ (past : test w.client ≡ false).
    let later = found-passes test ws client (sym (passes-over test w ws past) ∙ is) in
    (later.0, or-one (w.client == client) (is_among client ws) later.1))
    (cases_Bool (test w.client))

-- what passes is none that doesn't
not-found : (test : ℕ → Bool) (ws : List Waiting) (k : ℕ) (o : Option ℕ) → test k ≡ false → first_of test ws ≡ o → is_found o k ≡ false
not-found test ws k None past is = refl
not-found test ws k (Some other) past is = ne_eqb k other (λ same. true≢false (sym (found-passes test ws other is).0 ∙ ap test (sym same) ∙ past))

-- the earlier of what was found and of one more client is what is found of all
pub found-more : (test : ℕ → Bool) (client : ℕ) (ws : List Waiting) → first_of (λ k. is_found (first_of test ws) k || k == client) ws ≡ first_of (λ k. test k || k == client) ws
found-more test client [] = refl
found-more test client (w ∷ ws) =
    ⊎_elim
    (λ (here : test w.client ≡ true).
    stops-at (λ k. is_found (first_of test (w ∷ ws)) k || k == client) w ws
    (ap (λ o. is_found o w.client || w.client == client) (stops-at test w ws here) ∙ ap (λ b. b || w.client == client) (eq-eqb w.client w.client refl))
    ∙ sym (stops-at (λ k. test k || k == client) w ws (ap (λ b. b || w.client == client) here)))
    (λ (past : test w.client ≡ false).
    ap (λ o. first_of (λ k. is_found o k || k == client) (w ∷ ws)) (passes-over test w ws past)
    ∙ ⊎_elim
    (λ (same : (w.client == client) ≡ true). stops-at (λ k. is_found (first_of test ws) k || k == client) w ws (or-one (is_found (first_of test ws) w.client) (w.client == client) same)
    ∙ sym (stops-at (λ k. test k || k == client) w ws (or-one (test w.client) (w.client == client) same)))
    (λ (isnt : (w.client == client) ≡ false). passes-over (λ k. is_found (first_of test ws) k || k == client) w ws
    (or-none (is_found (first_of test ws) w.client) (w.client == client) (not-found test ws w.client (first_of test ws) past refl) isnt)
    ∙ found-more test client ws ∙ sym (passes-over (λ k. test k || k == client) w ws (or-none (test w.client) (w.client == client) past isnt)))
    (cases_Bool (w.client == client)))
    (cases_Bool (test w.client))

-- of two of which one came first
pub found-before : (other client : ℕ) (es : List Entry) → comes_before other client es ≡ true → first_of (λ k. k == other || k == client) (waiting es) ≡ Some other
unfolding comes_before
found-before other client [] before = absurd (false≢true before)
found-before other client (e ∷ es) before =
    ⊎_elim
    (λ (same : (e.0 == client) ≡ true). absurd (false≢true (sym (ap (λ b. cond b false (cond (e.0 == other) true (comes_before other client es))) same) ∙ before)))
    (λ (isnt : (e.0 == client) ≡ false). ⊎_elim
    (λ (is : (e.0 == other) ≡ true). stops-at (λ k. k == other || k == client) (entry_of e) (waiting es) (ap (λ b. b || e.0 == client) is) ∙ ap (λ k. Some k) (eqb-true e.0 other is))
    (λ (past : (e.0 == other) ≡ false). passes-over (λ k. k == other || k == client) (entry_of e) (waiting es) (or-none (e.0 == other) (e.0 == client) past isnt)
    ∙ found-before other client es (sym (λ i. cond (isnt i) false (cond (past i) true (comes_before other client es))) ∙ before))
    (cases_Bool (e.0 == other)))
    (cases_Bool (e.0 == client))

-- or the other did
pub found-after : (other client : ℕ) (es : List Entry) → is_there client es ≡ true → comes_before other client es ≡ false → first_of (λ k. k == other || k == client) (waiting es) ≡ Some client
unfolding comes_before
found-after other client [] there after = absurd (false≢true there)
found-after other client (e ∷ es) there after =
    ⊎_elim
    (λ (same : (e.0 == client) ≡ true). stops-at (λ k. k == other || k == client) (entry_of e) (waiting es) (or-one (e.0 == other) (e.0 == client) same) ∙ ap (λ k. Some k) (eqb-true e.0 client same))
    (λ (isnt : (e.0 == client) ≡ false). ⊎_elim
    (λ (is : (e.0 == other) ≡ true). absurd (true≢false (sym (λ i. cond (isnt i) false (cond (is i) true (comes_before other client es))) ∙ after)))
    (λ (past : (e.0 == other) ≡ false). passes-over (λ k. k == other || k == client) (entry_of e) (waiting es) (or-none (e.0 == other) (e.0 == client) past isnt)
    ∙ found-after other client es (sym (ap (λ b. b || is_there client es) isnt) ∙ there) (sym (λ i. cond (isnt i) false (cond (past i) true (comes_before other client es))) ∙ after))
    (cases_Bool (e.0 == other)))
    (cases_Bool (e.0 == client))

-- those below the next client that passes
abbrev pub below : (ℕ → Bool) → Option ℕ → ℕ → Bool
below named None k = named k
below named (Some bound) k = named k && nat_lt k bound

is-lt : (a b : ℕ) → a < b → nat_lt a b ≡ true
is-lt a b lt = grind (arith, nat_tests)

isnt-lt : (a b : ℕ) → b ≤ a → nat_lt a b ≡ false
isnt-lt a b le = grind (arith, nat_tests)

-- none passes from a place on, or none before the next that passes: the tests agree
all-below : (named : ℕ → Bool) (bound : ℕ) → ((c : ℕ) → bound ≤ c → named c ≡ false) → (k : ℕ) → (named k && nat_lt k bound) ≡ named k
all-below named bound none k = ⊎_elim
    (λ (lt : k < bound). ap (λ b. named k && b) (is-lt k bound lt) ∙ and-true (named k))
    (λ (le : bound ≤ k). rw (none k le) refl)
    (split k bound)
  where
    and-true : (b : Bool) → b && true ≡ b
    and-true true = refl
    and-true false = refl

    split : (a b : ℕ) → (a < b) ⊎ (b ≤ a)
    split a b = ⊎_elim (λ yes. inl (grind (arith, nat_tests))) (λ no. inr (grind (arith, nat_tests))) (cases_Bool (nat_lt a b))

-- the tests agree below two bounds between which none passes
same-below : (named : ℕ → Bool) (low high : ℕ) → low ≤ high → ((c : ℕ) → low ≤ c → c < high → named c ≡ false) → (k : ℕ) → (named k && nat_lt k low) ≡ (named k && nat_lt k high)
same-below named low high le none k = by (nat_lt k low) (nat_lt k high) refl refl
  where
    by : (a b : Bool) → nat_lt k low ≡ a → nat_lt k high ≡ b → (named k && nat_lt k low) ≡ (named k && nat_lt k high)
    by true true one two = rw (one, two) refl
    by false false one two = rw (one, two) refl
    by true false one two = absurd (let lt : k < low = grind (arith, nat_tests) in let ge : high ≤ k = grind (arith, nat_tests) in omega (arith, le, lt, ge))
    by false true one two = let lt : k < high = grind (arith, nat_tests) in let ge : low ≤ k = grind (arith, nat_tests) in rw (none k ge lt) refl

-- what is asked of the next client that passes, from a place on
module _ (named : ℕ → Bool) (from : ℕ) (next : Option ℕ) (none : IfNone next ((c : ℕ) → from ≤ c → named c ≡ false)) (above : IfSome next (λ k. from ≤ k))
    (least : IfSome next (λ k. (c : ℕ) → from ≤ c → c < k → named c ≡ false)) where
  pub next-below : (k : ℕ) → (named k && nat_lt k from) ≡ below named next k
  next-below k = by next none above least
    where
      by : (o : Option ℕ) → IfNone o ((c : ℕ) → from ≤ c → named c ≡ false) → IfSome o (λ k. from ≤ k) → IfSome o (λ k. (c : ℕ) → from ≤ c → c < k → named c ≡ false)
          → (named k && nat_lt k from) ≡ below named o k
      by None none above least = all-below named from none k
      by (Some high) none above least = same-below named from high above least k

-- one more, and those below it, are those below the one after
pub with-one : (named : ℕ → Bool) (client : ℕ) → named client ≡ true → (k : ℕ) → ((named k && nat_lt k client) || k == client) ≡ (named k && nat_lt k (client + 1))
with-one named client is k = ⊎_elim
    (λ (same : k ≡ client). or-one (named k && nat_lt k client) (k == client) (eq-eqb k client same) ∙ sym (rw same (ap (λ b. b && nat_lt client (client + 1)) is ∙ is-lt client (client + 1) (omega arith))))
    (λ (other : k ≢ client). ap (λ b. (named k && nat_lt k client) || b) (ne_eqb k client other) ∙ or-false (named k && nat_lt k client) ∙ ap (λ b. named k && b) (by (nat_lt k client) refl other))
    (cases_eq k client)
  where
    or-false : (b : Bool) → b || false ≡ b
    or-false true = refl
    or-false false = refl

    by : (b : Bool) → nat_lt k client ≡ b → k ≢ client → b ≡ nat_lt k (client + 1)
    by true lt other = sym (is-lt k (client + 1) (let less : k < client = grind (arith, nat_tests) in omega (arith, less)))
    by false ge other = sym (isnt-lt k (client + 1) (let more : client ≤ k = grind (arith, nat_tests) in omega (arith, more, other)))

-- at the beginning none is below the next
pub none-first : (ws : List Waiting) (named : ℕ → Bool) → first_of (λ k. named k && nat_lt k 0) ws ≡ None
none-first [] named = refl
none-first (w ∷ ws) named = passes-over (λ k. named k && nat_lt k 0) w ws (by (named w.client) (isnt-lt w.client 0 (omega arith))) ∙ none-first ws named
  where
    by : (b : Bool) → nat_lt w.client 0 ≡ false → b && nat_lt w.client 0 ≡ false
    by true isnt = isnt
    by false isnt = refl

pub unturned : (b : Bool) → not b ≡ true → b ≡ false
unturned true is = absurd (false≢true is)
unturned false is = refl

-- a client whose thread hasn't ended is there
pub live-known : (ts : List Thread) (c : ℕ) → (get_or ts c no_thread).has_ended ≡ false → c < length ts
live-known [] c live = absurd (true≢false live)
live-known (t ∷ ts) zero live = omega arith
live-known (t ∷ ts) (suc c) live = let lt = live-known ts c live in omega (arith, lt)

-- and so is one that is named
pub named-lives : (s : State) (cancelling : Cancelling) (c : ℕ) → is_named s cancelling c ≡ true → (thread_at s c).has_ended ≡ false
named-lives s (cancellings.Interrupted pid) c is = unturned (thread_at s c).has_ended (and_parts ((thread_at s c).pid == pid) (not (thread_at s c).has_ended) is).1
named-lives s (cancellings.Ended other) c is = unturned (thread_at s c).has_ended (and_parts ((thread_at s c).process == process_at s other) (not (thread_at s c).has_ended) is).1
named-lives s (cancellings.Denied kind id) c is = absurd (false≢true is)
named-lives s (cancellings.Removed kind id) c is = absurd (false≢true is)
named-lives s (cancellings.ThreadInterrupted client) c is = absurd (false≢true is)

-- how many clients there are from the next one on
abbrev pub left : ℕ → Option ℕ → ℕ
left clients None = 0
left clients (Some client) = suc (clients - client)

pub left-less : (clients client : ℕ) (o : Option ℕ) → client < clients → IfSome o (λ k. client + 1 ≤ k) → left clients o < left clients (Some client)
left-less clients client None known above = omega arith
left-less clients client (Some k) known above = omega (arith, known, above)

-- those of few clients that live are few
pub few-live : (live : ℕ → Bool) (ts : List Thread) → ((c : ℕ) → live c ≡ true → (get_or ts c no_thread).has_ended ≡ false) → length ts ≤ 4096
    → (o : Option ℕ) → IfSome o (λ c. live c ≡ true) → IfSome o (λ c. c < 4096)
few-live live ts lives few None there = tt
few-live live ts lives few (Some c) there = let lt = live-known ts c (lives c there) in omega (arith, few, lt)
