-- What a test picks of the calls that wait.
use Rattle.std.proofs.Common.{◌≡◌, ℕ, Bool, true, false, cond, ◌&&◌, List, [], ◌∷◌, filter, refl, sym, ap, subst, ◌∙◌, ⊎_elim, Option, Some, None}
use Rattle.std.specs.List.{find, AllByRecursion}
use Rattle.std.specs.Option.{option_map}
use Rattle.std.specs.Borrow.{Bor}
use Rattle.std.proofs.lemmas.Bool.{cases_Bool}
use Rattle.ipc_call.specs.declared.calls.Call.{Call}
use Rattle.ipc_call.specs.declared.calls.Kind.{Kind}
use Rattle.ipc_call.specs.declared.replies.Waiting.{Waiting}
use Rattle.ipc_parked.specs.declared.parked.Arrival.{Arrival}
use Rattle.ipc_model.specs.Cancelled.{waits_on}
use Rattle.ipc_parked.specs.Parked.{waiting, entry_of, on_object, MayAsk, Answers, Picks}

told : (post : ℕ → Bor Call → Bool → Type 0) (test : ℕ → Call → Bool) (e : ℕ × Arrival) (answer : Bool) → Answers post e answer
    → ((c : ℕ) (call : Bor Call) (answer : Bool) → post c call answer → answer ≡ test c call.now) → answer ≡ test e.0 e.1.call
told post test e answer given says = says e.0 given.shown answer given.says ∙ ap (λ (call : Call). test e.0 call) given.shows

-- where each answer is that of a function of the client and the call, what is picked is what it finds
pub picks_find : (post : ℕ → Bor Call → Bool → Type 0) (test : ℕ → Call → Bool) (es : List (ℕ × Arrival)) (client : Option ℕ)
    → Picks (Answers post) es client
    → ((c : ℕ) (call : Bor Call) (answer : Bool) → post c call answer → answer ≡ test c call.now)
    → client ≡ option_map (λ e. e.0) (find (λ e. test e.0 e.1.call) es)
picks_find post test [] client picks says = picks
picks_find post test (e ∷ es) client picks says =
    ⊎_elim
    (λ (first : (client ≡ Some e.0) × Answers post e true). rw (sym (told post test e true first.1 says)) first.0)
    (λ (later : Answers post e false × Picks (Answers post) es client). rw (sym (told post test e false later.0 says)) (picks_find post test es client later.1 says))
    picks

-- among those that pass a filter
pub find_filter : (keeps test : ℕ × Arrival → Bool) (es : List (ℕ × Arrival)) → find test (filter keeps es) ≡ find (λ e. keeps e && test e) es
find_filter keeps test [] = refl
find_filter keeps test (e ∷ es) =
    ⊎_elim
    (λ (kept : keeps e ≡ true). rw kept (ap (λ (rest : Option (ℕ × Arrival)). cond (test e) (Some e) rest) (find_filter keeps test es)))
    (λ (left : keeps e ≡ false). rw left (find_filter keeps test es))
    (cases_Bool (keeps e))

-- a test may be asked of each of the calls that wait, where what is true of each gives what the test asks for
pub may_ask : (pre : ℕ → Bor Call → Type 0) (P : ℕ → Call → Type 0) (es : List (ℕ × Arrival)) → AllByRecursion (λ w. P w.client w.call) (waiting es)
    → ((c : ℕ) (call : Bor Call) → P c call.now → pre c call)
    → MayAsk pre es
may_ask pre P [] all says = tt
may_ask pre P (e ∷ es) all says =
    (λ (call : Bor Call) (is : call.now ≡ e.1.call). says e.0 call (subst (λ (k : Call). P e.0 k) (sym is) all.0), may_ask pre P es all.1 says)

-- and of those that wait on an object
pub may_ask_on_object : (pre : ℕ → Bor Call → Type 0) (P : ℕ → Call → Type 0) (kind : Kind) (id : ℕ) (es : List (ℕ × Arrival)) → AllByRecursion (λ w. P w.client w.call) (waiting es)
    → ((c : ℕ) (call : Bor Call) → waits_on kind id call.now ≡ true → P c call.now → pre c call)
    → MayAsk pre (on_object kind id es)
may_ask_on_object pre P kind id [] all says = tt
may_ask_on_object pre P kind id (e ∷ es) all says =
    let rest : MayAsk pre (on_object kind id es) = may_ask_on_object pre P kind id es all.1 says in
    ⊎_elim
    (λ (kept : waits_on kind id e.1.call ≡ true).
    rw kept (
      λ (call : Bor Call) (is : call.now ≡ e.1.call).
          says e.0 call (ap (λ (k : Call). waits_on kind id k) is ∙ kept) (subst (λ (k : Call). P e.0 k) (sym is) all.0),
      rest,
    ))
    (λ (left : waits_on kind id e.1.call ≡ false). rw left rest)
    (cases_Bool (waits_on kind id e.1.call))

-- what is found of clients and calls
find_waiting : (test : Waiting → Bool) (es : List (ℕ × Arrival))
    → find test (waiting es) ≡ option_map (λ e. entry_of e) (find (λ e. test (entry_of e)) es)
find_waiting test [] = refl
find_waiting test (e ∷ es) =
    ⊎_elim
    (λ (here : test (entry_of e) ≡ true). rw here refl)
    (λ (not_here : test (entry_of e) ≡ false). rw not_here (find_waiting test es))
    (cases_Bool (test (entry_of e)))

clients_of : (e : Option (ℕ × Arrival)) → option_map {T = Waiting} {U = ℕ} (λ w. w.client) (option_map (λ e. entry_of e) e) ≡ option_map (λ e. e.0) e
clients_of None = refl
clients_of (Some e) = refl

-- the client of what is found, of either list
pub clients_found : (test : Waiting → Bool) (es : List (ℕ × Arrival)) → option_map (λ e. e.0) (find (λ e. test (entry_of e)) es) ≡ option_map (λ w. w.client) (find test (waiting es))
clients_found test es = sym (ap (λ (w : Option Waiting). option_map (λ v. v.client) w) (find_waiting test es) ∙ clients_of (find (λ e. test (entry_of e)) es))

-- what is picked is what the test finds of clients and calls
pub picks_waiting : (post : ℕ → Bor Call → Bool → Type 0) (test : ℕ → Call → Bool) (es : List (ℕ × Arrival)) (client : Option ℕ)
    → Picks (Answers post) es client
    → ((c : ℕ) (call : Bor Call) (answer : Bool) → post c call answer → answer ≡ test c call.now)
    → client ≡ option_map (λ w. w.client) (find (λ w. test w.client w.call) (waiting es))
picks_waiting post test es client picks says = picks_find post test es client picks says ∙ clients_found (λ w. test w.client w.call) es
