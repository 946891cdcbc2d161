-- What a call needs that a client may make, and how much room it takes.
use Rattle.std.proofs.Common.{◌≡◌, ℕ, ◌+◌, ◌^◌, ◌<◌, ◌≤◌, Bool, true, false, List, [], ◌∷◌, ◌++◌, length, refl, sym, ap, ◌∙◌, subst, arith, length-append}
use Rattle.std.specs.Prelude.{◌||◌, nat_lt, not, OnErr, Result, Ok, Err}
use Rattle.std.proofs.lemmas.Bool.{and_parts, not-true, ltb-true, le-ltb, lt-leb}
use Rattle.ipc_call.specs.declared.calls.Call.{Call}
use Rattle.ipc_history.specs.History.{History, IsLegal, run, with_event}
use Rattle.ipc_model.specs.State.{is_waiting}
use Rattle.ipc_server.specs.declared.outputs.Output.{Output}
use Rattle.ipc_server.specs.Held.{Costs, Goes, Held, Outputs}
use Rattle.ipc_server.specs.Making.{applies, event, may_make, others_told, replies_told}
use Rattle.ipc_server.specs.Servers.{Server, state}
use Rattle.ipc_namespace.specs.Wanting.{have_all_come}
use Rattle.ipc_space.proofs.Few.{few_wait}
use Rattle.ipc_space.proofs.Numbers.{next_bounded}

pub may_known : (s : Server) (client : ℕ) → may_make s client ≡ true → client < length s.history.clients
may_known s client may = ltb-true client (length s.history.clients) (and_parts (nat_lt client (length s.history.clients)) (not (is_waiting (state s) client)) may).0

pub may_free : (s : Server) (client : ℕ) → may_make s client ≡ true → is_waiting (run s.history) client ≡ false
may_free s client may = not-true (is_waiting (state s) client) (and_parts (nat_lt client (length s.history.clients)) (not (is_waiting (state s) client)) may).1

-- where there is room for the longest event's rows, memory comes only where the call wants some
pub only_by_call : (wants : Bool) (room waiting : ℕ) → waiting + 2 ≤ room → (wants || nat_lt room (waiting + 2)) ≡ true → wants ≡ true
only_by_call true room waiting enough is = refl
only_by_call false room waiting enough is = sym (le-ltb room (waiting + 2) enough) ∙ is

-- what is so is so where the result is an error
pub if_err : {T E : Type 0} {P : Type 0} (r : Result T E) → P → OnErr r P
if_err (Ok x) p = tt
if_err (Err e) p = p

pub few_waiting : (h : History) → IsLegal h → length h.clients ≤ 4096 → length (run h).parked ≤ 4096
few_waiting h legal few = let waits = few_wait h legal in omega (arith, waits, few)

-- not as many processes have come as there can be
pub few_come : (h : History) → length h.clients ≤ 4096 → length h.events < 2 ^ 63 → have_all_come (run h) ≡ false
few_come h few counted =
    let come = next_bounded h in
    lt-leb (2 ^ 64) ((run h).next + 1) (omega (arith, come, few, counted))

-- the same of a history that is the server's
pub known_of : (s : Server) (h : History) (client : ℕ) → h ≡ s.history → may_make s client ≡ true → client < length h.clients
known_of s h client same may = subst (λ (k : History). client < length k.clients) (sym same) (may_known s client may)

pub free_of : (s : Server) (h : History) (client : ℕ) → h ≡ s.history → may_make s client ≡ true → is_waiting (run h) client ≡ false
free_of s h client same may = subst (λ (k : History). is_waiting (run k) client ≡ false) (sym same) (may_free s client may)

-- a client has made a call, and the connections were told
module _ (now client : ℕ) (call : Call) (old : Held) (s : Server) (given room : ℕ) (outputs : Outputs)
    (view : record { server = s; given = given; room = room; outputs = outputs } ≡ old) where
  pub applied : (h : History) (later left : ℕ) (told : Outputs) → h ≡ with_event s.history (event now client call) → later ≡ given
      → told.list ≡ outputs.list ++ replies_told s.conns s.roles (others_told now client call s)
      → Goes old (record { server = record s { history = h }; given = later; room = left; outputs = told }) (applies now client call)
  applied h later left told event_is given_is told_is = subst (λ (o : Held). Goes o (record { server = record s { history = h }; given = later; room = left; outputs = told }) (applies now client call)) view (record {
    server = ap (λ (k : History). record s { history = k }) event_is;
    outputs = told_is;
    given = given_is;
  })

  pub applied_cost : (h : History) (later left : ℕ) (told : Outputs) → h ≡ with_event s.history (event now client call)
      → room ≤ left + 4098 → outputs.room ≤ told.room + 4096
      → Costs old (record { server = record s { history = h }; given = later; room = left; outputs = told }) 4098 4096
  applied_cost h later left told event_is rows told_most = subst (λ (o : Held). Costs o (record { server = record s { history = h }; given = later; room = left; outputs = told }) 4098 4096) view (record {
    events = let one = ap (λ (k : History). length k.events) event_is ∙ length-append s.history.events (event now client call ∷ []) in omega (arith, one);
    rows = rows;
    outputs = told_most;
  })
