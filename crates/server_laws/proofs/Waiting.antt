-- What an event makes of the calls that wait: each that waited waits on, or is told.
use Rattle.std.proofs.Common.{◌≡◌, ℕ, ◌+◌, ◌≤◌, Bool, true, false, List, [], ◌∷◌, Option, Some, None, length, refl, sym, ap, ◌∙◌, arith, map}
use Rattle.std.specs.Prelude.{◌==◌, nat_lt, not}
use Rattle.std.specs.List.{AllByRecursion, list_any}
use Rattle.std.proofs.lemmas.Bool.{and_parts, false≢true, ltb-true, not-true, true≢false, eqb-true, eq-eqb}
use Rattle.ipc_call.specs.declared.calls.Call.{Call}
use Rattle.ipc_call.specs.declared.replies.Completion.{Completion}
use Rattle.ipc_call.specs.declared.replies.Waiting.{Waiting}
use Rattle.ipc_history.specs.History.{History, IsLegal, IsLegalAt, ReplyTo, replies_to_ended, reply_of, run}
use Rattle.ipc_model.specs.Decide.{can_wait}
use Rattle.ipc_model.specs.Decision.{Outcome}
use Rattle.ipc_model.specs.Step.{is_ready}
use Rattle.ipc_model.proofs.Turning.{living-waits}
use Rattle.ipc_model.specs.State.{State, has_exited, is_waiting, opening}
use Rattle.ipc_server.specs.Making.{event, made, may_make, result}
use Rattle.ipc_server.specs.Servers.{Server, state}
use Rattle.ipc_space.proofs.Answering.{who_waits}
use Rattle.ipc_space.proofs.Balance.{balanced, caller-apart, ends_of, even-step, even_run, own_told, waits_of}
use Rattle.ipc_space.proofs.Histories.{clients-run, legal-push, run_from-push}
use Rattle.ipc_space.proofs.Once.{apart-run}
use Rattle.ipc_space.proofs.Permitted.{run_not_ready}
use Rattle.ipc_space.specs.Telling.{replies_in}
use Rattle.server_laws.proofs.Counts.{one}

waits_is : (h : History) (r : ℕ) → IsLegal h → waits_of r (run h).parked ≡ one (is_waiting (run h) r)
waits_is h r legal = let even = even_run h r legal in let all = balanced h r legal in omega (arith, even, all)

-- whose thread has ended waits for nothing
none_of : (s : State) (r : ℕ) → has_exited s r ≡ true → (ws : List Waiting) → AllByRecursion (λ w. is_ready s w ≡ false) ws → list_any (λ w. w.client == r) ws ≡ false
none_of s r ended [] waits = refl
none_of s r ended (w ∷ ws) waits = by (w.client == r) refl (none_of s r ended ws waits.1)
  where
    by : (b : Bool) → (w.client == r) ≡ b → list_any (λ v. v.client == r) ws ≡ false → list_any (λ v. v.client == r) (w ∷ ws) ≡ false
    by true same rest = absurd (true≢false (sym ended ∙ ap (λ (k : ℕ). has_exited s k) (sym (eqb-true w.client r same)) ∙ living-waits s w.client w.call waits.0))
    by false other rest = rw other rest

pub ended_idle : (h : History) (r : ℕ) → has_exited (run h) r ≡ true → is_waiting (run h) r ≡ false
ended_idle h r ended = none_of (run h) r ended (run h).parked (run_not_ready h)

-- how often a client is told
told_times : (r place turn : ℕ) (es : List Completion) → length (replies_in (map (λ (reply : ReplyTo). (reply.client, reply_of reply)) (replies_to_ended place turn es)) r) ≡ ends_of r es
told_times r place turn [] = refl
told_times r place turn (e ∷ es) = by (e.client == r) refl (told_times r place (turn + 1) es)
  where
    by : (b : Bool) → (e.client == r) ≡ b → length (replies_in (map (λ (reply : ReplyTo). (reply.client, reply_of reply)) (replies_to_ended place (turn + 1) es)) r) ≡ ends_of r es
        → length (replies_in (map (λ (reply : ReplyTo). (reply.client, reply_of reply)) (replies_to_ended place turn (e ∷ es))) r) ≡ ends_of r (e ∷ es)
    by true same rest = rw same (omega (arith, rest))
    by false other rest = rw other (omega (arith, rest))

module _ (s : Server) (now client : ℕ) (call : Call) (legal : IsLegal s.history) (may : may_make s client ≡ true) where
  abbrev h : History
  h = s.history

  abbrev t : Server
  t = made now client call s

  abbrev ended : List Completion
  ended = (result now client call s).ended

  at : IsLegalAt (run h) (event now client call)
  at =
      let parts = and_parts (nat_lt client (length h.clients)) (not (is_waiting (state s) client)) may in
      let known = ltb-true client (length h.clients) parts.0 in
      let many = clients-run (opening h.limits h.clients) h.events in
      record { known = omega (arith, known, many); free = not-true (is_waiting (state s) client) parts.1 }

  pub legal_made : IsLegal t.history
  legal_made = legal-push (opening h.limits h.clients) h.events (event now client call) legal at

  pub state_made : state t ≡ (result now client call s).state
  state_made = run_from-push (opening h.limits h.clients) h.events (event now client call)

  pub even_made : (r : ℕ) → one (is_waiting (state t) r) + (own_told r client (result now client call s).own + ends_of r ended) ≡ one (is_waiting (state s) r) + one (client == r)
  even_made r =
      let even = even-step r (run h) (event now client call) at (apart-run h legal) in
      let before = waits_is h r legal in
      let later = waits_is t.history r legal_made in
      let same = ap (λ (u : State). waits_of r u.parked) state_made in
      omega (arith, even, before, later, same)

  -- of a call that can't wait
  pub even_others : can_wait call ≡ false → (r : ℕ) → one (is_waiting (state t) r) + ends_of r ended ≡ one (is_waiting (state s) r)
  even_others never r = by (result now client call s).own refl
    where
      by : (o : Option Outcome) → (result now client call s).own ≡ o → one (is_waiting (state t) r) + ends_of r ended ≡ one (is_waiting (state s) r)
      by None is = absurd (false≢true (sym never ∙ who_waits h (event now client call) is))
      by (Some o) is =
          let even = even_made r in
          let told = ap (own_told r client) is in
          omega (arith, even, told)

  -- and of any for the other clients
  pub even_other : (r : ℕ) → (client == r) ≡ false → one (is_waiting (state t) r) + ends_of r ended ≡ one (is_waiting (state s) r)
  even_other r apart = by (result now client call s).own refl
    where
      none : one (client == r) ≡ 0
      none = ap one apart

      by : (o : Option Outcome) → (result now client call s).own ≡ o → one (is_waiting (state t) r) + ends_of r ended ≡ one (is_waiting (state s) r)
      by None is = let even = even_made r in let told = ap (own_told r client) is in omega (arith, even, told, none)
      by (Some o) is = let even = even_made r in let told = ap (own_told r client) is in omega (arith, even, told, none)

  -- nobody is told of its own call among the others, and it waits where it isn't answered
  pub own_apart : ends_of client ended ≡ 0
  own_apart =
      let told = told_times client (length h.events + 1) 1 ended in
      let none = ap length (caller-apart h (event now client call) (length h.events + 1) legal_made) in
      omega (arith, told, none)

  idle_before : is_waiting (state s) client ≡ false
  idle_before = at.free

  pub own_waits : (result now client call s).own ≡ None → is_waiting (state t) client ≡ true
  own_waits is = by (is_waiting (state t) client) refl
    where
      by : (b : Bool) → is_waiting (state t) client ≡ b → is_waiting (state t) client ≡ true
      by true waits = waits
      by false idle =
          let even = even_made client in
          let told = ap (own_told client client) is in
          let none = own_apart in
          let here = ap one (eq-eqb client client refl) in
          let was = ap one idle_before in
          let now_idle = ap one idle in
          absurd (omega (arith, even, told, none, here, was, now_idle))

  pub own_answered : (o : Outcome) → (result now client call s).own ≡ Some o → is_waiting (state t) client ≡ false
  own_answered o is = by (is_waiting (state t) client) refl
    where
      by : (b : Bool) → is_waiting (state t) client ≡ b → is_waiting (state t) client ≡ false
      by false idle = idle
      by true waits =
          let even = even_made client in
          let told = ap (own_told client client) is in
          let here = ap one (eq-eqb client client refl) in
          let was = ap one idle_before in
          let now_waits = ap one waits in
          absurd (omega (arith, even, told, here, was, now_waits))

one_false : (b : Bool) → one b ≡ 0 → b ≡ false
one_false true is = absurd (omega (arith, is))
one_false false is = refl

pub one_true : (b : Bool) → 1 ≤ one b → b ≡ true
one_true true is = refl
one_true false is = absurd (omega (arith, is))

-- who doesn't wait doesn't wait after a call that can't
pub idle_applied : (s : Server) (now client : ℕ) (call : Call) → IsLegal s.history → may_make s client ≡ true → can_wait call ≡ false → (r : ℕ) → is_waiting (state s) r ≡ false
    → is_waiting (state (made now client call s)) r ≡ false
idle_applied s now client call legal may never r idle =
    let even = even_others s now client call legal may never r in
    let was = ap one idle in
    one_false (is_waiting (state (made now client call s)) r) (omega (arith, even, was))
