-- What a call comes to that was made.
use Rattle.std.proofs.Common.{◌≡◌, ℕ, ◌+◌, Bool, true, false, List, [], ◌∷◌, ◌++◌, length, refl, sym, Option, Some, None, Ok, Err}
use Rattle.std.specs.Prelude.{IfOk, IfSome, nat_le, if◌then◌else◌}
use Rattle.std.proofs.lemmas.Option.{none-some}
use Rattle.ipc_call.specs.declared.calls.Call.{Call}
use Rattle.ipc_call.specs.declared.replies.Reply.{Reply}
use Rattle.ipc_model.specs.Decide.{can_wait}
use Rattle.ipc_model.specs.Decision.{Outcome}
use Rattle.ipc_model.specs.State.{is_waiting}
use Rattle.ipc_model.specs.Step.{Event}
use Rattle.ipc_history.specs.History.{History, IsLegal, next_step, run, with_event}
use Rattle.ipc_space.specs.Answers.{can_give}
use Rattle.ipc_space.specs.Spaces.{other_replies, own_reply}
use Rattle.ipc_space.specs.Telling.{replies_in}
use Rattle.ipc_space.proofs.Answering.{own_answer, who_waits}
use Rattle.call_values.specs.declared.failure.Failure.{Failure}
use Rattle.call_values.specs.declared.failure.Failure.TheVariants.{NoClient, Waiting}
use Rattle.ipc_desk.specs.Desks.{Comes, IsMade, answer_told, hindrance_of, untaken}
use Rattle.ipc_desk.specs.Kept.{AreKept, DeskState, kept_for}
use Rattle.ipc_desk.proofs.Given.{given-after}

free-of : (a b : Bool) (ks : List Reply) → (if a then Some NoClient else if b then Some Waiting else untaken ks) ≡ None → ks ≡ []
free-of true b ks is = absurd (none-some NoClient (sym is))
free-of false true ks is = absurd (none-some Waiting (sym is))
free-of false false [] is = refl
free-of false false (k ∷ ks) is = absurd (none-some _ (sym is))

-- for a client that can call nothing is kept
pub free-none : (d : DeskState) (client : ℕ) → hindrance_of d client ≡ None → kept_for d.kept client ≡ []
free-none d client is = free-of (nat_le (length d.history.clients) client) (is_waiting (run d.history) client) (kept_for d.kept client) is

module _ (old new : DeskState) (client : ℕ) (call : Call) where
  comes : (o : Option Outcome) (place : ℕ) → IsMade old new client call o → Comes old new client call (answer_told (own_reply place o))
  comes None place made = made
  comes (Some (Ok answer)) place made = made
  comes (Some (Err rule)) place made = made

module _ (h : History) (time : ℕ) (slots later : List (Option Reply)) (client : ℕ) (call : Call) where
  abbrev pub called : Event
  called = record { client = client; now = time; call = call }

  abbrev pub before : DeskState
  before = record { history = h; time = time; kept = slots }

  pub came : IsLegal (with_event h called) → AreKept h slots → hindrance_of before client ≡ None
      → ((r : ℕ) → kept_for later r ≡ kept_for slots r ++ replies_in (other_replies (length h.events + 1) (next_step h called).ended) r)
      → Comes before (record { history = with_event h called; time = time; kept = later }) client call (answer_told (own_reply (length h.events + 1) (next_step h called).own))
  came legal kept free now = comes before (record { history = with_event h called; time = time; kept = later }) client call (next_step h called).own (length h.events + 1) (record {
    free = free;
    own = refl;
    history = refl;
    time = refl;
    given = given-after h called (length h.events + 1) refl legal slots kept (free-none before client free) later now;
  })

gives : (h : History) (e : Event) (place : ℕ) (o : Option Outcome) → (next_step h e).own ≡ o → IfOk (answer_told (own_reply place o)) (λ answer. IfSome answer (λ a. can_give e.call a ≡ true))
gives h e place None is = tt
gives h e place (Some (Ok answer)) is = own_answer h e answer is
gives h e place (Some (Err rule)) is = tt

waits : (h : History) (e : Event) (place : ℕ) (o : Option Outcome) → (next_step h e).own ≡ o → IfOk (answer_told (own_reply place o)) (λ answer. answer ≡ None → can_wait e.call ≡ true)
waits h e place None is = λ none. who_waits h e is
waits h e place (Some (Ok answer)) is = λ none. absurd (none-some answer (sym none))
waits h e place (Some (Err rule)) is = tt

-- the answer is one of the call's, and one that waits can
pub answer_gives : (h : History) (e : Event) (place : ℕ) → IfOk (answer_told (own_reply place (next_step h e).own)) (λ answer. IfSome answer (λ a. can_give e.call a ≡ true))
answer_gives h e place = gives h e place (next_step h e).own refl

pub none_waits : (h : History) (e : Event) (place : ℕ) → IfOk (answer_told (own_reply place (next_step h e).own)) (λ answer. answer ≡ None → can_wait e.call ≡ true)
none_waits h e place = waits h e place (next_step h e).own refl
