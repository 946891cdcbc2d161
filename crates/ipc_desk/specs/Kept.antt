-- What is kept for clients, a slot for each: the reply that it hasn't been given, if there is one.
use Rattle.std.specs.Prelude.{◌≡◌, ℕ, ◌-◌, Bool, true, false, List, [], ◌∷◌, length, drop, Option, Some, None, Ok, Err, slice_get}
use Rattle.std.specs.List.{list_all}
use Rattle.ipc_call.specs.declared.replies.Answer.TheVariants as answers
use Rattle.ipc_call.specs.declared.replies.Reply.{Reply}
use Rattle.ipc_call.specs.declared.replies.Reply.TheVariants.{Entered}
use Rattle.ipc_model.specs.State.{is_waiting}
use Rattle.ipc_history.specs.History.{History, IsLegal, replies, run}

-- the history of the namespace, the time in seconds of the calls to come, and for each client the reply that is kept for it
pub record DeskState : Type 0 where
  pub history : History
  pub time : ℕ
  pub kept : List (Option Reply)

abbrev pub kept_in : Option (Option Reply) → List Reply
kept_in (Some (Some reply)) = reply ∷ []
kept_in (Some None) = []
kept_in None = []

-- what is kept for a client, as a list of at most one
abbrev pub kept_for : List (Option Reply) → ℕ → List Reply
kept_for slots client = kept_in (slice_get slots client)

-- it is a reply to a call that can wait: a refusal, or the answer of a msgsnd, a semop or a msgrcv
abbrev pub is_of_waiting : Reply → Bool
is_of_waiting (Entered place turn (Err rule)) = true
is_of_waiting (Entered place turn (Ok answers.Done)) = true
is_of_waiting (Entered place turn (Ok (answers.Message mtype text))) = true
is_of_waiting reply = false

-- of a legal history the last reply of a client is kept, or none: one to a call that waited, and none while a call waits
pub record AreKept (h : History) (slots : List (Option Reply)) : Type 0 where
  pub legal : IsLegal h
  pub count : length slots ≡ length h.clients
  pub last : (r : ℕ) → drop (length (replies h r) - length (kept_for slots r)) (replies h r) ≡ kept_for slots r
  pub apart : (r : ℕ) → is_waiting (run h) r ≡ true → kept_for slots r ≡ []
  pub waited : (r : ℕ) → list_all is_of_waiting (kept_for slots r) ≡ true
