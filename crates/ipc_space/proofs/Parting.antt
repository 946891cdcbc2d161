-- What is left to say where rows part from a journal.
use Rattle.std.proofs.Common.{◌≡◌, ℕ, ◌≤◌, List, length, take, sym, ap, ◌∙◌, subst, arith, Option}
use Rattle.std.specs.Prelude.{slice_get, IfSome}
use Rattle.std.proofs.lemmas.List.{length-take, take-take}
use Rattle.std.proofs.lemmas.Option.{slice_get_past}
use Rattle.ipc_call.specs.declared.limits.Limits.{Limits}
use Rattle.ipc_call.specs.declared.replies.JournalRow.{JournalRow}
use Rattle.ipc_creds.specs.Credentials.{Credentials}
use Rattle.ipc_model.specs.State.{opening}
use Rattle.ipc_model.specs.Step.{Event}
use Rattle.ipc_history.specs.History.{History, IsLegalAt, run, with_event}
use Rattle.ipc_space.specs.Following.{IsAnswered}
use Rattle.ipc_space.specs.Replays.{IsHistoryOf}
use Rattle.ipc_space.proofs.Histories.{legal-push}

-- a history with one more event that may come
pub longer-known : (limits : Limits) (clients : List Credentials) (h : History) (e : Event) → IsHistoryOf limits clients h → IsLegalAt (run h) e → IsHistoryOf limits clients (with_event h e)
longer-known limits clients h e of legal = record { limited = of.limited; known = of.known; legal = legal-push (opening h.limits h.clients) h.events e of.legal legal }

-- the first so many rows are theirs, and there are no more
module _ (rows journal : List JournalRow) (n : ℕ) (is : journal ≡ take n rows) where
  pub taken_again : take n journal ≡ take n rows
  taken_again = ap (take n) is ∙ take-take n n rows (omega arith)

  few : length journal ≤ n
  few = omega (arith, ap length is, length-take n rows)

  pub nothing_behind : IfSome (slice_get journal n) (λ row. IsAnswered row)
  nothing_behind = subst (λ (o : Option JournalRow). IfSome o (λ row. IsAnswered row)) (sym (slice_get_past journal n few)) tt
