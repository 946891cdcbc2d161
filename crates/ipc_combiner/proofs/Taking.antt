-- What comes of it where rows of the journal are asked for, and that parts of it join up.
use Rattle.std.proofs.Common.{◌≡◌, ℕ, zero, suc, ◌+◌, List, [], ◌∷◌, ◌++◌, drop, length, refl, sym, ap, ◌∙◌, subst, arith, Result, Ok, Err}
use Rattle.std.proofs.Math.Seq.{drop-append_seam}
use Rattle.std.specs.Global.{Vec}
use Rattle.ipc_call.specs.declared.calls.Call.{Call}
use Rattle.ipc_call.specs.declared.replies.JournalRow.{JournalRow}
use Rattle.ipc_call.specs.declared.replies.Reply.{Reply}
use Rattle.ipc_model.specs.State.{opening}
use Rattle.ipc_model.specs.Step.{Event}
use Rattle.ipc_history.specs.History.{rows_from, run_from}
use Rattle.ipc_space.proofs.Histories.{rows_from-append}
use Rattle.pub_rule.specs.declared.served.Served.{Ghosts}
use Rattle.pub_rule.specs.Work.{GoesOn}
use Rattle.pub_list.specs.declared.joined.Joined.{Joined}
use Rattle.ipc_combiner.specs.declared.entries.Entry.{Entry}
use Rattle.ipc_combiner.specs.declared.entries.Entry.TheVariants.{Opened, Called}
use Rattle.ipc_combiner.specs.declared.entries.Keeping.{Keeping}
use Rattle.ipc_combiner.specs.declared.entries.Keeping.TheVariants.{Whole, UntilTaken, Nothing}
use Rattle.ipc_combiner.specs.declared.parts.Untaken.{Untaken}
use Rattle.ipc_combiner.specs.declared.parts.Untaken.TheVariants.{Busy, Elsewhere, NoParts}
use Rattle.ipc_combiner.specs.declared.shared.Shared.{Shared}
use Rattle.ipc_combiner.specs.Entries.{events_in}
use Rattle.ipc_combiner.specs.Parts.{journal_of, HasHeld, Takes, TriedToTake}
use Rattle.ipc_combiner.specs.States.{Records, keeping}

abbrev is_busy : Result (Vec JournalRow) Untaken → Type 0
is_busy (Err (Busy c)) = Unit {0}
is_busy _ = ⊥

-- who holds the journal met nobody
never-busy : (k : Keeping) (h : List Entry) (from c : ℕ) → Takes k h from (Err (Busy c)) → ⊥
never-busy UntilTaken h from c takes = takes
never-busy Whole h from c takes = subst is_busy takes tt
never-busy Nothing h from c takes = subst is_busy takes tt

module _ {g : Ghosts Shared Entry (ℕ × Call) Reply} (list : Records) (v w : Joined Shared Entry (ℕ × Call) Reply g) (from : ℕ) where
  pub tried : (result : Result (Vec JournalRow) Untaken) → HasHeld list v w from result → TriedToTake list v w from result
  tried (Ok rows) held = held
  tried (Err (Elsewhere given)) held = held
  tried (Err NoParts) held = held
  tried (Err (Busy c)) held = absurd (never-busy (keeping list) held.history from c held.takes)

-- the part of a list from some element on, and what comes behind that part in a longer list
joins : {X : Type 0} (a b : List X) (n : ℕ) → drop n a ++ drop (n + length (drop n a)) (a ++ b) ≡ drop n (a ++ b)
joins a b zero = let none : 0 + length a ≡ length a = omega arith in
    ap (λ m. a ++ drop m (a ++ b)) none ∙ ap (λ (l : List _). a ++ l) (drop-append_seam a b)
joins [] b (suc n) = let same : suc n + 0 ≡ suc n = omega arith in ap (λ m. drop m b) same
joins (x ∷ a) b (suc n) = let k = length (drop n a) in let same : suc n + k ≡ suc (n + k) = omega arith in
    ap (λ m. drop n a ++ drop m (x ∷ a ++ b)) same ∙ joins a b n

events-append : (a b : List Entry) → events_in (a ++ b) ≡ events_in a ++ events_in b
events-append [] b = refl
events-append (Opened limits clients keeping ∷ a) b = events-append a b
events-append (Called client now call ∷ a) b = ap (λ (l : List Event). record { client = client; now = now; call = call } ∷ l) (events-append a b)

-- the journal of a history is the beginning of that of each history that goes on from it
grows : (h more : List Entry) → (rows : List JournalRow) × (journal_of (h ++ more) ≡ journal_of h ++ rows)
grows [] more = (journal_of more, refl)
grows (Called client now call ∷ es) more = ([], refl)
grows (Opened limits clients keeping ∷ es) more = let s = opening limits clients in (
  rows_from (length (events_in es) + 1) (run_from s (events_in es)) (events_in more),
  ap (rows_from 1 s) (events-append es more) ∙ rows_from-append 1 s (events_in es) (events_in more),
)

pub parts_join : (h k : List Entry) → GoesOn h k → (from : ℕ) (part next : List JournalRow) → part ≡ drop from (journal_of h)
    → next ≡ drop (from + length part) (journal_of k) → part ++ next ≡ drop from (journal_of k)
parts_join h k goes from part next is follows =
    let more = grows h goes.0 in
    let longer : journal_of k ≡ journal_of h ++ more.0 = ap journal_of goes.1 ∙ more.1 in
    let behind : next ≡ drop (from + length (drop from (journal_of h))) (journal_of h ++ more.0) =
    follows ∙ ap (λ (p : List JournalRow). drop (from + length p) (journal_of k)) is ∙ ap (drop (from + length (drop from (journal_of h)))) longer in
    ap (λ (p : List JournalRow). p ++ next) is ∙ ap (λ (n : List JournalRow). drop from (journal_of h) ++ n) behind
    ∙ joins (journal_of h) more.0 from ∙ ap (drop from) (sym longer)
