-- How a client serves the namespace: what one more call tells, and what of it is still to be handed out.
use Rattle.std.specs.Prelude.{◌≡◌, ◌⊎◌, ℕ, ◌<◌, List, [], ◌∷◌, ◌++◌, length, Option, Some, None, All, box_value}
use Rattle.ipc_call.specs.declared.calls.Call.{Call}
use Rattle.ipc_call.specs.declared.replies.Reply.{Reply}
use Rattle.ipc_model.specs.Step.{Event}
use Rattle.ipc_history.specs.History.{History, IsLegal, rows_of, with_event}
use Rattle.ipc_space.specs.Spaces.{Parts}
use Rattle.ipc_space.specs.Telling.{replies_of, replies_in}
use Rattle.pub_rule.specs.declared.walk.View.{View}
use Rattle.pub_rule.specs.declared.work.Work.{Work}
use Rattle.pub_rule.specs.Lists.{IsOn}
use Rattle.pub_list.specs.Combining.{IsCombining}
use Rattle.pub_list.specs.Passing.{IsServing}
use Rattle.ipc_combiner.specs.declared.entries.Entry.{Entry}
use Rattle.ipc_combiner.specs.declared.entries.Keeping.{Keeping}
use Rattle.ipc_combiner.specs.declared.entries.Keeping.TheVariants.{Whole, UntilTaken, Nothing}
use Rattle.ipc_combiner.specs.declared.shared.Shared.{Shared}
use Rattle.ipc_combiner.specs.Entries.{entries_of, legal, replies}

-- what a client of the service knows
abbrev pub Knowledge : Type 0
Knowledge = View (Work Entry (ℕ × Call) Reply)

-- the history of the shared namespace
abbrev pub history_of : Shared → History
history_of state = (box_value state.ledger).history

-- the entries that the shared namespace means
abbrev pub entries_in : Shared → List Entry
entries_in state = entries_of state.keeping (history_of state)

-- how many rows of a journal were handed out once an event has ended, by what is kept of it
abbrev pub given_after : Keeping → Parts → ℕ
given_after Whole l = l.given
given_after UntilTaken l = l.given
given_after Nothing l = length (rows_of l.history)

-- who is told what by an event: its own client first, where its call doesn't wait
abbrev pub told_list : ℕ → Option Reply → List (ℕ × Reply) → List (ℕ × Reply)
told_list client None others = others
told_list client (Some reply) others = (client, reply) ∷ others

-- one more event, this call, has entered, and tells this; its client is none of the others that it tells
abbrev pub HasEntered : ℕ → ℕ → Call → History → History → Option Reply → List (ℕ × Reply) → Type 0
HasEntered client now call h k mine others =
    let e : Event = record { client = client; now = now; call = call } in
    (k ≡ with_event h e) × IsLegal k × (replies_of h e ≡ told_list client mine others) × (replies_in others client ≡ [])

-- it has answered the own call of the last event, and has still to hand out the rest of what the event tells: each
-- client was handed its reply, or all that it is told is among the rest
pub record IsHanding (n : ℕ) (v : Knowledge) (state : Shared) (rest : List (ℕ × Reply)) : Type 0 where
  pub combines : IsCombining v
  pub seen : entries_in state ≡ v.work.seen
  pub before : History
  pub event : Event
  pub keeping : Keeping
  pub was : v.work.before ≡ entries_of keeping before
  pub is : v.work.seen ≡ entries_of keeping (with_event before event)
  pub is_legal : IsLegal (with_event before event)
  pub known : All (λ t. t.0 < n) rest
  pub each : (r : ℕ) → r < n → (IsOn r v.work.paid × (replies_in rest r ≡ []))
      ⊎ ((¬ IsOn r v.work.paid) × (replies_in rest r ≡ replies_in (replies_of before event) r))

-- the last event told a client this alone, and that wasn't handed it yet
abbrev pub OwesReply : Knowledge → Shared → ℕ → Reply → Type 0
OwesReply v state other reply = IsCombining v × (entries_in state ≡ v.work.seen)
    × (replies v.work.seen other ≡ replies v.work.before other ++ reply ∷ []) × (¬ IsOn other v.work.paid)

-- the marks stay as they were, and so does what is known of the list
abbrev pub HasKept : Knowledge → Knowledge → Type 0
HasKept v w = (w.work.passed ≡ v.work.passed) × (w.work.past ≡ v.work.past) × (w.work.begun ≡ v.work.begun)
    × (w.work.heard ≡ v.work.heard) × (w.work.met ≡ v.work.met) × (w.walk ≡ v.walk)

-- it combines over the namespace, has taken no record, and owes nobody a reply
abbrev pub Serves : ℕ → Knowledge → Shared → Type 0
Serves n = IsServing entries_in legal replies n
