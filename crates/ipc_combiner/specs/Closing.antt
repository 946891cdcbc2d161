-- The close: what each client that is handed in tells of the history at the end.
use Rattle.std.specs.Prelude.{◌≡◌, ◌⊎◌, ℕ, ◌<◌, ◌≤◌, List, [], ◌∷◌, ◌++◌, All}
use Rattle.ipc_call.specs.declared.calls.Call.{Call}
use Rattle.ipc_call.specs.declared.replies.Reply.{Reply}
use Rattle.ipc_history.specs.History.{History}
use Rattle.pub_rule.specs.declared.work.Work.{Work}
use Rattle.pub_rule.specs.declared.work.Stage.TheVariants.{Asking}
use Rattle.pub_rule.specs.Lists.{IsOn}
use Rattle.pub_rule.specs.Work.{GoesOn}
use Rattle.pub_list.specs.Clients as clients_of
use Rattle.ipc_combiner.specs.declared.closing.Client.{Client}
use Rattle.ipc_combiner.specs.declared.closing.Client.TheVariants.{Unjoined, Idle, InFlight}
use Rattle.ipc_combiner.specs.declared.entries.Entry.{Entry}
use Rattle.ipc_combiner.specs.Entries.{own, replies}
use Rattle.ipc_combiner.specs.States.{IsOf, IsUnjoinedOf, Records}

-- whose state it is, and what it knows
abbrev pub number_of : Client → ℕ
number_of (Unjoined c) = c.fresh.client
number_of (Idle c) = c.joined.client
number_of (InFlight c) = c.joined.client

abbrev pub work_of : Client → Work Entry (ℕ × Call) Reply
work_of (Unjoined c) = c.fresh.seat.me.0.work
work_of (Idle c) = clients_of.work c.joined
work_of (InFlight c) = clients_of.work c.joined

abbrev pub IsClientOf : Records → Client → Type 0
IsClientOf list (Unjoined c) = IsUnjoinedOf list c.fresh
IsClientOf list (Idle c) = IsOf list c.joined
IsClientOf list (InFlight c) = IsOf list c.joined

-- the history has these calls of a client, and these replies to it
abbrev pub Has : List Entry → ℕ → List (ℕ × Call) → List Reply → Type 0
Has h client calls got = (own h client ≡ calls) × (replies h client ≡ got)

-- The calls and replies of a client at the end: none where it hasn't joined; those that it entered and got; and of
-- a call in flight also that call, which was entered or not, and where it was, its reply, which came or not
abbrev pub IsKept : List Entry → Client → Type 0
IsKept h (Unjoined c) = Has h c.fresh.client [] []
IsKept h (Idle c) = let w = clients_of.work c.joined in Has h c.joined.client w.entered w.got
IsKept h (InFlight c) = let w = clients_of.work c.joined in
    Has h c.joined.client w.entered w.got ⊎ ((k : ℕ × Call) × (w.stage ≡ Asking c.joined.client k)
    × (Has h c.joined.client (w.entered ++ k ∷ []) w.got
    ⊎ ((x : Reply) × Has h c.joined.client (w.entered ++ k ∷ []) (w.got ++ x ∷ []))))

-- one of the clients has this number, and began to combine, be it to serve or to take rows
abbrev pub HasBegun : ℕ → List Client → Type 0
HasBegun r [] = ⊥
HasBegun r (c ∷ cs) = ((number_of c ≡ r) × (1 ≤ (work_of c).begun)) ⊎ HasBegun r cs

-- the history at the end goes on from that which the client saw, and keeps its calls and replies; whom it found to
-- combine has begun to
pub record IsTold (h : List Entry) (clients : List Client) (c : Client) : Type 0 where
  pub saw : GoesOn (work_of c).seen h
  pub kept : IsKept h c
  pub met : (r : ℕ) → IsOn r (work_of c).met → HasBegun r clients

-- a history with this opening, whose events are of its clients
abbrev pub IsOpenedBy : History → ℕ → History → Type 0
IsOpenedBy o n h = (h.limits ≡ o.limits) × (h.clients ≡ o.clients) × All (λ e. e.client < n) h.events
