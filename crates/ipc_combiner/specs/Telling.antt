-- What one client tells another. The client is v before the call and w after it, and the other is o.
use Rattle.std.specs.Prelude.{◌≡◌, ℕ, ◌∷◌, ◌++◌}
use Rattle.ipc_call.specs.declared.calls.Call.{Call}
use Rattle.ipc_call.specs.declared.replies.Reply.{Reply}
use Rattle.pub_rule.specs.declared.served.Served.{Ghosts}
use Rattle.pub_rule.specs.Work.{GoesOn}
use Rattle.pub_list.specs.declared.joined.Joined.{Joined}
use Rattle.pub_list.specs.Clients.{view, work}
use Rattle.pub_list.specs.Learning.{Learns}
use Rattle.pub_list.specs.Passing.{IsAsFar}
use Rattle.ipc_combiner.specs.declared.entries.Entry.{Entry}
use Rattle.ipc_combiner.specs.declared.shared.Shared.{Shared}
use Rattle.ipc_combiner.specs.Entries.{legal, own, replies}
use Rattle.ipc_combiner.specs.States.{IsOf, Records}

module _ {g : Ghosts Shared Entry (ℕ × Call) Reply} where
  -- It is as far as it was with its own call. It sees a legal history, which goes on from the one that it saw and
  -- from the one that the other saw. It heard of the other's last post, and knows which posts the other knows to be
  -- passed, behind all that it knew
  pub record HasLearnt (v o w : Joined Shared Entry (ℕ × Call) Reply g) : Type 0 where
    pub learns : Learns legal own replies v o w
    pub far : IsAsFar (view v) (view w)
    pub goes_on : GoesOn (work o).seen (work w).seen
    pub is_legal : legal (work w).seen
    pub heard : (work w).heard ≡ record { client = o.client; post = (work o).posts } ∷ (work v).heard
    pub passed : (work w).passed ≡ (work o).passed ++ (work v).passed
    pub begun : (work w).begun ≡ (work v).begun
    pub met : (work w).met ≡ (work v).met

  -- the two are clients of this service
  abbrev pub AreOf : Records → Joined Shared Entry (ℕ × Call) Reply g → Joined Shared Entry (ℕ × Call) Reply g → Type 0
  AreOf list v o = IsOf list v × IsOf list o

  -- the same client of the service, which knows what it knew
  abbrev pub HasTold : Records → Joined Shared Entry (ℕ × Call) Reply g
      → Joined Shared Entry (ℕ × Call) Reply g → Type 0
  HasTold list old new = IsOf list new × (new.client ≡ old.client) × (view new ≡ view old)

  -- of two clients of the service the first has learnt from the second: it was v and is w, and the second is p now
  abbrev pub LearnsFrom : Records → (v o w p : Joined Shared Entry (ℕ × Call) Reply g) → Type 0
  LearnsFrom list v o w p = IsOf list w × (w.client ≡ v.client) × HasLearnt v o w × HasTold list o p
