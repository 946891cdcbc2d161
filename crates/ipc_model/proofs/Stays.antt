-- What every object but the one that a grant touches keeps for the calls that wait on it.
use Rattle.std.specs.Prelude.{◌≡◌, ◌≢◌, ℕ, false}
use Rattle.ipc_call.specs.declared.calls.Kind.{Kind}
use Rattle.ipc_call.specs.declared.calls.Kind.TheVariants as kinds
use Rattle.sem_undo.specs.Entries.{adj_of}
use Rattle.ipc_model.specs.State.{State, creds_at, has_exited, process_at}
use Rattle.ipc_model.specs.Messages.{queue_at}
use Rattle.ipc_model.specs.Semaphores.{set_at}

-- the client has ended neither before nor after
abbrev pub AreLiving : State → State → ℕ → Type 0
AreLiving s new c = (has_exited s c ≡ false) × (has_exited new c ≡ false)

-- an object is the same to the calls of other clients that wait on it: of a set they see the semadj of their own processes
-- too. No call waits on a segment
abbrev pub IsSeenAlike : Kind → ℕ → ℕ → State → State → Type 0
IsSeenAlike kinds.Queue id client s new = queue_at new.queues id ≡ queue_at s.queues id
IsSeenAlike kinds.Sems id client s new = (set_at new.sems id ≡ set_at s.sems id)
    × ((c : ℕ) → c ≢ client → AreLiving s new c → (num : ℕ) → adj_of new.sems.undo (process_at s c) id num ≡ adj_of s.sems.undo (process_at s c) id num)
IsSeenAlike kinds.Segment id client s new = Unit {0}

-- all that a call of another client that waits on this object depends on stays: the limits, its client's credentials,
-- its process, and the object; it hasn't ended
pub record Stays (s : State) (client : ℕ) (kind : Kind) (id : ℕ) (new : State) : Type 0 where
  pub limits : new.limits ≡ s.limits
  pub creds : (c : ℕ) → c ≢ client → AreLiving s new c → creds_at new c ≡ creds_at s c
  pub process : (c : ℕ) → c ≢ client → AreLiving s new c → process_at new c ≡ process_at s c
  pub object : IsSeenAlike kind id client s new
