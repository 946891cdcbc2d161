-- What a client's calls tell. It knew v before a call, and knows w after it.
use Rattle.std.specs.Prelude.{◌≡◌, ◌≢◌, ℕ, ◌<◌, ◌≤◌, List, [], ◌∷◌, ◌++◌}
use Rattle.ipc_call.specs.declared.calls.Call.{Call}
use Rattle.ipc_call.specs.declared.replies.Reply.{Reply}
use Rattle.ipc_call.specs.declared.replies.Reply.TheVariants.{Entered, Memory}
use Rattle.pub_rule.specs.declared.served.Served.{Ghosts}
use Rattle.pub_rule.specs.declared.work.Work.{Work}
use Rattle.pub_rule.specs.declared.work.Stage.TheVariants as stages
use Rattle.pub_rule.specs.Lists.{IsOn}
use Rattle.pub_rule.specs.Work.{GoesOn, IsMarked}
use Rattle.pub_rule.specs.WorkSteps.{answered, meeting, refused, seeing}
use Rattle.pub_list.specs.declared.joined.Joined.{Joined}
use Rattle.pub_list.specs.declared.records.WordState.{WordState}
use Rattle.pub_list.specs.declared.records.WordState.TheVariants as words
use Rattle.pub_list.specs.Clients.{view, work, told}
use Rattle.pub_list.specs.Passing.{HasPassed, HasToldGate, IsAsFar, KeepsMarks}
use Rattle.pub_list.specs.Records.{number_of, Shows}
use Rattle.ipc_combiner.specs.declared.entries.Entry.{Entry}
use Rattle.ipc_combiner.specs.declared.shared.Shared.{Shared}
use Rattle.ipc_combiner.specs.declared.calls.Pass.{Pass}
use Rattle.ipc_combiner.specs.declared.calls.Pass.TheVariants.{Passed, Busy}
use Rattle.ipc_combiner.specs.declared.calls.Polled.{Polled}
use Rattle.ipc_combiner.specs.declared.calls.Polled.TheVariants.{Done, Still}
use Rattle.ipc_combiner.specs.declared.calls.Seen.{Seen}
use Rattle.ipc_combiner.specs.declared.calls.Seen.TheVariants.{Posted, Taken, Parked}
use Rattle.ipc_combiner.specs.Entries.{legal, own, replies}
use Rattle.ipc_combiner.specs.States.{IsOf, Records}

abbrev pub word_of : Seen → WordState
word_of Posted = words.Posted
word_of Taken = words.Taken
word_of Parked = words.Parked

-- Its call ended. By a reply: the history that it sees now goes on from the one that it saw, and has its call and
-- this reply behind those before. Where memory was refused it has neither
abbrev pub HasDone : ℕ → Work Entry (ℕ × Call) Reply → Work Entry (ℕ × Call) Reply → Reply → Type 0
HasDone client v w (Entered place turn outcome) = (c : ℕ × Call) × (h : List Entry) × (v.stage ≡ stages.Asking client c)
    × GoesOn v.seen h × legal h × (own h client ≡ v.entered ++ c ∷ [])
    × (replies h client ≡ v.got ++ Entered place turn outcome ∷ [])
    × (w ≡ answered client c (Entered place turn outcome) h v)
HasDone client v w Memory = (h : List Entry) × GoesOn v.seen h × legal h × (own h client ≡ v.entered)
    × (replies h client ≡ v.got) × (w ≡ refused client h v)

-- It is as far with its own call as it was, sees a history that goes on from the one that it saw, and has lost
-- nothing that it knew; it may have begun to combine once more, or met others that do
pub record IsFurther (v u : Work Entry (ℕ × Call) Reply) : Type 0 where
  pub stage : u.stage ≡ v.stage
  pub posts : u.posts ≡ v.posts
  pub entered : u.entered ≡ v.entered
  pub got : u.got ≡ v.got
  pub seen : GoesOn v.seen u.seen
  pub heard : u.heard ≡ v.heard
  pub passed : (r k : ℕ) → IsMarked r k v.passed → IsMarked r k u.passed
  pub begun : v.begun ≤ u.begun
  pub met : (r : ℕ) → IsOn r v.met → IsOn r u.met

-- Its call was in flight when it knew v, and has ended. In between it looked and tried to combine, and came to know u
abbrev pub HasCalled : ℕ → Work Entry (ℕ × Call) Reply → Work Entry (ℕ × Call) Reply → Reply → Type 0
HasCalled client v w reply = (u : Work Entry (ℕ × Call) Reply) × IsFurther v u × HasDone client u w reply

-- Its call is in flight, and its word tells this: where it is parked, or isn't answered though a combiner is known
-- to have dealt with it, it waits in the history that is seen
abbrev pub IsStill : ℕ → Work Entry (ℕ × Call) Reply → Work Entry (ℕ × Call) Reply → Seen → Type 0
IsStill client v w seen = (h : List Entry) × GoesOn v.seen h × legal h
    × (w ≡ seeing h (number_of (word_of seen)) v) × Shows own replies client h v (word_of seen) v.stage

module _ {g : Ghosts Shared Entry (ℕ × Call) Reply} where
  abbrev pub IsPolled : Records → Joined Shared Entry (ℕ × Call) Reply g → Polled → Type 0
  IsPolled list v (Done idle reply) = IsOf list idle.joined × (idle.joined.client ≡ v.client)
      × HasDone v.client (work v) (work idle.joined) reply
  IsPolled list v (Still flight seen) = IsOf list flight.joined × (flight.joined.client ≡ v.client)
      × IsStill v.client (work v) (work flight.joined) seen

  -- It passed: it visited each record on the list once, so dealt with each post that it had heard of and with its own
  -- call, and sees a legal history. Or another client combined, and nothing else has changed
  abbrev pub HasCombined : Records → Joined Shared Entry (ℕ × Call) Reply g → Joined Shared Entry (ℕ × Call) Reply g
      → Pass → Type 0
  HasCombined list v w Passed = HasPassed list.clients v.client (view v) (view w) × IsAsFar (view v) (view w)
      × KeepsMarks (view v) (view w) × (told w ≡ told v) × legal (work w).seen
  HasCombined list v w (Busy c) = (c < list.clients) × (c ≢ v.client) × (work w ≡ meeting c (work v))
      × (told w ≡ told v)

  -- it tried to combine, and is the same client of the service
  abbrev pub HasTried : Records → Joined Shared Entry (ℕ × Call) Reply g → Joined Shared Entry (ℕ × Call) Reply g → Pass
      → Type 0
  HasTried list v w pass = IsOf list w × (w.client ≡ v.client) × HasCombined list v w pass

  -- where it passed, it told the gate of each record on the list but the last
  abbrev pub GateIsTold : (ℕ → ℕ → Type 0) → Records → Joined Shared Entry (ℕ × Call) Reply g → Pass → Type 0
  GateIsTold was_told list w Passed = HasToldGate was_told list.clients (view w)
  GateIsTold was_told list w (Busy c) = Unit {0}
