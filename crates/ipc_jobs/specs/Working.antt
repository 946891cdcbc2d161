-- What a client's worker does.
use Rattle.std.specs.Prelude.{◌≡◌, ℕ, ◌+◌, List, [], ◌∷◌, ◌++◌, length, Option}
use Rattle.std.specs.Global.{Vec}
use Rattle.ipc_call.specs.declared.calls.Call.{Call}
use Rattle.ipc_call.specs.declared.replies.Reply.{Reply}
use Rattle.ipc_commands.specs.Removals.{id_in}
use Rattle.pub_rule.specs.declared.work.Work.{Work}
use Rattle.pub_list.specs.Clients.{work}
use Rattle.ipc_combiner.specs.declared.closing.Client.{Client}
use Rattle.ipc_combiner.specs.declared.closing.Client.TheVariants.{Idle}
use Rattle.ipc_combiner.specs.declared.entries.Entry.{Entry}
use Rattle.ipc_combiner.specs.declared.states.Unjoined.{Unjoined}
use Rattle.ipc_combiner.specs.States.{IsOf, Records}
use Rattle.ipc_commands.specs.declared.jobs.Job.{Job}
use Rattle.ipc_jobs.specs.declared.working.Ended.{Ended}
use Rattle.ipc_jobs.specs.declared.working.Worker.{Worker}
use Rattle.ipc_jobs.specs.Calls.{AreCallsOf, Replied, Timed, calls_in, capped, failures, replies_in}
use Rattle.ipc_jobs.specs.Courses.{Course, IsCourse, failures_of, is_held}

-- what a client knows
abbrev pub Known : Type 0
Known = Work Entry (ℕ × Call) Reply

-- it made these calls, each by one post, has entered those for which no allocation failed, and counts the others: it
-- had counted m, and has counted n
pub record HasMade (cs : List Replied) (v w : Known) (m n : ℕ) : Type 0 where
  pub posts : w.posts ≡ v.posts + length cs
  pub entered : w.entered ≡ v.entered ++ calls_in cs
  pub got : w.got ≡ v.got ++ replies_in cs
  pub counted : (before : ℕ) → m ≡ capped before → n ≡ capped (before + failures cs)

-- it made a call, and this is the identifier that it was answered
abbrev pub HasAsked : ℕ × Call → Option ℕ → Known → Known → ℕ → ℕ → Type 0
HasAsked call id v w m n = (reply : Reply) × (id ≡ id_in reply) × HasMade ((call, reply) ∷ []) v w m n

-- it made the calls of these parts, and knew v before and w after them
abbrev pub HasDone : List Timed → Known → Known → ℕ → ℕ → Type 0
HasDone parts v w m n = (cs : List Replied) × AreCallsOf cs parts × HasMade cs v w m n

-- How the clients of workers went, by what a gate may do and was told.
module _ (may_hold was_told : ℕ → ℕ → Type 0) (list : Records) where
  -- the worker's client went so: it posted each of its calls, and no other
  abbrev pub IsEndOf : Worker → Ended → Type 0
  IsEndOf worker ended = IsOf list ended.caller.idle.joined
      × (ended.caller.idle.joined.client ≡ worker.client.fresh.client)
      × (c : Course)
      × IsCourse may_hold was_told worker.client.fresh.client worker.jobs.items (work ended.caller.idle.joined).entered
      (work ended.caller.idle.joined).got c
      × ((work ended.caller.idle.joined).posts ≡ length c.calls)
      × (ended.held ≡ is_held c) × (ended.caller.memory ≡ failures_of c)

  -- the workers' clients went so, each its own way
  abbrev pub AreEnds : List Worker → List Ended → Type 0
  AreEnds [] [] = Unit {0}
  AreEnds [] (e ∷ es) = ⊥
  AreEnds (w ∷ ws) [] = ⊥
  AreEnds (w ∷ ws) (e ∷ es) = IsEndOf w e × AreEnds ws es

-- a client with its jobs
abbrev pub worker_of : Unjoined × Vec Job → Worker
worker_of pair = record { client = pair.0; jobs = pair.1 }

-- a client that has done its work, to be handed in
abbrev pub client_of : Ended → Client
client_of ended = Idle ended.caller.idle
