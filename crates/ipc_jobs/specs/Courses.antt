-- How far each client came with its jobs.
use Rattle.std.specs.Prelude.{◌≡◌, ℕ, ◌+◌, ◌≤◌, Bool, true, false, List, [], ◌∷◌, ◌++◌, length, map, count_by}
use Rattle.std.specs.Prelude.{IfSome, Err}
use Rattle.std.specs.List.{slice_get}
use Rattle.ipc_call.specs.declared.calls.Call.{Call}
use Rattle.ipc_call.specs.declared.replies.Reply.{Reply}
use Rattle.ipc_call.specs.declared.replies.Reply.TheVariants.{Entered}
use Rattle.ipc_history.specs.History.{History, own, replies}
use Rattle.ipc_commands.specs.declared.jobs.Job.{Job}
use Rattle.ipc_jobs.specs.Calls.{Replied, AreCallsOf, calls_in, capped, failures, parts_in, replies_in}
use Rattle.ipc_jobs.specs.declared.counting.Counts.{Counts}

-- the jobs that a client did, their calls with the replies, and the jobs that it was kept from
pub record Course : Type 0 where
  pub done : List Job
  pub calls : List Replied
  pub left : List Job

abbrev pub is_some_left : List Job → Bool
is_some_left [] = false
is_some_left (job ∷ jobs) = true

-- the gate stopped the client
abbrev pub is_held : Course → Bool
is_held c = is_some_left c.left

-- for how many of its calls an allocation failed, as a u64 counts them
abbrev pub failures_of : Course → ℕ
failures_of c = capped (failures c.calls)

-- What is known of the courses of clients that a gate may have stopped before a job, and was told of each job done.
module _ (may_hold was_told : ℕ → ℕ → Type 0) where
  -- A client with these jobs went so. The calls that it entered and the replies to them are those of the jobs that it
  -- did, in order, without those for which an allocation failed. The gate was told of each of these jobs, and stopped
  -- the client where jobs are left
  pub record IsCourse (client : ℕ) (jobs : List Job) (entered : List (ℕ × Call)) (got : List Reply) (c : Course)
      : Type 0 where
    pub all : jobs ≡ c.done ++ c.left
    pub made : AreCallsOf c.calls (parts_in c.done)
    pub calls : entered ≡ calls_in c.calls
    pub answers : got ≡ replies_in c.calls
    pub told : (n : ℕ) → 1 ≤ n → n ≤ length c.done → was_told client n
    pub held : is_held c ≡ true → may_hold client (length c.done + 1)

  -- the clients from number k on went so, by the history at the end
  abbrev pub AreCourses : History → ℕ → List (List Job) → List Course → Type 0
  AreCourses h k [] [] = Unit {0}
  AreCourses h k [] (c ∷ cs) = ⊥
  AreCourses h k (js ∷ jobs) [] = ⊥
  AreCourses h k (js ∷ jobs) (c ∷ cs) = IsCourse k js (own h k) (replies h k) c × AreCourses h (k + 1) jobs cs

  -- each client went so; as many as this were stopped, and for as many calls of each an allocation failed
  abbrev pub HaveGone : History → List (List Job) → ℕ → List Counts → Type 0
  HaveGone h jobs held counts = (cs : List Course) × AreCourses h 0 jobs cs × (held ≡ count_by is_held cs)
      × (map (λ n. n.memory) counts ≡ map failures_of cs)

abbrev pub is_refusal : Reply → Bool
is_refusal (Entered place turn (Err rule)) = true
is_refusal other = false

-- how many calls a client has in the history, and how many of the replies to it are refusals
abbrev pub IsCountOf : History → ℕ → Counts → Type 0
IsCountOf h client n = (n.calls ≡ length (own h client)) × (n.refusals ≡ count_by is_refusal (replies h client))

-- each client's numbers
abbrev pub AreCounts : History → List Counts → Type 0
AreCounts h counts = (length counts ≡ length h.clients) × ((k : ℕ) → IfSome (slice_get counts k) (λ n. IsCountOf h k n))
