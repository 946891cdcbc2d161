-- The calls of jobs, one after another, each with the reply to it.
use Rattle.std.specs.Prelude.{◌≡◌, ℕ, ◌+◌, ◌-◌, ◌^◌, Bool, true, false, List, [], ◌∷◌, ◌++◌, map, filter, flat_map}
use Rattle.std.specs.Prelude.{Option, Some, None, count_by, min}
use Rattle.ipc_call.specs.declared.calls.Call.{Call}
use Rattle.ipc_call.specs.declared.calls.Call.TheVariants.{IpcRmid}
use Rattle.ipc_call.specs.declared.calls.Kind.{Kind}
use Rattle.ipc_call.specs.declared.replies.Reply.{Reply}
use Rattle.ipc_call.specs.declared.replies.Reply.TheVariants.{Entered, Memory}
use Rattle.ipc_commands.specs.declared.parts.Part.{Part}
use Rattle.ipc_commands.specs.declared.parts.Part.TheVariants.{Plain, RemoveByKey}
use Rattle.ipc_commands.specs.Removals.{get_of, id_in}
use Rattle.ipc_commands.specs.declared.jobs.Job.{Job}

-- a part of a job, with its time
abbrev pub Timed : Type 0
Timed = ℕ × Part

-- a call with its time, and the reply to it
abbrev pub Replied : Type 0
Replied = (ℕ × Call) × Reply

-- the parts of jobs, in their order
abbrev pub timed : Job → List Timed
timed job = map (λ part. (job.now, part)) job.command

abbrev pub parts_in : List Job → List Timed
parts_in jobs = flat_map timed jobs

-- the first call of a part
abbrev pub first_call : Part → Call
first_call (Plain call) = call
first_call (RemoveByKey kind key) = get_of kind key

-- what is left of a part after the reply to its first call: of a removal by key the IPC_RMID of the identifier that
-- the get was answered
abbrev pub removal : Kind → Option ℕ → List Part
removal kind None = []
removal kind (Some id) = Plain (IpcRmid kind id) ∷ []

abbrev pub left_after : Part → Reply → List Part
left_after (Plain call) reply = []
left_after (RemoveByKey kind key) reply = removal kind (id_in reply)

abbrev pub rest_of : Timed → Reply → List Timed
rest_of p reply = map (λ part. (p.0, part)) (left_after p.1 reply)

-- these are all calls of the parts, in their order
abbrev pub AreCallsOf : List Replied → List Timed → Type 0
AreCallsOf [] parts = parts ≡ []
AreCallsOf (c ∷ cs) [] = ⊥
AreCallsOf (c ∷ cs) (p ∷ parts) = (c.0 ≡ (p.0, first_call p.1)) × AreCallsOf cs (rest_of p c.1 ++ parts)

-- those that entered: no allocation failed for them
abbrev pub has_entered : Reply → Bool
has_entered (Entered place turn outcome) = true
has_entered Memory = false

abbrev pub entered : List Replied → List Replied
entered cs = filter (λ c. has_entered c.1) cs

abbrev pub calls_in : List Replied → List (ℕ × Call)
calls_in cs = map (λ c. c.0) (entered cs)

abbrev pub replies_in : List Replied → List Reply
replies_in cs = map (λ c. c.1) (entered cs)

-- an allocation failed for the call
abbrev pub has_failed : Reply → Bool
has_failed Memory = true
has_failed (Entered place turn outcome) = false

-- for how many of these calls one did
abbrev pub failures : List Replied → ℕ
failures cs = count_by (λ c. has_failed c.1) cs

-- a number as a u64 counts it: it stays at the largest
abbrev pub capped : ℕ → ℕ
capped n = min n (2 ^ 64 - 1)

-- that number after one more reply
abbrev pub counted_with : ℕ → Reply → ℕ
counted_with n Memory = capped (n + 1)
counted_with n (Entered place turn outcome) = n
