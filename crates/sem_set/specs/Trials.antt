-- Whether the operations of a semop can be done on a set, and what they leave (semop(2); POSIX.1-2017 XSH semop).
use Rattle.std.specs.Prelude.{ℕ, ◌+◌, ◌==◌, ℤ, pos, neg_ℤ, ◌+ℤ◌, ◌-ℤ◌, int_le, int_lt, nat_lt, Bool, not, ◌&&◌, ◌||◌}
use Rattle.std.specs.Prelude.{◌≡◌, List, [], ◌∷◌, ◌++◌, length, slice_index_or}
use Rattle.std.specs.Prelude.{Option, Some, None, unwrap_or, if◌then◌else◌}
use Rattle.std.specs.List.{list_any, list_all}
use Rattle.std.specs.Ordering.{int_eq}
use Rattle.ipc_call.specs.declared.calls.SemOper.{SemOper}
use Rattle.ipc_call.specs.declared.rules.Rule.TheVariants.{ValueRange, WouldWait, UndoRange}
use Rattle.ipc_call.specs.Flags.{has_flag, ipc_nowait, sem_undo}
use Rattle.sem_set.specs.declared.set.Semaphore.{Semaphore}
use Rattle.sem_set.specs.declared.trials.Trial.{Trial}
use Rattle.sem_set.specs.declared.trials.Trial.TheVariants.{Go, Wait, Refuse}
use Rattle.sem_set.specs.Sets.{semvmx, set_to, value_of}

-- the numbers of all operations are those of semaphores
abbrev pub are_in : List Semaphore → List SemOper → Bool
are_in sems ops = list_all (λ o. nat_lt o.num (length sems)) ops

-- the sum of the operations that meet a test
abbrev pub part_of : (SemOper → Bool) → SemOper → ℤ
part_of which o = if which o then o.op else pos 0

abbrev pub sum_of : (SemOper → Bool) → List SemOper → ℤ
sum_of which [] = pos 0
sum_of which (o ∷ os) = part_of which o +ℤ sum_of which os

-- an operation on the semaphore of this number, and one of these that exit undoes
abbrev pub is_on : ℕ → SemOper → Bool
is_on num o = o.num == num

abbrev pub undoes : SemOper → Bool
undoes o = has_flag o.flags sem_undo

abbrev pub undoes_on : ℕ → SemOper → Bool
undoes_on num o = undoes o && is_on num o

-- a semadj is in its range
abbrev pub is_semadj : ℤ → Bool
is_semadj adj = int_le (neg_ℤ (pos 32768)) adj && int_le adj (pos 32767)

-- an operation can't go on at this value: there isn't enough to subtract, or it waits for 0
abbrev pub must_wait : ℤ → SemOper → Bool
must_wait value o = int_lt (value +ℤ o.op) (pos 0) || (int_eq o.op (pos 0) && not (int_eq value (pos 0)))

-- what stops the operation at this place, where it meets this value and the caller's semadj
abbrev pub stopped_by : ℕ → ℤ → ℤ → SemOper → Option Trial
stopped_by place value adj o =
    if int_lt semvmx (value +ℤ o.op) then Some (Refuse ValueRange)
    else (if must_wait value o then Some (if has_flag o.flags ipc_nowait then Refuse WouldWait else Wait place)
    else (if undoes o && not (is_semadj (adj -ℤ o.op)) then Some (Refuse UndoRange) else None))

-- an operation meets the value of its semaphore with the earlier operations on it, and the caller's semadj there
-- without those of them that exit undoes
abbrev pub stopped_at : ℕ → List Semaphore → (ℕ → ℤ) → List SemOper → SemOper → Option Trial
stopped_at place sems adj earlier o =
    stopped_by place (pos (value_of sems o.num) +ℤ sum_of (is_on o.num) earlier)
    (adj o.num -ℤ sum_of (undoes_on o.num) earlier) o

-- the first operation that is stopped decides; those from this place on, after the earlier ones
abbrev pub trial_from : ℕ → List Semaphore → (ℕ → ℤ) → List SemOper → List SemOper → Trial
trial_from place sems adj earlier [] = Go
trial_from place sems adj earlier (o ∷ os) =
    unwrap_or (stopped_at place sems adj earlier o) (trial_from (place + 1) sems adj (earlier ++ o ∷ []) os)

-- of a caller with these semadj by semaphore number
abbrev pub trial_on : List Semaphore → (ℕ → ℤ) → List SemOper → Trial
trial_on sems adj ops = trial_from 0 sems adj [] ops

-- the semadj of a number in a row; past its end 0
abbrev pub adj_in : List ℤ → ℕ → ℤ
adj_in row num = slice_index_or row num (pos 0)

-- the operations go for some caller
abbrev pub GoAtSome : List Semaphore → List SemOper → Type 0
GoAtSome sems ops = (adj : ℕ → ℤ) × (trial_on sems adj ops ≡ Go)

-- what operations leave of the semaphore of a number: where they name it, its value with their sum, and their process
abbrev pub left_at : List SemOper → ℕ → ℕ → Semaphore → Semaphore
left_at ops pid num s = if list_any (is_on num) ops then set_to pid (pos s.value +ℤ sum_of (is_on num) ops) else s

-- the semaphores from this number on
abbrev pub left_from : ℕ → List SemOper → ℕ → List Semaphore → List Semaphore
left_from num ops pid [] = []
left_from num ops pid (s ∷ ss) = left_at ops pid num s ∷ left_from (num + 1) ops pid ss

abbrev pub committed : List SemOper → ℕ → List Semaphore → List Semaphore
committed ops pid sems = left_from 0 ops pid sems
