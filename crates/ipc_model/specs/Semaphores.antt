-- semop (semop(2), POSIX.1-2017 XSH), the values of a set (semctl(2)), and what exit undoes. semop: there are
-- operations, at most SEMOPM; the set is there; the caller may read it where an operation is 0, and alter it where one
-- isn't; each names one of its semaphores; then the operations are tried in their order. The values: the set is there;
-- the caller may read or alter it; the semaphore is there, or as many values are given as it has semaphores; a value
-- that is set is asked for its range first.
use Rattle.std.specs.Prelude.{ℕ, ◌==◌, nat_le, nat_lt, ℤ, pos, ◌+ℤ◌, ◌-ℤ◌, int_lt, ⊤, Bool, true, not, ◌&&◌, List, [], ◌∷◌, ◌++◌, length, filter, map, slice_set, Option, Some, None, Result, Ok, Err, option_map, unwrap_or, if◌then◌else◌}
use Rattle.std.specs.List.{list_all, list_any}
use Rattle.std.specs.Ordering.{int_eq}
use Rattle.std.specs.FinMap as finite
use Rattle.ipc_call.specs.declared.rules.Rule.TheVariants.{BadId, BadSem, BadSize, NoOperations, SemOutOfSet, TooManyOperations, UndoRange, ValueRange, WouldWait}
use Rattle.ipc_call.specs.declared.replies.Answer.TheVariants.{Done, Value, Values}
use Rattle.ipc_perm.specs.declared.access.Want.{Want}
use Rattle.ipc_perm.specs.Access.{Permission, to_alter, to_read}
use Rattle.ipc_ids.specs.Images.{map_entries}
use Rattle.ipc_objects.specs.Objects.{changed, with_contents}
use Rattle.sem_set.specs.declared.trials.Met.{Met}
use Rattle.sem_set.specs.Exits.{any_from, undone_from}
use Rattle.sem_set.specs.Met.{met_at}
use Rattle.sem_set.specs.Sets.{is_value, pid_of as last_of, semvmx, set_to, value_of}
use Rattle.sem_set.specs.Trials.{are_in, committed, is_semadj, must_wait, sum_of, undoes, undoes_on}
use Rattle.sem_undo.specs.Entries.{Entries, adj_of, cleared, with_adj, without_client}
use Rattle.ipc_model.specs.State.{Caller, Limits, Object, Rule, SemOper, SemSet, Semaphore, Sems, nobody}
use Rattle.ipc_model.specs.Plan.{Check, Needs, Passes, Plan, Proceeds, Grant, found, in_order, passed, ◌⨾◌}

abbrev pub set_at : Sems → ℕ → Option (Object SemSet)
set_at sems id = finite.get sems.sets.objects id

-- what a semaphore of a set has: GETVAL, GETPID
abbrev pub look : Sems → ℕ → ℕ → (List Semaphore → ℕ) → Plan Sems
look sems id num tell = found (set_at sems id) BadId _ (λ set.
    Needs (Permission set.perm to_read)
    ⨾ Passes (nat_lt num (length set.contents.semaphores)) BadSem _
    ⨾ Grant (Value (tell set.contents.semaphores)) sems)

abbrev pub get_value : Sems → ℕ → ℕ → Plan Sems
get_value sems id num = look sems id num (λ semaphores. value_of semaphores num)

abbrev pub get_pid : Sems → ℕ → ℕ → Plan Sems
get_pid sems id num = look sems id num (λ semaphores. last_of semaphores num)

abbrev pub values_of : Object SemSet → List ℕ
values_of set = map (λ s. s.value) set.contents.semaphores

-- the values of a set; none where there is no such set
abbrev pub values_at : Sems → ℕ → List ℕ
values_at sems id = unwrap_or (option_map values_of (set_at sems id)) []

-- GETALL
abbrev pub get_all : Sems → ℕ → Plan Sems
get_all sems id = found (set_at sems id) BadId _ (λ set.
    Needs (Permission set.perm to_read)
    ⨾ Grant (Values (values_of set)) sems)

-- SETVAL and SETALL: the semaphores are new, and the time of change; the entries of those that were set go, of every
-- client
abbrev pub renewed : ℕ → List Semaphore → Object SemSet → Object SemSet
renewed now semaphores set =
    record set { change_time = now; contents = record set.contents { semaphores = semaphores } }

abbrev pub with_values : Sems → ℕ → ℕ → List Semaphore → (ℕ → Bool) → Sems
with_values sems now id semaphores which = record {
  sets = changed sems.sets id (renewed now semaphores);
  undo = cleared sems.undo id which;
}

abbrev pub set_value : Sems → Caller → ℕ → ℕ → ℤ → Plan Sems
set_value sems who id num value =
    Passes (is_value value) ValueRange _
    ⨾ found (set_at sems id) BadId _ (λ set.
    Needs (Permission set.perm to_alter)
    ⨾ Passes (nat_lt num (length set.contents.semaphores)) BadSem _
    ⨾ Grant Done (with_values sems who.now id
    (slice_set set.contents.semaphores num (set_to who.pid value)) (λ n. n == num)))

abbrev pub set_all : Sems → Caller → ℕ → List ℤ → Plan Sems
set_all sems who id values =
    Passes (list_all is_value values) ValueRange _
    ⨾ found (set_at sems id) BadId _ (λ set.
    Needs (Permission set.perm to_alter)
    ⨾ Passes (length values == length set.contents.semaphores) BadSize _
    ⨾ Grant Done (with_values sems who.now id (map (set_to who.pid) values) (λ _. true)))

-- the trial of a semop: each operation in its order, at the value of its semaphore and the caller's semadj there after
-- the earlier ones. A value doesn't rise above SEMVMX; the operation can go on, or the call waits; a semadj stays in
-- its range
abbrev pub oper_checks : Met → SemOper → List Check
oper_checks met o =
    Passes (not (int_lt semvmx (met.value +ℤ o.op))) ValueRange _
    ∷ Proceeds (not (must_wait met.value o)) o.flags WouldWait _
    ∷ Passes (not (undoes o && not (is_semadj (met.adj -ℤ o.op)))) UndoRange _ ∷ []

-- of those after the earlier ones
abbrev pub trial_checks : List Semaphore → (ℕ → ℤ) → List SemOper → List SemOper → List Check
trial_checks sems adj earlier [] = []
trial_checks sems adj earlier (o ∷ os) =
    oper_checks (met_at sems adj earlier o.num) o ++ trial_checks sems adj (earlier ++ o ∷ []) os

-- the semadj of a process at each of these semaphores of a set
abbrev pub with_adjs : Entries → ℕ → ℕ → (ℕ → ℤ) → List ℕ → Entries
with_adjs undo client id adj [] = undo
with_adjs undo client id adj (num ∷ nums) =
    with_adj (with_adjs undo client id adj nums) (record { client = client; set = id; num = num }) (adj num)

-- SEM_UNDO: at each semaphore of an operation that exit undoes, the caller's semadj goes down by the sum of these
-- operations on it
abbrev pub lowered : Entries → ℕ → ℕ → List SemOper → Entries
lowered undo client id ops =
    with_adjs undo client id (λ num. adj_of undo client id num -ℤ sum_of (undoes_on num) ops)
    (map (λ o. o.num) (filter undoes ops))

-- all operations are done
abbrev pub operated : Sems → Caller → ℕ → List SemOper → SemSet → Sems
operated sems who id ops set = record {
  sets = with_contents sems.sets id
      (record { semaphores = committed ops who.pid set.semaphores; op_time = who.now });
  undo = lowered sems.undo who.process id ops;
}

-- operations of 0 read, and others alter
abbrev pub wanted_by : List SemOper → Want
wanted_by ops = record {
  read = list_any (λ o. int_eq o.op (pos 0)) ops;
  alter = list_any (λ o. not (int_eq o.op (pos 0))) ops;
}

abbrev pub operate_found : Sems → Caller → ℕ → List SemOper → Option (Object SemSet) → Plan Sems
operate_found sems who id ops set = found set BadId _ (λ set.
    Needs (Permission set.perm (wanted_by ops))
    ⨾ Passes (are_in set.contents.semaphores ops) SemOutOfSet _
    ⨾ in_order (trial_checks set.contents.semaphores (adj_of sems.undo who.process id) [] ops)
    (Grant Done (operated sems who id ops set.contents)))

-- semop
abbrev pub operate : Limits → Sems → Caller → ℕ → List SemOper → Plan Sems
operate limits sems who id ops =
    Passes (nat_lt 0 (length ops)) NoOperations _
    ⨾ Passes (nat_le (length ops) limits.sem_opm) TooManyOperations _
    ⨾ operate_found sems who id ops (set_at sems id)

-- the operation at which a semop waits, by what its own checks give and where it waits later
abbrev pub waits_at_oper : SemOper → Option (Result ⊤ Rule) → Option SemOper → Option SemOper
waits_at_oper o None later = Some o
waits_at_oper o (Some (Ok _)) later = later
waits_at_oper o (Some (Err rule)) later = None

-- of those after the earlier ones: none of their checks asks for credentials
abbrev pub stopping_from : List Semaphore → (ℕ → ℤ) → List SemOper → List SemOper → Option SemOper
stopping_from sems adj earlier [] = None
stopping_from sems adj earlier (o ∷ os) =
    waits_at_oper o (passed nobody (oper_checks (met_at sems adj earlier o.num) o))
    (stopping_from sems adj (earlier ++ o ∷ []) os)

abbrev pub stopping_on : (ℕ → ℤ) → List SemOper → List Semaphore → Option SemOper
stopping_on adj ops sems = if are_in sems ops then stopping_from sems adj [] ops else None

-- of a client on the set of an identifier
abbrev pub stopping : Sems → ℕ → ℕ → List SemOper → Option SemOper
stopping sems client id ops = unwrap_or
    (option_map (λ set. stopping_on (adj_of sems.undo client id) ops set.contents.semaphores) (set_at sems id)) None

-- a set after the exit of a process, of which these are the semadj there
abbrev pub undone_set : (ℕ → ℤ) → ℕ → ℕ → SemSet → SemSet
undone_set adj pid now set = record {
  semaphores = undone_from adj pid 0 set.semaphores;
  op_time = if any_from adj 0 set.semaphores then now else set.op_time;
}

-- a set after the exit of the caller
abbrev pub set_after_exit : Sems → Caller → ℕ → Object SemSet → Object SemSet
set_after_exit sems who id set =
    record set { contents = undone_set (adj_of sems.undo who.process id) who.pid who.now set.contents }

-- each set, and the caller's entries go
abbrev pub after_exit : Sems → Caller → Sems
after_exit sems who =
    record { sets = map_entries (set_after_exit sems who) sems.sets; undo = without_client sems.undo who.process }
