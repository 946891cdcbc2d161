-- The semaphores of a set, and their values (semctl(2)).
use Rattle.std.specs.Prelude.{ℕ, ℤ, pos, int_le, nat_abs, Bool, ◌&&◌, List, slice_index_or}
use Rattle.sem_set.specs.declared.set.Semaphore.{Semaphore}

-- SEMVMX, the greatest value
abbrev pub semvmx : ℤ
semvmx = pos 32767

abbrev pub is_value : ℤ → Bool
is_value v = int_le (pos 0) v && int_le v semvmx

-- a semaphore of a new set
abbrev pub zeroed : Semaphore
zeroed = record { value = 0; pid = 0 }

-- a semaphore that a process set to a value
abbrev pub set_to : ℕ → ℤ → Semaphore
set_to pid v = record { value = nat_abs v; pid = pid }

-- what the semaphore of a number has; 0 where the set has none
abbrev pub value_of : List Semaphore → ℕ → ℕ
value_of sems num = (slice_index_or sems num zeroed).value

abbrev pub pid_of : List Semaphore → ℕ → ℕ
pid_of sems num = (slice_index_or sems num zeroed).pid
