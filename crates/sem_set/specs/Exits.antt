-- What the exit of a process leaves of the semaphores (semop(2), SEM_UNDO; that a value above SEMVMX becomes SEMVMX is the
-- project's own).
use Rattle.std.specs.Prelude.{ℕ, ◌+◌, ℤ, pos, ◌+ℤ◌, int_lt, nat_abs, Bool, true, false, List, [], ◌∷◌, if◌then◌else◌}
use Rattle.std.specs.Ordering.{int_eq}
use Rattle.sem_set.specs.declared.set.Semaphore.{Semaphore}
use Rattle.sem_set.specs.Sets.{semvmx}

-- exit: a value with what it undoes, brought into 0 to SEMVMX
abbrev pub brought : ℤ → ℕ
brought v = if int_lt v (pos 0) then 0 else (if int_lt semvmx v then 32767 else nat_abs v)

abbrev pub undone : ℤ → ℕ → Semaphore → Semaphore
undone adj pid s = if int_eq adj (pos 0) then s else record { value = brought (pos s.value +ℤ adj); pid = pid }

-- the semaphores from this number on
abbrev pub undone_from : (ℕ → ℤ) → ℕ → ℕ → List Semaphore → List Semaphore
undone_from adj pid num [] = []
undone_from adj pid num (s ∷ ss) = undone (adj num) pid s ∷ undone_from adj pid (num + 1) ss

-- one of them has a semadj
abbrev pub any_from : (ℕ → ℤ) → ℕ → List Semaphore → Bool
any_from adj num [] = false
any_from adj num (s ∷ ss) = if int_eq (adj num) (pos 0) then any_from adj (num + 1) ss else true
