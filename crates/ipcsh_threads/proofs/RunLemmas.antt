-- A gate that is open holds nobody, and what the threads of a script leave behind.
use Rattle.std.proofs.Common.{◌≡◌, ℕ, ◌+◌, Bool, true, false, List, [], ◌∷◌, refl, sym}
use Rattle.std.specs.Prelude.{count_by}
use Rattle.ipc_commands.specs.declared.jobs.Job.{Job}
use Rattle.ipc_jobs.specs.declared.counting.Counts.{Counts}
use Rattle.ipc_jobs.specs.Courses.{AreCourses, Course, HaveGone, is_held}
use Rattle.ipc_history.specs.History.{History}

is_false : (b : Bool) → (b ≡ true → ⊥) → b ≡ false
is_false true other = absurd (other refl)
is_false false other = refl

not_counted : (c : Course) (cs : List Course) → is_held c ≡ false → count_by is_held cs ≡ 0 → count_by is_held (c ∷ cs) ≡ 0
not_counted c cs held none = rw (held) none

none_held : (h : History) (k : ℕ) (jobs : List (List Job)) (cs : List Course) → AreCourses (λ client nth. ⊥) (λ client nth. Unit {0}) h k jobs cs → count_by is_held cs ≡ 0
none_held h k [] [] gone = refl
none_held h k [] (c ∷ cs) gone = absurd gone
none_held h k (own ∷ jobs) [] gone = absurd gone
none_held h k (own ∷ jobs) (c ∷ cs) gone =
    not_counted c cs (is_false (is_held c) gone.0.held) (none_held h (k + 1) jobs cs gone.1)

pub all_gone : (h : History) (jobs : List (List Job)) (held : ℕ) (counts : List Counts) → HaveGone (λ client nth. ⊥) (λ client nth. Unit {0}) h jobs held counts
    → HaveGone (λ client nth. ⊥) (λ client nth. Unit {0}) h jobs 0 counts
all_gone h jobs held counts g = (g.0, g.1, sym (none_held h 0 jobs g.0 g.1), g.3)
