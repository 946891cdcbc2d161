-- A client does one job after another.
use Rattle.std.proofs.Common.{◌≡◌, ℕ, ◌+◌, ◌<◌, ◌≤◌, Bool, true, false, List, [], ◌∷◌, ◌++◌, length, refl, sym, ap, ◌∙◌, subst, arith, append_assoc, length-append, ⊎_elim}
use Rattle.std.proofs.lemmas.Bool.{cases_lt, true≢false}
use Rattle.ipc_commands.specs.declared.jobs.Job.{Job}
use Rattle.ipc_jobs.specs.Calls.{AreCallsOf, Replied, calls_in, capped, failures, parts_in, replies_in, timed}
use Rattle.ipc_jobs.specs.Courses.{Course, IsCourse, failures_of, is_held, is_some_left}
use Rattle.ipc_jobs.specs.Working.{HasDone, Known}
use Rattle.ipc_jobs.proofs.Making.{calls-append, failures-append, jobs_more, replies-append}

-- of all its jobs these are left, after so many, of each of which the gate was told, and it made the calls of the
-- others, n of which failed for want of memory
pub record IsAsFar (told : ℕ → Type 0) (all left : List Job) (nth : ℕ) (w : Known) (n : ℕ) : Type 0 where
  pub done : List Job
  pub calls : List Replied
  pub is_all : all ≡ done ++ left
  pub counted : length done ≡ nth
  pub made : AreCallsOf calls (parts_in done)
  pub entered : w.entered ≡ calls_in calls
  pub got : w.got ≡ replies_in calls
  pub posts : w.posts ≡ length calls
  pub failed : n ≡ capped (failures calls)
  pub was_told : (k : ℕ) → 1 ≤ k → k ≤ nth → told k

pub starts : (told : ℕ → Type 0) (all left : List Job) (w : Known) (n : ℕ) → left ≡ all → w.entered ≡ [] → w.got ≡ [] → w.posts ≡ 0 → n ≡ 0 → IsAsFar told all left 0 w n
starts told all left w n same entered got posts none = record {
  done = [];
  calls = [];
  is_all = sym same;
  counted = refl;
  made = refl;
  entered = entered;
  got = got;
  posts = posts;
  failed = none;
  was_told = λ k least most. absurd (omega arith);
}

-- one more was told
more_told : (told : ℕ → Type 0) (nth : ℕ) → ((k : ℕ) → 1 ≤ k → k ≤ nth → told k) → told (nth + 1) → (k : ℕ) → 1 ≤ k → k ≤ nth + 1 → told k
more_told told nth before now k least most = ⊎_elim
    (λ (less : k < nth + 1). before k least (omega (arith, less)))
    (λ (more : nth + 1 ≤ k). let same : nth + 1 ≡ k = omega (arith, more, most) in subst told same now)
    (cases_lt k (nth + 1))

pub goes_on : (told : ℕ → Type 0) (all left rest : List Job) (job : Job) (nth : ℕ) (v w : Known) (m n : ℕ) → left ≡ job ∷ rest → IsAsFar told all left nth v m → HasDone (timed job) v w m n → told (nth + 1) → IsAsFar told all rest (nth + 1) w n
goes_on told all left rest job nth v w m n is far does now = record {
  done = far.done ++ job ∷ [];
  calls = far.calls ++ does.0;
  is_all = far.is_all ∙ ap (λ l. far.done ++ l) is ∙ sym (append_assoc far.done (job ∷ []) rest);
  counted = let was = far.counted in let more = length-append far.done (job ∷ []) in omega (arith, was, more);
  made = jobs_more far.done job far.calls does.0 far.made does.1;
  entered = does.2.entered ∙ ap (λ l. l ++ calls_in does.0) far.entered ∙ sym (calls-append far.calls does.0);
  got = does.2.got ∙ ap (λ l. l ++ replies_in does.0) far.got ∙ sym (replies-append far.calls does.0);
  posts = let was = far.posts in let more = does.2.posts in let both = length-append far.calls does.0 in omega (arith, was, more, both);
  failed = does.2.counted (failures far.calls) far.failed ∙ ap capped (sym (failures-append far.calls does.0));
  was_told = more_told told nth far.was_told now;
}

pub counted_left : (told : ℕ → Type 0) (all left : List Job) (nth : ℕ) (w : Known) (n : ℕ) → IsAsFar told all left nth w n → nth + length left ≡ length all
counted_left told all left nth w n far = let here = far.counted in let all_of = ap length far.is_all in let both = length-append far.done left in omega (arith, here, all_of, both)

module _ (may_hold was_told : ℕ → ℕ → Type 0) (client : ℕ) (all left : List Job) (nth : ℕ) (w : Known) (n : ℕ) (far : IsAsFar (was_told client) all left nth w n) where
  abbrev IsDone : Bool → Type 0
  IsDone held = (c : Course) × IsCourse may_hold was_told client all w.entered w.got c × (w.posts ≡ length c.calls) × (held ≡ is_held c) × (n ≡ failures_of c)

  abbrev course : Course
  course = record { done = far.done; calls = far.calls; left = left }

  is_course : (is_held course ≡ true → may_hold client (length far.done + 1)) → IsCourse may_hold was_told client all w.entered w.got course
  is_course holds = record {
    all = far.is_all;
    made = far.made;
    calls = far.entered;
    answers = far.got;
    told = λ k least most. far.was_told k least (let size = far.counted in omega (arith, most, size));
    held = holds;
  }

  -- no job is left
  pub ends : left ≡ [] → IsDone false
  ends none = (course, is_course (λ yes. absurd (true≢false (sym yes ∙ ap is_some_left none))), far.posts, sym (ap is_some_left none), far.failed)

  -- the gate stopped it before the next
  pub stops : (job : Job) (rest : List Job) → left ≡ job ∷ rest → may_hold client (nth + 1) → IsDone true
  stops job rest is holds = (course, is_course (λ yes. subst (λ k. may_hold client (k + 1)) (sym far.counted) holds), far.posts, sym (ap is_some_left is), far.failed)
