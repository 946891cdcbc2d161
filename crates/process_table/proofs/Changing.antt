-- A change of each thread that passes a test, made at one after another.
use Rattle.std.proofs.Common.{◌≡◌, ◌≢◌, ℕ, zero, suc, ◌<◌, Bool, true, false, cond, set, List, [], ◌∷◌, length, refl, sym, ap, ◌∙◌, arith}
use Rattle.std.specs.Prelude.{◌&&◌, map, not}
use Rattle.std.proofs.lemmas.Bool.{ne_eqb}
use Rattle.std.proofs.lemmas.List.{map-set, set-get_or}
use Rattle.ipc_model.specs.State.{Thread, has_pid, no_thread}
use Rattle.ipc_model.specs.Tidy.{thread_in}
use Rattle.process_table.specs.Index.{changed_if, under_pid}

module _ (test : Thread → Bool) (change : Thread → Thread) where
  changed-is : (t : Thread) → test t ≡ true → changed_if test change t ≡ change t
  changed-is t is = ap (λ b. cond b (change t) t) is

  changed-isnt : (t : Thread) → test t ≡ false → changed_if test change t ≡ t
  changed-isnt t isnt = ap (λ b. cond b (change t) t) isnt

  -- where one that passes is changed, the whole change leads to the same
  pub changed-one : (ts : List Thread) (c : ℕ) (new : Thread) → new ≡ change (thread_in ts c) → test (thread_in ts c) ≡ true → test (change (thread_in ts c)) ≡ false
      → map (changed_if test change) (set ts c new) ≡ map (changed_if test change) ts
  changed-one ts c new same is isnt =
      let f = changed_if test change in
      let t = thread_in ts c in
      map-set f ts c new
      ∙ ap (λ (x : Thread). set (map f ts) c x) (ap (λ (x : Thread). f x) same ∙ changed-isnt (change t) isnt ∙ sym (changed-is t is))
      ∙ sym (map-set f ts c t)
      ∙ ap (λ (xs : List Thread). map f xs) (set-get_or ts c no_thread)

  -- and where none passes it has been made
  pub changed-all : (ts : List Thread) → ((c : ℕ) → test (thread_in ts c) ≡ false) → map (changed_if test change) ts ≡ ts
  changed-all [] none = refl
  changed-all (t ∷ ts) none = λ i. changed-isnt t (none zero) i ∷ changed-all ts (λ c. none (suc c)) i

-- a thread that takes another pid is of the old one no longer
pub other-pid : (t : Thread) (pid other : ℕ) → pid ≢ other → has_pid pid (under_pid other t) ≡ false
other-pid t pid other apart = λ i. ne_eqb other pid (λ e. apart (sym e)) i && not t.has_ended

-- changes that are the same for each thread
pub map-alike : (f g : Thread → Thread) (ts : List Thread) → ((c : ℕ) → c < length ts → f (thread_in ts c) ≡ g (thread_in ts c)) → map f ts ≡ map g ts
map-alike f g [] same = refl
map-alike f g (t ∷ ts) same = λ i. same zero (omega arith) i ∷ map-alike f g ts (λ c known. same (suc c) (omega (arith, known))) i

pub map-same : (f : Thread → Thread) (ts : List Thread) → ((c : ℕ) → c < length ts → f (thread_in ts c) ≡ thread_in ts c) → map f ts ≡ ts
map-same f [] same = refl
map-same f (t ∷ ts) same = λ i. same zero (omega arith) i ∷ map-same f ts (λ c known. same (suc c) (omega (arith, known))) i
