-- What the calls of processes leave of the threads: which processes run, and that the threads are numbered.
use Rattle.std.proofs.Common.{◌≡◌, ◌≢◌, ℕ, zero, suc, ◌<◌, ◌≤◌, Bool, true, false, cond, eqb, get_or, set, List, [], ◌∷◌, length, refl, sym, ap, subst, arith, ◌∙◌, ⊎_elim, inl, inr}
use Rattle.std.specs.Prelude.{◌⊎◌, ◌||◌, ◌&&◌, not, map}
use Rattle.std.specs.List.{AllByRecursion, list_any}
use Rattle.std.proofs.lemmas.Bool.{and_parts, cases_eq, eq-eqb, eqb-true, false≢true, ne_eqb, or_left, or_parts, or_right, true≢false}
use Rattle.std.proofs.lemmas.List.{get_or-set_other, get_or-set_same}
use Rattle.ipc_model.specs.State.{Thread, has_pid, no_thread, runs}
use Rattle.ipc_model.specs.Processes.{ends, is_other, renamed}
use Rattle.ipc_model.specs.Tidy.{AreNumbered, IsLive, Runs, thread_in}
use Rattle.ipc_model.proofs.Apart.{left-alone, renamed-process}

turned : (b : Bool) → not b ≡ true → b ≡ false
turned true is = absurd (false≢true is)
turned false is = refl

-- a process runs where a thread of it lives
pub runs-of : (ts : List Thread) (c : ℕ) → IsLive ts c → Runs ts (thread_in ts c).process
runs-of [] c live = absurd (true≢false live)
runs-of (t ∷ ts) zero live = or_left (runs t.process t) (list_any (runs t.process) ts) (λ i. eq-eqb t.process t.process refl i && not (live i))
runs-of (t ∷ ts) (suc c) live = or_right (runs (thread_in ts c).process t) (list_any (runs (thread_in ts c).process) ts) (runs-of ts c live)

pub runs-by : (ts : List Thread) (c process : ℕ) → IsLive ts c → (thread_in ts c).process ≡ process → Runs ts process
runs-by ts c process live is = subst (Runs ts) is (runs-of ts c live)

-- and there is one where it runs
pub runs-at : (ts : List Thread) (process : ℕ) → Runs ts process → (c : ℕ) × (IsLive ts c) × ((thread_in ts c).process ≡ process)
runs-at [] process is = absurd (false≢true is)
runs-at (t ∷ ts) process is = by (runs process t) refl is (runs-at ts process)
  where
    by : (b : Bool) → runs process t ≡ b → b || list_any (runs process) ts ≡ true
        → (Runs ts process → (c : ℕ) × (IsLive ts c) × ((thread_in ts c).process ≡ process))
        → (c : ℕ) × (IsLive (t ∷ ts) c) × ((thread_in (t ∷ ts) c).process ≡ process)
    by true here is rest = let parts = and_parts (eqb t.process process) (not t.has_ended) here in (zero, turned t.has_ended parts.1, eqb-true t.process process parts.0)
    by false other is rest = let later = rest is in (suc later.0, later.1, later.2)

-- a test that no thread passes
pub none-at : (test : Thread → Bool) (ts : List Thread) (c : ℕ) → list_any test ts ≡ false → IsLive ts c → test (thread_in ts c) ≡ false
none-at test [] c none live = absurd (true≢false live)
none-at test (t ∷ ts) zero none live = (or_parts (test t) (list_any test ts) none).0
none-at test (t ∷ ts) (suc c) none live = none-at test ts c (or_parts (test t) (list_any test ts) none).1 live

-- of a pid that no process has
pub no-pid : (ts : List Thread) (p c : ℕ) → list_any (has_pid p) ts ≡ false → IsLive ts c → (thread_in ts c).pid ≢ p
no-pid ts p c none live is =
    let here : has_pid p (thread_in ts c) ≡ true = λ i. eq-eqb (thread_in ts c).pid p is i && not (live i) in true≢false (sym here ∙ none-at (has_pid p) ts c none live)

-- of a pid that no other process has
pub own-pid : (ts : List Thread) (process p c : ℕ) → list_any (is_other process p) ts ≡ false → IsLive ts c → (thread_in ts c).pid ≡ p
    → (thread_in ts c).process ≡ process
own-pid ts process p c none live is = by (eqb (thread_in ts c).process process) refl
  where
    here : has_pid p (thread_in ts c) ≡ true
    here = λ i. eq-eqb (thread_in ts c).pid p is i && not (live i)

    by : (b : Bool) → eqb (thread_in ts c).process process ≡ b → (thread_in ts c).process ≡ process
    by true same = eqb-true (thread_in ts c).process process same
    by false other = absurd (true≢false (sym (λ i. here i && not (other i)) ∙ none-at (is_other process p) ts c none live))

-- all of a list, where one element is replaced
pub all-set : (P : Thread → Type 0) (ts : List Thread) (c : ℕ) (a : Thread) → P a → AllByRecursion P ts → AllByRecursion P (set ts c a)
all-set P [] c a here all = tt
all-set P (t ∷ ts) zero a here all = (here, all.1)
all-set P (t ∷ ts) (suc c) a here all = (all.0, all-set P ts c a here all.1)

all-mapped : (P : Thread → Type 0) (f : Thread → Thread) → ((t : Thread) → P t → P (f t)) → (ts : List Thread) → AllByRecursion P ts
    → AllByRecursion P (map f ts)
all-mapped P f keeps [] all = tt
all-mapped P f keeps (t ∷ ts) all = (keeps t all.0, all-mapped P f keeps ts all.1)

pub all-at : (next : ℕ) (ts : List Thread) (c : ℕ) → AllByRecursion (λ t. t.process < next) ts → IsLive ts c → (thread_in ts c).process < next
all-at next [] c all live = absurd (true≢false live)
all-at next (t ∷ ts) zero all live = all.0
all-at next (t ∷ ts) (suc c) all live = all-at next ts c all.1 live

abbrev AreBelow : ℕ → List Thread → Type 0
AreBelow next ts = AllByRecursion (λ t. t.process < next) ts

below-more : (next more : ℕ) → next ≤ more → (ts : List Thread) → AreBelow next ts → AreBelow more ts
below-more next more le [] all = tt
below-more next more le (t ∷ ts) all = (let lt = all.0 in omega (arith, lt, le), below-more next more le ts all.1)

-- a process that runs has a serial number below the next one
pub runs-below : (ts : List Thread) (next process : ℕ) → AreNumbered ts next → Runs ts process → process < next
runs-below ts next process numbered is =
    let at = runs-at ts process is in subst (λ n. n < next) at.2 (all-at next ts at.0 numbered.below at.1)

-- a thread lived before, under the same pid and in the same process
abbrev Stayed : List Thread → List Thread → ℕ → Type 0
Stayed ts us c = (IsLive ts c) × ((thread_in us c).pid ≡ (thread_in ts c).pid) × ((thread_in us c).process ≡ (thread_in ts c).process)

-- or is of this process now, and has this pid
abbrev Came : ℕ → ℕ → List Thread → ℕ → Type 0
Came p process us c = (0 < p) × ((thread_in us c).pid ≡ p) × ((thread_in us c).process ≡ process)

-- one or the other of each that lives, where no other process had the pid
module _ (ts us : List Thread) (next more : ℕ) (numbered : AreNumbered ts next) (below : AreBelow more us) (p process : ℕ) where
  numbered-by : ((c : ℕ) → IsLive us c → Stayed ts us c ⊎ Came p process us c)
      → ((c : ℕ) → IsLive ts c → (thread_in ts c).pid ≡ p → (thread_in ts c).process ≡ process) → AreNumbered us more
  numbered-by each own = record {
    below = below;
    shown = λ c live. ⊎_elim
        (λ (old : Stayed ts us c). subst (λ n. 0 < n) (sym old.1) (numbered.shown c old.0))
        (λ (new : Came p process us c). subst (λ n. 0 < n) (sym new.1) new.0)
        (each c live);
    once = λ c d live also same. ⊎_elim
        (λ (old : Stayed ts us c). ⊎_elim
        (λ (too : Stayed ts us d). old.2 ∙ numbered.once c d old.0 too.0 (sym old.1 ∙ same ∙ too.1) ∙ sym too.2)
        (λ (new : Came p process us d). old.2 ∙ own c old.0 (sym old.1 ∙ same ∙ new.1) ∙ sym new.2)
        (each d also))
        (λ (new : Came p process us c). ⊎_elim
        (λ (old : Stayed ts us d). new.2 ∙ sym (own d old.0 (sym old.1 ∙ sym same ∙ new.1)) ∙ sym old.2)
        (λ (too : Came p process us d). new.2 ∙ sym too.2)
        (each d also))
        (each c live);
  }

-- no thread comes: pid 0 is nobody's
numbered-fewer : (ts us : List Thread) (next : ℕ) → AreNumbered ts next → AreBelow next us → ((c : ℕ) → IsLive us c → Stayed ts us c)
    → AreNumbered us next
numbered-fewer ts us next numbered below each =
    numbered-by ts us next next numbered below 0 0 (λ c live. inl (each c live))
    (λ c live is. absurd (let some : 0 < 0 = subst (λ n. 0 < n) is (numbered.shown c live) in omega (arith, some)))

-- a thread as it was
stayed-as : (ts us : List Thread) (c : ℕ) → thread_in us c ≡ thread_in ts c → IsLive us c → Stayed ts us c
stayed-as ts us c same live = (sym (ap (λ (t : Thread). t.has_ended) same) ∙ live, ap (λ (t : Thread). t.pid) same, ap (λ (t : Thread). t.process) same)

-- a thread begins where one had ended
module _ (ts : List Thread) (child : ℕ) (there : child < length ts) (gone : (thread_in ts child).has_ended ≡ true) (process p : ℕ) where
  abbrev begun-thread : Thread
  begun-thread = record { process = process; pid = p; has_ended = false }

  abbrev pub with-begun : List Thread
  with-begun = set ts child begun-thread

  pub begun-here : thread_in with-begun child ≡ begun-thread
  begun-here = get_or-set_same ts child begun-thread no_thread there

  begun-other : (c : ℕ) → c ≢ child → thread_in with-begun c ≡ thread_in ts c
  begun-other c ne = get_or-set_other ts child c begun-thread no_thread ne

  pub runs-new : Runs with-begun process
  runs-new = runs-by with-begun child process (ap (λ (t : Thread). t.has_ended) begun-here) (ap (λ (t : Thread). t.process) begun-here)

  pub runs-begun : (q : ℕ) → Runs ts q → Runs with-begun q
  runs-begun q is =
      let at = runs-at ts q is in
      let same = begun-other at.0 (λ e. true≢false (sym gone ∙ sym (ap (λ n. (thread_in ts n).has_ended) e) ∙ at.1)) in
      runs-by with-begun at.0 q (ap (λ (t : Thread). t.has_ended) same ∙ at.1) (ap (λ (t : Thread). t.process) same ∙ at.2)

  pub numbered-begun : (next more : ℕ) → next ≤ more → process < more → 0 < p
      → ((c : ℕ) → IsLive ts c → (thread_in ts c).pid ≡ p → (thread_in ts c).process ≡ process)
      → AreNumbered ts next → AreNumbered with-begun more
  numbered-begun next more le lt some own numbered =
      let below : AreBelow more with-begun = all-set (λ t. t.process < more) ts child begun-thread lt (below-more next more le ts numbered.below) in
      numbered-by ts with-begun next more numbered below p process
      (λ c live. ⊎_elim
      (λ (e : c ≡ child). let here = ap (thread_in with-begun) e ∙ begun-here in inr (some, ap (λ (t : Thread). t.pid) here, ap (λ (t : Thread). t.process) here))
      (λ (ne : c ≡ child → ⊥). inl (stayed-as ts with-begun c (begun-other c ne) live))
      (cases_eq c child))
      own

-- a thread ends
gone-here : (ts : List Thread) (c : ℕ) (t : Thread) → (get_or (set ts c (record t { has_ended = true })) c no_thread).has_ended ≡ true
gone-here [] c t = refl
gone-here (x ∷ ts) zero t = refl
gone-here (x ∷ ts) (suc c) t = gone-here ts c t

module _ (ts : List Thread) (client : ℕ) where
  abbrev own : ℕ
  own = (thread_in ts client).process

  abbrev pub with-gone : List Thread
  with-gone = set ts client (record (thread_in ts client) { has_ended = true })

  gone-other : (c : ℕ) → c ≢ client → thread_in with-gone c ≡ thread_in ts c
  gone-other c ne = get_or-set_other ts client c (record (thread_in ts client) { has_ended = true }) no_thread ne

  pub runs-gone : (q : ℕ) → Runs ts q → q ≢ own → Runs with-gone q
  runs-gone q is ne =
      let at = runs-at ts q is in
      let same = gone-other at.0 (λ e. ne (sym at.2 ∙ ap (λ n. (thread_in ts n).process) e)) in
      runs-by with-gone at.0 q (ap (λ (t : Thread). t.has_ended) same ∙ at.1) (ap (λ (t : Thread). t.process) same ∙ at.2)

  -- where another thread of its process lives
  pub runs-left : Runs with-gone own → (q : ℕ) → Runs ts q → Runs with-gone q
  runs-left still q is = ⊎_elim (λ (e : q ≡ own). subst (Runs with-gone) (sym e) still) (λ (ne : q ≡ own → ⊥). runs-gone q is ne) (cases_eq q own)

  -- also of a client that isn't there
  below-set : (next : ℕ) (xs : List Thread) (c : ℕ) → AreBelow next xs → AreBelow next (set xs c (record (thread_in xs c) { has_ended = true }))
  below-set next [] c all = tt
  below-set next (x ∷ xs) zero all = (all.0, all.1)
  below-set next (x ∷ xs) (suc c) all = (all.0, below-set next xs c all.1)

  pub numbered-gone : (next : ℕ) → AreNumbered ts next → AreNumbered with-gone next
  numbered-gone next numbered = numbered-fewer ts with-gone next numbered (below-set next ts client numbered.below)
      (λ c live. ⊎_elim
      (λ (e : c ≡ client). absurd (true≢false (sym (gone-here ts client (thread_in ts client)) ∙ sym (ap (λ n. (thread_in with-gone n).has_ended) e) ∙ live)))
      (λ (ne : c ≡ client → ⊥). stayed-as ts with-gone c (gone-other c ne) live)
      (cases_eq c client))

-- all threads of a process end
below-ended : (next process : ℕ) (t : Thread) → t.process < next → (ends process t).process < next
below-ended next process t lt = by (eqb t.process process)
  where
    by : (b : Bool) → (cond b (record t { has_ended = true }) t).process < next
    by true = lt
    by false = lt

ends-apart : (ts : List Thread) (process c : ℕ) → (thread_in ts c).process ≢ process → thread_in (map (ends process) ts) c ≡ thread_in ts c
ends-apart [] process c ne = refl
ends-apart (t ∷ ts) process zero ne = ap (λ b. cond b (record t { has_ended = true }) t) (ne_eqb t.process process ne)
ends-apart (t ∷ ts) process (suc c) ne = ends-apart ts process c ne

module _ (ts : List Thread) (process : ℕ) where
  abbrev pub all-gone : List Thread
  all-gone = map (ends process) ts

  pub runs-apart : (q : ℕ) → Runs ts q → q ≢ process → Runs all-gone q
  runs-apart q is ne =
      let at = runs-at ts q is in
      let same = ends-apart ts process at.0 (λ e. ne (sym at.2 ∙ e)) in
      runs-by all-gone at.0 q (ap (λ (t : Thread). t.has_ended) same ∙ at.1) (ap (λ (t : Thread). t.process) same ∙ at.2)

  pub numbered-ended : (next : ℕ) → AreNumbered ts next → AreNumbered all-gone next
  numbered-ended next numbered = numbered-fewer ts all-gone next numbered (all-mapped (λ t. t.process < next) (ends process) (below-ended next process) ts numbered.below)
      (λ c live. stayed-as ts all-gone c (left-alone ts process c live).0 live)

-- exec: the others of the process end
exec-here : (ts : List Thread) (f : Thread → Thread) (c : ℕ) → get_or (set (map f ts) c (get_or ts c no_thread)) c no_thread ≡ get_or ts c no_thread
exec-here [] f c = refl
exec-here (t ∷ ts) f zero = refl
exec-here (t ∷ ts) f (suc c) = exec-here ts f c

module _ (ts : List Thread) (client : ℕ) (lives : IsLive ts client) where
  abbrev home : ℕ
  home = (thread_in ts client).process

  abbrev pub with-alone : List Thread
  with-alone = set (map (ends home) ts) client (thread_in ts client)

  alone-here : thread_in with-alone client ≡ thread_in ts client
  alone-here = exec-here ts (ends home) client

  alone-other : (c : ℕ) → c ≢ client → thread_in with-alone c ≡ thread_in (map (ends home) ts) c
  alone-other c ne = get_or-set_other (map (ends home) ts) client c (thread_in ts client) no_thread ne

  pub runs-alone : (q : ℕ) → Runs ts q → Runs with-alone q
  runs-alone q is = ⊎_elim
      (λ (e : q ≡ home). runs-by with-alone client q (ap (λ (t : Thread). t.has_ended) alone-here ∙ lives) (ap (λ (t : Thread). t.process) alone-here ∙ sym e))
      (λ (ne : q ≡ home → ⊥).
      let at = runs-at (map (ends home) ts) q (runs-apart ts home q is ne) in
      let same = alone-other at.0 (λ e. ne (sym at.2 ∙ ap (λ n. (thread_in (map (ends home) ts) n).process) e ∙ ended-process ts client)) in
      runs-by with-alone at.0 q (ap (λ (t : Thread). t.has_ended) same ∙ at.1) (ap (λ (t : Thread). t.process) same ∙ at.2))
      (cases_eq q home)
    where
      ended-process : (xs : List Thread) (c : ℕ) → (thread_in (map (ends home) xs) c).process ≡ (thread_in xs c).process
      ended-process [] c = refl
      ended-process (x ∷ xs) (suc c) = ended-process xs c
      ended-process (x ∷ xs) zero = by (eqb x.process home)
        where
          by : (b : Bool) → (cond b (record x { has_ended = true }) x).process ≡ x.process
          by true = refl
          by false = refl

  pub numbered-alone : (next : ℕ) → AreNumbered ts next → AreNumbered with-alone next
  numbered-alone next numbered = numbered-fewer ts with-alone next numbered
      (all-set (λ t. t.process < next) (map (ends home) ts) client (thread_in ts client) (all-at next ts client numbered.below lives)
      (all-mapped (λ t. t.process < next) (ends home) (below-ended next home) ts numbered.below))
      (λ c live. ⊎_elim
      (λ (e : c ≡ client). stayed-as ts with-alone c (ap (thread_in with-alone) e ∙ alone-here ∙ ap (thread_in ts) (sym e)) live)
      (λ (ne : c ≡ client → ⊥).
      let same = alone-other c ne in
      stayed-as ts with-alone c (same ∙ (left-alone ts home c (sym (ap (λ (t : Thread). t.has_ended) same) ∙ live)).0) live)
      (cases_eq c client))

-- name: the threads of a process have another pid
module _ (process p : ℕ) where
  renamed-ended : (ts : List Thread) (c : ℕ) → (thread_in (map (renamed process p) ts) c).has_ended ≡ (thread_in ts c).has_ended
  renamed-ended [] c = refl
  renamed-ended (t ∷ ts) (suc c) = renamed-ended ts c
  renamed-ended (t ∷ ts) zero = by (runs process t)
    where
      by : (b : Bool) → (cond b (record t { pid = p }) t).has_ended ≡ t.has_ended
      by true = refl
      by false = refl

  renamed-at : (ts : List Thread) (c : ℕ) → IsLive ts c → thread_in (map (renamed process p) ts) c ≡ renamed process p (thread_in ts c)
  renamed-at [] c live = absurd (true≢false live)
  renamed-at (t ∷ ts) zero live = refl
  renamed-at (t ∷ ts) (suc c) live = renamed-at ts c live

  renamed-below : (next : ℕ) (t : Thread) → t.process < next → (renamed process p t).process < next
  renamed-below next t lt = by (runs process t)
    where
      by : (b : Bool) → (cond b (record t { pid = p }) t).process < next
      by true = lt
      by false = lt

  pub runs-renamed : (ts : List Thread) (q : ℕ) → Runs ts q → Runs (map (renamed process p) ts) q
  runs-renamed ts q is =
      let at = runs-at ts q is in
      runs-by (map (renamed process p) ts) at.0 q (renamed-ended ts at.0 ∙ at.1) (renamed-process ts process p at.0 ∙ at.2)

  pub numbered-renamed : (ts : List Thread) (next : ℕ) → 0 < p
      → ((c : ℕ) → IsLive ts c → (thread_in ts c).pid ≡ p → (thread_in ts c).process ≡ process) → AreNumbered ts next
      → AreNumbered (map (renamed process p) ts) next
  numbered-renamed ts next some own numbered =
      let us = map (renamed process p) ts in
      let below = all-mapped (λ t. t.process < next) (renamed process p) (renamed-below next) ts numbered.below in
      numbered-by ts us next next numbered below p process (λ c live. each c (sym (renamed-ended ts c) ∙ live) (runs process (thread_in ts c)) refl) own
    where
      each : (c : ℕ) → IsLive ts c → (b : Bool) → runs process (thread_in ts c) ≡ b
          → Stayed ts (map (renamed process p) ts) c ⊎ Came p process (map (renamed process p) ts) c
      each c was true is =
          let same : thread_in (map (renamed process p) ts) c ≡ record (thread_in ts c) { pid = p } = renamed-at ts c was ∙ ap (λ b. cond b (record (thread_in ts c) { pid = p }) (thread_in ts c)) is in
          inr (some, ap (λ (t : Thread). t.pid) same, ap (λ (t : Thread). t.process) same ∙ eqb-true (thread_in ts c).process process (and_parts (eqb (thread_in ts c).process process) (not (thread_in ts c).has_ended) is).0)
      each c was false isnt =
          let same : thread_in (map (renamed process p) ts) c ≡ thread_in ts c = renamed-at ts c was ∙ ap (λ b. cond b (record (thread_in ts c) { pid = p }) (thread_in ts c)) isnt in
          inl (was, ap (λ (t : Thread). t.pid) same, ap (λ (t : Thread). t.process) same)
