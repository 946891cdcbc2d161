-- The threads of a process are of one pid, and how that is kept.
use Rattle.std.proofs.Common.{◌≡◌, ◌≢◌, ℕ, zero, suc, ◌+◌, ◌<◌, ◌≤◌, Bool, true, false, cond, eqb, set, List, [], ◌∷◌, length, refl, sym, ap, ◌∙◌, ⊎_elim, inl, inr, arith}
use Rattle.std.specs.Prelude.{◌⊎◌, ◌&&◌, map, not}
use Rattle.std.specs.List.{AllByRecursion, list_any}
use Rattle.std.proofs.lemmas.Bool.{and_parts, cases_Bool, cases_eq, eq-eqb, eqb-true, ne_eqb, true≢false}
use Rattle.std.proofs.lemmas.List.{get_or-set_other, get_or-set_same, length-map}
use Rattle.ipc_model.specs.State.{Credentials, Thread, first_threads, has_pid, no_thread, runs}
use Rattle.ipc_model.specs.Processes.{ends, renamed}
use Rattle.ipc_model.specs.Tidy.{AreNumbered, IsLive, thread_in}
use Rattle.ipc_model.proofs.Apart.{left-alone}
use Rattle.process_table.specs.Index.{HaveOnePid, as_ended, changed_if, under_pid}
use Rattle.process_table.proofs.Indexing.{and-false, and-true, known-live, of-no-pid, of-pid}
use Rattle.process_table.proofs.Changing.{map-alike, map-same}
use Rattle.process_table.proofs.Finding.{any-alike}

-- before the first event
first-below : (n next : ℕ) (cs : List Credentials) → n + length cs ≤ next → AllByRecursion (λ t. t.process < next) (first_threads n cs)
unfolding first_threads
first-below n next [] le = tt
first-below n next (c ∷ cs) le = (omega (arith, le), first-below (n + 1) next cs (omega (arith, le)))

first-shown : (n : ℕ) (cs : List Credentials) (client : ℕ) → IsLive (first_threads n cs) client
    → (thread_in (first_threads n cs) client).pid ≡ (thread_in (first_threads n cs) client).process + 1
unfolding first_threads
first-shown n [] client live = absurd (true≢false live)
first-shown n (c ∷ cs) zero live = refl
first-shown n (c ∷ cs) (suc client) live = first-shown (n + 1) cs client live

pub numbered-first : (cs : List Credentials) → AreNumbered (first_threads 0 cs) (length cs)
numbered-first cs = record {
  below = first-below 0 (length cs) cs (omega arith);
  shown = λ c live. let is = first-shown 0 cs c live in omega (arith, is);
  once = λ c d live also same. let one = first-shown 0 cs c live in let other = first-shown 0 cs d also in omega (arith, one, other, same);
}

pub one-first : (cs : List Credentials) → HaveOnePid (first_threads 0 cs)
one-first cs c d live also same = let one = first-shown 0 cs c live in let other = first-shown 0 cs d also in omega (arith, one, other, same)

-- a thread lived before, under the same pid and in the same process
abbrev Stayed : List Thread → List Thread → ℕ → Type 0
Stayed ts us c = (IsLive ts c) × ((thread_in us c).pid ≡ (thread_in ts c).pid) × ((thread_in us c).process ≡ (thread_in ts c).process)

-- or it is of this process, and has this pid
abbrev Came : ℕ → ℕ → List Thread → ℕ → Type 0
Came p process us c = ((thread_in us c).pid ≡ p) × ((thread_in us c).process ≡ process)

one-by : (ts us : List Thread) (p process : ℕ) → HaveOnePid ts → ((c : ℕ) → IsLive us c → Stayed ts us c ⊎ Came p process us c)
    → ((c : ℕ) → IsLive ts c → (thread_in us c).process ≡ process → Stayed ts us c → (thread_in ts c).pid ≡ p) → HaveOnePid us
one-by ts us p process one each own c d live also same = ⊎_elim
    (λ (old : Stayed ts us c). ⊎_elim
    (λ (too : Stayed ts us d). old.1 ∙ one c d old.0 too.0 (sym old.2 ∙ same ∙ too.2) ∙ sym too.1)
    (λ (new : Came p process us d). old.1 ∙ own c old.0 (same ∙ new.1) old ∙ sym new.0)
    (each d also))
    (λ (new : Came p process us c). ⊎_elim
    (λ (old : Stayed ts us d). new.0 ∙ sym (old.1 ∙ own d old.0 (sym same ∙ new.1) old))
    (λ (too : Came p process us d). new.0 ∙ sym too.0)
    (each d also))
    (each c live)

one-fewer : (ts us : List Thread) → HaveOnePid ts → ((c : ℕ) → IsLive us c → Stayed ts us c) → HaveOnePid us
one-fewer ts us one each c d live also same =
    let old = each c live in let too = each d also in old.1 ∙ one c d old.0 too.0 (sym old.2 ∙ same ∙ too.2) ∙ sym too.1

one-apart : (ts us : List Thread) (p process : ℕ) → HaveOnePid ts
    → ((c : ℕ) → IsLive us c → ((Stayed ts us c) × ((thread_in us c).process ≢ process)) ⊎ Came p process us c) → HaveOnePid us
one-apart ts us p process one each c d live also same = ⊎_elim
    (λ (old : (Stayed ts us c) × ((thread_in us c).process ≢ process)). ⊎_elim
    (λ (too : (Stayed ts us d) × ((thread_in us d).process ≢ process)). old.0.1 ∙ one c d old.0.0 too.0.0 (sym old.0.2 ∙ same ∙ too.0.2) ∙ sym too.0.1)
    (λ (new : Came p process us d). absurd (old.1 (same ∙ new.1)))
    (each d also))
    (λ (new : Came p process us c). ⊎_elim
    (λ (old : (Stayed ts us d) × ((thread_in us d).process ≢ process)). absurd (old.1 (sym same ∙ new.1)))
    (λ (too : Came p process us d). new.0 ∙ sym too.0)
    (each d also))
    (each c live)

stayed-as : (ts us : List Thread) (c : ℕ) → thread_in us c ≡ thread_in ts c → IsLive us c → Stayed ts us c
stayed-as ts us c same live = (sym (ap (λ (t : Thread). t.has_ended) same) ∙ live, ap (λ (t : Thread). t.pid) same, ap (λ (t : Thread). t.process) same)

-- where one is replaced
module _ (ts : List Thread) (client : ℕ) (t : Thread) (known : client < length ts) where
  set-here : (c : ℕ) → c ≡ client → thread_in (set ts client t) c ≡ t
  set-here c same = ap (thread_in (set ts client t)) same ∙ get_or-set_same ts client t no_thread known

  set-stayed : (c : ℕ) → c ≢ client → IsLive (set ts client t) c → Stayed ts (set ts client t) c
  set-stayed c apart live = stayed-as ts (set ts client t) c (get_or-set_other ts client c t no_thread apart) live

  pub one-put : HaveOnePid ts → ((c : ℕ) → IsLive ts c → (thread_in ts c).process ≡ t.process → (thread_in ts c).pid ≡ t.pid) → HaveOnePid (set ts client t)
  one-put one own = one-by ts (set ts client t) t.pid t.process one
      (λ c live. ⊎_elim
      (λ (same : c ≡ client). inr (ap (λ (x : Thread). x.pid) (set-here c same), ap (λ (x : Thread). x.process) (set-here c same)))
      (λ (apart : c ≡ client → ⊥). inl (set-stayed c apart live))
      (cases_eq c client))
      (λ c live is old. own c live (sym old.2 ∙ is))

-- all of a process end
pub one-ended : (ts : List Thread) (process : ℕ) → HaveOnePid ts → HaveOnePid (map (ends process) ts)
one-ended ts process one = one-fewer ts (map (ends process) ts) one (λ c live. stayed-as ts (map (ends process) ts) c (left-alone ts process c live).0 live)

-- but one
pub one-alone : (ts : List Thread) (client : ℕ) → IsLive ts client → HaveOnePid ts → HaveOnePid (set (map (ends (thread_in ts client).process) ts) client (thread_in ts client))
one-alone ts client live one =
    let process = (thread_in ts client).process in
    let us = map (ends process) ts in
    one-put us client (thread_in ts client) (let known = known-live ts client live in let long = length-map ts (ends process) in omega (arith, known, long)) (one-ended ts process one)
    (λ c lives is. absurd ((left-alone ts process c lives).1 (ap (λ (t : Thread). t.process) (sym (left-alone ts process c lives).0) ∙ is)))

-- another pid
module _ (process p : ℕ) where
  renamed-at : (ts : List Thread) (c : ℕ) → c < length ts → thread_in (map (renamed process p) ts) c ≡ renamed process p (thread_in ts c)
  renamed-at [] c known = absurd (omega (arith, known))
  renamed-at (t ∷ ts) zero known = refl
  renamed-at (t ∷ ts) (suc c) known = renamed-at ts c (omega (arith, known))

  pub one-renamed : (ts : List Thread) → HaveOnePid ts → HaveOnePid (map (renamed process p) ts)
  one-renamed ts one = one-apart ts (map (renamed process p) ts) p process one (λ c live. each c (long c live) live (runs process (thread_in ts c)) refl)
    where
      long : (c : ℕ) → IsLive (map (renamed process p) ts) c → c < length ts
      long c live = let known = known-live (map (renamed process p) ts) c live in let same = length-map ts (renamed process p) in omega (arith, known, same)

      each : (c : ℕ) → c < length ts → IsLive (map (renamed process p) ts) c → (b : Bool) → runs process (thread_in ts c) ≡ b
          → ((Stayed ts (map (renamed process p) ts) c) × ((thread_in (map (renamed process p) ts) c).process ≢ process)) ⊎ Came p process (map (renamed process p) ts) c
      each c known live true is =
          let same : thread_in (map (renamed process p) ts) c ≡ record (thread_in ts c) { pid = p } = renamed-at ts c known ∙ ap (λ b. cond b (record (thread_in ts c) { pid = p }) (thread_in ts c)) is in
          inr (ap (λ (t : Thread). t.pid) same, ap (λ (t : Thread). t.process) same ∙ eqb-true (thread_in ts c).process process (and_parts (eqb (thread_in ts c).process process) (not (thread_in ts c).has_ended) is).0)
      each c known live false isnt =
          let same : thread_in (map (renamed process p) ts) c ≡ thread_in ts c = renamed-at ts c known ∙ ap (λ b. cond b (record (thread_in ts c) { pid = p }) (thread_in ts c)) isnt in
          let old = stayed-as ts (map (renamed process p) ts) c same live in
          inl (old, λ e. true≢false (sym (λ i. eq-eqb (thread_in ts c).process process (sym old.2 ∙ e) i && not (old.0 i)) ∙ isnt))

-- a thread is of the process of a client that lives exactly where it has its pid
module _ (ts : List Thread) (next client : ℕ) (numbered : AreNumbered ts next) (one : HaveOnePid ts) (live : IsLive ts client) where
  abbrev own : Thread
  own = thread_in ts client

  pub same-tests : (c : ℕ) → has_pid own.pid (thread_in ts c) ≡ runs own.process (thread_in ts c)
  same-tests c = ⊎_elim
      (λ (ended : (thread_in ts c).has_ended ≡ true). of-no-pid (thread_in ts c) own.pid ended ∙ sym ((λ i. eqb (thread_in ts c).process own.process && not (ended i)) ∙ and-false (eqb (thread_in ts c).process own.process)))
      (λ (lives : (thread_in ts c).has_ended ≡ false). λ i. agree lives i && not (thread_in ts c).has_ended)
      (cases_Bool (thread_in ts c).has_ended)
    where
      agree : IsLive ts c → eqb (thread_in ts c).pid own.pid ≡ eqb (thread_in ts c).process own.process
      agree lives = ⊎_elim
          (λ (same : (thread_in ts c).pid ≡ own.pid). eq-eqb (thread_in ts c).pid own.pid same ∙ sym (eq-eqb (thread_in ts c).process own.process (numbered.once c client lives live same)))
          (λ (apart : (thread_in ts c).pid ≡ own.pid → ⊥).
          ne_eqb (thread_in ts c).pid own.pid apart ∙ sym (ne_eqb (thread_in ts c).process own.process (λ e. apart (one c client lives live e))))
          (cases_eq (thread_in ts c).pid own.pid)

  pub ends-all : map (changed_if (has_pid own.pid) as_ended) ts ≡ map (ends own.process) ts
  ends-all = map-alike (changed_if (has_pid own.pid) as_ended) (ends own.process) ts (λ c known. each c)
    where
      each : (c : ℕ) → changed_if (has_pid own.pid) as_ended (thread_in ts c) ≡ ends own.process (thread_in ts c)
      each c = ⊎_elim
          (λ (ended : (thread_in ts c).has_ended ≡ true).
          let same : as_ended (thread_in ts c) ≡ thread_in ts c = (λ i. record (thread_in ts c) { has_ended = sym ended i }) in
          ap (λ b. cond b (as_ended (thread_in ts c)) (thread_in ts c)) (of-no-pid (thread_in ts c) own.pid ended)
          ∙ sym (either (eqb (thread_in ts c).process own.process) (as_ended (thread_in ts c)) (thread_in ts c) same))
          (λ (lives : (thread_in ts c).has_ended ≡ false).
          ap (λ b. cond b (as_ended (thread_in ts c)) (thread_in ts c))
          (same-tests c ∙ (λ i. eqb (thread_in ts c).process own.process && not (lives i)) ∙ and-true (eqb (thread_in ts c).process own.process)))
          (cases_Bool (thread_in ts c).has_ended)
        where
          either : (b : Bool) (x y : Thread) → x ≡ y → cond b x y ≡ y
          either true x y same = same
          either false x y same = refl

  pub renames-all : (p : ℕ) → map (changed_if (has_pid own.pid) (under_pid p)) ts ≡ map (renamed own.process p) ts
  renames-all p = map-alike (changed_if (has_pid own.pid) (under_pid p)) (renamed own.process p) ts (λ c known. ap (λ b. cond b (under_pid p (thread_in ts c)) (thread_in ts c)) (same-tests c))

  pub renames-none : (p : ℕ) → own.pid ≡ p → ts ≡ map (renamed own.process p) ts
  renames-none p same = sym (map-same (renamed own.process p) ts (λ c known. each c (has_pid own.pid (thread_in ts c)) refl))
    where
      each : (c : ℕ) (b : Bool) → has_pid own.pid (thread_in ts c) ≡ b → renamed own.process p (thread_in ts c) ≡ thread_in ts c
      each c true is =
          ap (λ b. cond b (record (thread_in ts c) { pid = p }) (thread_in ts c)) (sym (same-tests c) ∙ is)
          ∙ (λ i. record (thread_in ts c) { pid = sym ((of-pid (thread_in ts c) own.pid is).0 ∙ same) i })
      each c false isnt = ap (λ b. cond b (record (thread_in ts c) { pid = p }) (thread_in ts c)) (sym (same-tests c) ∙ isnt)

  -- where its thread ends, the process runs where its pid is one
  pub runs-alike : list_any (has_pid own.pid) (set ts client (as_ended own)) ≡ list_any (runs own.process) (set ts client (as_ended own))
  runs-alike = any-alike (has_pid own.pid) (runs own.process) (set ts client (as_ended own)) (λ c known. ⊎_elim
      (λ (same : c ≡ client).
      let here = set-here ts client (as_ended own) (known-live ts client live) c same in
      ap (has_pid own.pid) here ∙ of-no-pid (as_ended own) own.pid refl ∙ sym (ap (runs own.process) here ∙ and-false (eqb own.process own.process)))
      (λ (apart : c ≡ client → ⊥).
      let there = get_or-set_other ts client c (as_ended own) no_thread apart in
      ap (has_pid own.pid) there ∙ same-tests c ∙ sym (ap (runs own.process) there))
      (cases_eq c client))
