-- A change of one object, and of what exit undoes there, leaves the others as they were.
use Rattle.std.proofs.Common.{◌+◌, ◌≡◌, ◌≢◌, ℕ, zero, suc, get_or, ℤ, Bool, true, false, cond, eqb, List, [], ◌∷◌, refl, sym, ap, ◌∙◌, ⊎_elim, Option, Some, None}
use Rattle.std.specs.Prelude.{◌&&◌, ◌||◌, filter, is_none, map, not, pos, ◌-ℤ◌, option_map}
use Rattle.std.specs.List.{list_any}
use Rattle.std.specs.Ordering.{int_eq}
use Rattle.std.specs.FinMap as finite
use Rattle.std.proofs.lemmas.Bool.{cases_Bool, eq-eqb, false≢true, ne_eqb, true≢false}
use Rattle.std.proofs.lemmas.Option.{none-some, same_Some}
use Rattle.ipc_call.specs.declared.calls.SemOper.{SemOper}
use Rattle.ipc_ids.specs.Table.{Table, id_at, is_retired, is_usable, least_from, next_id, object_at}
use Rattle.ipc_ids.proofs.Least.{least_found}
use Rattle.ipc_ids.proofs.Sound.{get-insert-other}
use Rattle.ipc_objects.specs.declared.object.Object.{Object}
use Rattle.ipc_objects.specs.Objects.{changed, with_perm}
use Rattle.sem_set.specs.declared.set.Semaphore.{Semaphore}
use Rattle.sem_set.specs.Exits.{any_from, undone_from}
use Rattle.sem_set.specs.Trials.{sum_of, undoes, undoes_on}
use Rattle.sem_undo.specs.Entries.{Adjusted, Entries, adj_of, cleared, without_client}
use Rattle.sem_undo.proofs.Entries.{get_kept, get_with_apart, key}
use Rattle.ipc_model.specs.State.{Caller, SemSet, Sems, Thread, no_thread, runs}
use Rattle.ipc_model.specs.Processes.{ends, renamed}
use Rattle.ipc_model.specs.Semaphores.{set_after_exit, lowered, with_adjs}

-- an object at another identifier
pub changed-apart : {X : Type 0} (t : Table (Object X)) (id at : ℕ) (f : Object X → Object X) → at ≢ id → finite.get (changed t id f).objects at ≡ finite.get t.objects at
changed-apart {X} t id at f other = by (finite.get t.objects id)
  where
    by : (o : Option (Object X)) → finite.get (with_perm t id f o).objects at ≡ finite.get t.objects at
    by None = refl
    by (Some object) = get-insert-other t.objects id (f object) at other

-- no object has the identifier of the next one
pub next-free : {X : Type 0} (t : Table X) (id : ℕ) → next_id t ≡ Some id → finite.get t.objects id ≡ None
next-free {X} t id is = by (least_from (λ slot. is_usable t slot) t.slots 0) refl is
  where
    usable : (retired : Bool) (o : Option X) → not retired && is_none o ≡ true → o ≡ None
    usable retired None is = refl
    usable true (Some x) is = absurd (false≢true is)
    usable false (Some x) is = absurd (false≢true is)

    by : (o : Option ℕ) → least_from (λ slot. is_usable t slot) t.slots 0 ≡ o → option_map (λ slot. id_at t slot) o ≡ Some id → finite.get t.objects id ≡ None
    by None found is = absurd (none-some id is)
    by (Some slot) found is =
        ap (λ n. finite.get t.objects n) (sym (same_Some (id_at t slot) id is))
        ∙ usable (is_retired t slot) (object_at t slot) (least_found (λ slot. is_usable t slot) t.slots 0 slot found).0

-- a semop lowers semadj on its set alone
adjs-apart : (client id : ℕ) (adj : ℕ → ℤ) (nums : List ℕ) (m : Entries) (q : Adjusted) → q.set ≢ id → finite.get (with_adjs m client id adj nums) q ≡ finite.get m q
adjs-apart client id adj [] m q other = refl
adjs-apart client id adj (num ∷ nums) m q other =
    get_with_apart (with_adjs m client id adj nums) (key client id num) q (adj num) (λ e. other (ap (λ (k : Adjusted). k.set) e)) ∙ adjs-apart client id adj nums m q other

pub lowered-apart : (client id : ℕ) (ops : List SemOper) (m : Entries) (q : Adjusted) → q.set ≢ id → finite.get (lowered m client id ops) q ≡ finite.get m q
lowered-apart client id ops m q other = adjs-apart client id (λ num. adj_of m client id num -ℤ sum_of (undoes_on num) ops) (map (λ o. o.num) (filter undoes ops)) m q other

-- a set's semadj are cleared
pub cleared-apart : (m : Entries) (id : ℕ) (which : ℕ → Bool) (q : Adjusted) → q.set ≢ id → finite.get (cleared m id which) q ≡ finite.get m q
cleared-apart m id which q other = get_kept m _ q ∙ ap (λ b. cond (not (b && which q.num)) (finite.get m q) None) (ne_eqb q.set id other)

-- a client's semadj go
pub without-apart : (m : Entries) (client : ℕ) (q : Adjusted) → q.client ≢ client → finite.get (without_client m client) q ≡ finite.get m q
without-apart m client q other = get_kept m _ q ∙ ap (λ b. cond (not b) (finite.get m q) None) (ne_eqb q.client client other)

-- exit changes no set at which nothing is undone
undone-none : (adj : ℕ → ℤ) (pid num : ℕ) (sems : List Semaphore) → any_from adj num sems ≡ false → undone_from adj pid num sems ≡ sems
undone-none adj pid num [] none = refl
undone-none adj pid num (s ∷ ss) none =
    ⊎_elim
    (λ (zero : int_eq (adj num) (pos 0) ≡ true).
    let later : any_from adj (num + 1) ss ≡ false = rw zero at none in rw zero (ap (λ (rest : List Semaphore). s ∷ rest) (undone-none adj pid (num + 1) ss later)))
    (λ (some : int_eq (adj num) (pos 0) ≡ false). let e : true ≡ false = rw some at none in absurd (true≢false e))
    (cases_Bool (int_eq (adj num) (pos 0)))

pub exited-none : (sems : Sems) (who : Caller) (id : ℕ) (set : Object SemSet) → any_from (adj_of sems.undo who.process id) 0 set.contents.semaphores ≡ false → set_after_exit sems who id set ≡ set
exited-none sems who id set none =
    ap (λ (contents : SemSet). record set { contents = contents }) (λ i. record {
      semaphores = undone-none (adj_of sems.undo who.process id) who.pid 0 set.contents.semaphores none i;
      op_time = cond (none i) who.now set.contents.op_time;
    })

-- where no thread of a process runs, each that hasn't ended is of another one
pub none-runs : (ts : List Thread) (process c : ℕ) → list_any (runs process) ts ≡ false → (get_or ts c no_thread).has_ended ≡ false → (get_or ts c no_thread).process ≢ process
none-runs [] process c none alive = absurd (true≢false alive)
none-runs (t ∷ ts) process zero none alive =
    λ is. let here : runs process t ≡ true = λ i. eq-eqb t.process process is i && not (alive i) in true≢false (sym (ap (λ (b : Bool). b || list_any (runs process) ts) here) ∙ none)
none-runs (t ∷ ts) process (suc c) none alive = none-runs ts process c (later (runs process t) none) alive
  where
    later : (b : Bool) → b || list_any (runs process) ts ≡ false → list_any (runs process) ts ≡ false
    later true none = absurd (true≢false none)
    later false none = none

-- where all threads of a process have ended, each that hasn't is of another one, and is so still
pub left-alone : (ts : List Thread) (process c : ℕ) → (get_or (map (ends process) ts) c no_thread).has_ended ≡ false → (get_or (map (ends process) ts) c no_thread ≡ get_or ts c no_thread) × ((get_or ts c no_thread).process ≢ process)
left-alone [] process c alive = absurd (true≢false alive)
left-alone (t ∷ ts) process (suc c) alive = left-alone ts process c alive
left-alone (t ∷ ts) process zero alive = by (eqb t.process process) refl alive
  where
    by : (b : Bool) → eqb t.process process ≡ b → (cond b (record t { has_ended = true }) t).has_ended ≡ false → (ends process t ≡ t) × (t.process ≢ process)
    by true is alive = absurd (true≢false alive)
    by false is alive = (ap (λ b. cond b (record t { has_ended = true }) t) is, λ same. true≢false (sym (eq-eqb t.process process same) ∙ is))

-- another pid leaves what a client is a thread of
pub renamed-process : (ts : List Thread) (process p c : ℕ) → (get_or (map (renamed process p) ts) c no_thread).process ≡ (get_or ts c no_thread).process
renamed-process [] process p c = refl
renamed-process (t ∷ ts) process p (suc c) = renamed-process ts process p c
renamed-process (t ∷ ts) process p zero = by (runs process t)
  where
    by : (b : Bool) → (cond b (record t { pid = p }) t).process ≡ t.process
    by true = refl
    by false = refl
