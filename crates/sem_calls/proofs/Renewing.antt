-- SETVAL and SETALL: the semaphores of a set are new, and then its time of change, and entries go.
use Rattle.std.proofs.Common.{◌≡◌, ◌∙◌, ℕ, ap, sym, Bool, Option, Some, None, List, subst}
use Rattle.std.specs.Prelude.{option_map, IsSome, IfSome}
use Rattle.std.specs.FinMap as map
use Rattle.std.proofs.lemmas.Option.{none-some, same_Some}
use Rattle.ipc_ids.specs.Table.{Table, with_object}
use Rattle.ipc_objects.specs.declared.object.Object.{Object}
use Rattle.ipc_objects.specs.Objects.{changed, contents_of, with_contents, with_perm}
use Rattle.ipc_objects.proofs.Seen.{changed-there, changed-twice}
use Rattle.sem_set.specs.declared.set.Semaphore.{Semaphore}
use Rattle.sem_undo.specs.Entries.{Undone, cleared}
use Rattle.ipc_model.specs.State.{SemSet}
use Rattle.ipc_model.specs.Semaphores.{renewed, set_at, with_values}
use Rattle.sem_calls.specs.WithRows.{SetsWithRows, sems_of}

-- the sets and what exit undoes of them, as the code has them and as the contract tells them
module _ (t : Table (Object SemSet)) (u : Undone) (now : SetsWithRows) (view : record { sets = t; undone = u } ≡ now) (id : ℕ) where
  -- new contents leave the set where it is
  pub there-with : (x : SemSet) → IsSome (set_at (sems_of now) id) → IsSome (map.get (with_contents t id x).objects id)
  there-with x some = changed-there t id (λ o. record o { contents = x }) ∙ subst (λ (h : SetsWithRows). IsSome (set_at (sems_of h) id)) (sym view) some

  module _ (old : SemSet) (there : Some old ≡ contents_of t id) where
    -- what is said of the set of the identifier is said of its contents
    pub told-of : (P : List Semaphore → Type 0) → P old.semaphores → IfSome (set_at (sems_of now) id) (λ set. P set.contents.semaphores)
    told-of P told = subst (λ (h : SetsWithRows). IfSome (set_at (sems_of h) id) (λ set. P set.contents.semaphores)) view (by (map.get t.objects id) there)
      where
        by : (o : Option (Object SemSet)) → Some old ≡ option_map (λ (object : Object SemSet). object.contents) o → IfSome o (λ set. P set.contents.semaphores)
        by None is = tt
        by (Some object) is = subst (λ (x : SemSet). P x.semaphores) (same_Some old object.contents is) told

    renewed-at : (time : ℕ) (semaphores : List Semaphore)
        → changed (with_contents t id (record old { semaphores = semaphores })) id (λ object. record object { change_time = time }) ≡ changed t id (renewed time semaphores)
    renewed-at time semaphores =
        changed-twice t id (λ o. record o { contents = record old { semaphores = semaphores } }) (λ o. record o { change_time = time }) ∙ by (map.get t.objects id) there
      where
        by : (o : Option (Object SemSet)) → Some old ≡ option_map (λ (object : Object SemSet). object.contents) o
            → with_perm t id (λ o. record o { contents = record old { semaphores = semaphores }; change_time = time }) o ≡ with_perm t id (renewed time semaphores) o
        by None is = absurd (none-some old (sym is))
        by (Some object) is = ap (λ (x : SemSet). with_object t id (record object { contents = record x { semaphores = semaphores }; change_time = time })) (same_Some old object.contents is)

    -- all of a call that sets values
    pub valued : (left : Table (Object SemSet)) (undone : Undone) (which : ℕ → Bool) (told time : ℕ) (written semaphores : List Semaphore) → told ≡ time → written ≡ semaphores
        → left ≡ changed (with_contents t id (record old { semaphores = written })) id (λ object. record object { change_time = told })
        → undone ≡ record u { entries = cleared u.entries id which }
        → sems_of (record { sets = left; undone = undone }) ≡ with_values (sems_of now) time id semaphores which
    valued left undone which told time written semaphores at said is goes =
        (λ i. record { sets = (is ∙ renewed-at told written) i; undo = (goes i).entries })
        ∙ (λ i. with_values (sems_of (record { sets = t; undone = u })) (at i) id (said i) which)
        ∙ ap (λ (h : SetsWithRows). with_values (sems_of h) time id semaphores which) view
