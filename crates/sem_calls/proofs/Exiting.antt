-- The exit of a client, row by row: what is undone of one set, and what is left for the rest.
use Rattle.std.proofs.Common.{◌≡◌, ◌∙◌, ℕ, ◌+◌, ◌-◌, ◌<◌, length, arith, ap, refl, subst, sym, cond, Bool, true, false, ℤ, pos, List, [], ◌∷◌, Option, Some, None, ⊎_elim}
use Rattle.std.specs.Prelude.{◌==◌, ◌&&◌, not, is_some, option_map, unwrap_or}
use Rattle.std.specs.Ordering.{nat_cmp}
use Rattle.std.specs.FinMap as finite
use Rattle.std.proofs.lemmas.Bool.{cases_eq}
use Rattle.std.proofs.lemmas.Option.{none-some}
use Rattle.ipc_ids.specs.Table.{Table, with_object}
use Rattle.ipc_ids.specs.Images.{map_entries}
use Rattle.ipc_ids.proofs.Ids.{same_maps}
use Rattle.ipc_ids.proofs.Images.{get-entries}
use Rattle.ipc_ids.proofs.Sound.{get-insert-other, get-insert-same}
use Rattle.ipc_objects.specs.declared.object.Object.{Object}
use Rattle.ipc_objects.specs.Objects.{changed, with_perm}
use Rattle.sem_set.specs.declared.set.Semaphore.{Semaphore}
use Rattle.sem_set.specs.Exits.{any_from, undone_from}
use Rattle.sem_set.specs.Trials.{adj_in}
use Rattle.client_map.proofs.Orders.{get_gone_apart}
use Rattle.sem_undo.specs.Entries.{Entries, Place, Undone, adj_of, place_cmp, without_client, without_row}
use Rattle.sem_undo.proofs.Entries.{get_kept, key, place, same_entries}
use Rattle.sem_undo.proofs.Keys.{place_same, place_total}
use Rattle.ipc_model.specs.State.{Caller, SemSet, Sems}
use Rattle.ipc_model.specs.Semaphores.{after_exit, set_after_exit, undone_set}
use Rattle.sem_calls.specs.WithRows.{SetsWithRows, row_at, sems_of}

-- nothing is undone where no semadj is there
abbrev nothing : ℕ → ℤ
nothing n = pos 0

left-alone : (pid num : ℕ) (ss : List Semaphore) → undone_from nothing pid num ss ≡ ss
left-alone pid num [] = refl
left-alone pid num (s ∷ ss) = ap (λ (rest : List Semaphore). s ∷ rest) (left-alone pid (num + 1) ss)

none-there : (num : ℕ) (ss : List Semaphore) → any_from nothing num ss ≡ false
none-there num [] = refl
none-there num (s ∷ ss) = none-there (num + 1) ss

set-alone : (adj : ℕ → ℤ) (pid now : ℕ) (set : SemSet) → adj ≡ nothing → undone_set adj pid now set ≡ set
set-alone adj pid now set none =
    ap (λ (a : ℕ → ℤ). undone_set a pid now set) none
    ∙ (λ i. record { semaphores = left-alone pid 0 set.semaphores i; op_time = cond (none-there 0 set.semaphores i) now set.op_time })

-- the entries of a client
module _ (e : Entries) (client : ℕ) where
  all_but : (a b : Bool) (o : Option ℤ) → cond (not a) (cond (not (a && b)) o None) None ≡ cond (not a) o None
  all_but true b o = refl
  all_but false b o = refl

  pub row-then-client : (id : ℕ) → without_client (without_row e client id) client ≡ without_client e client
  row-then-client id = same_entries (without_client (without_row e client id) client) (without_client e client) (λ q.
      get_kept (without_row e client id) (λ k. not (k.client == client)) q
      ∙ ap (λ (o : Option ℤ). cond (not (q.client == client)) o None) (get_kept e (λ k. not (k.client == client && k.set == id)) q)
      ∙ all_but (q.client == client) (q.set == id) (finite.get e q)
      ∙ sym (get_kept e (λ k. not (k.client == client)) q))

  adj-here : (id : ℕ) → adj_of (without_row e client id) client id ≡ nothing
  adj-here id = λ i n.
      (ap (λ (o : Option ℤ). unwrap_or o (pos 0)) (get_kept e (λ k. not (k.client == client && k.set == id)) (key client id n)
      ∙ (let here : (client == client && id == id) ≡ true = grind arith in ap (λ b. cond (not b) (finite.get e (key client id n)) None) here))) i

  adj-elsewhere : (id j : ℕ) → (j ≡ id → ⊥) → adj_of (without_row e client id) client j ≡ adj_of e client j
  adj-elsewhere id j ne = λ i n.
      (ap (λ (o : Option ℤ). unwrap_or o (pos 0)) (get_kept e (λ k. not (k.client == client && k.set == id)) (key client j n)
      ∙ (let here : (client == client && j == id) ≡ false = grind arith in ap (λ b. cond (not b) (finite.get e (key client j n)) None) here))) i

  adj-none : without_client e client ≡ e → (j : ℕ) → adj_of e client j ≡ nothing
  adj-none none j = λ i n.
      (ap (λ (m : Entries). adj_of m client j n) (sym none)
      ∙ ap (λ (o : Option ℤ). unwrap_or o (pos 0)) (get_kept e (λ k. not (k.client == client)) (key client j n)
      ∙ (let here : (client == client) ≡ true = grind arith in ap (λ b. cond (not b) (finite.get e (key client j n)) None) here))) i

module _ (t : Table (Object SemSet)) (e : Entries) (who : Caller) where
  alone : (id : ℕ) → adj_of e who.process id ≡ nothing → (x : Object SemSet) → set_after_exit (record { sets = t; undo = e }) who id x ≡ x
  alone id none x = ap (λ (set : SemSet). record x { contents = set }) (set-alone (adj_of e who.process id) who.pid who.now x.contents none)

  -- a client without entries leaves all
  pub exit-none : without_client e who.process ≡ e → record { sets = t; undo = e } ≡ after_exit (record { sets = t; undo = e }) who
  exit-none none = λ i. record {
    sets = record t { objects = same_maps t.objects (map_entries (set_after_exit (record { sets = t; undo = e }) who) t).objects (λ q. sym (get-entries (set_after_exit (record { sets = t; undo = e }) who) t q ∙ by q (finite.get t.objects q))) i };
    undo = sym none i;
  }
    where
      by : (q : ℕ) (o : Option (Object SemSet)) → option_map (set_after_exit (record { sets = t; undo = e }) who q) o ≡ o
      by q None = refl
      by q (Some x) = ap (λ (y : Object SemSet). Some y) (alone q (adj-none e who.process none q) x)

  -- one row is undone, and then the rest
  module _ (id : ℕ) (adj : ℕ → ℤ) (told : (n : ℕ) → adj n ≡ adj_of e who.process id n) where
    abbrev before : Sems
    before = record { sets = t; undo = e }

    abbrev undo : Object SemSet → Object SemSet
    undo set = record set { contents = undone_set adj who.pid who.now set.contents }

    abbrev after : Sems
    after = record { sets = changed t id undo; undo = without_row e who.process id }

    here : (x : Object SemSet) → set_after_exit after who id (undo x) ≡ set_after_exit before who id x
    here x =
        ap (λ (set : SemSet). record x { contents = set }) (set-alone (adj_of after.undo who.process id) who.pid who.now (undo x).contents (adj-here e who.process id)
        ∙ (λ i. undone_set (λ n. told n i) who.pid who.now x.contents))

    elsewhere : (q : ℕ) → (q ≡ id → ⊥) → set_after_exit after who q ≡ set_after_exit before who q
    elsewhere q ne = λ i x. record x { contents = undone_set (adj-elsewhere e who.process id q ne i) who.pid who.now x.contents }

    objects-after : (o : Option (Object SemSet)) → finite.get t.objects id ≡ o → (q : ℕ)
        → option_map (set_after_exit after who q) (finite.get (with_perm t id undo o).objects q) ≡ option_map (set_after_exit before who q) (finite.get t.objects q)
    objects-after None is q = ⊎_elim
        (λ (same : q ≡ id). let none : finite.get t.objects q ≡ None = ap (λ n. finite.get t.objects n) same ∙ is in ap (option_map (set_after_exit after who q)) none ∙ sym (ap (option_map (set_after_exit before who q)) none))
        (λ (ne : q ≡ id → ⊥). ap (λ (f : Object SemSet → Object SemSet). option_map f (finite.get t.objects q)) (elsewhere q ne))
        (cases_eq q id)
    objects-after (Some x) is q = ⊎_elim
        (λ (same : q ≡ id).
        ap (λ n. option_map (set_after_exit after who n) (finite.get (with_object t id (undo x)).objects n)) same
        ∙ ap (option_map (set_after_exit after who id)) (get-insert-same t.objects id (undo x))
        ∙ ap (λ (y : Object SemSet). Some y) (here x)
        ∙ sym (ap (option_map (set_after_exit before who id)) is)
        ∙ sym (ap (λ n. option_map (set_after_exit before who n) (finite.get t.objects n)) same))
        (λ (ne : q ≡ id → ⊥).
        ap (option_map (set_after_exit after who q)) (get-insert-other t.objects id (undo x) q ne)
        ∙ ap (λ (f : Object SemSet → Object SemSet). option_map f (finite.get t.objects q)) (elsewhere q ne))
        (cases_eq q id)

    sets-after : (o : Option (Object SemSet)) → finite.get t.objects id ≡ o → map_entries (set_after_exit after who) (with_perm t id undo o) ≡ map_entries (set_after_exit before who) t
    sets-after None is = ap (λ (objects : finite.FinMap nat_cmp (Object SemSet)). record t { objects = objects }) (same_maps _ _ (λ q.
        get-entries (set_after_exit after who) t q ∙ objects-after None is q ∙ sym (get-entries (set_after_exit before who) t q)))
    sets-after (Some x) is = ap (λ (objects : finite.FinMap nat_cmp (Object SemSet)). record t { objects = objects }) (same_maps _ _ (λ q.
        get-entries (set_after_exit after who) (with_object t id (undo x)) q ∙ objects-after (Some x) is q ∙ sym (get-entries (set_after_exit before who) t q)))

    pub exit-step : after_exit (record { sets = changed t id (λ set. record set { contents = undone_set adj who.pid who.now set.contents }); undo = without_row e who.process id }) who ≡ after_exit (record { sets = t; undo = e }) who
    exit-step = λ i. record { sets = sets-after (finite.get t.objects id) refl i; undo = row-then-client e who.process id i }

-- no row is left
pub exit-done : (t : Table (Object SemSet)) (u : Undone) (now : SetsWithRows) → record { sets = t; undone = u } ≡ now → (who : Caller) (client : ℕ) → client ≡ who.process → without_client u.entries client ≡ u.entries
    → sems_of now ≡ after_exit (sems_of now) who
exit-done t u now view who client is none =
    subst (λ (h : SetsWithRows). sems_of h ≡ after_exit (sems_of h) who) view (exit-none t u.entries who (ap (λ n. without_client u.entries n) (sym is) ∙ none))

-- a row is taken out of what exit undoes, and undone of its set
module _ (t : Table (Object SemSet)) (u : Undone) (now : SetsWithRows) (view : record { sets = t; undone = u } ≡ now) (who : Caller) (client id : ℕ) (is : client ≡ who.process)
    (left : Undone) (rest : left ≡ record { entries = without_row u.entries client id; rows = finite.remove u.rows (place client id) }) (new : SetsWithRows) (adjs : List ℤ)
    (undoes : new ≡ record { sets = changed t id (λ set. record set { contents = undone_set (adj_in adjs) who.pid who.now set.contents }); undone = left }) where
  pub exit-row : ((num : ℕ) → adj_in adjs num ≡ adj_of u.entries client id num) → after_exit (sems_of new) who ≡ after_exit (sems_of now) who
  exit-row told =
      ap (λ (h : SetsWithRows). after_exit (sems_of h) who) undoes
      ∙ (λ i. after_exit (record { sets = changed t id (λ set. record set { contents = undone_set (adj_in adjs) who.pid who.now set.contents }); undo = (rest i).entries }) who)
      ∙ (λ i. after_exit (record { sets = changed t id (λ set. record set { contents = undone_set (adj_in adjs) who.pid who.now set.contents }); undo = without_row u.entries (is i) id }) who)
      ∙ exit-step t u.entries who id (adj_in adjs) (λ n. told n ∙ ap (λ x. adj_of u.entries x id n) is)
      ∙ ap (λ (h : SetsWithRows). after_exit (sems_of h) who) view

  rows-left : new.undone.rows ≡ finite.remove u.rows (place client id)
  rows-left = ap (λ (h : SetsWithRows). h.undone.rows) undoes ∙ ap (λ (v : Undone). v.rows) rest

  pub other-rows : (other set : ℕ) → (other ≡ who.process → ⊥) → row_at new other set ≡ row_at now other set
  other-rows other set ne =
      ap (λ (o : Option ℕ). unwrap_or o 0)
      (ap (λ (rows : finite.FinMap place_cmp ℕ). finite.get rows (place other set)) rows-left
      ∙ get_gone_apart place_total place_same u.rows (place client id) (place other set) (λ same. ne (ap (λ (p : Place). p.client) same ∙ is)))
      ∙ ap (λ (h : SetsWithRows). row_at h other set) view

  -- a row was there
  not-empty : (n : ℕ) → finite.get u.rows (place client id) ≡ Some n → 0 < finite.len u.rows
  not-empty n there = let some = by (finite.entries u.rows) (sym (finite.get-entries u.rows (place client id)) ∙ there) in omega (arith, finite.len-entries u.rows)
    where
      by : (es : List (Place × ℕ)) → finite.find place_cmp (place client id) es ≡ Some n → 0 < length es
      by [] none = absurd (none-some n none)
      by (e ∷ es) found = omega arith

  pub fewer-rows : (n : ℕ) → finite.get u.rows (place client id) ≡ Some n → finite.len new.undone.rows < finite.len now.undone.rows
  fewer-rows n there =
      let some = not-empty n there in
      let less : finite.len new.undone.rows ≡ finite.len u.rows - 1 = ap (λ (rows : finite.FinMap place_cmp ℕ). finite.len rows) rows-left ∙ finite.len-remove place_total u.rows (place client id) ∙ ap (λ (o : Option ℕ). cond (is_some o) (finite.len u.rows - 1) (finite.len u.rows)) there in
      let same : finite.len u.rows ≡ finite.len now.undone.rows = ap (λ (h : SetsWithRows). finite.len h.undone.rows) view in
      omega (arith, less, some, same)
