-- What entries and lengths become where the rows at a set change.
use Rattle.std.proofs.Common.{◌≡◌, ◌∙◌, ℕ, ◌<◌, ◌≤◌, ap, arith, cond, refl, sym, Bool, true, false, List, [], length, length-set, set, ⊎_elim}
use Rattle.std.specs.Prelude.{◌==◌, ◌&&◌, not, ℤ, pos, Option, Some, None, if◌then◌else◌, unwrap_or}
use Rattle.std.specs.FinMap as finite
use Rattle.std.proofs.lemmas.Bool.{cases_eq, cases_lt}
use Rattle.std.proofs.lemmas.List.{get_or_past, get_or-set_same, get_or-set_other, length-replicate}
use Rattle.sem_undo.specs.Entries.{Place, Undone, cleared}
use Rattle.sem_undo.specs.Rows.{RowMap, adj_in, each_at, entries_in, lens_in, removed, row_in, undone_in, zeroed, zeroed_at}
use Rattle.sem_undo.proofs.Changes.{same_lens, size}
use Rattle.sem_undo.proofs.Entries.{entry_of, get_entries, get_kept, get_lens, same_entries}
use Rattle.sem_undo.proofs.Keys.{place_same}
use Rattle.sem_undo.proofs.Values.{zeros}

-- a change that sets these semadj of a row to 0
abbrev pub Clears : (Option (List ℤ) → Option (List ℤ)) → (ℕ → Bool) → Type 0
Clears change which = (o : Option (List ℤ)) (n : ℕ) → adj_in (unwrap_or (change o) []) n ≡ (if which n then pos 0 else adj_in (unwrap_or o []) n)

cleared_entry : (here which : Bool) (change : Option (List ℤ) → Option (List ℤ)) (o : Option (List ℤ)) (n : ℕ) → adj_in (unwrap_or (change o) []) n ≡ (if which then pos 0 else adj_in (unwrap_or o []) n) → entry_of (adj_in (unwrap_or (if here then change o else o) []) n) ≡ cond (not (here && which)) (entry_of (adj_in (unwrap_or o []) n)) None
cleared_entry true true change o n is = ap entry_of is
cleared_entry true false change o n is = ap entry_of is
cleared_entry false which change o n is = refl

module _ (es es' : RowMap) (at : ℕ) (change : Option (List ℤ) → Option (List ℤ)) (is : (c s : ℕ) → row_in es' c s ≡ each_at at change (row_in es) c s) where
  pub entries_after : (which : ℕ → Bool) → Clears change which → entries_in es' ≡ cleared (entries_in es) at which
  entries_after which clears =
      same_entries (entries_in es') (cleared (entries_in es) at which) (λ q.
      get_entries es' q.client q.set q.num
      ∙ ap (λ (o : Option (List ℤ)). entry_of (adj_in (unwrap_or o []) q.num)) (is q.client q.set)
      ∙ cleared_entry (q.set == at) (which q.num) change (row_in es q.client q.set) q.num (clears (row_in es q.client q.set) q.num)
      ∙ ap (λ (o : Option ℤ). cond (not (q.set == at && which q.num)) o None) (sym (get_entries es q.client q.set q.num))
      ∙ sym (get_kept (entries_in es) (λ k. not (k.set == at && which k.num)) q))

  size_either : (here : Bool) (o : Option (List ℤ)) → size (change o) ≡ size o → size (if here then change o else o) ≡ size o
  size_either true o e = e
  size_either false o e = refl

  pub lens_after : ((o : Option (List ℤ)) → size (change o) ≡ size o) → lens_in es' ≡ lens_in es
  lens_after sizes =
      same_lens (lens_in es') (lens_in es) (λ p.
      get_lens es' p.client p.set
      ∙ ap size (is p.client p.set)
      ∙ size_either (p.set == at) (row_in es p.client p.set) (sizes (row_in es p.client p.set))
      ∙ sym (get_lens es p.client p.set))

past : (r : List ℤ) (n : ℕ) → length r ≤ n → adj_in r n ≡ pos 0
past r n h = get_or_past r n (pos 0) h

clears_one : (num : ℕ) (r : List ℤ) (n : ℕ) → adj_in (set r num (pos 0)) n ≡ (if n == num then pos 0 else adj_in r n)
clears_one num r n =
    ⊎_elim
    (λ (e : n ≡ num).
    let t : true ≡ (n == num) = grind arith in
    ⊎_elim
    (λ (l : num < length r). ap (λ (k : ℕ). adj_in (set r num (pos 0)) k) e ∙ get_or-set_same r num (pos 0) (pos 0) l)
    (λ (g : length r ≤ num). past (set r num (pos 0)) n (omega (arith, length-set r num (pos 0))))
    (cases_lt num (length r))
    ∙ ap (λ (b : Bool). if b then pos 0 else adj_in r n) t)
    (λ (e : n ≡ num → ⊥).
    let t : false ≡ (n == num) = grind arith in
    get_or-set_other r num n (pos 0) (pos 0) e ∙ ap (λ (b : Bool). if b then pos 0 else adj_in r n) t)
    (cases_eq n num)

same_either : (b : Bool) (z : ℤ) → z ≡ (if b then z else z)
same_either true z = refl
same_either false z = refl

pub clears_at : (num : ℕ) → Clears (zeroed_at num) (λ n. n == num)
clears_at num None n = same_either (n == num) (pos 0)
clears_at num (Some r) n = clears_one num r n

pub clears_all : Clears zeroed (λ n. true)
clears_all None n = refl
clears_all (Some r) n = zeros (length r) n

pub clears_removed : Clears removed (λ n. true)
clears_removed o n = refl

pub size_at : (num : ℕ) (o : Option (List ℤ)) → size (zeroed_at num o) ≡ size o
size_at num None = refl
size_at num (Some r) = ap (λ n. Some n) (length-set r num (pos 0))

pub size_all : (o : Option (List ℤ)) → size (zeroed o) ≡ size o
size_all None = refl
size_all (Some r) = ap (λ n. Some n) (length-replicate (length r) (pos 0))

module _ (es es' : RowMap) (u : Undone) (e : undone_in es ≡ u) (at : ℕ) where
  pub clear_value : (num : ℕ) → ((c s : ℕ) → row_in es' c s ≡ each_at at (zeroed_at num) (row_in es) c s) → undone_in es' ≡ record u { entries = cleared u.entries at (λ n. n == num) }
  clear_value num is =
      λ i. record {
        entries = (entries_after es es' at (zeroed_at num) is (λ n. n == num) (clears_at num) ∙ ap (λ (v : Undone). cleared v.entries at (λ n. n == num)) e) i;
        rows = (lens_after es es' at (zeroed_at num) is (size_at num) ∙ ap (λ (v : Undone). v.rows) e) i;
      }

  pub clear_set_value : ((c s : ℕ) → row_in es' c s ≡ each_at at zeroed (row_in es) c s) → undone_in es' ≡ record u { entries = cleared u.entries at (λ _. true) }
  clear_set_value is =
      λ i. record {
        entries = (entries_after es es' at zeroed is (λ _. true) clears_all ∙ ap (λ (v : Undone). cleared v.entries at (λ _. true)) e) i;
        rows = (lens_after es es' at zeroed is size_all ∙ ap (λ (v : Undone). v.rows) e) i;
      }

gone_len : (here : Bool) (o : Option (List ℤ)) → size (if here then None else o) ≡ cond (not here) (size o) None
gone_len true o = refl
gone_len false o = refl

module _ (es es' : RowMap) (u : Undone) (e : undone_in es ≡ u) (at : ℕ) where
  pub remove_set_value : ((c s : ℕ) → row_in es' c s ≡ each_at at removed (row_in es) c s) → undone_in es' ≡ record { entries = cleared u.entries at (λ _. true); rows = finite.retain_keys u.rows (λ p. not (p.set == at)) }
  remove_set_value is =
      let lens : lens_in es' ≡ finite.retain_keys (lens_in es) (λ p. not (p.set == at)) =
      same_lens (lens_in es') (finite.retain_keys (lens_in es) (λ p. not (p.set == at))) (λ p.
      get_lens es' p.client p.set
      ∙ ap size (is p.client p.set)
      ∙ gone_len (p.set == at) (row_in es p.client p.set)
      ∙ ap (λ (o : Option ℕ). cond (not (p.set == at)) o None) (sym (get_lens es p.client p.set))
      ∙ sym (finite.get-retain_keys (lens_in es) (λ p. not (p.set == at)) p (λ x tied. ap (λ (q : Place). not (q.set == at)) (sym (place_same p x tied))))) in
      λ i. record {
        entries = (entries_after es es' at removed is (λ _. true) clears_removed ∙ ap (λ (v : Undone). cleared v.entries at (λ _. true)) e) i;
        rows = (lens ∙ ap (λ (v : Undone). finite.retain_keys v.rows (λ p. not (p.set == at))) e) i;
      }
