-- What the value of an `Undo` becomes where one of its rows changes.
use Rattle.std.proofs.Common.{◌≡◌, ◌∙◌, ℕ, zero, suc, ◌<◌, ◌≤◌, ap, arith, refl, sym, Bool, true, false, List, [], ◌∷◌, ◌++◌, ◌+◌, ◌-◌, length, length-append, replicate, set, ⊎_elim}
use Rattle.std.specs.Prelude.{ℤ, pos, Option, Some, None, unwrap_or, if◌then◌else◌}
use Rattle.std.specs.Ordering.{int_eq}
use Rattle.std.specs.FinMap as finite
use Rattle.std.specs.Global.{Vec}
use Rattle.std.proofs.lemmas.Bool.{cases_Bool}
use Rattle.std.proofs.lemmas.Int.{ints}
use Rattle.std.proofs.lemmas.List.{length-replicate}
use Rattle.client_map.specs.Keys.{key as row_key, key_cmp}
use Rattle.client_map.proofs.Orders.{get_put, get_put_apart}
use Rattle.sem_undo.specs.Entries.{Place, adjusted_cmp, place_cmp, Undone, adj_of, nothing_undone, row_len, with_adj}
use Rattle.sem_undo.specs.Rows.{RowMap, items_of, adj_in, entries_in, grown, is_here, lens_in, row_in, undone_in}
use Rattle.sem_undo.proofs.Changes.{entries_are, entries_written, lens_are, lens_place, lens_written, same_lens, size}
use Rattle.sem_undo.proofs.Entries.{entry_of, get_entries, get_lens, key, place, same_entries}
use Rattle.sem_undo.proofs.Keys.{place_same, place_total}

pub undone_none : undone_in finite.empty ≡ nothing_undone
undone_none = λ i. record {
  entries = same_entries _ _ (λ q. get_entries finite.empty q.client q.set q.num ∙ ap (λ (o : Option (Vec ℤ)). entry_of (adj_in (unwrap_or (items_of o) []) q.num)) (finite.get-empty key_cmp (row_key q.client q.set)) ∙ sym (finite.get-empty adjusted_cmp q)) i;
  rows = same_lens _ _ (λ p. get_lens finite.empty p.client p.set ∙ ap (λ (o : Option (Vec ℤ)). size (items_of o)) (finite.get-empty key_cmp (row_key p.client p.set)) ∙ sym (finite.get-empty place_cmp p)) i;
}

is_zero : (z : ℤ) → int_eq z (pos 0) ≡ true → pos 0 ≡ z
is_zero z h = grind (arith, ints)

pub entry_adj : (z : ℤ) → unwrap_or (entry_of z) (pos 0) ≡ z
entry_adj z =
    ⊎_elim
    (λ (h : int_eq z (pos 0) ≡ true). ap (λ (b : Bool). unwrap_or (if b then None else Some z) (pos 0)) h ∙ is_zero z h)
    (λ (h : int_eq z (pos 0) ≡ false). ap (λ (b : Bool). unwrap_or (if b then None else Some z) (pos 0)) h)
    (cases_Bool (int_eq z (pos 0)))

pub zeros : (n k : ℕ) → adj_in (replicate n (pos 0)) k ≡ pos 0
zeros zero k = refl
zeros (suc n) zero = refl
zeros (suc n) (suc k) = zeros n k

-- past the row, zeros are as good as nothing
grown_adj_by : (row : List ℤ) (n k : ℕ) → adj_in (row ++ replicate n (pos 0)) k ≡ adj_in row k
grown_adj_by [] n k = zeros n k
grown_adj_by (adj ∷ row) n zero = refl
grown_adj_by (adj ∷ row) n (suc k) = grown_adj_by row n k

grown_adj : (row : List ℤ) (nsems k : ℕ) → adj_in (grown nsems row) k ≡ adj_in row k
grown_adj row nsems k = grown_adj_by row (nsems - length row) k

grown_len : (row : List ℤ) (nsems : ℕ) → length row ≤ nsems → length (grown nsems row) ≡ nsems
grown_len row nsems within =
    length-append row (replicate (nsems - length row) (pos 0)) ∙ ap (λ n. length row + n) (length-replicate (nsems - length row) (pos 0)) ∙ (let e : length row + (nsems - length row) ≡ nsems = omega arith in e)

module _ (es : RowMap) (u : Undone) (e : undone_in es ≡ u) (client at : ℕ) where
  pub row_lens : length (unwrap_or (row_in es client at) []) ≡ row_len u client at
  row_lens =
      sym (lens_place (row_in es client at))
      ∙ ap (λ (o : Option ℕ). unwrap_or o 0) (sym (get_lens es client at))
      ∙ ap (λ (v : Undone). row_len v client at) e

  pub row_adjs : (num : ℕ) → adj_in (unwrap_or (row_in es client at) []) num ≡ adj_of u.entries client at num
  row_adjs num =
      sym (entry_adj (adj_in (unwrap_or (row_in es client at) []) num))
      ∙ ap (λ (o : Option ℤ). unwrap_or o (pos 0)) (sym (get_entries es client at num))
      ∙ ap (λ (v : Undone). adj_of v.entries client at num) e

  pub put_value : (es' : RowMap) (num : ℕ) (adj : ℤ) → num < length (unwrap_or (row_in es client at) []) → ((c s : ℕ) → row_in es' c s ≡ (if is_here client at c s then Some (set (unwrap_or (row_in es client at) []) num adj) else row_in es c s)) → undone_in es' ≡ record u { entries = with_adj u.entries (key client at num) adj }
  put_value es' num adj within is =
      λ i. record {
        entries = (entries_written es es' client at num adj within is ∙ ap (λ (v : Undone). with_adj v.entries (key client at num) adj) e) i;
        rows = (lens_written es es' client at num adj within is ∙ ap (λ (v : Undone). v.rows) e) i;
      }

  pub grown_value : (es' : RowMap) (nsems : ℕ) → length (unwrap_or (row_in es client at) []) ≤ nsems → ((c s : ℕ) → row_in es' c s ≡ (if is_here client at c s then Some (grown nsems (unwrap_or (row_in es client at) [])) else row_in es c s)) → undone_in es' ≡ record u { rows = finite.insert u.rows (place client at) nsems }
  grown_value es' nsems within is =
      let row = unwrap_or (row_in es client at) [] in
      let same : entries_in es' ≡ entries_in es = entries_are es es' client at (Some (grown nsems row)) is (entries_in es) (λ n. ap entry_of (grown_adj row nsems n) ∙ sym (get_entries es client at n)) (λ q ne. refl) in
      let lens : lens_in es' ≡ finite.insert (lens_in es) (place client at) nsems =
      lens_are es es' client at (Some (grown nsems row)) is (finite.insert (lens_in es) (place client at) nsems)
      (ap (λ (n : ℕ). Some n) (grown_len row nsems within) ∙ sym (get_put place_total place_same (lens_in es) (place client at) nsems))
      (λ p ne. sym (get_put_apart place_total place_same (lens_in es) (place client at) nsems p (λ q. ne (ap (λ (x : Place). x.client) q) (ap (λ (x : Place). x.set) q)))) in
      λ i. record {
        entries = (same ∙ ap (λ (v : Undone). v.entries) e) i;
        rows = (lens ∙ ap (λ (v : Undone). finite.insert v.rows (place client at) nsems) e) i;
      }
