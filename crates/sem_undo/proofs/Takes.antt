-- What the value of an `Undo` becomes where a row of a client is taken out.
use Rattle.std.proofs.Common.{◌≡◌, ◌<◌, ◌∙◌, ℕ, ap, arith, cond, refl, sym, Bool, true, false, List, [], length}
use Rattle.std.specs.Prelude.{◌==◌, not, ℤ, Option, Some, None, IfNone, IfSome, if◌then◌else◌, unwrap_or}
use Rattle.std.specs.FinMap as finite
use Rattle.std.specs.Global.{Vec}
use Rattle.client_map.proofs.Orders.{get_gone, get_gone_apart}
use Rattle.sem_undo.specs.Entries.{Adjusted, Place, Undone, adj_of, without_client, without_row}
use Rattle.sem_undo.specs.Rows.{RowMap, adj_in, entries_in, is_here, lens_in, row_in, undone_in}
use Rattle.sem_undo.proofs.Changes.{entries_are, lens_are, size}
use Rattle.sem_undo.proofs.Entries.{entry_of, get_entries, get_kept, get_lens, get_without, get_without_apart, key, place, same_entries}
use Rattle.sem_undo.proofs.Values.{row_adjs}
use Rattle.sem_undo.proofs.Keys.{place_same, place_total}

kept_either : (here : Bool) (o : Option ℤ) → (here ≡ true → o ≡ None) → cond (not here) o None ≡ o
kept_either true o h = sym (h refl)
kept_either false o h = refl

module _ (es : RowMap) (u : Undone) (e : undone_in es ≡ u) (client : ℕ) where
  len_is : (at : ℕ) (row : Option (List ℤ)) → row_in es client at ≡ row → finite.get u.rows (place client at) ≡ size row
  len_is at row is = ap (λ (v : Undone). finite.get v.rows (place client at)) (sym e) ∙ get_lens es client at ∙ ap size is

  none_left : ((s : ℕ) → row_in es client s ≡ None) → (q : Adjusted) → (q.client == client) ≡ true → finite.get (entries_in es) q ≡ None
  none_left none q h =
      let same : q.client ≡ client = grind arith in
      get_entries es q.client q.set q.num
      ∙ ap (λ (o : Option (List ℤ)). entry_of (adj_in (unwrap_or o []) q.num)) (ap (λ (c : ℕ). row_in es c q.set) same ∙ none q.set)

  none_is_left : ((s : ℕ) → row_in es client s ≡ None) → without_client u.entries client ≡ u.entries
  none_is_left none =
      ap (λ (v : Undone). without_client v.entries client) (sym e)
      ∙ same_entries (without_client (entries_in es) client) (entries_in es) (λ q.
      get_kept (entries_in es) (λ k. not (k.client == client)) q
      ∙ kept_either (q.client == client) (finite.get (entries_in es) q) (none_left none q))
      ∙ ap (λ (v : Undone). v.entries) e

  take_value : (es' : RowMap) (at : ℕ) → ((c s : ℕ) → row_in es' c s ≡ (if is_here client at c s then None else row_in es c s)) → undone_in es' ≡ record { entries = without_row u.entries client at; rows = finite.remove u.rows (place client at) }
  take_value es' at is =
      let entries : entries_in es' ≡ without_row (entries_in es) client at =
      entries_are es es' client at None is (without_row (entries_in es) client at)
      (λ n. sym (get_without client at (entries_in es) (key client at n) refl refl))
      (λ q ne. sym (get_without_apart client at (entries_in es) q ne)) in
      let lens : lens_in es' ≡ finite.remove (lens_in es) (place client at) =
      lens_are es es' client at None is (finite.remove (lens_in es) (place client at))
      (sym (get_gone place_total place_same (lens_in es) (place client at)))
      (λ p ne. sym (get_gone_apart place_total place_same (lens_in es) (place client at) p (λ q. ne (ap (λ (x : Place). x.client) q) (ap (λ (x : Place). x.set) q)))) in
      λ i. record {
        entries = (entries ∙ ap (λ (v : Undone). without_row v.entries client at) e) i;
        rows = (lens ∙ ap (λ (v : Undone). finite.remove v.rows (place client at)) e) i;
      }

  -- clause by clause, of the row that is taken or of none
  pub none_clause : (r : Option (ℕ × Vec ℤ)) → IfNone r ((s : ℕ) → row_in es client s ≡ None) → IfNone r (without_client u.entries client ≡ u.entries)
  none_clause None h = none_is_left h
  none_clause (Some x) h = h

  pub no_row_clause : (r : Option (ℕ × Vec ℤ)) → IfNone r ((s : ℕ) → row_in es client s ≡ None) → IfNone r ((s : ℕ) → finite.get u.rows (place client s) ≡ None)
  no_row_clause None h = λ s. len_is s None (h s)
  no_row_clause (Some x) h = h

  pub len_clause : (r : Option (ℕ × Vec ℤ)) → IfSome r (λ x. row_in es client x.0 ≡ Some x.1.items) → IfSome r (λ x. finite.get u.rows (place client x.0) ≡ Some (length x.1.items))
  len_clause None h = h
  len_clause (Some x) h = len_is x.0 (Some x.1.items) h

  pub adjs_clause : (r : Option (ℕ × Vec ℤ)) → IfSome r (λ x. row_in es client x.0 ≡ Some x.1.items) → IfSome r (λ x. (num : ℕ) → adj_in x.1.items num ≡ adj_of u.entries client x.0 num)
  adjs_clause None h = h
  adjs_clause (Some x) h =
      λ num. ap (λ (o : Option (List ℤ)). adj_in (unwrap_or o []) num) (sym h) ∙ row_adjs es u e client x.0 num

  pub least_clause : (r : Option (ℕ × Vec ℤ)) → IfSome r (λ x. (s : ℕ) → s < x.0 → row_in es client s ≡ None) → IfSome r (λ x. (s : ℕ) → s < x.0 → finite.get u.rows (place client s) ≡ None)
  least_clause None h = h
  least_clause (Some x) h = λ s l. len_is s None (h s l)

  pub rest_clause : (es' : RowMap) (r : Option (ℕ × Vec ℤ)) → IfSome r (λ x. (c s : ℕ) → row_in es' c s ≡ (if is_here client x.0 c s then None else row_in es c s)) → IfSome r (λ x. undone_in es' ≡ record { entries = without_row u.entries client x.0; rows = finite.remove u.rows (place client x.0) })
  rest_clause es' None h = h
  rest_clause es' (Some x) h = take_value es' x.0 h
