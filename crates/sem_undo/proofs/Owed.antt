-- What a row tells of the entries: where no semadj of it isn't 0, there is none.
use Rattle.std.proofs.Common.{◌≡◌, ◌≢◌, ◌<◌, ◌≤◌, ◌∙◌, ℕ, zero, suc, ap, refl, sym, ℤ, Bool, true, false, List, [], ◌∷◌, ⊎_elim, arith}
use Rattle.std.specs.Prelude.{pos, not, ◌||◌, Option, Some, None, IfNone, IfSome, unwrap_or}
use Rattle.std.specs.Ordering.{int_eq}
use Rattle.std.proofs.lemmas.Bool.{cases_Bool, or_parts, true≢false}
use Rattle.std.proofs.lemmas.Int.{ints}
use Rattle.sem_undo.specs.Entries.{HasEntry, Undone, adj_of}
use Rattle.sem_undo.specs.Rows.{RowMap, adj_in, is_owed, row_in, undone_in}
use Rattle.sem_undo.proofs.Values.{row_adjs}

is_zero : (z : ℤ) → not (int_eq z (pos 0)) ≡ false → z ≡ pos 0
is_zero z h = grind (arith, ints, h)

not_zero : (z : ℤ) → not (int_eq z (pos 0)) ≡ true → z ≢ pos 0
not_zero z h = λ e. absurd (true≢false (sym h ∙ ap (λ x. not (int_eq x (pos 0))) e))

paid : (row : List ℤ) (num : ℕ) → is_owed row ≡ false → adj_in row num ≡ pos 0
paid [] num none = refl
paid (adj ∷ row) zero none = is_zero adj (or_parts (not (int_eq adj (pos 0))) (is_owed row) none).0
paid (adj ∷ row) (suc num) none = paid row num (or_parts (not (int_eq adj (pos 0))) (is_owed row) none).1

owed : (row : List ℤ) → is_owed row ≡ true → (num : ℕ) × (adj_in row num ≢ pos 0)
owed [] is = absurd (true≢false (sym is))
owed (adj ∷ row) is =
    ⊎_elim
    (λ (here : not (int_eq adj (pos 0)) ≡ true). (zero, not_zero adj here))
    (λ (other : not (int_eq adj (pos 0)) ≡ false). let later = owed row (sym (λ i. other i || is_owed row) ∙ is) in (suc later.0, later.1))
    (cases_Bool (not (int_eq adj (pos 0))))

module _ (es : RowMap) (u : Undone) (e : undone_in es ≡ u) (client : ℕ) where
  abbrev row : ℕ → List ℤ
  row set = unwrap_or (row_in es client set) []

  none_at : (set num : ℕ) → is_owed (row set) ≡ false → adj_of u.entries client set num ≡ pos 0
  none_at set num none = sym (row_adjs es u e client set num) ∙ paid (row set) num none

  pub none_clause : (from : ℕ) (r : Option ℕ) → IfNone r ((s : ℕ) → from ≤ s → is_owed (row s) ≡ false) → IfNone r ((set num : ℕ) → from ≤ set → adj_of u.entries client set num ≡ pos 0)
  none_clause from None h = λ set num le. none_at set num (h set le)
  none_clause from (Some next) h = h

  pub there_clause : (r : Option ℕ) → IfSome r (λ next. is_owed (row next) ≡ true) → IfSome r (λ next. HasEntry u.entries client next)
  there_clause None h = h
  there_clause (Some next) h = let at = owed (row next) h in (at.0, λ zero. at.1 (row_adjs es u e client next at.0 ∙ zero))

  pub least_clause : (from : ℕ) (r : Option ℕ) → IfSome r (λ next. (s : ℕ) → from ≤ s → s < next → is_owed (row s) ≡ false)
      → IfSome r (λ next. (set num : ℕ) → from ≤ set → set < next → adj_of u.entries client set num ≡ pos 0)
  least_clause from None h = h
  least_clause from (Some next) h = λ set num le lt. none_at set num (h set le lt)
