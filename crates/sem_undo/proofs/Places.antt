-- What the rows are after a change at one place.
use Rattle.std.proofs.Common.{◌≡◌, ◌∙◌, ℕ, ap, refl, cond, Bool, true, false, ℤ, List}
use Rattle.std.specs.Prelude.{Option, Some, None, if◌then◌else◌}
use Rattle.std.specs.FinMap as finite
use Rattle.std.specs.Global.{Vec}
use Rattle.client_map.specs.Keys.{key}
use Rattle.client_map.proofs.Orders.{key_total}
use Rattle.sem_undo.specs.Rows.{RowMap, is_here, items_of, row_in}

either : (here : Bool) (new old : Option (Vec ℤ)) → items_of (cond here new old) ≡ (if here then items_of new else items_of old)
either true new old = refl
either false new old = refl

module _ (m m' : RowMap) (client set : ℕ) where
  -- one was put there
  pub row_put : (v : Vec ℤ) (row : List ℤ) → m' ≡ finite.insert m (key client set) v → v.items ≡ row → (c s : ℕ) → row_in m' c s ≡ (if is_here client set c s then Some row else row_in m c s)
  row_put v row e is c s =
      ap (λ n. row_in n c s) e
      ∙ ap items_of (finite.get-insert key_total m (key client set) v (key c s))
      ∙ either (is_here client set c s) (Some v) (finite.get m (key c s))
      ∙ ap (λ (r : List ℤ). if is_here client set c s then Some r else row_in m c s) is

  -- it was taken out there
  pub row_gone : m' ≡ finite.remove m (key client set) → (c s : ℕ) → row_in m' c s ≡ (if is_here client set c s then None else row_in m c s)
  row_gone e c s =
      ap (λ n. row_in n c s) e
      ∙ ap items_of (finite.get-remove key_total m (key client set) (key c s))
      ∙ either (is_here client set c s) None (finite.get m (key c s))
