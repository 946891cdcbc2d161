-- The slots of a kind are looked at one after another.
use Rattle.std.proofs.Common.{◌≡◌, ℕ, suc, ◌+◌, ◌-◌, ◌<◌, ◌≤◌, refl, ap, arith}
use Rattle.std.specs.List.{range_with_len}
use Rattle.ipc_call.specs.declared.calls.Kind.{Kind}
use Rattle.ipc_model.specs.State.{State}
use Rattle.ipc_server.specs.declared.looks.Totals.{Totals}
use Rattle.ipc_server.specs.Looks.{object_there, totals_in, with_object}

module _ (s : State) (kind : Kind) (a n : ℕ) (t : Totals) where
  pub totals_step : a < n → totals_in s kind (range_with_len a (n - a)) t ≡ totals_in s kind (range_with_len (a + 1) (n - (a + 1))) (with_object s kind a (object_there s kind a) t)
  unfolding totals_in
  totals_step below = ap (λ (k : ℕ). totals_in s kind (range_with_len a k) t) (let one : n - a ≡ suc (n - (a + 1)) = omega arith in one)

  pub totals_end : n ≤ a → totals_in s kind (range_with_len a (n - a)) t ≡ t
  unfolding totals_in
  totals_end past = ap (λ (k : ℕ). totals_in s kind (range_with_len a k) t) (let none : n - a ≡ 0 = omega arith in none)
