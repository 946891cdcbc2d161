-- What the clients told whose seats were merged into the first one.
use Rattle.std.proofs.Common.{◌≡◌, ℕ, List, [], ◌∷◌, refl, inl, inr, ⊎_elim}
use Rattle.pub_rule.specs.declared.work.Closed.{Closed}
use Rattle.pub_rule.specs.Lists.{IsOn}
use Rattle.pub_rule.specs.Work.{clients_of, IsAmong}

module _ {E C R : Type 0} where
  -- who is on the list told something
  pub told_by : (r : ℕ) (closed : List (Closed E C R)) → IsOn r (clients_of closed) → (c : Closed E C R) × IsAmong c closed × (r ≡ c.client)
  told_by r [] on = absurd on
  told_by r (x ∷ xs) on = ⊎_elim (λ e. (x, inl refl, e)) (λ t. let h = told_by r xs t in (h.0, inr h.1, h.2)) on
