-- A client and a number, in their order.
use Rattle.std.specs.Prelude.{ℕ, refl}
use Rattle.std.specs.Coded.{Coded, code_by, coded×, coded_ℕ}
use Rattle.std.specs.declared.cmp.Ordering.{Ordering}
use Rattle.std.specs.Ordering.{nat_cmp, ordering_then}
pub use Rattle.client_map.specs.declared.map.Key.{Key}

abbrev pub key : ℕ → ℕ → Key
key client number = record { client = client; number = number }

abbrev pub key_cmp : Key → Key → Ordering
key_cmp a b = ordering_then (nat_cmp a.client b.client) (nat_cmp a.number b.number)

abbrev pub key_code : Coded Key
key_code =
    code_by (ℕ × ℕ) (coded× coded_ℕ coded_ℕ) (λ k. (k.client, k.number)) (λ c. key c.0 c.1) (λ _. refl)
