-- The orders of keys.
use Rattle.std.specs.Ordering.{nat_cmp, ordering_then}
use Rattle.std.specs.Cmp.{IsTotalOrder}
use Rattle.std.specs.FinMap as finite
use Rattle.std.proofs.lemmas.Cmp.{nat_cmp_total, on_total, then_total}
use Rattle.client_map.proofs.Orders.{then_equal}
use Rattle.sem_undo.specs.Entries.{Adjusted, Place, adjusted_cmp, place_cmp}

pub adjusted_total : IsTotalOrder adjusted_cmp
adjusted_total = then_total (on_total (λ (a : Adjusted). a.client) nat_cmp_total) (then_total (on_total (λ (a : Adjusted). a.set) nat_cmp_total) (on_total (λ (a : Adjusted). a.num) nat_cmp_total))

pub adjusted_same : finite.IsAntisymmetric adjusted_cmp
adjusted_same a b is =
    let first = then_equal (nat_cmp a.client b.client) (ordering_then (nat_cmp a.set b.set) (nat_cmp a.num b.num)) is in
    let later = then_equal (nat_cmp a.set b.set) (nat_cmp a.num b.num) first.1 in
    λ i. record {
      client = finite.nat_cmp-IsAntisymmetric a.client b.client first.0 i;
      set = finite.nat_cmp-IsAntisymmetric a.set b.set later.0 i;
      num = finite.nat_cmp-IsAntisymmetric a.num b.num later.1 i;
    }

pub place_total : IsTotalOrder place_cmp
place_total = then_total (on_total (λ (a : Place). a.client) nat_cmp_total) (on_total (λ (a : Place). a.set) nat_cmp_total)

pub place_same : finite.IsAntisymmetric place_cmp
place_same a b is =
    let both = then_equal (nat_cmp a.client b.client) (nat_cmp a.set b.set) is in
    λ i. record {
      client = finite.nat_cmp-IsAntisymmetric a.client b.client both.0 i;
      set = finite.nat_cmp-IsAntisymmetric a.set b.set both.1 i;
    }
