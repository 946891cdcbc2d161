-- What a map ends as, where a `&mut` to one of its values is returned.
use Rattle.std.specs.Prelude.{ℕ, Option}
use Rattle.std.specs.Borrow.{LendsIf, Fml, RattleType, MutBor}
use Rattle.std.specs.FinMap as finite
use Rattle.client_map.specs.Keys.{key, key_cmp}
use Rattle.client_map.specs.contracts.map.ClientMap.{the_row}

-- once the borrow r ends, the last value written through it stands there; at `None` the map stays as it is
abbrev pub lends_get : (V : RattleType) → MutBor (finite.FinMap key_cmp V.Denot) → ℕ → ℕ → Option (MutBor V.Denot) → Fml
lends_get V m client number r = LendsIf (the_row V) V m r (λ w. finite.insert m.now (key client number) w) m.now
