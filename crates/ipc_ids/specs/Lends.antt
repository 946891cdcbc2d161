-- What a table ends as, where a `&mut` to one of its objects is returned.
use Rattle.std.specs.Prelude.{ℕ, Option}
use Rattle.std.specs.Borrow.{Lends, LendsIf, Fml, RattleType, MutBor}
use Rattle.ipc_ids.specs.Table.{Table, with_object}
use Rattle.ipc_ids.specs.contracts.slots.Slots.{the_row}

module _ (T : RattleType) (s : MutBor (Table T.Denot)) (id : ℕ) where
  -- once the borrow r ends, the identifier has the last object written through r
  abbrev pub lends_object : MutBor T.Denot → Fml
  lends_object r = Lends (the_row T) T s r (with_object s.now id)

  -- the same where r is a reference, and at `None` the table stays as it is
  abbrev pub lends_get : Option (MutBor T.Denot) → Fml
  lends_get r = LendsIf (the_row T) T s r (with_object s.now id) s.now
