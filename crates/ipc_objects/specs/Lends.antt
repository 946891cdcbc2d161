-- What a table becomes where the contents of an object are lent.
use Rattle.std.specs.Prelude.{ℕ, Option}
use Rattle.std.specs.Borrow.{LendsIf, Fml, RattleType, MutBor}
use Rattle.ipc_ids.specs.Table.{Table}
use Rattle.ipc_objects.specs.declared.object.Object.{Object}
use Rattle.ipc_objects.specs.Objects.{with_contents}
use Rattle.ipc_objects.specs.contracts.objects.Objects.{the_row}

module _ (T : RattleType) (s : MutBor (Table (Object T.Denot))) (id : ℕ) where
  -- the object has the contents that were last written through the loan; where nothing is lent, the table stays
  abbrev pub lends_contents : Option (MutBor T.Denot) → Fml
  lends_contents loan = LendsIf (the_row T) T s loan (with_contents s.now id) s.now
