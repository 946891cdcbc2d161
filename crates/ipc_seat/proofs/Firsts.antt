-- Who reads the journal.
use Rattle.std.proofs.Common.{◌≡◌, Option, Some, None, option_map, box_value, sym, subst, IfSome}
use Rattle.std.specs.Prelude.{Box}
use Rattle.std.specs.declared.alloc.Global.{Global}
use Rattle.journal_reader.specs.declared.states.Reader.{Reader}
use Rattle.ipc_seat.specs.Journals.{journal_of}
use Rattle.ipc_seat.specs.declared.seat.Seat.{Seat}

module _ {Z : Type 0} where
  pub first_reads : (seat : Option (Box Seat Z)) (reader : Option (Box Reader Global)) (P : Option Reader → Type 0)
      → IfSome seat (λ s. (box_value s).journal ≡ reader) → P (option_map (λ r. box_value r) reader) → IfSome seat (λ s. P (journal_of (box_value s)))
  first_reads None reader P is p = tt
  first_reads (Some s) reader P is p = subst (λ j. P (option_map (λ r. box_value r) j)) (sym is) p
