use Rattle.std.proofs.Common.{◌∙◌, sym}
use Rattle.process_table.proofs.Rising.{place-ended}
use Rattle.process_table.proofs.rows.place_of.Goals as goal

pub returns-then-ends_below : goal.returns-then-ends_below
returns-then-ends_below c = place-ended c.args.rows.now c.args.bound c.requires (sym c.ends_below.ensures ∙ c.if-ends_below.true)
