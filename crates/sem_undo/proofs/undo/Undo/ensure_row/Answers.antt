use Rattle.std.proofs.Common.{◌≤◌, ◌≡◌, ◌∙◌, arith, ap, length, sym, true, Bool}
use Rattle.std.specs.Prelude.{nat_lt, if◌then◌else◌}
use Rattle.std.specs.FinMap as finite
use Rattle.sem_undo.specs.Entries.{row_len}
use Rattle.sem_undo.specs.Rows.{row_at}
use Rattle.sem_undo.proofs.Entries.{place}
use Rattle.sem_undo.proofs.Values.{grown_value, row_lens}
use Rattle.sem_undo.proofs.undo.Undo.ensure_row.Goals as goal

pub grow-requires-clause-longer : goal.grow-requires-clause-longer
grow-requires-clause-longer c =
    let lens = row_lens c.self.inside.rows.rows c.args.self.now c.self.view_is c.args.client c.args.set in
    omega (arith, c.if-row-nsems.true, c.row.ensures.len, lens)

pub returns-in_ok-grow-clause-ok : goal.returns-in_ok-grow-clause-ok
returns-in_ok-grow-clause-ok c =
    let u = c.args.self.now in
    let lens = row_lens c.self.inside.rows.rows u c.self.view_is c.args.client c.args.set in
    let within : length (row_at c.self.inside.rows c.args.client c.args.set) ≤ c.args.nsems = omega (arith, c.if-row-nsems.true, c.row.ensures.len, lens) in
    let shorter : nat_lt (row_len u c.args.client c.args.set) c.args.nsems ≡ true = grind (arith, c.if-row-nsems.true, c.row.ensures.len) in
    grown_value c.self.inside.rows.rows u c.self.view_is c.args.client c.args.set _ c.args.nsems within c.in_ok-grow.ensures.ok
    ∙ ap (λ (b : Bool). if b then (record u { rows = finite.insert u.rows (place c.args.client c.args.set) c.args.nsems }) else u) (sym shorter)
