use Rattle.std.proofs.Common.{◌<◌, ◌∙◌, arith, length, w32}
use Rattle.std.proofs.lemmas.Int.{to_z-of_z}
use Rattle.sem_undo.specs.Entries.{with_adj}
use Rattle.sem_undo.specs.Rows.{row_at}
use Rattle.sem_undo.proofs.Entries.{key}
use Rattle.sem_undo.proofs.Values.{put_value, row_lens}
use Rattle.sem_undo.proofs.undo.Undo.put.Goals as goal

pub write-requires-clause-within : goal.write-requires-clause-within
write-requires-clause-within c =
    let lens = row_lens c.self.inside.rows.rows c.args.self.now c.self.view_is c.args.client c.args.set in
    omega (arith, c.requires)

pub returns : goal.returns
returns c =
    let u = c.args.self.now in
    let lens = row_lens c.self.inside.rows.rows u c.self.view_is c.args.client c.args.set in
    let within : c.args.num < length (row_at c.self.inside.rows c.args.client c.args.set) = omega (arith, c.requires) in
    put_value c.self.inside.rows.rows u c.self.view_is c.args.client c.args.set _ c.args.num _ within c.write.ensures.rows
    ∙ (λ i. record u { entries = with_adj u.entries (key c.args.client c.args.set c.args.num) (to_z-of_z w32 c.args.adj c.ranges.adj i) })
