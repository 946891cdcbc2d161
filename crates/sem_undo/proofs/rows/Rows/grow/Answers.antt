use Rattle.std.proofs.Common.{◌≡◌, ◌∙◌, ap, arith, subst, sym}
use Rattle.sem_undo.specs.Rows.{grown, IsNoted, RowMap}
use Rattle.sem_undo.proofs.Noted.{Fits, fits_still, no_row, noted_back, noted_more, noted_put}
use Rattle.sem_undo.proofs.Places.{row_put}
use Rattle.sem_undo.proofs.rows.Rows.grow.Goals as goal
use Rattle.sem_undo.proofs.rows.Rows.grow.Goals.{then-is_new, else-is_new}

pub returns-in-Ok-clause-ok : goal.returns-in-Ok-clause-ok
returns-in-Ok-clause-ok c =
    row_put c.args.self.now.rows c.insert-2.new.self c.args.client c.args.set c.in_ok-row.row _ c.in-Ok.ensures.ok
    (c.in_ok-row.ensures ∙ ap (grown c.args.nsems) c.row.ensures)

pub returns-in-Ok-clause-noted : goal.returns-in-Ok-clause-noted
returns-in-Ok-clause-noted c = record {
  clients = noted_put c.args.self.now.clients c.insert.new.self c.args.self.now.rows c.insert-2.new.self c.args.client c.args.set c.requires.noted.clients _
      (returns-in-Ok-clause-ok c) c.in_ok-insert.ensures.ok;
  sets = fits_still c.args.self.now.rows c.insert-2.new.self c.args.client c.args.set _ (returns-in-Ok-clause-ok c) (omega (arith, c.ranges.set.fits)) c.requires.noted.sets;
}

pub returns-after-is_new-clause-noted : goal.returns-after-is_new-clause-noted
returns-after-is_new-clause-noted c =
    let as_were : (m : RowMap) → m ≡ c.args.self.now.rows → Fits m = λ m same. subst Fits (sym same) c.requires.noted.sets in
    elim c.if-is_new.branch [
      | then-is_new w ↦ subst IsNoted (sym w.self-is) (record {
        clients = noted_back c.args.self.now.clients c.insert.new.self w.remove.new.self c.args.self.now.rows c.insert-2.new.self c.args.client c.args.set c.requires.noted.clients
            c.in-Err.ensures.err c.in_ok-insert.ensures.ok w.remove.ensures.left (no_row c.get.result _ w.if-is_new.ensures c.get.ensures);
        sets = as_were c.insert-2.new.self c.in-Err.ensures.err;
      })
      | else-is_new w ↦ subst IsNoted (sym w.self-is) (record {
        clients = noted_more c.args.self.now.clients c.insert.new.self c.args.self.now.rows c.insert-2.new.self c.args.client c.args.set c.requires.noted.clients
            c.in-Err.ensures.err c.in_ok-insert.ensures.ok;
        sets = as_were c.insert-2.new.self c.in-Err.ensures.err;
      })
    ]
