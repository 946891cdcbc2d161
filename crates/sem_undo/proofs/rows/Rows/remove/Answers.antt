use Rattle.std.proofs.Common.{◌<◌, arith, refl}
use Rattle.sem_undo.proofs.Noted.{fits_still, noted_gone}
use Rattle.sem_undo.proofs.Places.{row_gone}
use Rattle.sem_undo.proofs.rows.Rows.remove.Goals as goal

pub returns-clause-rows : goal.returns-clause-rows
returns-clause-rows c = row_gone c.args.self.now.rows c.remove.new.self c.args.client c.args.set c.remove.ensures.left

pub returns-clause-noted : goal.returns-clause-noted
returns-clause-noted c =
    let small : c.args.set < 4294967296 = omega (arith, c.ranges.set.fits) in
    record {
      clients = noted_gone c.args.self.now.clients c.remove-2.new.self c.args.self.now.rows c.remove.new.self c.args.client c.args.set c.requires.noted.clients _
          (returns-clause-rows c) c.remove-2.ensures.left refl;
      sets = fits_still c.args.self.now.rows c.remove.new.self c.args.client c.args.set _ (returns-clause-rows c) small c.requires.noted.sets;
    }
