use Rattle.std.proofs.Common.{◌∙◌, ◌<◌, ap, arith, refl, sym}
use Rattle.std.specs.Option.{option_copied_mut}
use Rattle.std.specs.Prelude.{if◌then◌else◌}
use Rattle.sem_undo.specs.Rows.{is_here, items_of, row_of, zeroed_at}
use Rattle.sem_undo.proofs.Noted.{fits_still, noted_still}
use Rattle.sem_undo.proofs.Places.{row_put}
use Rattle.sem_undo.proofs.rows.Rows.zero_at.Goals as goal

pub returns-in-Some-clause-rows : goal.returns-in-Some-clause-rows
returns-in-Some-clause-rows c x s =
    let there = sym c.get_mut.ensures.value ∙ ap option_copied_mut c.in-Some.is in
    row_put c.args.self.now.rows _ c.args.client c.args.set c.zero_one.new.row _ refl c.zero_one.ensures x s
    ∙ ap (λ o. if is_here c.args.client c.args.set x s then zeroed_at c.args.num (items_of o) else row_of c.args.self.now x s) (sym there)

pub returns-in-Some-clause-noted : goal.returns-in-Some-clause-noted
returns-in-Some-clause-noted c =
    let small : c.args.set < 4294967296 = omega (arith, c.ranges.set.fits) in
    record {
      clients = noted_still c.args.self.now.clients _ c.args.self.now.rows _ c.args.client c.args.set c.requires.noted.clients _
          (returns-in-Some-clause-rows c) refl (λ none. ap (zeroed_at c.args.num) none);
      sets = fits_still c.args.self.now.rows _ c.args.client c.args.set _ (returns-in-Some-clause-rows c) small c.requires.noted.sets;
    }
