use Rattle.std.proofs.Common.{◌∙◌, refl, subst, sym}
use Rattle.std.specs.Prelude.{IfSome, IsSome}
use Rattle.std.specs.FinMap as finite
use Rattle.client_map.specs.Keys.{key}
use Rattle.sem_undo.proofs.Noted.{fits_still, noted_gone, row_there, set_fits}
use Rattle.sem_undo.proofs.Places.{row_gone}
use Rattle.sem_undo.proofs.rows.Rows.take_first.Goals as goal

pub returns-in-Some-clause-rest : goal.returns-in-Some-clause-rest
returns-in-Some-clause-rest c =
    row_gone c.args.self.now.rows c.remove.new.self c.args.client c.in-Some.set c.remove.ensures.left

pub returns-in-Some-clause-noted : goal.returns-in-Some-clause-noted
returns-in-Some-clause-noted c =
    let there = subst (λ o. IfSome o (λ n. IsSome (finite.get c.args.self.now.rows (key c.args.client n)))) (sym c.narrow.ensures ∙ c.in-Some.is) c.first.ensures.there in
    let small = set_fits c.args.self.now.rows c.args.client c.in-Some.set c.requires.noted.sets (row_there _ there) in
    record {
      clients = noted_gone c.args.self.now.clients c.remove-in-Some.new.self c.args.self.now.rows c.remove.new.self c.args.client c.in-Some.set c.requires.noted.clients _
          (returns-in-Some-clause-rest c) c.remove-in-Some.ensures.left refl;
      sets = fits_still c.args.self.now.rows c.remove.new.self c.args.client c.in-Some.set _ (returns-in-Some-clause-rest c) small c.requires.noted.sets;
    }
