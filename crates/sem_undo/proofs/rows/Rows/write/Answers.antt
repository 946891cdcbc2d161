use Rattle.std.proofs.Common.{◌≡◌, ◌∙◌, ◌<◌, ℕ, arith, refl, sym, ap, length, w32, set, to_z, of_z, List, ℤ}
use Rattle.std.specs.Option.{option_copied_mut}
use Rattle.std.specs.Prelude.{[], Option, unwrap_or}
use Rattle.std.specs.Vec.{with_item}
use Rattle.std.proofs.lemmas.Int.{to_z-of_z}
use Rattle.sem_undo.specs.Rows.{items_of, row_at}
use Rattle.sem_undo.proofs.Noted.{fits_still, noted_still}
use Rattle.sem_undo.proofs.Places.{row_put}
use Rattle.sem_undo.proofs.rows.Rows.write.Goals as goal

pub returns-clause-rows : goal.returns-clause-rows
returns-clause-rows c =
    let there = sym c.get_mut.ensures.value ∙ ap option_copied_mut c.unwrap-row.ensures in
    row_put c.args.self.now.rows _ c.args.client c.args.set (with_item c.unwrap-row.result.now c.args.num (to_z w32 (of_z w32 c.args.adj))) _ refl
    (ap (λ z. set c.unwrap-row.result.now.items c.args.num z) (to_z-of_z w32 c.args.adj c.ranges.adj)
    ∙ ap (λ (row : List ℤ). set row c.args.num c.args.adj) (sym (ap (λ o. unwrap_or (items_of o) []) there)))

pub returns-clause-noted : goal.returns-clause-noted
returns-clause-noted c =
    let small : c.args.set < 4294967296 = omega (arith, c.ranges.set.fits) in
    record {
      clients = noted_still c.args.self.now.clients _ c.args.self.now.rows _ c.args.client c.args.set c.requires.noted.clients _
          (returns-clause-rows c) refl
          (λ none.
          let empty : length (row_at c.args.self.now c.args.client c.args.set) ≡ 0 = ap (λ (o : Option (List ℤ)). length (unwrap_or o [])) none in
          absurd (omega (arith, empty, c.requires.within)));
      sets = fits_still c.args.self.now.rows _ c.args.client c.args.set _ (returns-clause-rows c) small c.requires.noted.sets;
    }
