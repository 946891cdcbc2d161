use Rattle.std.proofs.Common.{◌++◌, ap, ◌∙◌, ℕ, List}
use Rattle.row_notes.specs.Merging.{line_alone}
use Rattle.row_notes.proofs.LineLemmas.{first_is, note_end, note_step}
use Rattle.row_notes.proofs.merging.print_note.Goals as goal

pub returns-in_default : goal.returns-in_default
returns-in_default c = note_end c.args.margin.now _ c.loop-rest.out.items c.loop-rest.rest.now c.loop-rest.invariant c.in_default.ensures.line

pub loop-rest-preserved : goal.loop-rest-preserved
loop-rest-preserved c =
    let rest = c.loop-rest.rest.now in
    let line = c.in-Some.field-0-0.now in
    let first = first_is rest line c.in-Some.others.now c.in-Some.ensures.parts in
    let items = c.in_ok-print_first.ensures ∙ ap (λ (l : List ℕ). c.extend_from_slice.new.self.items ++ l) first ∙ ap (λ (l : List ℕ). l ++ line_alone line) c.in_ok-extend_from_slice.ensures.items in
    note_step c.args.margin.now _ c.loop-rest.out.items rest line c.in-Some.others.now _ c.loop-rest.invariant c.in-Some.ensures.parts c.in-Some.ensures.line items
