use Rattle.std.proofs.Common.{◌≡◌, ◌++◌, ap, ◌∙◌, ℕ, List, subst, sym}
use Rattle.row_notes.specs.Merging.{IsExplained, explained, is_end, margin_below, notes_text}
use Rattle.std.specs.Prelude.{filter}
use Rattle.row_notes.specs.Noted.{left_of}
use Rattle.row_notes.proofs.LineLemmas.{explained_is, first_is, last_when_empty, last_when_not, row_step, rows_end}
use Rattle.row_notes.proofs.merging.merge.Goals as goal
use Rattle.row_notes.proofs.merging.merge.Goals.{then-is_empty+in_ok-print_last, else-is_empty}

pub loop-row-preserved : goal.loop-row-preserved
loop-row-preserved c =
    let rest = c.loop-row.rest.now in
    let row = c.in-Some.row.now in
    let others = c.in-Some.others.now in (
      row_step _ c.loop-row.out.items rest row others c.print_notes.new.out.items c.print_first.new.out.items _ (left_of c.loop-row.left_above) _ (left_of c.loop-row.left_below) _ c.loop-row.invariant.0 c.in-Some.ensures.parts c.in-Some.ensures.line c.in_ok-left_above.ensures.text (c.in_ok-print_first.ensures ∙ ap (λ (l : List ℕ). c.print_notes.new.out.items ++ l) (first_is rest row others c.in-Some.ensures.parts)) c.in_ok-left_below.ensures.text c.in_ok-left_above.ensures.left c.in_ok-left_below.ensures.left,
      c.in_ok-left_above.ensures.head,
      c.in_ok-left_below.ensures.head,
    )

pub returns-clause-text : goal.returns-clause-text
returns-clause-text c =
    let notes = left_of c.loop-row.left_below in
    let rest = c.loop-row.rest.now in
    let end = rows_end _ c.loop-row.out.items rest (left_of c.loop-row.left_above) notes c.loop-row.invariant.0 c.in_default.ensures.line in
    let all : explained c.args.rows.now (left_of c.all-left_above.result) (left_of c.all-left_below.result) ≡ explained c.args.rows.now c.args.above.now c.args.below.now = (λ i. explained c.args.rows.now (c.all-left_above.ensures i) (c.all-left_below.ensures i)) in
    let front = c.in_ok-extend_from_slice.ensures.items in
    elim c.if-is_empty.branch [
      | then-is_empty+in_ok-print_last w ↦ last_when_empty _ c.loop-row.out.items rest _ notes end (sym c.is_empty.ensures ∙ w.if-is_empty.true) (rw w.out-is (w.in_ok-print_last.ensures ∙ ap (λ (l : List ℕ). l ++ notes_text margin_below (filter (λ n. is_end n.head) notes)) front)) ∙ all
      | else-is_empty w ↦ last_when_not _ c.loop-row.out.items rest _ notes end (sym c.is_empty.ensures ∙ w.if-is_empty.false) (rw w.out-is front) ∙ all
    ]

pub returns-clause-kept : goal.returns-clause-kept
returns-clause-kept c =
    subst (λ (l : List ℕ). IsExplained c.args.rows.now l) (sym (returns-clause-text c)) (explained_is c.args.rows.now c.args.above.now c.args.below.now)
