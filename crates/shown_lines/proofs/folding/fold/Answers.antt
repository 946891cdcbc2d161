use Rattle.shown_lines.proofs.FoldingLemmas.{fold_end, fold_step}
use Rattle.shown_lines.proofs.folding.fold.Goals as goal

pub loop-line-preserved : goal.loop-line-preserved
loop-line-preserved c =
    fold_step _ c.loop-line.out.items c.loop-line.rest.now c.in-Some.line.now c.in-Some.others.now _ c.args.width c.loop-line.invariant c.in-Some.ensures.parts c.in-Some.ensures.line c.in_ok-fold_line.ensures.text

pub returns : goal.returns
returns c = fold_end _ c.loop-line.out.items c.loop-line.rest.now c.args.width c.loop-line.invariant c.in_default.ensures.line
