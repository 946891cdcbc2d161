use Rattle.std.proofs.Common.{List, ℕ, [], ap, subst, ◌∙◌}
use Rattle.std.specs.Prelude.{Some}
use Rattle.row_notes.specs.Merging.{IsExplained, explained}
use Rattle.ipcsh.specs.Runs.{EndsBy, transfer}
use Rattle.ipc_explain.proofs.explainer.explain.Goals as goal

-- the rows are those that the run has written to an empty list
pub returns : goal.returns
returns g c =
    let rows = c.run_with-ended.new.writer.items in
    let above = c.finish.new.self.lines in
    let below = c.finish.new.self.notes in (
      rows,
      above,
      below,
      subst (λ (before : List ℕ). EndsBy (transfer (g.R.Read.remaining c.args.reader.now) (g.R.Read.remaining c.run_with-ended.new.reader) (Some before) (Some rows)) c.run_with-ended.result) c.new-rows.ensures.items c.run_with-ended.ensures,
      subst (λ (printed : List ℕ). IsExplained printed c.in_ok-text.text.items) c.as_slice.ensures.value c.in_ok-text.ensures.kept,
      c.in_ok-text.ensures.text ∙ ap (λ (printed : List ℕ). explained printed above below) c.as_slice.ensures.value,
    )
