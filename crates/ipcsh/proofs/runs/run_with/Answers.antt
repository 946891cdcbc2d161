use Rattle.std.proofs.Common.{◌∙◌, ap}
use Rattle.std.specs.Prelude.{Err}
use Rattle.std.proofs.lemmas.Result.{err_from_is_err_and}
use Rattle.ipcsh.specs.declared.runs.Fault.{Fault}
use Rattle.ipcsh.specs.declared.runs.Fault.TheVariants as faults
use Rattle.ipcsh.proofs.RunLemmas.{at_start, ends_at}
use Rattle.ipcsh.proofs.runs.run_with.Goals as goal

pub returns-in_err-piece : goal.returns-in_err-piece
returns-in_err-piece g c =
    let p = err_from_is_err_and c.from_residual.result c.from_residual.ensures.1 in
    ends_at _ c.from_residual.result faults.Memory (p.1 ∙ ap (λ (f : Fault). Err f) p.2) (at_start (g.R.Read.remaining c.args.reader.now) (g.W.Write.contents c.args.writer.now))
