use Rattle.std.proofs.Common.{arith, ◌∙◌, ap, []}
use Rattle.std.specs.Prelude.{Err}
use Rattle.std.proofs.KnownBytes.{Consumes-nil}
use Rattle.std.proofs.lemmas.Result.{err_from_is_err_and}
use Rattle.ipcsh.specs.declared.runs.Fault.{Fault}
use Rattle.ipcsh.specs.declared.runs.Fault.TheVariants as faults
use Rattle.ipcsh.proofs.PieceLemmas.{ends_by}
use Rattle.ipcsh.proofs.pieces.read_text.Goals as goal

pub returns-in_err-piece-clause-fault : goal.returns-in_err-piece-clause-fault
returns-in_err-piece-clause-fault g c =
    let p = err_from_is_err_and c.from_residual.result c.from_residual.ensures.1 in
    ends_by _ _ c.from_residual.result faults.Memory (p.1 ∙ ap (λ (f : Fault). Err f) p.2) ([], omega arith, Consumes-nil (g.R.Read.remaining c.args.reader.now))
