-- What the run of a script that is there whole leaves.
use Rattle.std.specs.Prelude.{◌≡◌, ℕ, List, string_bytes}
use Rattle.ipc_words.specs.Lines.{lines_of}
use Rattle.ipcsh.specs.Output.{Printed}
use Rattle.ipcsh.specs.Runs.{LeadTo, summary_of}
use Rattle.ipcsh.specs.declared.texts.Ended.{Ended}

-- the output, the counts and the namespace to which the lines lead
pub record Leaves (text : List ℕ) (e : Ended) : Type 0 where
  pub printed : Printed
  pub lines : LeadTo (lines_of text) printed
  pub rows : string_bytes e.rows ≡ printed.output
  pub told : e.summary ≡ summary_of printed.session
  pub space : e.space ≡ printed.session.history
