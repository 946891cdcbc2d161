use Rattle.std.proofs.Common.{◌≡◌, ℕ, ◌-◌, ◌≤◌, List, length}
use Rattle.ipcsh.proofs.RunLemmas.{Going}
use Rattle.ipcsh.proofs.runs.answer_all.Given as goal

-- what was read is answered, and all its rows are written
abbrev pub invariant-pieces : goal.invariant-pieces
invariant-pieces g l = record {
  going : (text : List ℕ) × (written : List ℕ) × (length text ≡ l.count) × Going (g.R.Read.remaining l.initial.reader) (g.R.Read.remaining l.reader) (g.W.Write.contents l.initial.writer) (g.W.Write.contents l.writer) text written l.input;
  within : l.count ≤ 16777216;
  lines : l.input.session.lines ≤ l.count;
  piece : length l.piece ≡ 65536;
}

abbrev pub decreases-pieces : goal.decreases-pieces
decreases-pieces g l = 16777217 - l.count
