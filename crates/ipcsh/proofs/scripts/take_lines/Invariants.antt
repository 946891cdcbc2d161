use Rattle.std.proofs.Common.{◌≡◌, ◌+◌, ◌≤◌, length}
use Rattle.std.specs.Prelude.{fold}
use Rattle.ipc_words.specs.Lines.{lines_of}
use Rattle.ipcsh.specs.Scripts.{IsReady, after_script_line, planned}
use Rattle.ipcsh.proofs.scripts.take_lines.Given as goal

-- what follows leads on to the whole plan
abbrev pub invariant-loop-line : goal.invariant-loop-line
invariant-loop-line g l = record {
  leads : fold after_script_line l.planning (lines_of l.rest) ≡ planned (lines_of l.text);
  count : l.planning.session.lines + length l.rest ≤ length l.text;
  ready : IsReady l.planning;
}

abbrev pub decreases-loop-line : goal.decreases-loop-line
decreases-loop-line g l = length l.rest
