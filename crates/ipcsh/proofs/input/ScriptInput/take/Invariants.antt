use Rattle.std.proofs.Common.{◌+◌, ◌≤◌, length}
use Rattle.ipcsh.specs.Inputs.{TakesFront}
use Rattle.ipcsh.proofs.input.ScriptInput.take.Given as goal

-- a front of the bytes is read
abbrev pub invariant-loop-line : goal.invariant-loop-line
invariant-loop-line g l = record {
  takes : TakesFront l.fn.self l.bytes l.self l.rest;
  lines : l.self.session.lines + length l.rest ≤ l.fn.self.session.lines + length l.bytes;
}

abbrev pub decreases-loop-line : goal.decreases-loop-line
decreases-loop-line g l = length l.rest
