use Rattle.std.proofs.Common.{rules, arith}
use Rattle.ipc_words.specs.LineText.{content_of}
use Rattle.ipc_words.specs.Lines.{lines_of}
use Rattle.ipcsh.specs.Scripts.{planned}
use Rattle.ipcsh.proofs.ScriptLemmas.{planned_last, planned_next}
use Rattle.ipcsh.proofs.scripts.take_lines.Goals as goal

pub loop-line-preserved : goal.loop-line-preserved
loop-line-preserved g c = record {
  leads = planned_next c.loop-line.planning c.take_line.new.self (planned (lines_of c.args.text.now)) c.loop-line.rest.now c.in-Some.line.now c.in-Some.others.now (content_of c.whole_line.result) c.in-Some.ensures.parts c.in-Some.ensures.line c.whole_line.ensures c.in_ok-take_line.ensures.takes c.loop-line.invariant.leads;
  count = omega (arith, c.in_ok-take_line.ensures.lines, c.in-Some.ensures.shorter, c.loop-line.invariant.count);
  ready = c.in_ok-take_line.ensures.ready;
}

pub returns-in_ok-take_line-2-clause-planned : goal.returns-in_ok-take_line-2-clause-planned
returns-in_ok-take_line-2-clause-planned g c =
    planned_last c.loop-line.planning c.take_line-then-not-is_empty.new.self (planned (lines_of c.args.text.now)) c.loop-line.rest.now (content_of c.last_line.result) c.in_default.ensures.line (search rules) c.last_line.ensures c.in_ok-take_line-2.ensures.takes c.loop-line.invariant.leads
