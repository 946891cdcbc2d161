use Rattle.std.proofs.Common.{◌≡◌, [], ap, ◌∙◌}
use Rattle.std.proofs.lemmas.Result.{on_ok_weaker}
use Rattle.ipc_words.specs.LineText.{content_of}
use Rattle.ipc_words.specs.Lines.{whole_line}
use Rattle.ipcsh.proofs.InputLemmas.{Takes-line, whole_alone}
use Rattle.ipcsh.proofs.input.ScriptInput.take_line.Goals as goal

pub returns-then-is_empty-clause-takes : goal.returns-then-is_empty-clause-takes
returns-then-is_empty-clause-takes g c =
    let i = c.args.self.now in
    let none : i.pending ≡ [] = c.is_empty.ensures.0 c.if-is_empty.true in
    on_ok_weaker c.answer.result (λ a. Takes-line i (record { session = c.answer.new.self; pending = i.pending; rows = c.answer.new.rows }) c.args.bytes.now (content_of c.whole_line-line.result) c.requires.line (c.whole_line-line.ensures ∙ whole_alone i.pending c.args.bytes.now none) none a) c.answer.ensures.answer

pub returns-clause-takes : goal.returns-clause-takes
returns-clause-takes g c =
    Takes-line c.args.self.now (record { session = c.answer-2.new.self; pending = c.clear.new.self; rows = c.answer-2.new.rows }) c.args.bytes.now (content_of c.whole-line.result) c.requires.line (c.whole-line.ensures ∙ ap whole_line c.in_ok-extend.ensures.ok) c.clear.ensures c.in_ok-answer.ensures.answer
