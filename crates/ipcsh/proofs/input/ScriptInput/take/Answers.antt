use Rattle.std.proofs.Common.{◌≡◌, arith, ◌∷◌, [], ◌++◌, List, ℕ, sym, subst, ◌∙◌, append_assoc}
use Rattle.ipcsh.specs.declared.input.ScriptInput.{ScriptInput}
use Rattle.ipcsh.specs.Inputs.{Takes}
use Rattle.ipcsh.proofs.InputLemmas.{HasRead-line, Takes-more, TakesFront-more}
use Rattle.ipcsh.proofs.input.ScriptInput.take.Goals as goal

pub loop-line-preserved : goal.loop-line-preserved
loop-line-preserved g c =
    let line = c.in-Some.line.now in
    let others = c.in-Some.others.now in
    let joined : (line ++ 10 ∷ []) ++ others ≡ c.loop-line.rest.now = append_assoc line (10 ∷ []) others ∙ sym c.in-Some.ensures.parts in
    let answered = TakesFront-more c.args.self.now c.loop-line.self c.take_line.new.self c.args.bytes.now c.loop-line.rest.now others c.loop-line.invariant.takes (line ++ 10 ∷ [], joined, c.in_ok-take_line.ensures.takes) in
    record {
      takes = TakesFront-more c.args.self.now c.take_line.new.self c.pass_feeds-rest.new.self c.args.bytes.now others c.pass_feeds-rest.result.now answered c.pass_feeds-rest.ensures.takes;
      lines = omega (arith, c.in_ok-take_line.ensures.lines, c.in-Some.ensures.shorter, c.pass_feeds-rest.ensures.lines, c.loop-line.invariant.lines);
    }

pub returns-clause-takes : goal.returns-clause-takes
returns-clause-takes g c =
    let i = c.loop-line.self in let rest = c.loop-line.rest.now in let before = c.loop-line.invariant.takes in
    let last : ScriptInput = record { session = i.session; pending = c.extend.new.self; rows = i.rows } in
    let more : Takes i rest last = λ text written h. HasRead-line text written rest c.extend.new.self i c.in_default.ensures.line h c.in_ok-extend.ensures.ok in
    subst (λ (bs : List ℕ). Takes c.args.self.now bs last) before.1 (Takes-more c.args.self.now i last before.0 rest before.2 more)
