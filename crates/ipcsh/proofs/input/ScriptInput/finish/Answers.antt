use Rattle.std.proofs.Common.{◌≡◌, ℕ, List, [], ◌∷◌, ◌++◌, subst, ap, ◌∙◌}
use Rattle.std.specs.Prelude.{string_bytes, Option}
use Rattle.std.proofs.lemmas.Result.{on_ok_weaker}
use Rattle.std.proofs.lemmas.Bool.{both_ways}
use Rattle.ipc_words.specs.LineText.{content_of}
use Rattle.ipc_words.specs.Lines.{split, complete_lines}
use Rattle.ipcsh.specs.Runs.{LeadTo}
use Rattle.ipcsh.proofs.InputLemmas.{LeadTo-line, last_is, lines_with_last, lines_without_last, none_kept, some_kept}
use Rattle.ipcsh.proofs.input.ScriptInput.finish.Goals as goal

pub returns-then-is_empty : goal.returns-then-is_empty
returns-then-is_empty g c = λ text written h.
    let none : (split text).rest ≡ [] = none_kept text c.args.self.now.pending h.kept (c.is_empty.ensures.0 c.if-is_empty.true) in
    subst (λ (ls : List (Option (List ℕ))). LeadTo ls (record { session = c.args.self.now.session; output = written ++ string_bytes c.args.self.now.rows })) (lines_without_last text none) h.lines

pub returns : goal.returns
returns g c = on_ok_weaker c.answer.result (λ a. λ text written h.
    let i = c.args.self.now in
    let line = content_of c.last-line.result in
    let some = some_kept text i.pending h.kept (λ e. both_ways c.is_empty.result c.if-is_empty.false (c.is_empty.ensures.1 e)) in
    let lines = ap (λ (l : Option (List ℕ)). complete_lines text ++ l ∷ []) (last_is text i.pending line h.kept c.last-line.ensures) ∙ lines_with_last text some in
    subst (λ (ls : List (Option (List ℕ))). LeadTo ls (record { session = c.answer.new.self; output = written ++ string_bytes c.answer.new.rows })) lines (LeadTo-line (complete_lines text) i.session line c.answer.new.self written (string_bytes i.rows) (string_bytes c.answer.new.rows) h.lines a)) c.answer.ensures.answer
