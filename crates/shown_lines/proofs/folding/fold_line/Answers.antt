use Rattle.std.proofs.Common.{◌≡◌, ◌∷◌, ◌++◌, ◌∙◌, [], rules}
use Rattle.std.proofs.lemmas.Result.{on_ok_weaker}
use Rattle.ipc_words.specs.Words.{words_of}
use Rattle.shown_lines.proofs.FoldingLemmas.{folded_none, folded_short, folded_words}
use Rattle.shown_lines.proofs.WordLemmas.{appended}
use Rattle.shown_lines.proofs.folding.fold_line.Goals as goal
use Rattle.shown_lines.proofs.folding.fold_line.Goals.{in-Some+in_ok-extend_from_slice+in_ok-print_behind, in_default}

pub returns-in_err-extend_from_slice-clause-short :
    goal.returns-in_err-extend_from_slice-clause-short
returns-in_err-extend_from_slice-clause-short c = λ most. folded_short c.args.width most c.args.line.now

pub returns-in_err-print_behind-clause-short : goal.returns-in_err-print_behind-clause-short
returns-in_err-print_behind-clause-short c = λ most. folded_short c.args.width most c.args.line.now

pub returns-clause-text : goal.returns-clause-text
returns-clause-text c =
    let ended = appended c.extend_from_slice-2.result _ _ _ c.extend_from_slice-2.ensures.items in
    elim c.match-split_word.branch [
      | in-Some+in_ok-extend_from_slice+in_ok-print_behind w ↦
          let words : words_of c.args.line.now ≡ w.in-Some.word.now ∷ words_of w.in-Some.words.now = search rules in
          on_ok_weaker c.extend_from_slice-2.result (λ new. folded_words c.args.out.now.items c.args.line.now w.in-Some.word.now w.extend_from_slice.new.self.items w.print_behind.new.out.items _ c.args.width _ words w.in_ok-extend_from_slice.ensures.items w.in_ok-print_behind.ensures (new ∙ (λ i. (w.out-is i).items ++ 10 ∷ []))) ended
      | in_default w ↦
          let words : words_of c.args.line.now ≡ [] = search rules in
          on_ok_weaker c.extend_from_slice-2.result (λ new. folded_none c.args.out.now.items c.args.line.now _ c.args.width words (new ∙ (λ i. (w.out-is i).items ++ 10 ∷ []))) ended
    ]

pub returns-clause-short : goal.returns-clause-short
returns-clause-short c = λ most. folded_short c.args.width most c.args.line.now
