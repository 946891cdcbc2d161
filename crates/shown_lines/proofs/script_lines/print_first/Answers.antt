use Rattle.std.proofs.Common.{◌≡◌, ◌<◌, ◌∷◌, ◌++◌, ◌∙◌, ap, ℕ, List, rules}
use Rattle.ipc_words.specs.Words.{words_of}
use Rattle.shown_lines.proofs.WordLemmas.{first_step, rest_step}
use Rattle.shown_lines.proofs.script_lines.print_first.Goals as goal

pub loop-left-preserved : goal.loop-left-preserved
loop-left-preserved c =
    let words : words_of c.loop-left.rest.now ≡ c.in-Some.word.now ∷ words_of c.in-Some.others.now = search rules in
    let some : 0 < c.loop-left.left = search rules in
    let new = c.in_ok-extend_from_slice-2.ensures.items ∙ ap (λ (l : List ℕ). l ++ c.in-Some.word.now) c.in_ok-extend_from_slice.ensures.items in (
      first_step _ c.loop-left.out.items c.loop-left.rest.now c.in-Some.others.now _ c.in-Some.word.now c.loop-left.left c.loop-left.invariant.0 words some new,
      rest_step _ c.loop-left.rest.now c.in-Some.others.now c.in-Some.word.now c.loop-left.left c.loop-left.invariant.1 words some,
    )
