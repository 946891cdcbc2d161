use Rattle.std.proofs.Common.{◌≡◌, ◌==◌, ap, length, replicate, sym, take, ◌∙◌}
use Rattle.std.proofs.lemmas.List.Folds.{length-prefix_len}
use Rattle.ipc_words.proofs.LineLemmas.{feeds, feeds_first}
use Rattle.ipc_words.proofs.lines.split_feeds.Goals as goal

pub returns-clause-feeds : goal.returns-clause-feeds
returns-clause-feeds c =
    let text = c.args.text.now in
    let front : c.split_at.result.0.now ≡ take (feeds text) text = cc in
    front ∙ feeds_first text ∙ ap (λ n. replicate n 10) (sym (ap length front ∙ length-prefix_len (λ b. b == 10) text))
