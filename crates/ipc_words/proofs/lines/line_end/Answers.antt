use Rattle.ipc_words.proofs.LineLemmas.{feed_tells}
use Rattle.ipc_words.proofs.lines.line_end.Goals as goal

pub returns-clause-line : goal.returns-clause-line
returns-clause-line c = feed_tells c.args.text.now _ c.memchr.ensures
