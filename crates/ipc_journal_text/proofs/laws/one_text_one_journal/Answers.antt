use Rattle.ipc_journal_text.proofs.BackLemmas.{one_journal}
use Rattle.ipc_journal_text.proofs.laws.one_text_one_journal.Goals as goal

pub returns : goal.returns
returns c = one_journal
