use Rattle.ipc_journal_text.proofs.BackLemmas.{handed_on, read_back, refused_back, unread_back}
use Rattle.ipc_journal_text.specs.Gives.{shown}
use Rattle.ipc_journal_text.proofs.reading.read_journal.Goals as goal

pub returns-in_err-take_lines-clause-back : goal.returns-in_err-take_lines-clause-back
returns-in_err-take_lines-clause-back c =
    let e = c.in_err-take_lines.field-0.0 in
    let lines = rw (c.new.ensures.items, c.new-2.ensures.items) at c.in_err-take_lines.ensures in
    λ l cs rs j t. handed_on c.from_residual.result e l cs rs c.from_residual.ensures.0 c.from_residual.ensures.1
    (unread_back e (shown c.take_lines.new.read) c.args.text.now c.default.result l cs rs lines j t)

pub returns-in_err-check-clause-back : goal.returns-in_err-check-clause-back
returns-in_err-check-clause-back c =
    let e = c.in_err-check.field-0.0 in
    let lines = rw (c.new.ensures.items, c.new-2.ensures.items) at c.in_ok-take_lines.ensures in
    λ l cs rs j t. handed_on c.from_residual-in_err-check.result e l cs rs c.from_residual-in_err-check.ensures.0 c.from_residual-in_err-check.ensures.1
    (refused_back e (shown c.take_lines.new.read) c.args.text.now c.default.result l cs rs c.in_err-check.ensures.refused lines j t)

pub returns-clause-back : goal.returns-clause-back
returns-clause-back c =
    let lines = rw (c.new.ensures.items, c.new-2.ensures.items) at c.in_ok-take_lines.ensures in
    λ l cs rs j t. read_back (shown c.take_lines.new.read) c.args.text.now c.default.result l cs rs lines j t
