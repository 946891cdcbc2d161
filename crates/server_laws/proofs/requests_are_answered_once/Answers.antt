use Rattle.server_laws.proofs.Answered.{short_answered, step_answered}
use Rattle.server_laws.proofs.Runs.{always_answered}
use Rattle.server_laws.proofs.requests_are_answered_once.Goals as goal

pub returns-clause-kept : goal.returns-clause-kept
returns-clause-kept c supply now e s conn lent long there = (step_answered conn s lent supply now e long).kept there

pub returns-clause-gone : goal.returns-clause-gone
returns-clause-gone c supply now e s conn lent long closed = (step_answered conn s lent supply now e long).gone closed

pub returns-clause-lacking : goal.returns-clause-lacking
returns-clause-lacking c s now conn token other peer sender bytes m there sends read = short_answered other s now conn token peer sender bytes m there sends read

pub returns-clause-always : goal.returns-clause-always
returns-clause-always c limits clients conns bounds some before inputs conn stays = always_answered limits clients conns bounds some before inputs conn stays
