use Rattle.std.proofs.Common.{◌∙◌}
use Rattle.process_table.proofs.Finding.{some-first}
use Rattle.process_table.proofs.table.ProcessTable.is_process.Goals as goal

pub returns : goal.returns
returns c = c.is_some.ensures ∙ some-first c.args.self.now.threads c.args.pid c.with_pid.result c.with_pid.ensures.first
