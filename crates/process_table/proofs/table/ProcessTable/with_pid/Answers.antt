use Rattle.std.proofs.Common.{◌≡◌, subst}
use Rattle.std.specs.List.{find}
use Rattle.std.specs.Option.{option_map}
use Rattle.ipc_model.specs.State.{has_pid}
use Rattle.ipc_model.specs.Tidy.{thread_in}
use Rattle.process_table.specs.Table.{Table}
use Rattle.process_table.proofs.Finding.{first-found}
use Rattle.process_table.proofs.table.ProcessTable.with_pid.Goals as goal

pub returns-clause-first : goal.returns-clause-first
returns-clause-first c =
    let found = c.next_with_pid.result in
    subst (λ (t : Table). option_map (thread_in t.threads) found ≡ find (has_pid c.args.pid) t.threads) c.self.view_is
    (first-found c.self.inside.threads c.args.pid found c.next_with_pid.ensures.none c.next_with_pid.ensures.there c.next_with_pid.ensures.least)
