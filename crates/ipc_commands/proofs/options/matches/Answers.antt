use Rattle.std.proofs.Common.{rules}
use Rattle.ipc_commands.proofs.OptionLemmas.{first_of_both, matched-refused, matched-taken}
use Rattle.ipc_commands.proofs.options.matches.Goals as goal

pub returns-in-Ok : goal.returns-in-Ok
returns-in-Ok c =
    let found = c.in-Ok.ensures.matches (first_of_both _ _ c.requires) in
    record { rows = matched-taken _ _ _ (c.in-Ok.ensures.kinds c.requires) found.0; subcommand = found.1 }

pub returns : goal.returns
returns c = record {
  rows = matched-refused _ _ c.in-Err.error (c.in-Err.ensures.kinds c.requires) (search rules);
  subcommand = search rules;
}
