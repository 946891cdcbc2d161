use Rattle.std.proofs.Common.{rules, ◌∙◌}
use Rattle.clap.specs.Words.{found_of}
use Rattle.clap.proofs.WalkLemmas.{first_value-rows}
use Rattle.ipc_commands.specs.Options.{is_set}
use Rattle.ipc_commands.proofs.options.is_set.Goals as goal

pub returns : goal.returns
unfolding is_set
returns c =
    let read = c.get_str.ensures ∙ first_value-rows (found_of c.args.matches.now) c.args.id.now in
    rw (← read) (search rules)
