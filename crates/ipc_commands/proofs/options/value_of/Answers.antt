use Rattle.std.proofs.Common.{rules, ◌∙◌}
use Rattle.clap.specs.Words.{found_of}
use Rattle.clap.proofs.WalkLemmas.{first_value-rows}
use Rattle.ipc_commands.proofs.options.value_of.Goals as goal

pub returns-in_err-get_str : goal.returns-in_err-get_str
returns-in_err-get_str c =
    let read = c.get_str.ensures ∙ first_value-rows (found_of c.args.matches.now) c.args.id.now in
    rw (← read) (search rules)

pub returns : goal.returns
returns c =
    let read = c.get_str.ensures ∙ first_value-rows (found_of c.args.matches.now) c.args.id.now in
    rw (← read) (search rules)
