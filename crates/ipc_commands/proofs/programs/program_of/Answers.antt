use Rattle.std.proofs.Common.{ap, option_map, ◌∙◌}
use Rattle.clap.specs.Words.{is_simple_and_free}
use Rattle.ipc_commands.proofs.OptionLemmas.{program_is_simple}
use Rattle.ipc_commands.proofs.ProgramLemmas.{not_taken, script_taken, threads_taken}
use Rattle.ipc_commands.proofs.programs.program_of.Goals as goal

pub matches-requires : goal.matches-requires
matches-requires c = ap is_simple_and_free c.in_ok-ipcsh.ensures ∙ program_is_simple

pub returns-in_default : goal.returns-in_default
returns-in_default c = not_taken _ _ _ _ c.in_default.is c.in_ok-matches.ensures.rows c.in_ok-ipcsh.ensures

pub returns-in-Some-subcommand_name : goal.returns-in-Some-subcommand_name
returns-in-Some-subcommand_name c = threads_taken _ _ _ _ _ _ _ c.in-Some.is c.in_ok-matches.ensures.rows c.in_ok-matches.ensures.subcommand c.in_ok-ipcsh.ensures c.subcommand_name.ensures (ap (option_map (λ s. s.now)) c.in-Some-subcommand_name.is)

pub returns : goal.returns
returns c = script_taken _ _ _ _ _ _ c.in-Some.is c.in_ok-matches.ensures.rows c.in_ok-matches.ensures.subcommand c.in_ok-ipcsh.ensures c.subcommand_name.ensures (ap (option_map (λ s. s.now)) c.in-None.is)
