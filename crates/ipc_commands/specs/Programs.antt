-- The words of the program itself.
use Rattle.std.specs.Prelude.{List, true, codes, Option, Some, None, option_map}
use Rattle.clap.specs.Words.{App, Row, Text, new_app, subcommand_of, with_subcommand}
use Rattle.ipc_commands.specs.Options.{matched}
use Rattle.ipc_commands.specs.declared.programs.Program.{Program}
use Rattle.ipc_commands.specs.declared.programs.Program.TheVariants.{Script, Threads}

abbrev pub without_help : App → App
without_help app = record app { top = record app.top { disable_help_subcommand = true } }

-- ipcsh [threads]
unfoldable pub ipcsh_app : App
ipcsh_app = with_subcommand (without_help (new_app (codes "ipcsh"))) (new_app (codes "threads")).top

-- threads is the one subcommand that there is
abbrev pub program_by : Option (Text × List Row) → Program
program_by None = Script
program_by (Some subcommand) = Threads

-- what the program does by these words; None where it doesn't take them
unfoldable pub program_in : App → List Text → Option Program
program_in app words = option_map (λ rows. program_by (subcommand_of app words)) (matched app words)
