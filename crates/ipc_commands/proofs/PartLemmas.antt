-- The parts of a command, step by step.
use Rattle.std.proofs.Common.{◌≡◌, List, Some, None, refl}
use Rattle.clap.specs.Words.{Row, Text}
use Rattle.ipc_commands.specs.Commands.{arguments_of, command_parts, parts_by, requests_of, some_parts}
use Rattle.ipc_commands.specs.Options.{app_of_tool, matched, name_of_tool}
use Rattle.ipc_commands.specs.declared.parts.Part.{Part}
use Rattle.ipc_commands.specs.declared.tools.Tool.{Tool}

pub no_arguments : (tool : Tool) (words : List Text) → None ≡ arguments_of (name_of_tool tool) words → None ≡ command_parts tool words
unfolding command_parts
no_arguments tool words a = rw (← a) refl

pub no_rows : (tool : Tool) (words arguments : List Text) → Some arguments ≡ arguments_of (name_of_tool tool) words
    → None ≡ matched (app_of_tool tool) arguments → None ≡ command_parts tool words
unfolding command_parts
no_rows tool words arguments a b = rw (← a, ← b) refl

pub no_parts : (tool : Tool) (words arguments : List Text) (rows : List Row) → Some arguments ≡ arguments_of (name_of_tool tool) words
    → Some rows ≡ matched (app_of_tool tool) arguments → None ≡ parts_by rows (requests_of tool) → None ≡ command_parts tool words
unfolding command_parts
no_parts tool words arguments rows a b d = rw (← a, ← b, ← d) refl

pub all_parts : (tool : Tool) (words arguments : List Text) (rows : List Row) (parts : List Part) → Some arguments ≡ arguments_of (name_of_tool tool) words
    → Some rows ≡ matched (app_of_tool tool) arguments → Some parts ≡ parts_by rows (requests_of tool) → some_parts parts ≡ command_parts tool words
unfolding command_parts
all_parts tool words arguments rows parts a b d = rw (← a, ← b, ← d) refl
