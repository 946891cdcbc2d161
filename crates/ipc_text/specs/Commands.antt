-- The calls that the words behind a client's name make, or why they make none.
use Rattle.std.specs.Prelude.{ℕ, List, [], ◌∷◌, Option, Some, None, Result, Ok, Err, option_map}
use Rattle.ipc_commands.specs.Commands.{command_parts}
use Rattle.ipc_commands.specs.Options.{tool_named}
use Rattle.ipc_commands.specs.declared.parts.Part.{Part}
use Rattle.ipc_commands.specs.declared.parts.Part.TheVariants.{Plain}
use Rattle.ipc_commands.specs.declared.tools.Tool.{Tool}
use Rattle.ipc_text.specs.CallWords.{call_of}
use Rattle.ipc_text.specs.declared.reasons.Reason.{Reason}
use Rattle.ipc_text.specs.declared.reasons.Reason.TheVariants.{BadCommand, BadLine}

-- the parts, or this reason
abbrev pub parts_or : Reason → Option (List Part) → Result (List Part) Reason
parts_or reason None = Err reason
parts_or reason (Some parts) = Ok parts

abbrev pub plain_parts : List (List ℕ) → Option (List Part)
plain_parts words = option_map (λ call. Plain call ∷ []) (call_of words)

-- the words, of which the first names this command or none
abbrev pub command_by : Option Tool → List ℕ → List (List ℕ) → Result (List Part) Reason
command_by (Some tool) word arguments = parts_or BadCommand (command_parts tool arguments)
command_by None word arguments = parts_or BadLine (plain_parts (word ∷ arguments))

unfoldable pub command_of : List (List ℕ) → Result (List Part) Reason
command_of [] = Err BadLine
command_of (word ∷ arguments) = command_by (tool_named word) word arguments
