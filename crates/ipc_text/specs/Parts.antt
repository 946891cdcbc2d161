-- The calls of a line, however they are kept.
use Rattle.std.specs.Prelude.{List, [], ◌∷◌}
use Rattle.ipc_commands.specs.declared.parts.Part.{Part}
use Rattle.ipc_text.specs.declared.commands.Parts.{Parts}
use Rattle.ipc_text.specs.declared.commands.Parts.TheVariants.{One, Many}

abbrev pub listed : Parts → List Part
listed (One part) = part ∷ []
listed (Many parts) = parts.items
