-- What a line of the script tool says.
use Rattle.std.specs.Prelude.{ℕ, List, Option, Some, None}
use Rattle.ipc_words.specs.declared.lines.Line.{Line}
use Rattle.ipc_words.specs.declared.lines.Line.TheVariants.{Text, TooLong}

abbrev pub content_of : Line → Option (List ℕ)
content_of (Text bytes) = Some bytes.now
content_of TooLong = None
