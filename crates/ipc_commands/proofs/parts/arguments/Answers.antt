use Rattle.std.proofs.Common.{sym}
use Rattle.ipc_commands.proofs.WordLemmas.{IsUtf8-is_plain, is_ok_if}
use Rattle.ipc_commands.proofs.parts.arguments.Goals as goal

pub unwrap-requires : goal.unwrap-requires
unwrap-requires c = is_ok_if _ _ _ _ (IsUtf8-is_plain _ (sym c.if-not-is_plain.ensures)) c.from_utf8.ensures.cases
