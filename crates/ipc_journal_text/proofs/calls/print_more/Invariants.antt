-- the text so far
use Rattle.std.proofs.Common.{◌≡◌, ◌++◌, take}
use Rattle.std.specs.Prelude.{flat_map, string_bytes}
use Rattle.ipc_journal_text.specs.CredentialsText.{more_text}
use Rattle.ipc_journal_text.proofs.calls.print_more.Given as goal

abbrev pub invariant-loop-number : goal.invariant-loop-number
invariant-loop-number l =
    string_bytes l.text ≡ string_bytes l.fn.text ++ flat_map more_text (take l.number-index l.numbers)
