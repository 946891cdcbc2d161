-- the text so far
use Rattle.std.proofs.Common.{◌≡◌, ◌++◌, take}
use Rattle.std.specs.Prelude.{flat_map, string_bytes}
use Rattle.ipc_journal_text.specs.CallText.{oper_text}
use Rattle.ipc_journal_text.proofs.calls.print_opers.Given as goal

abbrev pub invariant-loop-oper : goal.invariant-loop-oper
invariant-loop-oper l =
    string_bytes l.text ≡ string_bytes l.fn.text ++ flat_map oper_text (take l.oper-index l.opers)
