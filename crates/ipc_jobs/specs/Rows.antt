-- Which rows of a journal are a client's calls, and which are refusals of them.
use Rattle.std.specs.Prelude.{ℕ, Bool, false, ◌==◌, ◌&&◌, is_some}
use Rattle.ipc_call.specs.declared.replies.JournalRow.{JournalRow}
use Rattle.ipc_call.specs.declared.replies.JournalRow.TheVariants.{Called, Answered}

abbrev pub is_call_of : ℕ → JournalRow → Bool
is_call_of number (Called client now call) = client == number
is_call_of number (Answered client place turn rule) = false

abbrev pub is_refusal_of : ℕ → JournalRow → Bool
is_refusal_of number (Called client now call) = false
is_refusal_of number (Answered client place turn rule) = (client == number) && is_some rule
