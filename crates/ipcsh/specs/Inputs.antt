-- What the reader of a script holds between two bytes.
use Rattle.std.specs.Prelude.{◌≡◌, ℕ, List, ◌++◌, take, string_bytes}
use Rattle.ipcsh.specs.declared.input.ScriptInput.{ScriptInput}
use Rattle.ipc_words.specs.Lines.{complete_lines, split}
use Rattle.ipcsh.specs.Runs.{LeadTo}

-- the text was read and its complete lines answered; of their rows these were written, and the others are held
pub record HasRead (text written : List ℕ) (i : ScriptInput) : Type 0 where
  pub kept : i.pending ≡ take 65538 (split text).rest
  pub lines : LeadTo (complete_lines text) (record { session = i.session; output = written ++ string_bytes i.rows })

-- the bytes are read and their lines answered
abbrev pub Takes : ScriptInput → List ℕ → ScriptInput → Type 0
Takes old bytes new = (text written : List ℕ) → HasRead text written old → HasRead (text ++ bytes) written new

-- so are those before the rest
abbrev pub TakesFront : ScriptInput → List ℕ → ScriptInput → List ℕ → Type 0
TakesFront old bytes new rest = (front : List ℕ) × (front ++ rest ≡ bytes) × Takes old front new
