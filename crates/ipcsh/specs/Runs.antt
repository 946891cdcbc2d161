-- What a run reads and writes, by how it ends. Known bytes of a reader and a writer are those of std's words; where
-- they aren't known, what is said holds of the bytes that the calls handed over.
use Rattle.std.specs.Prelude.{◌≡◌, ℕ, ◌+◌, ◌≤◌, ◌⊎◌, List, ◌++◌, length, take, Option, Result, IfErr, IfOk}
use Rattle.std.specs.Io.KnownBytes.{Appends, Consumes, IsAtEnd}
use Rattle.ipcsh.specs.declared.runs.Summary.{Summary}
use Rattle.ipcsh.specs.declared.runs.Fault.{Fault}
use Rattle.ipcsh.specs.declared.runs.Fault.TheVariants as faults
use Rattle.ipc_words.specs.Lines.{complete_lines, lines_of}
use Rattle.ipcsh.specs.Output.{Input, Printed, after_lines, lines_in}
use Rattle.ipcsh.specs.Session.{Session, events_of}

-- the longest script, in bytes
abbrev pub longest_input : ℕ
longest_input = 16777216

-- these lines lead to this session and output, for some refusals of memory
abbrev pub LeadTo : List (Option (List ℕ)) → Printed → Type 0
LeadTo lines printed = (inputs : List Input) × (lines_in inputs ≡ lines) × (after_lines inputs ≡ printed)

abbrev pub summary_of : Session → Summary
summary_of s = record { lines = s.lines; bad = s.bad; events = events_of s }

-- the bytes that were known of a reader and a writer before a run and after it
pub record Transfer : Type 0 where
  pub read_before : Option (List ℕ)
  pub read_after : Option (List ℕ)
  pub written_before : Option (List ℕ)
  pub written_after : Option (List ℕ)

-- of a reader before and after, and of a writer
abbrev pub transfer : Option (List ℕ) → Option (List ℕ) → Option (List ℕ) → Option (List ℕ) → Transfer
transfer unread left written grown =
    record { read_before = unread; read_after = left; written_before = written; written_after = grown }

-- this text was read and these bytes were written
pub record Moves (t : Transfer) (text bytes : List ℕ) : Type 0 where
  pub read : Consumes t.read_before t.read_after text
  pub written : Appends t.written_before t.written_after bytes

-- the whole script was read, and all its rows were written
pub record IsWhole (t : Transfer) (summary : Summary) (text : List ℕ) (printed : Printed) : Type 0 where
  pub within : length text ≤ longest_input
  pub end : IsAtEnd t.read_after
  pub lines : LeadTo (lines_of text) printed
  pub moves : Moves t text printed.output
  pub told : summary ≡ summary_of printed.session

-- no more than the longest script was read, and a front of the rows of these lines was written
pub record IsFront (t : Transfer) (lines : List (Option (List ℕ))) (text : List ℕ) (printed : Printed)
    (written rest : List ℕ) : Type 0 where
  pub within : length text ≤ longest_input
  pub lead : LeadTo lines printed
  pub front : printed.output ≡ written ++ rest
  pub moves : Moves t text written

-- the rows of the complete lines of this text were written
pub record IsComplete (t : Transfer) (text front : List ℕ) (printed : Printed) : Type 0 where
  pub lines : LeadTo (complete_lines front) printed
  pub moves : Moves t text printed.output

abbrev pub WritesWhole : Transfer → Summary → Type 0
WritesWhole t summary = (text : List ℕ) × (printed : Printed) × IsWhole t summary text printed

-- of the lines that this gives of the text that was read
abbrev pub WritesFront : Transfer → (List ℕ → List (Option (List ℕ))) → Type 0
WritesFront t lines =
    (text : List ℕ) × (printed : Printed) × (written : List ℕ) × (rest : List ℕ)
    × IsFront t (lines text) text printed written rest

-- what a fault says: a failed read comes after the rows of the complete lines read so far; an input that is too long
-- was read to the byte behind the longest script, and no further; what was written before a failed write or for want
-- of memory is a front of the rows of the complete lines read so far, and before a failed write, where the input has
-- ended, of those of all its lines
abbrev pub StopsBy : Transfer → Fault → Type 0
StopsBy t faults.Read =
    (text : List ℕ) × (printed : Printed) × (length text ≤ longest_input) × IsComplete t text text printed
StopsBy t faults.TooMuch =
    (text : List ℕ) × (printed : Printed) × (length text ≡ longest_input + 1)
    × IsComplete t text (take longest_input text) printed
StopsBy t faults.Write = WritesFront t complete_lines ⊎ (IsAtEnd t.read_after × WritesFront t lines_of)
StopsBy t faults.Memory = WritesFront t complete_lines

-- how a run ends
abbrev pub EndsBy : Transfer → Result Summary Fault → Type 0
EndsBy t result = IfOk result (WritesWhole t) × IfErr result (StopsBy t)
