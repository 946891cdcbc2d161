-- What the threads of a script do and print.
use Rattle.std.specs.Prelude.{◌≡◌, ◌⊎◌, ℕ, ◌≤◌, Bool, true, false, List, [], ◌++◌, length, map, string_bytes, Result, IfErr, IfOk}
use Rattle.std.specs.Io.KnownBytes.{Appends, Consumes}
use Rattle.ipc_call.specs.declared.limits.Limits.{Limits}
use Rattle.ipc_call.specs.Limits.{are_in_range}
use Rattle.ipc_commands.specs.declared.jobs.Job.{Job}
use Rattle.ipc_creds.specs.Credentials.{Credentials}
use Rattle.ipc_jobs.specs.declared.counting.Counts.{Counts}
use Rattle.ipc_jobs.specs.Courses.{AreCounts, HaveGone}
use Rattle.ipc_history.specs.History.{History, IsLegal, run}
use Rattle.ipc_model.specs.Listings.{lines_of as lines_in}
use Rattle.ipc_words.specs.Lines.{lines_of}
use Rattle.ipcsh.specs.declared.scripts.Script.{Script}
use Rattle.ipcsh.specs.declared.runs.Fault.{Fault}
use Rattle.ipcsh.specs.declared.runs.Fault.TheVariants as faults
use Rattle.ipcsh.specs.declared.runs.Summary.{Summary}
use Rattle.ipcsh.specs.Scripts.{Planned, ReadsText, StopsReading, planned}
use Rattle.ipcsh.specs.Runs.{Transfer, longest_input}
use Rattle.ipcsh.specs.Session.{has_started}
use Rattle.ipcsh_threads.specs.declared.running.Ending.{Ending}
use Rattle.ipcsh_threads.specs.Rows.{count_rows, object_lines}

-- who is to make which calls
pub record Setup : Type 0 where
  pub names : List (List ℕ)
  pub clients : List Credentials
  pub limits : Limits
  pub jobs : List (List Job)

abbrev pub setup_of : Script → Setup
setup_of script = record {
  names = script.names.items;
  clients = script.clients.items;
  limits = script.limits;
  jobs = map (λ own. own.items) script.jobs.items;
}

abbrev pub setup_in : Planned → Setup
setup_in p =
    record { names = p.session.names; clients = p.session.clients; limits = p.session.limits; jobs = p.jobs }

-- a script whose threads may start
pub record CanRun (script : Script) : Type 0 where
  pub limits : are_in_range script.limits ≡ true
  pub some : 1 ≤ length script.clients.items
  pub few : length script.clients.items ≤ 64
  pub jobs : length script.jobs.items ≡ length script.clients.items
  pub names : length script.names.items ≡ length script.clients.items

-- The clients made the calls of their jobs, each all of its own in their order, and the history is legal. It has all of
-- them but those for which an allocation failed, and these are counted
pub record IsRun (s : Setup) (h : History) (counts : List Counts) : Type 0 where
  pub limits : h.limits ≡ s.limits
  pub clients : h.clients ≡ s.clients
  pub legal : IsLegal h
  pub whole : HaveGone (λ client nth. ⊥) (λ client nth. Unit {0}) h s.jobs 0 counts
  pub counted : AreCounts h counts

-- the rows at the end: each client's counts, and all objects
abbrev pub end_rows : Setup → History → List Counts → List ℕ
end_rows s h counts = count_rows s.names counts ++ object_lines (lines_in (run h))

-- some such history was made, and these are its rows and the number of its calls
abbrev pub Makes : Setup → List ℕ → ℕ → Type 0
Makes s rows events = (h : History) × (counts : List Counts) × IsRun s h counts
    × (rows ≡ end_rows s h counts) × (events ≡ length h.events)

abbrev pub EndsSo : Setup → Ending → Type 0
EndsSo s e = Makes s (string_bytes e.rows) e.events

-- the rows behind those of the bad lines, and the number of calls: none without a job
abbrev pub GoesOn : Bool → Setup → List ℕ → ℕ → Type 0
GoesOn false s rows events = (rows ≡ []) × (events ≡ 0)
GoesOn true s rows events = Makes s rows events

-- all that a script prints, and the number of its calls
abbrev pub Prints : Planned → List ℕ → ℕ → Type 0
Prints p output events =
    (rows : List ℕ) × (output ≡ p.rows ++ rows) × GoesOn (has_started p.session) (setup_in p) rows events

-- the whole script was read, and all its rows were written
pub record IsWhole (t : Transfer) (text output : List ℕ) (summary : Summary) : Type 0 where
  pub read : ReadsText t.read_before t.read_after text
  pub prints : Prints (planned (lines_of text)) output summary.events
  pub written : Appends t.written_before t.written_after output
  pub lines : summary.lines ≡ (planned (lines_of text)).session.lines
  pub bad : summary.bad ≡ (planned (lines_of text)).session.bad

abbrev pub WritesThreads : Transfer → Summary → Type 0
WritesThreads t summary = (text : List ℕ) × (output : List ℕ) × IsWhole t text output summary

-- this is a front of the bytes
abbrev pub IsFront : List ℕ → List ℕ → Type 0
IsFront written bytes = (rest : List ℕ) × (bytes ≡ written ++ rest)

-- a front of the rows of the bad lines, or of all rows
abbrev pub PrintsFront : Planned → List ℕ → Type 0
PrintsFront p written =
    IsFront written p.rows ⊎ ((output : List ℕ) × (events : ℕ) × Prints p output events × IsFront written output)

-- what a fault says: after a failed read, and after an input that is too long, nothing was written; for want of memory
-- a front of the rows of bad lines was written; before a failed write the whole script was read
abbrev pub StopsThreads : Transfer → Fault → Type 0
StopsThreads t faults.Memory =
    (text : List ℕ) × (written : List ℕ) × (length text ≤ longest_input) × Consumes t.read_before t.read_after text
    × Appends t.written_before t.written_after written × IsFront written (planned (lines_of text)).rows
StopsThreads t faults.Write =
    (text : List ℕ) × (written : List ℕ) × ReadsText t.read_before t.read_after text
    × Appends t.written_before t.written_after written × PrintsFront (planned (lines_of text)) written
StopsThreads t fault = StopsReading t.read_before t.read_after fault × Appends t.written_before t.written_after []

-- how a run in threads ends
abbrev pub ThreadsEndBy : Transfer → Result Summary Fault → Type 0
ThreadsEndBy t result = IfOk result (WritesThreads t) × IfErr result (StopsThreads t)
