-- What a script says that is read to its end before any of its calls is made.
use Rattle.std.specs.Prelude.{◌≡◌, ℕ, ◌+◌, ◌≤◌, true, List, [], ◌∷◌, ◌++◌, length, fold, map, Option, Some, string_bytes, get_or, set}
use Rattle.std.specs.Io.KnownBytes.{Consumes, IsAtEnd}
use Rattle.ipc_call.specs.Limits.{are_in_range}
use Rattle.ipc_commands.specs.declared.jobs.Job.{Job}
use Rattle.ipc_commands.specs.declared.parts.Part.{Part}
use Rattle.ipc_creds.specs.Credentials.{Credentials}
use Rattle.ipc_words.specs.Lines.{lines_of}
use Rattle.ipcsh.specs.declared.scripts.Script.{Script}
use Rattle.ipcsh.specs.declared.readings.Reading.{Reading}
use Rattle.ipcsh.specs.declared.readings.Reading.TheVariants as readings
use Rattle.ipcsh.specs.declared.runs.Fault.{Fault}
use Rattle.ipcsh.specs.declared.runs.Fault.TheVariants as faults
use Rattle.ipcsh.specs.Output.{Answered, carried_out, counted}
use Rattle.ipcsh.specs.Readings.{reading_of}
use Rattle.ipcsh.specs.Runs.{longest_input}
use Rattle.ipcsh.specs.Session.{Session, fresh_session, has_started, history_of}

-- the session, each client's jobs in their order, and the rows of the bad lines
pub record Planned : Type 0 where
  pub session : Session
  pub jobs : List (List Job)
  pub rows : List ℕ

abbrev pub nothing_planned : Planned
nothing_planned = record { session = fresh_session; jobs = []; rows = [] }

-- a line without a call is carried out as in a run
abbrev pub carried : Planned → Answered → Planned
carried p a = record { session = a.session; jobs = p.jobs; rows = p.rows ++ a.rows }

-- a new client, without a job
abbrev pub with_client : Planned → List ℕ → Credentials → Planned
with_client p name creds = record {
  session = (carried_out p.session (readings.Client name creds) []).session;
  jobs = p.jobs ++ [] ∷ [];
  rows = p.rows;
}

-- from the first job on clients and limits are late, as from the first call of a run
abbrev pub begun : Session → Session
begun s = record s { history = Some (history_of s) }

-- one more job of a client, at the time passed in
abbrev pub with_job : Planned → ℕ → List Part → Planned
with_job p client parts = record {
  session = begun p.session;
  jobs = set p.jobs client (get_or p.jobs client [] ++ record { now = p.session.time; command = parts } ∷ []);
  rows = p.rows;
}

abbrev pub planned_by : Planned → Reading → Planned
planned_by p (readings.Command client parts) = with_job p client parts
planned_by p (readings.Client name creds) = with_client p name creds
planned_by p reading = carried p (carried_out p.session reading [])

abbrev pub line_counted : Planned → Planned
line_counted p = record p { session = counted p.session }

-- a line says what it says in a run at this place
unfoldable pub after_script_line : Planned → Option (List ℕ) → Planned
after_script_line p line = planned_by (line_counted p) (reading_of (counted p.session) line)

-- what the lines of a script plan
abbrev pub planned : List (Option (List ℕ)) → Planned
planned lines = fold after_script_line nothing_planned lines

-- there is a list of jobs for each client, and none without a client
pub record IsReady (p : Planned) : Type 0 where
  pub lists : length p.jobs ≡ length p.session.names
  pub some : has_started p.session ≡ true → 1 ≤ length p.session.names

-- this is the script that was planned
pub record IsScript (p : Planned) (script : Script) : Type 0 where
  pub names : script.names.items ≡ p.session.names
  pub clients : script.clients.items ≡ p.session.clients
  pub limits : script.limits ≡ p.session.limits
  pub jobs : map (λ own. own.items) script.jobs.items ≡ p.jobs
  pub has_jobs : script.has_jobs ≡ has_started p.session
  pub rows : string_bytes script.rows ≡ p.rows
  pub lines : script.lines ≡ p.session.lines
  pub bad : script.bad ≡ p.session.bad
  pub in_range : are_in_range script.limits ≡ true
  pub few : length script.names.items ≤ 64
  pub one_each : length script.clients.items ≡ length script.names.items
  pub lists : length script.jobs.items ≡ length script.names.items
  pub some : script.has_jobs ≡ true → 1 ≤ length script.names.items

-- the reader gave this text, and has no more
pub record ReadsText (before after : Option (List ℕ)) (text : List ℕ) : Type 0 where
  pub within : length text ≤ longest_input
  pub read : Consumes before after text
  pub end : IsAtEnd after

-- the reader gave a whole text, and this is its script
abbrev pub ReadsScript : Option (List ℕ) → Option (List ℕ) → Script → Type 0
ReadsScript before after script =
    (text : List ℕ) × ReadsText before after text × IsScript (planned (lines_of text)) script

-- how much was read before the fault
abbrev pub StopsReading : Option (List ℕ) → Option (List ℕ) → Fault → Type 0
StopsReading before after faults.Read = (text : List ℕ) × (length text ≤ longest_input) × Consumes before after text
StopsReading before after faults.TooMuch =
    (text : List ℕ) × (length text ≡ longest_input + 1) × Consumes before after text
StopsReading before after faults.Memory = (text : List ℕ) × (length text ≤ longest_input) × Consumes before after text
StopsReading before after faults.Write = ⊥
