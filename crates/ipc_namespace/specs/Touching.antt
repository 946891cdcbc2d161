-- Where the calls wait that the grant of a call may make ready.
use Rattle.std.specs.Prelude.{◌≡◌, ℕ, ◌&&◌, Bool, true, false, List, Option, Some, None, option_map, unwrap_or}
use Rattle.std.specs.List.{AllByRecursion, find, list_any}
use Rattle.ipc_call.specs.declared.calls.Kind.TheVariants as kinds
use Rattle.ipc_call.specs.declared.calls.Call.TheVariants.{Exit, Kill}
use Rattle.sem_undo.specs.Entries.{HasEntry}
use Rattle.ipc_model.specs.Cancelled.{is_same, waits_on}
use Rattle.ipc_model.specs.Decide.{waits_at}
use Rattle.ipc_model.specs.State.{Call, Kind, Sems, State, Waiting, has_pid, process_at}
use Rattle.ipc_model.specs.Step.{is_ready}
use Rattle.ipc_model.specs.Touched.{owes, touches_place}

-- of the calls that wait, each on an object that the grant of a client's call touches passes
abbrev pub CoversWaiting : State → ℕ → Call → (Waiting → Bool) → Type 0
CoversWaiting s client call touched =
    AllByRecursion (λ w. is_ready s w ≡ false → touches_place s client call w ≡ true → touched w ≡ true) s.parked

-- the end of a process adds something to the set at which a call waits
abbrev pub owes_at : Sems → ℕ → Option (Kind × ℕ) → Bool
owes_at sems process place = unwrap_or (option_map (λ at. is_same kinds.Sems at.0 && owes sems process at.1) place) false

abbrev pub CoversOwed : State → ℕ → (Waiting → Bool) → Type 0
CoversOwed s process touched =
    AllByRecursion (λ w. owes_at s.sems process (waits_at w.call) ≡ true → touched w ≡ true) s.parked

-- the same of the process of a pid
abbrev pub CoversKilled : State → ℕ → (Waiting → Bool) → Type 0
CoversKilled s pid touched =
    AllByRecursion (λ w. touches_place s 0 (Kill pid) w ≡ true → touched w ≡ true) s.parked

-- the process that may end by the call
abbrev pub ending : State → ℕ → Call → Option ℕ
ending s client Exit = Some (process_at s client)
ending s client (Kill pid) = option_map (λ t. t.process) (find (has_pid pid) s.threads)
ending s client call = None

-- the call waits on one of these sets
abbrev pub is_listed : List ℕ → Waiting → Bool
is_listed ids w = list_any (λ id. waits_on kinds.Sems id w.call) ids

-- the process has a semadj of the set that isn't 0, and a call waits on it
abbrev pub IsOwedTo : State → ℕ → ℕ → Type 0
IsOwedTo s process id = HasEntry s.sems.undo process id × (list_any (λ w. waits_on kinds.Sems id w.call) s.parked ≡ true)

-- the client of the earliest waiting call that passes and is ready
abbrev pub first_on : State → (Waiting → Bool) → Option ℕ
first_on s passes = option_map (λ w. w.client) (find (λ w. passes w && is_ready s w) s.parked)
