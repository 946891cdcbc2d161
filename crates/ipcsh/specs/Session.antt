-- A script's session: the clients and limits so far, the time passed in, the history of the namespace once it was
-- started, and the counts of the summary.
use Rattle.std.specs.Prelude.{ℕ, Bool, false, List, [], length, Option, Some, None, is_some, bytes_eq}
use Rattle.std.specs.List.{position_from}
use Rattle.ipc_call.specs.declared.limits.Limits.{Limits}
use Rattle.ipc_call.specs.Limits.{default_limits}
use Rattle.ipc_creds.specs.Credentials.{Credentials}
use Rattle.ipc_history.specs.History.{History, run}
use Rattle.ipc_model.specs.State.{is_waiting}

pub record Session : Type 0 where
  pub names : List (List ℕ)
  pub clients : List Credentials
  pub limits : Limits
  pub time : ℕ
  pub history : Option History
  pub lines : ℕ
  pub bad : ℕ

-- before the first line
abbrev pub fresh_session : Session
fresh_session =
    record { names = []; clients = []; limits = default_limits; time = 0; history = None; lines = 0; bad = 0 }

abbrev pub has_started : Session → Bool
has_started s = is_some s.history

-- the number of the client of this name
abbrev pub client_named : Session → List ℕ → Option ℕ
client_named s word = position_from (λ name. bytes_eq name word) 0 s.names

abbrev pub waits_in : Option History → ℕ → Bool
waits_in None client = false
waits_in (Some h) client = is_waiting (run h) client

-- the client's last call still waits
abbrev pub waits : Session → ℕ → Bool
waits s client = waits_in s.history client

-- the history so far: the first call starts the namespace
abbrev pub history_in : Session → Option History → History
history_in s None = record { limits = s.limits; clients = s.clients; events = [] }
history_in s (Some h) = h

abbrev pub history_of : Session → History
history_of s = history_in s s.history

abbrev pub events_in : Option History → ℕ
events_in None = 0
events_in (Some h) = length h.events

abbrev pub events_of : Session → ℕ
events_of s = events_in s.history
