-- What the fields of a session mean, and what holds of them.
use Rattle.std.specs.Prelude.{◌≡◌, ◌≤◌, true, List, length, Option, Some, None}
use Rattle.ipc_call.specs.Limits.{are_in_range}
use Rattle.ipc_creds.specs.Credentials.{Credentials}
use Rattle.ipc_history.specs.History.{History}
use Rattle.ipcsh.specs.Session as session
use Rattle.ipcsh.specs.declared.session.Session.TheInside.{Inside}

abbrev pub session_of : Inside → session.Session
session_of a = record {
  names = a.names.items;
  clients = a.clients.items;
  limits = a.limits;
  time = a.time;
  history = a.space;
  lines = a.lines;
  bad = a.bad;
}

-- the namespace, once it was started, has these clients
abbrev pub HasClients : Option History → List Credentials → Type 0
HasClients None clients = Unit {0}
HasClients (Some h) clients = h.clients ≡ clients

pub record IsSession (a : Inside) : Type 0 where
  pub in_range : are_in_range a.limits ≡ true
  pub few : length a.names.items ≤ 64
  pub alike : length a.clients.items ≡ length a.names.items
  pub started : HasClients a.space a.clients.items
  pub bad_lines : a.bad ≤ a.lines
