-- What a service and its clients are at the start.
use Rattle.std.specs.Prelude.{◌≡◌, ℕ, [], length, vec_len, IfSome, All}
use Rattle.std.specs.Global.{Vec}
use Rattle.std.specs.List.{slice_get}
use Rattle.ipc_call.specs.declared.limits.Limits.{Limits}
use Rattle.ipc_creds.specs.declared.creds.Creds.{Creds}
use Rattle.ipc_combiner.specs.declared.entries.Keeping.{Keeping}
use Rattle.ipc_combiner.specs.declared.states.Service.{Service}
use Rattle.ipc_combiner.specs.declared.states.Unjoined.{Unjoined}
use Rattle.ipc_combiner.specs.States.{IsUnjoinedOf, keeping, opened}

-- It was opened with these limits and for these clients, and keeps this of its journal; and each client has a number, from 0 in
-- the order of the credentials, and hasn't joined
pub record IsStarted (limits : Limits) (clients : Vec Creds) (kept : Keeping) (start : Service × Vec Unjoined) : Type 0 where
  pub opening : opened start.0.list ≡ record { limits = limits; clients = clients.items; events = [] }
  pub keeps : keeping start.0.list ≡ kept
  pub count : length start.1.items ≡ vec_len clients
  pub numbers : (k : ℕ) → IfSome (slice_get start.1.items k) (λ u. u.fresh.client ≡ k)
  pub service : All (λ u. IsUnjoinedOf start.0.list u.fresh) start.1.items
