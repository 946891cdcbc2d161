-- What a client may do with an object.
use Rattle.std.specs.Prelude.{ℕ, Option, option_and_then, option_map, slice_get, true, false}
use Rattle.ipc_model.specs.Controls.{perm_of}
use Rattle.ipc_model.specs.State.{State}
use Rattle.ipc_perm.specs.Access.{control_verdict_on, verdict_on}
use Rattle.ipc_desk.specs.declared.access.Access.{Access}
use Rattle.call_values.specs.Objects.{id_of, kind_of}
use Rattle.call_values.specs.declared.ids.Object.{Object}

-- by the client's credentials and the object's permissions, where there are both
abbrev pub access_to : State → ℕ → Object → Option Access
access_to s client object =
    option_and_then (λ creds. option_map (λ perm. record {
      read = record { 0 = verdict_on creds perm (record { read = true; alter = false }) };
      alter = record { 0 = verdict_on creds perm (record { read = false; alter = true }) };
      control = record { 0 = control_verdict_on creds perm };
    }) (perm_of s (kind_of object) (id_of object))) (slice_get s.clients client)
