-- What comes before all else in a namespace in which only some clients live at the start.
use Rattle.std.specs.Prelude.{ℕ, List, map}
use Rattle.std.specs.List.{range_with_len}
use Rattle.ipc_call.specs.declared.calls.Call.TheVariants.{Exit}
use Rattle.ipc_model.specs.Step.{Event}

abbrev pub exit_of : ℕ → Event
exit_of client = record { client = client; now = 0; call = Exit }

-- so many clients exit, one after another from the first
abbrev pub exits : ℕ → ℕ → List Event
exits first count = map exit_of (range_with_len first count)
