-- Which clients are a service's.
use Rattle.ipc_combiner.specs.declared.states.Service.{Service}
use Rattle.ipc_combiner.specs.declared.states.Idle.{Idle}
use Rattle.ipc_combiner.specs.declared.states.Unjoined.{Unjoined}
use Rattle.ipc_combiner.specs.States.{IsOf, IsUnjoinedOf}

-- one that asks nothing
abbrev pub IsClientOf : Service → Idle → Type 0
IsClientOf service idle = IsOf service.list idle.joined

-- one that hasn't joined
abbrev pub IsNewOf : Service → Unjoined → Type 0
IsNewOf service unjoined = IsUnjoinedOf service.list unjoined.fresh
