-- The identifiers of the objects that the events of a history created.
use Rattle.std.specs.Prelude.{ℕ, Bool, false, List, [], ◌∷◌, ◌++◌, Option, Some, Ok, if◌then◌else◌, is_none}
use Rattle.ipc_call.specs.declared.calls.Call.{Call}
use Rattle.ipc_call.specs.declared.calls.Call.TheVariants.{MsgGet, SemGet, ShmGet}
use Rattle.ipc_call.specs.declared.calls.Kind.{Kind}
use Rattle.ipc_call.specs.declared.calls.Kind.TheVariants as kinds
use Rattle.ipc_call.specs.declared.replies.Answer.TheVariants.{Id}
use Rattle.ipc_model.specs.State.{State, opening}
use Rattle.ipc_model.specs.Gets.{object_of_key}
use Rattle.ipc_model.specs.Step.{Event, step}
use Rattle.ipc_model.specs.Decision.{Outcome}
use Rattle.ipc_history.specs.History.{History}

-- a get creates an object of its kind where no object has its key; key 0, IPC_PRIVATE, finds none
abbrev pub makes : State → Kind → Call → Bool
makes s kinds.Queue (MsgGet key flags) = is_none (object_of_key s.queues key)
makes s kinds.Sems (SemGet key nsems flags) = is_none (object_of_key s.sems.sets key)
makes s kinds.Segment (ShmGet key size flags) = is_none (object_of_key s.shared.segments key)
makes s kind call = false

-- the identifier in an answer
abbrev pub id_in : Option Outcome → List ℕ
id_in (Some (Ok (Id id))) = id ∷ []
id_in outcome = []

-- the identifier of the object of the kind that the event created
abbrev pub made_by : Kind → State → Event → List ℕ
made_by kind s e = if makes s kind e.call then id_in (step s e).own else []

abbrev pub made_from : Kind → State → List Event → List ℕ
made_from kind s [] = []
made_from kind s (e ∷ es) = made_by kind s e ++ made_from kind (step s e).state es

-- those of all objects of the kind that the events of a history created, in their order
abbrev pub made : Kind → History → List ℕ
made kind h = made_from kind (opening h.limits h.clients) h.events
