-- The removal of an object by its key: a get of the key, and then the removal of the object whose identifier it is
-- answered.
use Rattle.std.specs.Prelude.{ℕ, Option, Some, None, Ok}
use Rattle.ipc_call.specs.declared.calls.Call.{Call}
use Rattle.ipc_call.specs.declared.calls.Call.TheVariants.{MsgGet, SemGet, ShmGet}
use Rattle.ipc_call.specs.declared.calls.Kind.{Kind}
use Rattle.ipc_call.specs.declared.calls.Kind.TheVariants.{Queue, Sems, Segment}
use Rattle.ipc_call.specs.declared.replies.Answer.TheVariants.{Id}
use Rattle.ipc_call.specs.declared.replies.Reply.{Reply}
use Rattle.ipc_call.specs.declared.replies.Reply.TheVariants.{Entered}

-- the get of a key without a flag: it asks for no right, and creates an object for key 0 (IPC_PRIVATE) alone
abbrev pub get_of : Kind → ℕ → Call
get_of Queue key = MsgGet key 0
get_of Sems key = SemGet key 0 0
get_of Segment key = ShmGet key 0 0

-- the identifier that a reply gives
abbrev pub id_in : Reply → Option ℕ
id_in (Entered place turn (Ok (Id id))) = Some id
id_in other = None
