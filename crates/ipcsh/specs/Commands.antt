-- What the calls of a line do, one after another, for any of them to which memory was refused.
use Rattle.std.specs.Prelude.{ℕ, ◌+◌, Bool, true, false, List, [], ◌∷◌, ◌++◌, length, fold, Option, Some, None, option_and_then, if◌then◌else◌}
use Rattle.ipc_call.specs.declared.calls.Call.{Call}
use Rattle.ipc_call.specs.declared.calls.Call.TheVariants.{IpcRmid}
use Rattle.ipc_call.specs.declared.calls.Kind.{Kind}
use Rattle.ipc_call.specs.declared.replies.Reply.{Reply}
use Rattle.ipc_call.specs.declared.replies.Reply.TheVariants.{Memory}
use Rattle.ipc_history.specs.History.{History, next_step, with_event}
use Rattle.ipc_model.specs.Step.{Event, Stepped}
use Rattle.ipc_space.specs.Spaces.{own_reply, other_replies}
use Rattle.ipc_commands.specs.declared.parts.Part.{Part}
use Rattle.ipc_commands.specs.declared.parts.Part.TheVariants.{Plain, RemoveByKey}
use Rattle.ipc_commands.specs.Removals.{get_of, id_in}
use Rattle.ipc_text.specs.Rows.{effect_rows, reply_row, name_at}
use Rattle.ipcsh.specs.Session.{Session, history_of, waits}

-- how far a line has come: the session, the rows of the line so far, and for each call to come, in order, whether
-- memory is refused to it; to calls beyond the end of the list it isn't
pub record Progress : Type 0 where
  pub session : Session
  pub rows : List ℕ
  pub refusals : List Bool

-- what a call leads to, and the reply to it, None where there is none as yet
pub record Called : Type 0 where
  pub session : Session
  pub rows : List ℕ
  pub reply : Option Reply

abbrev pub call_event : Session → ℕ → Call → Event
call_event s client call = record { client = client; now = s.time; call = call }

abbrev pub event_rows : List (List ℕ) → ℕ → ℕ → Stepped → List ℕ
event_rows names client place stepped =
    effect_rows names client place (own_reply place stepped.own) (other_replies place stepped.ended)

-- the event is entered, or memory was refused: then it is left out of the history
abbrev pub called : Session → ℕ → Call → History → Bool → Called
called s client call h true = record {
  session = record s { history = Some h };
  rows = reply_row (name_at s.names client) Memory;
  reply = Some Memory;
}
called s client call h false = record {
  session = record s { history = Some (with_event h (call_event s client call)) };
  rows = event_rows s.names client (length h.events + 1) (next_step h (call_event s client call));
  reply = own_reply (length h.events + 1) (next_step h (call_event s client call)).own;
}

-- whether memory is refused to the next call, and what is said of those behind it
abbrev pub is_refused : List Bool → Bool
is_refused [] = false
is_refused (refused ∷ refusals) = refused

abbrev pub later : List Bool → List Bool
later [] = []
later (refused ∷ refusals) = refusals

-- the identifier that a call is answered, where it has its reply
abbrev pub id_answered : Option Reply → Option ℕ
id_answered reply = option_and_then id_in reply

-- where a call leads to, and the identifier that it is answered, if any
abbrev pub after_call : Progress → Called → Progress × Option ℕ
after_call p c = (record { session = c.session; rows = p.rows ++ c.rows; refusals = later p.refusals }, id_answered c.reply)

-- a call of a line; where the client waits, none is made any more
unfoldable pub made : ℕ → Call → Progress → Progress × Option ℕ
made client call p =
    if waits p.session client then (p, None)
    else after_call p (called p.session client call (history_of p.session) (is_refused p.refusals))

-- the removal of the object whose identifier a get was answered, if it was
abbrev pub removed : ℕ → Kind → Progress × Option ℕ → Progress
removed client kind (p, None) = p
removed client kind (p, Some id) = (made client (IpcRmid kind id) p).0

unfoldable pub part_made : ℕ → Progress → Part → Progress
part_made client p (Plain call) = (made client call p).0
part_made client p (RemoveByKey kind key) = removed client kind (made client (get_of kind key) p)

-- the calls of a line, in order
abbrev pub parts_made : ℕ → List Part → Progress → Progress
parts_made client parts p = fold (part_made client) p parts
