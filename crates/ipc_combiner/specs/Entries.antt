-- The entries of a service's history: what it was opened with, then its calls. What they mean is a history of the
-- namespace.
use Rattle.std.specs.Prelude.{◌≡◌, ℕ, List, [], ◌∷◌, map, length}
use Rattle.ipc_call.specs.declared.calls.Call.{Call}
use Rattle.ipc_call.specs.declared.calls.Call.TheVariants.{MsgGet}
use Rattle.ipc_call.specs.declared.replies.Reply.{Reply}
use Rattle.ipc_model.specs.Step.{Event}
use Rattle.ipc_history.specs.History.{History, IsLegal}
use Rattle.ipc_history.specs.History as model
use Rattle.ipc_combiner.specs.declared.entries.Entry.{Entry}
use Rattle.ipc_combiner.specs.declared.entries.Entry.TheVariants.{Opened, Called}
use Rattle.ipc_combiner.specs.declared.entries.Keeping.{Keeping}
use Rattle.ipc_combiner.specs.declared.entries.Keeping.TheVariants.{Whole}

abbrev pub called : Event → Entry
called e = Called e.client e.now e.call

-- the entries of a history, in a service that keeps this of its journal
abbrev pub entries_of : Keeping → History → List Entry
entries_of keeping h = Opened h.limits h.clients keeping ∷ map called h.events

-- the events of the calls among them
abbrev pub events_in : List Entry → List Event
events_in [] = []
events_in (Opened limits clients keeping ∷ es) = events_in es
events_in (Called client now call ∷ es) = record { client = client; now = now; call = call } ∷ events_in es

-- stands for the history where nothing was opened
abbrev pub unopened : History
unopened = record {
  limits = record {
    queues = 0;
    sets = 0;
    segments = 0;
    first_seq = 0;
    msg_max = 0;
    msg_mnb = 0;
    sem_msl = 0;
    sem_opm = 0;
    shm_max = 0;
  };
  clients = [];
  events = [];
}

-- the history that entries mean
abbrev pub history_in : List Entry → History
history_in [] = unopened
history_in (Opened limits clients keeping ∷ es) = record { limits = limits; clients = clients; events = events_in es }
history_in (Called client now call ∷ es) = unopened

-- what the service keeps of its journal
abbrev pub keeping_in : List Entry → Keeping
keeping_in [] = Whole
keeping_in (Opened limits clients keeping ∷ es) = keeping
keeping_in (Called client now call ∷ es) = Whole

-- they are those of a legal history: an opening, and then calls
abbrev pub legal : List Entry → Type 0
legal es = (es ≡ entries_of (keeping_in es) (history_in es)) × IsLegal (history_in es)

-- whose call an entry is, and the call with its time; an opening is nobody's
abbrev pub client_of : Entry → ℕ
client_of (Opened limits clients keeping) = 0
client_of (Called client now call) = client

abbrev pub call_of : Entry → ℕ × Call
call_of (Opened limits clients keeping) = (0, MsgGet 0 0)
call_of (Called client now call) = (now, call)

-- a client's calls and replies
abbrev pub own : List Entry → ℕ → List (ℕ × Call)
own es client = model.own (history_in es) client

abbrev pub replies : List Entry → ℕ → List Reply
replies es client = model.replies (history_in es) client

-- the service was opened for so many clients
abbrev pub has_clients : ℕ → List Entry → Type 0
has_clients n [] = ⊥
has_clients n (Opened limits clients keeping ∷ es) = length clients ≡ n
has_clients n (Called client now call ∷ es) = ⊥
