-- The decisions on the calls: msgget, msgrcv, and msgsnd in two steps: what is decided on it, and then the sending, for
-- which a place was reserved.
use Rattle.std.specs.Prelude.{◌≡◌, ℕ, Option, Some, Ok}
use Rattle.ipc_call.specs.declared.limits.Limits.{Limits}
use Rattle.ipc_call.specs.declared.settings.Receive.{Receive}
use Rattle.ipc_objects.specs.Objects.{with_contents}
use Rattle.ipc_objects.specs.declared.object.Object.{Object}
use Rattle.msg_queue.specs.declared.messages.Message.{Message}
use Rattle.ipc_model.specs.State.{Caller, Queue, Queues}
use Rattle.ipc_model.specs.Decision.{Decision, left_by, without_answer}
use Rattle.ipc_model.specs.Gets.{Get, get_found, get_queue, getting_queue}
use Rattle.ipc_model.specs.Plan.{decision, on_part}
use Rattle.ipc_model.specs.Messages.{chosen, receive_message, send_message, take_chosen}

-- the decision on msgget, and with what is found under the key
abbrev pub getting : Limits → Queues → Caller → Get → Decision Queues
getting limits queues who asked = decision who.creds (get_queue limits queues who asked)

abbrev pub getting_found : Limits → Queues → Caller → Get → Option (ℕ × Object Queue) → Decision Queues
getting_found limits queues who asked there =
    decision who.creds (get_found queues who asked (getting_queue limits) there)

-- the decision on msgsnd
abbrev pub sending : Limits → Queues → Caller → ℕ → ℕ → Message → Decision Queues
sending limits queues who id flags message =
    decision who.creds (send_message limits queues who id (record { message = message; flags = flags }))

-- msgsnd is granted under some limits and flags
abbrev pub MaySend : Queues → Caller → ℕ → Message → Type 0
MaySend queues who id message =
    (limits : Limits) × (flags : ℕ) × (without_answer (sending limits queues who id flags message) ≡ Some (Ok tt))

-- a message is sent: where it was granted, the queues are what the grant leaves
abbrev pub IsSent : Queues → Caller → ℕ → Message → Queues → Type 0
IsSent queues who id message new = (limits : Limits) (flags : ℕ)
    → without_answer (sending limits queues who id flags message) ≡ Some (Ok tt)
    → new ≡ left_by queues (sending limits queues who id flags message)

-- the decision on msgrcv, and where the caller may read the queue, of the queue alone and as one of the queues
abbrev pub receiving : Queues → Caller → ℕ → Receive → Decision Queues
receiving queues who id asked = decision who.creds (receive_message queues who id asked)

abbrev pub taking : Caller → Receive → Queue → Decision Queue
taking who asked queue = decision who.creds (take_chosen who asked queue (chosen queue.messages asked))

abbrev pub taking_in : Queues → ℕ → Caller → Receive → Queue → Decision Queues
taking_in queues id who asked queue = decision who.creds
    (on_part (with_contents queues id) (take_chosen who asked queue (chosen queue.messages asked)))
