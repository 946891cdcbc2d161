-- msgsnd and msgrcv (msgop(2), POSIX.1-2017 XSH). msgsnd: the type is at least 1, and the text at most MSGMAX long; the
-- queue is there; the caller may alter it; there is room, or the call waits. msgrcv: the queue is there; the caller may
-- read it; a message is there, or the call waits; its text isn't too long.
use Rattle.std.specs.Prelude.{ℕ, pos, int_le, nat_le, Bool, not, ◌||◌, List, [], ◌∷◌, ◌++◌, length, take, remove, slice_get, Option, option_and_then, option_map}
use Rattle.std.specs.FinMap as finite
use Rattle.ipc_call.specs.Flags.{has_flag, msg_except, msg_noerror}
use Rattle.ipc_call.specs.declared.settings.Receive.{Receive}
use Rattle.ipc_call.specs.declared.rules.Rule.TheVariants.{BadId, BadType, TextTooLong, QueueFull, NoMessage, MessageTooLong}
use Rattle.ipc_call.specs.declared.replies.Answer.TheVariants.{Done, Message as MessageAnswer}
use Rattle.ipc_perm.specs.Access.{Permission, to_alter, to_read}
use Rattle.ipc_objects.specs.Objects.{with_contents}
use Rattle.msg_queue.specs.Messages.{is_full, select}
use Rattle.ipc_model.specs.State.{Caller, Limits, Message, Object, Queue, Queues}
use Rattle.ipc_model.specs.Plan.{Proceeds, Needs, Passes, Plan, Grant, awaited, found, on_part, ◌⨾◌}

abbrev pub queue_at : Queues → ℕ → Option (Object Queue)
queue_at queues id = finite.get queues.objects id

-- what msgsnd asks of a queue
pub record Send : Type 0 where
  pub message : Message
  pub flags : ℕ

-- the message goes last, msg_lspid and msg_stime are set
abbrev pub with_message : Caller → Message → Queue → Queue
with_message who message queue =
    record queue { messages = queue.messages ++ message ∷ []; last_sender = who.pid; send_time = who.now }

abbrev pub has_room : Queue → Message → Bool
has_room queue message = not (is_full queue.messages queue.qbytes (length message.text))

abbrev pub send_found : Queues → Caller → ℕ → Send → Option (Object Queue) → Plan Queues
send_found queues who id asked queue = found queue BadId _ (λ queue.
    Needs (Permission queue.perm to_alter)
    ⨾ Proceeds (has_room queue.contents asked.message) asked.flags QueueFull _
    ⨾ Grant Done (with_contents queues id (with_message who asked.message queue.contents)))

abbrev pub send_message : Limits → Queues → Caller → ℕ → Send → Plan Queues
send_message limits queues who id asked =
    Passes (int_le (pos 1) asked.message.mtype) BadType _
    ⨾ Passes (nat_le (length asked.message.text) limits.msg_max) TextTooLong _
    ⨾ send_found queues who id asked (queue_at queues id)

-- the message at the position leaves, msg_lrpid and msg_rtime are set
abbrev pub without_message : Caller → ℕ → Queue → Queue
without_message who position queue = record queue {
  messages = remove queue.messages position;
  last_receiver = who.pid;
  receive_time = who.now;
}

-- the message that a receiver takes, with its position
abbrev pub chosen : List Message → Receive → Option (ℕ × Message)
chosen messages asked =
    option_and_then (λ position. option_map (λ message. (position, message)) (slice_get messages position))
    (select messages asked.msgtyp (has_flag asked.flags msg_except))

-- a text longer than asked for stays in the queue, or with MSG_NOERROR it is cut, and the rest is lost
abbrev pub take_chosen : Caller → Receive → Queue → Option (ℕ × Message) → Plan Queue
take_chosen who asked queue taken = awaited taken asked.flags NoMessage _ (λ taken.
    Passes (nat_le (length taken.1.text) asked.size || has_flag asked.flags msg_noerror) MessageTooLong _
    ⨾ Grant (MessageAnswer taken.1.mtype (take asked.size taken.1.text)) (without_message who taken.0 queue))

abbrev pub receive_found : Queues → Caller → ℕ → Receive → Option (Object Queue) → Plan Queues
receive_found queues who id asked queue = found queue BadId _ (λ queue.
    Needs (Permission queue.perm to_read)
    ⨾ on_part (with_contents queues id) (take_chosen who asked queue.contents (chosen queue.contents.messages asked)))

abbrev pub receive_message : Queues → Caller → ℕ → Receive → Plan Queues
receive_message queues who id asked = receive_found queues who id asked (queue_at queues id)
