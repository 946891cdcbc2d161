-- What an event tells: each of its replies with the client that it is for, by turn.
use Rattle.std.specs.Prelude.{ℕ, ◌+◌, ◌==◌, List, length, map, filter}
use Rattle.ipc_call.specs.declared.replies.Reply.{Reply}
use Rattle.ipc_model.specs.Step.{Event}
use Rattle.ipc_history.specs.History.{History, ReplyTo, next_step, reply_of, replies_by}

abbrev pub addressed : ReplyTo → ℕ × Reply
addressed reply = (reply.client, reply_of reply)

-- the replies that an event brings after a history
abbrev pub replies_of : History → Event → List (ℕ × Reply)
replies_of h e = map addressed (replies_by e.client (length h.events + 1) (next_step h e))

-- those that are for one client
abbrev pub replies_in : List (ℕ × Reply) → ℕ → List Reply
replies_in replies client = map (λ r. r.1) (filter (λ r. r.0 == client) replies)
