-- What a queue holds, as its callers see it.
use Rattle.std.specs.Prelude.{◌≡◌, ℕ, List, map, position, Option, None, Some, IsSome, ◌==◌}
use Rattle.msg_queue.specs.declared.messages.Message.{Message}

-- a message with its place: a number by which the queue finds it again
pub record Placed : Type 0 where
  pub place : ℕ
  pub message : Message

-- the messages in their order, msg_qbytes (msgctl(2)), and how many places are reserved for messages to come
pub record QueueState : Type 0 where
  pub placed : List Placed
  pub qbytes : ℕ
  pub reserved : ℕ

-- the messages without their places
abbrev pub contents : QueueState → List Message
contents q = map (λ p. p.message) q.placed

-- where the message of a place stands in the order
abbrev pub position_of : QueueState → ℕ → Option ℕ
position_of q place = position (λ p. p.place == place) q.placed

-- the same of a list of messages with their places
abbrev pub messages_of : List Placed → List Message
messages_of ms = map (λ p. p.message) ms

abbrev pub position_in : List Placed → ℕ → Option ℕ
position_in ms place = position (λ p. p.place == place) ms

-- the place is that of the message at the position, or there is neither
abbrev pub ChoosesIn : List Placed → Option ℕ → Option ℕ → Type 0
ChoosesIn ms None selected = selected ≡ None
ChoosesIn ms (Some place) selected = (position_in ms place ≡ selected) × IsSome selected

abbrev pub Chooses : QueueState → Option ℕ → Option ℕ → Type 0
Chooses q place selected = ChoosesIn q.placed place selected
