use Rattle.std.proofs.Common.{◌≡◌, IsSome, IfSome, ap, sym, subst, ◌∙◌, length, option_map, slice_get, is_some, true≢false, Some}
use Rattle.std.specs.Option.{option_copied}
use Rattle.msg_queue.specs.declared.messages.Message.{Message}
use Rattle.msg_queue.specs.Queues.{QueueState, contents, messages_of, position_of}
use Rattle.msg_queue.proofs.Changing.{if_len, message_taken, node_there, order}
use Rattle.msg_queue.proofs.queue.Queue.len_at.Goals as goal

pub unreachable-requires : goal.unreachable-requires
unreachable-requires c =
    let there = subst (λ (q : QueueState). IsSome (position_of q c.args.place)) (sym c.self.view_is) c.requires in
    true≢false (sym (node_there c.self.inside.nodes c.self.inside.ends c.self.inside.types.rows c.args.place c.self.invariant.0 there) ∙ ap is_some (sym c.get.ensures ∙ ap option_copied c.in-None.is))

pub returns : goal.returns
returns c =
    let node = c.in-Some.node.now in
    let here = sym c.get.ensures ∙ ap option_copied c.in-Some.is in
    subst (λ (q : QueueState). IfSome (position_of q c.args.place) (λ i. option_map (λ (m : Message). length m.text) (slice_get (contents q) i) ≡ Some c.len.result)) c.self.view_is
    (if_len _ (λ i. slice_get (messages_of (order c.self.inside.nodes c.self.inside.ends)) i) node.message c.len.result c.len.ensures (message_taken c.self.inside.nodes c.self.inside.ends c.self.inside.types.rows c.args.place node c.self.invariant.0 here))
