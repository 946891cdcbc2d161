use Rattle.std.proofs.Common.{◌≡◌, ℤ, IsSome, IfSome, ap, sym, subst, ◌∙◌, arith, rules, w64, SFits, slice_get, true≢false, is_some, remove, Some, to_z, of_z}
use Rattle.std.proofs.lemmas.Int.{to_z-of_z}
use Rattle.msg_queue.specs.Queues.{QueueState, contents, messages_of, position_of}
use Rattle.msg_queue.specs.Links.{other_of, without}
use Rattle.msg_queue.specs.Types.{ends_in}
use Rattle.msg_queue.proofs.Changing.{capacity_left, if_same, is_without, message_taken, node_there, order, rest_taken, type_there}
use Rattle.msg_queue.proofs.queue.Queue.take.Goals as goal

pub unwrap-message-requires : goal.unwrap-message-requires
unwrap-message-requires c =
    let there = subst (λ (q : QueueState). IsSome (position_of q c.args.place)) (sym c.self.view_is) c.requires in
    ap is_some c.try_remove.ensures.value ∙ node_there c.self.inside.nodes c.self.inside.ends c.self.inside.types.rows c.args.place c.self.invariant.0 there

pub put-requires-clause-room : goal.put-requires-clause-room
put-requires-clause-room c = λ none.
    let node = c.unwrap-message.result in
    let there = subst (λ (q : QueueState). IsSome (position_of q c.args.place)) (sym c.self.view_is) c.requires in
    let fits : SFits w64 node.message.mtype = search rules in
    let some = type_there c.self.inside.nodes c.self.inside.ends c.self.inside.types.rows c.args.place node c.self.invariant.0 there (sym c.try_remove.ensures.value ∙ c.unwrap-message.ensures) in
    absurd (true≢false (sym some ∙ ap (λ (x : ℤ). is_some (ends_in c.self.inside.types.rows x).first) (sym (c.seek-spot.ensures.mtype ∙ to_z-of_z w64 node.message.mtype fits)) ∙ ap is_some none))

pub overflow_sub-self : goal.overflow_sub-self
overflow_sub-self c =
    let node = c.unwrap-message.result in
    let there = subst (λ (q : QueueState). IsSome (position_of q c.args.place)) (sym c.self.view_is) c.requires in
    let fits : SFits w64 node.message.mtype = search rules in
    let own = c.seek-spot.ensures.mtype ∙ to_z-of_z w64 node.message.mtype fits in
    let l = c.try_remove.ensures.len in
    let w = is_without c.self.inside.nodes c.try_remove.new.self c.unlink-self-inside.new.nodes c.unlink-ends.new.nodes c.self.inside.ends c.unlink-self-inside.result c.ends_at.result c.unlink-ends.result c.self.inside.types.rows c.trim.new.self.rows c.args.place node _ c.self.invariant.0 there
    (sym c.try_remove.ensures.value ∙ c.unwrap-message.ensures) c.try_remove.ensures.updates (rw c.unwrap-message.ensures at l) c.unlink-self-inside.ensures.nodes c.unlink-self-inside.ensures.ends own c.ends_at.ensures c.unlink-ends.ensures.nodes c.unlink-ends.ensures.ends (λ t. c.trim.ensures.ends t ∙ c.put.ensures.ends t) in
    omega (arith, w.bytes, c.self.invariant.1, c.len.ensures)

pub invariant_of-self : goal.invariant_of-self
invariant_of-self c =
    let node = c.unwrap-message.result in
    let there = subst (λ (q : QueueState). IsSome (position_of q c.args.place)) (sym c.self.view_is) c.requires in
    let fits : SFits w64 node.message.mtype = search rules in
    let own = c.seek-spot.ensures.mtype ∙ to_z-of_z w64 node.message.mtype fits in
    let here = sym c.try_remove.ensures.value ∙ c.unwrap-message.ensures in
    let l = c.try_remove.ensures.len in
    let fewer = rw c.unwrap-message.ensures at l in
    let w = is_without c.self.inside.nodes c.try_remove.new.self c.unlink-self-inside.new.nodes c.unlink-ends.new.nodes c.self.inside.ends c.unlink-self-inside.result c.ends_at.result c.unlink-ends.result c.self.inside.types.rows c.trim.new.self.rows c.args.place node _ c.self.invariant.0 there
    here c.try_remove.ensures.updates fewer c.unlink-self-inside.ensures.nodes c.unlink-self-inside.ensures.ends own c.ends_at.ensures c.unlink-ends.ensures.nodes c.unlink-ends.ensures.ends (λ t. c.trim.ensures.ends t ∙ c.put.ensures.ends t) in
    let room = capacity_left c.self.inside.nodes c.try_remove.new.self c.unlink-self-inside.new.nodes c.unlink-ends.new.nodes c.self.inside.ends c.unlink-self-inside.result c.ends_at.result c.unlink-ends.result c.self.inside.types.rows c.trim.new.self.rows c.args.place node _ c.self.invariant.0 there
    here c.try_remove.ensures.updates fewer c.unlink-self-inside.ensures.nodes c.unlink-self-inside.ensures.ends own c.ends_at.ensures c.unlink-ends.ensures.nodes c.unlink-ends.ensures.ends (λ t. c.trim.ensures.ends t ∙ c.put.ensures.ends t) in
    let some = type_there c.self.inside.nodes c.self.inside.ends c.self.inside.types.rows c.args.place node c.self.invariant.0 there here in
    let spare = c.put.ensures.kept (ap (λ (x : ℤ). is_some (ends_in c.self.inside.types.rows x).first) own ∙ some) in
    (w.holds, omega (arith, w.bytes, c.self.invariant.1, c.len.ensures), omega (arith, w.count, room, c.try_remove.ensures.capacity, c.self.invariant.2), omega (arith, spare, c.trim.ensures.spare, c.self.invariant.3), c.other_left-self-inside.ensures ∙ ap (λ (q : QueueState). other_of (without c.args.place q.placed)) (sym c.self.view_is) ∙ ap other_of (sym w.is))

pub returns-clause-message : goal.returns-clause-message
returns-clause-message c =
    let node = c.unwrap-message.result in
    let fits : SFits w64 node.message.mtype = search rules in
    let here = sym c.try_remove.ensures.value ∙ c.unwrap-message.ensures in
    subst (λ (q : QueueState). IfSome (position_of q c.args.place) (λ i. slice_get (contents q) i ≡ Some (record { mtype = to_z w64 (of_z w64 node.message.mtype); text = node.message.text }))) c.self.view_is
    (if_same _ _ node.message _ (λ i. record { mtype = sym (to_z-of_z w64 node.message.mtype fits) i; text = node.message.text }) (message_taken c.self.inside.nodes c.self.inside.ends c.self.inside.types.rows c.args.place node c.self.invariant.0 here))

pub returns-clause-rest : goal.returns-clause-rest
returns-clause-rest c =
    let node = c.unwrap-message.result in
    let there = subst (λ (q : QueueState). IsSome (position_of q c.args.place)) (sym c.self.view_is) c.requires in
    let fits : SFits w64 node.message.mtype = search rules in
    let own = c.seek-spot.ensures.mtype ∙ to_z-of_z w64 node.message.mtype fits in
    let here = sym c.try_remove.ensures.value ∙ c.unwrap-message.ensures in
    let l = c.try_remove.ensures.len in
    let w = is_without c.self.inside.nodes c.try_remove.new.self c.unlink-self-inside.new.nodes c.unlink-ends.new.nodes c.self.inside.ends c.unlink-self-inside.result c.ends_at.result c.unlink-ends.result c.self.inside.types.rows c.trim.new.self.rows c.args.place node _ c.self.invariant.0 there
    here c.try_remove.ensures.updates (rw c.unwrap-message.ensures at l) c.unlink-self-inside.ensures.nodes c.unlink-self-inside.ensures.ends own c.ends_at.ensures c.unlink-ends.ensures.nodes c.unlink-ends.ensures.ends (λ t. c.trim.ensures.ends t ∙ c.put.ensures.ends t) in
    subst (λ (q : QueueState). IfSome (position_of q c.args.place) (λ i. messages_of (order c.unlink-ends.new.nodes c.unlink-self-inside.result) ≡ remove (contents q) i)) c.self.view_is
    (rest_taken c.self.inside.nodes _ c.self.inside.ends _ c.self.inside.types.rows _ c.args.place node.message c.self.invariant.0 w)
