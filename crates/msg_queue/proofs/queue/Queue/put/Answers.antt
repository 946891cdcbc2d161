use Rattle.std.proofs.Common.{sym, Some, cond, ◌++◌, [], ◌∷◌, ℤ, ap, ◌∙◌, arith, w64, to_z, of_z}
use Rattle.std.proofs.lemmas.Int.{to_z-of_z}
use Rattle.msg_queue.specs.declared.messages.Message.{Message}
use Rattle.msg_queue.specs.Messages.{bytes_of}
use Rattle.msg_queue.specs.Links.{is_first_other, other_of}
use Rattle.msg_queue.specs.Queues.{QueueState, contents, messages_of}
use Rattle.msg_queue.proofs.Changing.{bytes_last, capacity_with, contents_with, is_with, order}
use Rattle.msg_queue.proofs.Others.{other_with}
use Rattle.msg_queue.proofs.queue.Queue.put.Goals as goal

pub invariant_of-self : goal.invariant_of-self
invariant_of-self c =
    let inv = c.self.invariant in
    let m : Message = record { mtype = to_z w64 (of_z w64 c.args.mtype); text = c.args.text } in
    let s = c.self.inside.nodes in
    let s3 = c.append-ends.new.nodes in
    let key = c.insert_reserved-key in
    let updates = key.ensures.updates in
    let added = rw (c.behind-arrival.ensures, c.behind-same.ensures) at updates in
    let w = is_with s key.new.nodes c.append-self-inside.new.nodes s3 c.self.inside.ends c.append-self-inside.result c.ends_at-ends.result c.append-ends.result c.self.inside.types.rows c.put.new.self.rows key.result m _ inv.0 key.ensures.was_vacant c.seek-spot.ensures.mtype c.ends_at-ends.ensures added key.ensures.len
    c.append-self-inside.ensures.nodes c.append-self-inside.ensures.ends c.append-ends.ensures.nodes c.append-ends.ensures.ends c.put.ensures.ends in
    let room = capacity_with s key.new.nodes c.append-self-inside.new.nodes s3 c.self.inside.ends c.append-self-inside.result c.ends_at-ends.result c.append-ends.result c.self.inside.types.rows c.put.new.self.rows key.result m _ inv.0 key.ensures.was_vacant c.seek-spot.ensures.mtype c.ends_at-ends.ensures added key.ensures.len
    c.append-self-inside.ensures.nodes c.append-self-inside.ensures.ends c.append-ends.ensures.nodes c.append-ends.ensures.ends c.put.ensures.ends in
    let more = contents_with s s3 c.self.inside.ends c.append-self-inside.result c.put.new.self.rows _ w in
    let bytes = ap bytes_of more ∙ bytes_last (messages_of (order s c.self.inside.ends)) m in
    let left = ap (λ (q : QueueState). q.reserved) c.self.view_is in
    let is_new = c.is_first_other-is_first_other.result in
    let asked = ap (λ (q : QueueState). is_first_other m.mtype q.placed) c.self.view_is ∙ sym c.is_first_other-is_first_other.ensures in
    let other = c.or_of-self-inside.ensures ∙ ap (cond is_new (Some key.result)) inv.4 ∙ sym (other_with (order s c.self.inside.ends) (record { place = key.result; message = m }) is_new asked) ∙ ap other_of (sym w.is) in
    (w.holds, omega (arith, inv.1, bytes, c.len.ensures), omega (arith, inv.2, w.count, room, key.ensures.capacity, left, c.requires.reserved), omega (arith, inv.3, c.put.ensures.spare, left, c.requires.reserved), other)

pub returns-clause-messages : goal.returns-clause-messages
returns-clause-messages c =
    let inv = c.self.invariant in
    let m : Message = record { mtype = to_z w64 (of_z w64 c.args.mtype); text = c.args.text } in
    let s = c.self.inside.nodes in
    let s3 = c.append-ends.new.nodes in
    let key = c.insert_reserved-key in
    let updates = key.ensures.updates in
    let added = rw (c.behind-arrival.ensures, c.behind-same.ensures) at updates in
    let w = is_with s key.new.nodes c.append-self-inside.new.nodes s3 c.self.inside.ends c.append-self-inside.result c.ends_at-ends.result c.append-ends.result c.self.inside.types.rows c.put.new.self.rows key.result m _ inv.0 key.ensures.was_vacant c.seek-spot.ensures.mtype c.ends_at-ends.ensures added key.ensures.len
    c.append-self-inside.ensures.nodes c.append-self-inside.ensures.ends c.append-ends.ensures.nodes c.append-ends.ensures.ends c.put.ensures.ends in
    contents_with s s3 c.self.inside.ends c.append-self-inside.result c.put.new.self.rows _ w
    ∙ ap (λ (q : QueueState). contents q ++ m ∷ []) c.self.view_is
    ∙ ap (λ (x : ℤ). contents c.args.self.now ++ record { mtype = x; text = c.args.text } ∷ []) (to_z-of_z w64 c.args.mtype c.ranges.mtype)
