use Rattle.std.proofs.Common.{refl, ◌+◌, ap, sym, ◌∙◌, arith, List, Result, Ok, Err, OnErr}
use Rattle.slab.specs.Slab.{Slab, slab_len}
use Rattle.msg_queue.specs.Messages.{bytes_of}
use Rattle.msg_queue.specs.Links.{other_of}
use Rattle.msg_queue.specs.Queues.{Placed, QueueState, messages_of}
use Rattle.msg_queue.proofs.Changing.{holds_room, order_room}
use Rattle.msg_queue.proofs.queue.Queue.reserve_one.Goals as goal

on_err : {A E : Type 0} (r : Result A E) (P : Type 0) → P → OnErr r P
on_err (Ok a) P p = tt
on_err (Err e) P p = p

pub invariant_of-self-in_err-reserve : goal.invariant_of-self-in_err-reserve
invariant_of-self-in_err-reserve c =
    let inv = c.self.invariant in
    let s = c.self.inside.nodes in
    let s' = c.reserve.new.self in
    let ends = c.self.inside.ends in
    let is = order_room s s' ends c.reserve.ensures.rest_kept in
    let len = ap (λ (t : Slab _). slab_len t) c.reserve.ensures.rest_kept in (
      holds_room s s' ends c.self.inside.types.rows c.reserve_after.new.self.rows c.reserve.ensures.rest_kept c.reserve_after.ensures.ends inv.0,
      inv.1 ∙ ap (λ (l : List Placed). bytes_of (messages_of l)) (sym is),
      omega (arith, inv.2, len, c.reserve.ensures.capacity),
      omega (arith, inv.3, c.reserve_after.ensures.kept),
      inv.4 ∙ ap other_of (sym is),
    )

pub returns-in_err-reserve-clause-err : goal.returns-in_err-reserve-clause-err
returns-in_err-reserve-clause-err c =
    let is = order_room c.self.inside.nodes c.reserve.new.self c.self.inside.ends c.reserve.ensures.rest_kept in
    on_err _ _ ((λ i. record { placed = is i; qbytes = c.self.inside.qbytes; reserved = c.self.inside.reserved }) ∙ c.self.view_is)

pub invariant_of-self-2 : goal.invariant_of-self-2
invariant_of-self-2 c =
    let inv = c.self.invariant in
    let s = c.self.inside.nodes in
    let s' = c.reserve.new.self in
    let ends = c.self.inside.ends in
    let is = order_room s s' ends c.reserve.ensures.rest_kept in (
      holds_room s s' ends c.self.inside.types.rows c.reserve_after.new.self.rows c.reserve.ensures.rest_kept c.reserve_after.ensures.ends inv.0,
      inv.1 ∙ ap (λ (l : List Placed). bytes_of (messages_of l)) (sym is),
      c.in_ok-reserve.ensures.room,
      c.in_ok-reserve_after.ensures.room,
      inv.4 ∙ ap other_of (sym is),
    )

pub returns-clause-ok : goal.returns-clause-ok
returns-clause-ok c =
    let is = order_room c.self.inside.nodes c.reserve.new.self c.self.inside.ends c.reserve.ensures.rest_kept in
    λ i. record {
      placed = (is ∙ ap (λ (q : QueueState). q.placed) c.self.view_is) i;
      qbytes = ap (λ (q : QueueState). q.qbytes) c.self.view_is i;
      reserved = ap (λ (q : QueueState). q.reserved + 1) c.self.view_is i;
    }

pub invariant_of-self : goal.invariant_of-self
invariant_of-self c =
    let inv = c.self.invariant in
    let s = c.self.inside.nodes in (
      holds_room s s c.self.inside.ends c.self.inside.types.rows c.reserve_after.new.self.rows refl c.reserve_after.ensures.ends inv.0,
      inv.1,
      inv.2,
      omega (arith, inv.3, c.reserve_after.ensures.kept),
      inv.4,
    )
