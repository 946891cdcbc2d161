use Rattle.std.proofs.Common.{ℕ, Some, sym, ap, subst, ◌∙◌}
use Rattle.msg_queue.specs.Links.{other_of, without}
use Rattle.msg_queue.specs.Queues.{QueueState}
use Rattle.msg_queue.specs.Types.{ends_in}
use Rattle.msg_queue.proofs.Changing.{order}
use Rattle.msg_queue.proofs.Others.{IsBehind, first_left, none_left, stays_left, taken_left}
use Rattle.msg_queue.proofs.queue.Queue.other_left.Goals as goal

pub returns-in_default : goal.returns-in_default
returns-in_default c =
    let inv = c.self.invariant in
    let none = sym inv.4 ∙ sym c.get.ensures ∙ c.in_default.is in
    c.none.ensures ∙ sym (none_left c.args.taken (order c.self.inside.nodes c.self.inside.ends) inv.0.apart none)
    ∙ ap (λ (q : QueueState). other_of (without c.args.taken q.placed)) c.self.view_is

pub returns-then-other-taken : goal.returns-then-other-taken
returns-then-other-taken c =
    let inv = c.self.invariant in
    let s = c.self.inside.nodes in
    let is = sym inv.4 ∙ sym c.get.ensures ∙ c.in-Some.is ∙ ap (λ (k : ℕ). Some k) c.if-other-taken.true in
    let behind = subst (λ (k : ℕ). IsBehind s k c.in-Some-get.first c.first_unlike_behind.result) c.if-other-taken.true c.first_unlike_behind.ensures in
    taken_left s c.self.inside.ends (ends_in c.self.inside.types.rows) (order s c.self.inside.ends) c.args.taken c.in-Some-get.first c.first_unlike_behind.result inv.0 (sym c.get-2.ensures ∙ c.in-Some-get.is) is behind
    ∙ ap (λ (q : QueueState). other_of (without c.args.taken q.placed)) c.self.view_is

pub returns-then-is_followed : goal.returns-then-is_followed
returns-then-is_followed c =
    let inv = c.self.invariant in
    let s = c.self.inside.nodes in
    let is = sym inv.4 ∙ sym c.get.ensures ∙ c.in-Some.is in
    first_left s c.self.inside.ends (ends_in c.self.inside.types.rows) (order s c.self.inside.ends) c.args.taken c.in-Some-get.first c.in-Some.other c.first_unlike_behind-then-is_followed.result inv.0 (sym c.get-2.ensures ∙ c.in-Some-get.is) is
    (sym c.is_followed.ensures ∙ c.if-is_followed.true) c.first_unlike_behind-then-is_followed.ensures
    ∙ ap (λ (q : QueueState). other_of (without c.args.taken q.placed)) c.self.view_is

pub returns-else-is_followed : goal.returns-else-is_followed
returns-else-is_followed c =
    let inv = c.self.invariant in
    let s = c.self.inside.nodes in
    let is = sym inv.4 ∙ sym c.get.ensures ∙ c.in-Some.is in
    inv.4 ∙ is
    ∙ stays_left s c.self.inside.ends (ends_in c.self.inside.types.rows) (order s c.self.inside.ends) c.args.taken c.in-Some-get.first c.in-Some.other inv.0 (sym c.get-2.ensures ∙ c.in-Some-get.is) is c.if-other-taken.false
    (sym c.is_followed.ensures ∙ c.if-is_followed.false)
    ∙ ap (λ (q : QueueState). other_of (without c.args.taken q.placed)) c.self.view_is
