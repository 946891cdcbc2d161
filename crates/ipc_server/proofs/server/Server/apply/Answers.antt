use Rattle.std.proofs.Common.{◌≡◌, ℕ, ◌+◌, ◌≤◌, List, ◌++◌, length, vec_len, sym, ap, ◌∙◌, arith}
use Rattle.ipc_call.specs.declared.replies.Reply.{Reply}
use Rattle.ipc_server.specs.Held.{Held}
use Rattle.ipc_history.specs.History.{run}
use Rattle.ipc_namespace.specs.Wanting.{may_want_memory}
use Rattle.ipc_server.proofs.Applied.{applied, applied_cost, few_waiting, free_of, if_err, known_of, only_by_call}
use Rattle.ipc_server.proofs.server.Server.apply.Goals as goal

pub apply_into-requires-clause-known : goal.apply_into-requires-clause-known
apply_into-requires-clause-known c =
    known_of c.args.self.now.server c.self.inside.ledger.history c.args.client (ap (λ (h : Held). h.server.history) c.self.view_is) c.requires.may

pub apply_into-requires-clause-free : goal.apply_into-requires-clause-free
apply_into-requires-clause-free c =
    free_of c.args.self.now.server c.self.inside.ledger.history c.args.client (ap (λ (h : Held). h.server.history) c.self.view_is) c.requires.may

pub apply_into-requires-clause-space : goal.apply_into-requires-clause-space
apply_into-requires-clause-space c =
    let few = few_waiting c.self.inside.ledger.history c.self.invariant.legal c.self.invariant.few in
    let none = ap (λ (l : List (ℕ × Reply)). length l) c.self.invariant.none in
    omega (arith, few, none, c.self.invariant.others_room, c.self.inside.others.ok)

pub returns-in_err-own-clause-memory : goal.returns-in_err-own-clause-memory
returns-in_err-own-clause-memory c =
    let few = few_waiting c.self.inside.ledger.history c.self.invariant.legal c.self.invariant.few in
    let room = ap (λ (h : Held). h.room) c.self.view_is in
    if_err c.from_residual.result (ap (λ (h : Held). may_want_memory (run h.server.history) c.args.call) (sym c.self.view_is)
    ∙ only_by_call (may_want_memory (run c.self.inside.ledger.history) c.args.call) c.self.inside.ledger.room (length (run c.self.inside.ledger.history).parked)
    (omega (arith, few, room, c.requires.room.rows)) c.in_err-own.ensures.memory)

pub tell-requires : goal.tell-requires
tell-requires c =
    let few = few_waiting c.self.inside.ledger.history c.self.invariant.legal c.self.invariant.few in
    let none = ap (λ (l : List (ℕ × Reply)). length l) c.self.invariant.none in
    let room = ap (λ (h : Held). h.outputs.room) c.self.view_is in
    record { room = omega (arith, few, none, room, c.requires.room.outputs, c.in_ok-own.ensures.few, c.self.inside.others.ok) }

pub returns-clause-cost : goal.returns-clause-cost
returns-clause-cost c =
    let few = few_waiting c.self.inside.ledger.history c.self.invariant.legal c.self.invariant.few in
    let none = ap (λ (l : List (ℕ × Reply)). length l) c.self.invariant.none in
    applied_cost c.args.now c.args.client c.args.call c.args.self.now _ _ _ _ c.self.view_is
    c.apply_into.new.self.history c.apply_into.new.self.given c.apply_into.new.self.room c.tell.new.outputs c.in_ok-own.ensures.event
    (omega (arith, few, c.in_ok-own.ensures.cost))
    (omega (arith, few, none, c.in_ok-own.ensures.few, c.self.inside.others.ok, c.tell.ensures.room))
