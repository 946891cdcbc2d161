use Rattle.std.proofs.Common.{◌≡◌, ℕ, false, ap, ◌∙◌}
use Rattle.msg_calls.specs.WithRoom.{queues_of}
use Rattle.sem_calls.specs.WithRows.{row_at}
use Rattle.ipc_model.specs.State.{State, caller, is_running}
use Rattle.ipc_model.specs.Processes.{as_process, process_ended}
use Rattle.ipc_parked.specs.Parked.{waiting}
use Rattle.ipc_namespace.proofs.Held.{held-gone}
use Rattle.ipc_namespace.proofs.Moving.{creds-read}
use Rattle.ipc_namespace.proofs.namespace.Namespace.end_process.Goals as goal

pub invariant_of-self : goal.invariant_of-self
invariant_of-self c =
    let n = c.self.inside in
    let process = c.args.thread.process in
    let none = ap (λ (s : State). is_running s process) c.self.view_is ∙ c.requires.last in
    let stay : (k s : ℕ) → (k ≡ process → ⊥) → row_at c.exit.new.self k s ≡ row_at n.sets k s = let e = c.exit.ensures.rows in rw c.new-who.ensures at e in (
      c.self.invariant.0,
      c.self.invariant.1,
      c.self.invariant.2,
      held-gone n.sets c.exit.new.self n.processes.threads process none stay (waiting n.parked) c.self.invariant.3,
    )

pub returns : goal.returns
returns c =
    let s = c.args.self.now in
    let n = c.self.inside in
    let known = creds-read _ s c.args.client c.index.result.now c.self.view_is c.requires.known c.index.ensures in
    let now = ap (λ (t : State). t.clock) c.self.view_is in
    let who : c.new-who.result ≡ as_process (caller s c.args.client) c.args.thread =
    c.new-who.ensures ∙ (λ i. record { client = c.args.client; process = c.args.thread.process; pid = c.args.thread.pid; creds = known i; now = now i }) in
    (λ i. record {
      limits = n.limits;
      clients = n.clients.items;
      threads = n.processes.threads;
      next = n.processes.next;
      clock = n.clock;
      queues = queues_of n.queues;
      sems = c.exit.ensures.sems i;
      shared = c.exit-2.ensures i;
      parked = waiting n.parked;
    })
    ∙ (λ i. process_ended (c.self.view_is i) (who i))
