use Rattle.std.proofs.Common.{◌≡◌, ◌≤◌, arith, get_or, length}
use Rattle.std.specs.Prelude.{◌==◌, not}
use Rattle.std.proofs.lemmas.Bool.{and_parts}
use Rattle.ipc_model.specs.State.{has_pid, no_thread, runs}
use Rattle.ipc_namespace.proofs.Earliest.{few-live, unturned}
use Rattle.ipc_namespace.proofs.Signalling.{pid-lives}
use Rattle.ipc_namespace.proofs.namespace.Namespace.next_thread.Goals as goal

pub returns-in-Interrupted-clause-few : goal.returns-in-Interrupted-clause-few
returns-in-Interrupted-clause-few c =
    let ts = c.self.inside.processes.threads in
    let pid = c.in-Interrupted.pid in
    let few : length ts ≤ 4096 = omega (arith, c.self.invariant.0) in
    few-live (λ k. has_pid pid (get_or ts k no_thread)) ts (λ k is. pid-lives ts pid k is) few c.next_with_pid.result c.next_with_pid.ensures.there

pub returns-in-Ended-clause-few : goal.returns-in-Ended-clause-few
returns-in-Ended-clause-few c =
    let ts = c.self.inside.processes.threads in
    let process = (get_or ts c.in-Ended.client no_thread).process in
    let few : length ts ≤ 4096 = omega (arith, c.self.invariant.0) in
    few-live (λ k. runs process (get_or ts k no_thread)) ts
    (λ k is. unturned (get_or ts k no_thread).has_ended (and_parts ((get_or ts k no_thread).process == process) (not (get_or ts k no_thread).has_ended) is).1)
    few c.next_of.result c.next_of.ensures.there
