use Rattle.std.proofs.Common.{◌≡◌, ◌∙◌, ◌<◌, ℕ, length, subst}
use Rattle.std.specs.Prelude.{IfSome, option_map}
use Rattle.std.specs.List.{find}
use Rattle.ipc_model.specs.State.{State, has_pid, thread_at}
use Rattle.ipc_namespace.proofs.namespace.Namespace.with_pid.Goals as goal

pub returns-clause-first : goal.returns-clause-first
returns-clause-first c =
    subst (λ (s : State). option_map (thread_at s) c.with_pid.result ≡ find (has_pid c.args.pid) s.threads) c.self.view_is c.with_pid.ensures.first

pub returns-clause-known : goal.returns-clause-known
returns-clause-known c =
    let all : length c.self.inside.processes.threads ≡ length c.self.inside.clients.items = c.self.invariant.0.1 ∙ c.self.inside.clients.ok.0 in
    subst (λ (s : State). IfSome c.with_pid.result (λ client. client < length s.clients)) c.self.view_is
    (subst (λ (n : ℕ). IfSome c.with_pid.result (λ client. client < n)) all c.with_pid.ensures.known)
