use Rattle.std.proofs.Common.{◌≡◌, ◌∙◌, ◌<◌, ℕ, ap, length, subst}
use Rattle.std.specs.Prelude.{IfSome, option_map}
use Rattle.std.specs.List.{find}
use Rattle.ipc_history.specs.History.{run}
use Rattle.ipc_model.specs.State.{State, has_pid, opening, thread_at}
use Rattle.ipc_space.proofs.Histories.{clients-run}
use Rattle.ipc_space.proofs.space.Space.with_pid.Goals as goal

pub returns-clause-first : goal.returns-clause-first
returns-clause-first c =
    subst (λ (s : State). option_map (thread_at s) c.with_pid.result ≡ find (has_pid c.args.pid) s.threads) (c.namespace.ensures ∙ ap run c.self.view_is) c.with_pid.ensures.first

pub returns-clause-known : goal.returns-clause-known
returns-clause-known c =
    let h = c.args.self.now in
    let known = subst (λ (s : State). IfSome c.with_pid.result (λ client. client < length s.clients)) (c.namespace.ensures ∙ ap run c.self.view_is) c.with_pid.ensures.known in
    subst (λ (n : ℕ). IfSome c.with_pid.result (λ client. client < n)) (clients-run (opening h.limits h.clients) h.events) known
