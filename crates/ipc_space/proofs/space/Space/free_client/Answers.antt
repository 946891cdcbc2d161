use Rattle.std.proofs.Common.{◌≡◌, ◌∙◌, ℕ, ◌<◌, false, ap, length, subst}
use Rattle.std.specs.Prelude.{IfNone, IfSome}
use Rattle.ipc_history.specs.History.{History, run}
use Rattle.ipc_model.specs.State.{State, has_exited, opening}
use Rattle.ipc_space.proofs.Histories.{clients-run}
use Rattle.ipc_space.proofs.space.Space.free_client.Goals as goal

-- no event changes how many clients there are
clients-same : (h : History) → length (run h).clients ≡ length h.clients
clients-same h = clients-run (opening h.limits h.clients) h.events

pub returns-clause-none : goal.returns-clause-none
returns-clause-none c =
    let h = c.args.self.now in
    let none = subst (λ (s : State). IfNone c.free_client.result ((k : ℕ) → k < length s.clients → has_exited s k ≡ false)) (c.namespace.ensures ∙ ap run c.self.view_is) c.free_client.ensures.none in
    subst (λ n. IfNone c.free_client.result ((k : ℕ) → k < n → has_exited (run h) k ≡ false)) (clients-same h) none

pub returns-clause-known : goal.returns-clause-known
returns-clause-known c =
    let h = c.args.self.now in
    let known = subst (λ (s : State). IfSome c.free_client.result (λ k. k < length s.clients)) (c.namespace.ensures ∙ ap run c.self.view_is) c.free_client.ensures.known in
    subst (λ n. IfSome c.free_client.result (λ k. k < n)) (clients-same h) known
