use Rattle.std.proofs.Common.{rules, ◌≡◌, ◌∙◌, ◌-◌, ◌+◌, ◌<◌, ◌≤◌, ℕ, ap, arith, get_or, length, refl, subst, suc, sym, Bool, false, true, Option, Some, None, Err}
use Rattle.std.specs.Prelude.{IfNone, IfSome, not}
use Rattle.ipc_creds.specs.Credentials.{Credentials}
use Rattle.ipc_perm.specs.Access.{SameUser, denial, denied_rule}
use Rattle.std.proofs.lemmas.Bool.{ne_eqb}
use Rattle.ipc_call.specs.declared.replies.Answer.TheVariants.{Done}
use Rattle.ipc_model.specs.Decision.{Decision, without_answer}
use Rattle.ipc_model.specs.Plan.{Grant, Plan, decision, in_order}
use Rattle.ipc_model.specs.Processes.{to_signal}
use Rattle.ipc_model.specs.State.{State, caller, creds_at, has_pid, no_thread, nobody, pid_at, thread_at}
use Rattle.ipc_namespace.specs.Namespace.{signals_from}
use Rattle.ipc_namespace.proofs.Earliest.{left, left-less, live-known}
use Rattle.ipc_namespace.proofs.Moving.{creds-read}
use Rattle.ipc_namespace.proofs.Signalling.{allowed-err, allowed-none, pid-lives, signals-denied, signals-met, signals-next, signals_at}
use Rattle.ipc_namespace.proofs.namespace.Namespace.may_signal.Goals as goal
use Rattle.ipc_namespace.proofs.namespace.Namespace.may_signal.Goals.{After-branch-allowed}

-- as many threads as clients
module _ (s v : State) (is : v ≡ s) (all : length v.threads ≡ length v.clients) where
  alike : length s.threads ≡ length s.clients
  alike = subst (λ (x : State). length x.threads ≡ length x.clients) is all

  -- what was looked up among the threads holds of those of the state
  module _ (pid from : ℕ) (o : Option ℕ) (none : IfNone o ((c : ℕ) → from ≤ c → has_pid pid (get_or v.threads c no_thread) ≡ false)) (above : IfSome o (λ k. from ≤ k))
      (least : IfSome o (λ k. (c : ℕ) → from ≤ c → c < k → has_pid pid (get_or v.threads c no_thread) ≡ false)) where
    follows : signals_from s pid from ≡ signals_at s pid o
    follows = signals-next s pid alike from o
        (subst (λ (x : State). IfNone o ((c : ℕ) → from ≤ c → has_pid pid (get_or x.threads c no_thread) ≡ false)) is none) above
        (subst (λ (x : State). IfSome o (λ k. (c : ℕ) → from ≤ c → c < k → has_pid pid (get_or x.threads c no_thread) ≡ false)) is least)

  has : (pid : ℕ) (o : Option ℕ) → IfSome o (λ k. has_pid pid (get_or v.threads k no_thread) ≡ true) → IfSome o (λ k. has_pid pid (thread_at s k) ≡ true)
  has pid o there = subst (λ (x : State). IfSome o (λ k. has_pid pid (get_or x.threads k no_thread) ≡ true)) is there

-- what is asked of the threads of another process
signalled : (s : State) (client pid : ℕ) → (pid ≡ pid_at s client → ⊥) → to_signal s (caller s client) pid ≡ signals_from s pid 0
signalled s client pid other = rw (ne_eqb pid (pid_at s client) other) refl

pub loop-next-init : goal.loop-next-init
loop-next-init c =
    let s = c.args.self.now in
    let all : length c.self.inside.processes.threads ≡ length c.self.inside.clients.items = c.self.invariant.0.1 ∙ c.self.inside.clients.ok.0 in
    let e = c.next_with_pid-next.ensures in (
      λ p. ap (λ cs. decision (creds_at s c.args.client) (in_order cs p)) (sym (follows s _ c.self.view_is all c.args.pid 0 c.next_with_pid-next.result e.none e.from e.least)),
      has s _ c.self.view_is all c.args.pid c.next_with_pid-next.result e.there,
    )

-- the next one has the pid, and is there
module _ (c : After-branch-allowed) where
  abbrev s : State
  s = c.args.self.now

  abbrev target : ℕ
  target = c.in-Some.target

  here : has_pid c.args.pid (thread_at s target) ≡ true
  here = subst (λ (o : Option ℕ). IfSome o (λ k. has_pid c.args.pid (thread_at s k) ≡ true)) c.in-Some.is c.loop-next.invariant.1

  also : target < length s.threads
  also = live-known s.threads target (pid-lives s.threads c.args.pid target here)

  known : target < length s.clients
  known =
      let all = alike s _ c.self.view_is (c.self.invariant.0.1 ∙ c.self.inside.clients.ok.0) in
      let lt = also in omega (arith, all, lt)

  asked-of : denial (creds_at s c.args.client) (SameUser (get_or s.clients target nobody).euid) ≡ denied_rule c.may_interrupt.result
  asked-of =
      let own = creds-read _ s c.args.client c.index-creds.result.now c.self.view_is c.requires.known c.index-creds.ensures in
      let its = c.euid.ensures ∙ ap (λ (k : Credentials). k.euid) (creds-read _ s target c.index.result.now c.self.view_is known c.index.ensures) in
      sym (λ i. denial (own i) (SameUser (its i))) ∙ sym c.may_interrupt.ensures.denial

  so-far : (p : Plan State) → decision (creds_at s c.args.client) (in_order (signals_from s c.args.pid target) p) ≡ decision (creds_at s c.args.client) (in_order (signals_from s c.args.pid 0) p)
  so-far p = ap (λ o. decision (creds_at s c.args.client) (in_order (signals_at s c.args.pid o) p)) (sym c.in-Some.is) ∙ c.loop-next.invariant.0 p

pub returns-in_err-allowed : goal.returns-in_err-allowed
returns-in_err-allowed c new =
    let b = (goal.at.returns-in_err-allowed c).After-branch-allowed in
    let s = c.args.self.now in
    let creds = creds_at s c.args.client in
    let rule = c.in_err-allowed.field-0.0 in
    let err : c.from_residual.result ≡ Err rule = search rules in
    let denied = asked-of b ∙ allowed-err c.may_interrupt.result rule (sym c.allowed.ensures ∙ c.in_err-allowed.was) in
    ap (λ cs. without_answer (decision creds (in_order cs (Grant Done new)))) (signalled s c.args.client c.args.pid (λ e. c.if-pid-pid_of.false (e ∙ sym c.pid_of.ensures)))
    ∙ ap (λ (d : Decision State). without_answer d) (sym (so-far b (Grant Done new)) ∙ signals-denied s c.args.pid (target b) (known b) (also b) creds (Grant Done new) rule (here b) denied)
    ∙ ap (λ r. Some r) (sym err)

pub loop-next-smaller : goal.loop-next-smaller
loop-next-smaller c =
    let b = (goal.at.loop-next-smaller c).After-branch-allowed in
    let s = c.args.self.now in
    subst (λ (o : Option ℕ). left (length s.threads) c.next_with_pid-next-in-Some.result < left (length s.threads) o) (sym c.in-Some.is)
    (left-less (length s.threads) c.in-Some.target c.next_with_pid-next-in-Some.result (also b) c.next_with_pid-next-in-Some.ensures.from)

pub loop-next-preserved : goal.loop-next-preserved
loop-next-preserved c =
    let b = (goal.at.loop-next-preserved c).After-branch-allowed in
    let s = c.args.self.now in
    let creds = creds_at s c.args.client in
    let all = c.self.invariant.0.1 ∙ c.self.inside.clients.ok.0 in
    let o = c.next_with_pid-next-in-Some.result in
    let e = c.next_with_pid-next-in-Some.ensures in
    let met = asked-of b ∙ allowed-none c.may_interrupt.result (sym c.allowed.ensures ∙ c.in_ok-allowed.was) in (
      λ p. ap (λ cs. decision creds (in_order cs p)) (sym (follows s _ c.self.view_is all c.args.pid (c.in-Some.target + 1) o e.none e.from e.least))
          ∙ signals-met s c.args.pid (target b) (known b) (also b) creds p (here b) met ∙ so-far b p,
      has s _ c.self.view_is all c.args.pid o e.there,
    )

pub returns : goal.returns
returns c new =
    let s = c.args.self.now in
    let creds = creds_at s c.args.client in
    ap (λ cs. without_answer (decision creds (in_order cs (Grant Done new)))) (signalled s c.args.client c.args.pid (λ e. c.if-pid-pid_of.false (e ∙ sym c.pid_of.ensures)))
    ∙ ap (λ (d : Decision State). without_answer d) (sym (c.loop-next.invariant.0 (Grant Done new)))
    ∙ ap (λ o. without_answer (decision creds (in_order (signals_at s c.args.pid o) (Grant Done new)))) c.in_default.is
