use Rattle.std.proofs.Common.{◌≡◌, ℕ, ◌+◌, ◌≤◌, true, false, suc, length, refl, sym, ap, ◌∙◌, subst, arith, Some, None}
use Rattle.std.specs.Prelude.{◌==◌, drop, filter, slice_get, IfSome}
use Rattle.std.specs.List.{find}
use Rattle.ipc_call.specs.declared.calls.Kind.TheVariants as kinds
use Rattle.ipc_call.specs.declared.replies.Waiting.{Waiting}
use Rattle.ipc_model.specs.Cancelled.{waits_on}
use Rattle.ipc_model.specs.State.{State, is_waiting, waiting_of}
use Rattle.ipc_model.specs.Step.{is_ready}
use Rattle.ipc_parked.specs.Parked.{AreApart, waiting}
use Rattle.ipc_parked.proofs.Listed.{length-waiting}
use Rattle.ipc_namespace.proofs.Calling.{IfSome-at}
use Rattle.ipc_namespace.proofs.OnSets.{client_of, found-first, named, nth-passes, unnamed}
use Rattle.ipc_namespace.proofs.Own.{few-filtered, found-there, nth-filtered}
use Rattle.ipc_namespace.proofs.Owing.{on}
use Rattle.ipc_namespace.proofs.Parked.{apart-parked}
use Rattle.ipc_namespace.proofs.Settling.{find-here, find-next, find-over, find-past}
use Rattle.ipc_namespace.proofs.namespace.Namespace.first_on_set.Goals as goal
use Rattle.ipc_namespace.proofs.namespace.Namespace.first_on_set.Goals.{In_ok-client}

pub loop-index-init : goal.loop-index-init
loop-index-init c = record { same = refl; first = refl }

-- the call that is tried, at the index among those on the set
abbrev at : (c : In_ok-client) → (w : Waiting) × (slice_get (filter (on c.args.id) c.args.self.now.parked) c.loop-index.index ≡ Some w) × (w.client ≡ c.in_ok-client.client)
at c =
    let i = c.loop-index.index in
    named c.in_ok-client.client (slice_get (filter (on c.args.id) c.args.self.now.parked) i)
    (c.in_ok-client.ensures ∙ ap (λ (s : State). client_of (slice_get (filter (on c.args.id) s.parked) i)) (c.self-in-loop-index.view_is ∙ c.loop-index.invariant.same))

abbrev tried : In_ok-client → Waiting
tried c = (at c).0

is-apart : (c : In_ok-client) → AreApart c.args.self.now.parked
is-apart c =
    let n = c.self-in-loop-index.inside in
    subst (λ (t : State). AreApart t.parked) (c.self-in-loop-index.view_is ∙ c.loop-index.invariant.same) (apart-parked (length n.clients.items) (waiting n.parked) c.self-in-loop-index.invariant.1)

-- it is its client's own
is_own : (c : In_ok-client) → waiting_of c.args.self.now c.in_ok-client.client ≡ Some (tried c)
is_own c =
    let s = c.args.self.now in
    ap (λ client. waiting_of s client) (sym (at c).2) ∙ nth-filtered (on c.args.id) s.parked c.loop-index.index (tried c) (is-apart c) (at c).1

waits : (c : In_ok-client) → on c.args.id (tried c) ≡ true
waits c = nth-passes (on c.args.id) c.args.self.now.parked c.loop-index.index (tried c) (at c).1

pub can_operate-requires : goal.can_operate-requires
can_operate-requires c =
    let b = (goal.at.can_operate-requires c).In_ok-client in
    let s = c.args.self.now in
    subst (λ (t : State). is_waiting t c.in_ok-client.client ≡ true) (sym c.loop-index.invariant.same)
    (subst (λ client. is_waiting s client ≡ true) (at b).2 (found-there (λ w. w.client == (tried b).client) s.parked (tried b) (ap (λ client. waiting_of s client) (at b).2 ∙ is_own b)))

pub returns-in_err-client-clause-first : goal.returns-in_err-client-clause-first
returns-in_err-client-clause-first c =
    let s = c.args.self.now in
    let i = c.loop-index.index in
    let inv = c.loop-index.invariant in
    let past : slice_get (filter (on c.args.id) s.parked) i ≡ None =
    unnamed _ (c.in_err-client.ensures ∙ ap (λ (t : State). client_of (slice_get (filter (on c.args.id) t.parked) i)) (c.self-in-loop-index.view_is ∙ inv.same)) in
    c.from_residual.ensures ∙ found-first s c.args.id None (inv.first ∙ find-past (is_ready s) (filter (on c.args.id) s.parked) i past)

pub returns-in_err-client-clause-apart : goal.returns-in_err-client-clause-apart
returns-in_err-client-clause-apart c =
    let n = c.self-in-loop-index.inside in
    subst (λ (t : State). AreApart t.parked) (c.self-in-loop-index.view_is ∙ c.loop-index.invariant.same) (apart-parked (length n.clients.items) (waiting n.parked) c.self-in-loop-index.invariant.1)

pub returns-then-can_operate-clause-first : goal.returns-then-can_operate-clause-first
returns-then-can_operate-clause-first c =
    let s = c.args.self.now in
    let i = c.loop-index.index in
    let inv = c.loop-index.invariant in
    let b = (goal.at.returns-then-can_operate-clause-first c).In_ok-client in
    let told = IfSome-at (waiting_of s c.in_ok-client.client) (tried b) (λ (w : Waiting). (id : ℕ) → waits_on kinds.Sems id w.call ≡ true → c.can_operate.result ≡ is_ready s w) (is_own b)
    (subst (λ (t : State). IfSome (waiting_of t c.in_ok-client.client) (λ w. (id : ℕ) → waits_on kinds.Sems id w.call ≡ true → c.can_operate.result ≡ is_ready t w)) inv.same c.can_operate.ensures.ready) in
    let ready : is_ready s (tried b) ≡ true = sym (told c.args.id (waits b)) ∙ c.if-can_operate.true in
    ap (λ client. Some client) (sym (at b).2) ∙ found-first s c.args.id (Some (tried b)) (inv.first ∙ find-here (is_ready s) (filter (on c.args.id) s.parked) i (tried b) (at b).1 ready)

pub returns-then-can_operate-clause-apart : goal.returns-then-can_operate-clause-apart
returns-then-can_operate-clause-apart c = is-apart (goal.at.returns-then-can_operate-clause-apart c).In_ok-client

pub loop-index-preserved : goal.loop-index-preserved
loop-index-preserved c =
    let s = c.args.self.now in
    let i = c.loop-index.index in
    let inv = c.loop-index.invariant in
    let b = (goal.at.loop-index-preserved c).In_ok-client in
    let ws = filter (on c.args.id) s.parked in
    let next : suc i ≡ i + 1 = omega arith in
    let told = IfSome-at (waiting_of s c.in_ok-client.client) (tried b) (λ (w : Waiting). (id : ℕ) → waits_on kinds.Sems id w.call ≡ true → c.can_operate.result ≡ is_ready s w) (is_own b)
    (subst (λ (t : State). IfSome (waiting_of t c.in_ok-client.client) (λ w. (id : ℕ) → waits_on kinds.Sems id w.call ≡ true → c.can_operate.result ≡ is_ready t w)) inv.same c.can_operate.ensures.ready) in
    let stays : is_ready s (tried b) ≡ false = sym (told c.args.id (waits b)) ∙ c.if-can_operate.false in
    record {
      same = c.can_operate.ensures.same ∙ inv.same;
      first = inv.first ∙ find-next (is_ready s) ws i (tried b) (at b).1 stays ∙ ap (λ n. find (is_ready s) (drop n ws)) next;
    }

pub returns-clause-first : goal.returns-clause-first
returns-clause-first c =
    let s = c.args.self.now in
    let i = c.loop-index.index in
    let inv = c.loop-index.invariant in
    let ws = filter (on c.args.id) s.parked in
    let past : length ws ≤ i = omega (arith, c.loop-index-test.false, c.len-index-end.ensures, length-waiting c.self.inside.parked, ap (λ (t : State). length t.parked) c.self.view_is, few-filtered (on c.args.id) s.parked) in
    found-first s c.args.id None (inv.first ∙ find-over (is_ready s) ws i past)

pub returns-clause-apart : goal.returns-clause-apart
returns-clause-apart c =
    let n = c.self.inside in
    subst (λ (t : State). AreApart t.parked) c.self.view_is (apart-parked (length n.clients.items) (waiting n.parked) c.self.invariant.1)
