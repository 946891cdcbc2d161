use Rattle.std.proofs.Common.{◌≡◌, ℕ, ◌+◌, ◌≤◌, ◌∷◌, [], true, false, suc, length, refl, sym, ap, ◌∙◌, subst, arith, Option, Some, None}
use Rattle.std.specs.Prelude.{◌==◌, drop, filter, option_map, slice_get, IfSome}
use Rattle.std.specs.List.{find}
use Rattle.std.proofs.lemmas.Option.{none-some, same_Some}
use Rattle.ipc_call.specs.declared.replies.Waiting.{Waiting}
use Rattle.ipc_model.specs.State.{State, is_waiting, waiting_of}
use Rattle.ipc_model.specs.Step.{Moved, end_waiting, is_ready}
use Rattle.ipc_model.proofs.Touched.{ready_touched}
use Rattle.ipc_parked.specs.Parked.{AreApart, waiting}
use Rattle.ipc_parked.specs.Touched.{is_touched}
use Rattle.ipc_parked.proofs.Listed.{length-waiting}
use Rattle.ipc_namespace.proofs.Calling.{IfSome-at}
use Rattle.ipc_namespace.proofs.Own.{few-filtered, found-there, nth-filtered}
use Rattle.ipc_namespace.proofs.Parked.{apart-parked}
use Rattle.ipc_namespace.proofs.Settling.{find-here, find-next, find-over, find-past}
use Rattle.ipc_namespace.proofs.namespace.Namespace.complete_first.Goals as goal
use Rattle.ipc_namespace.proofs.namespace.Namespace.complete_first.Goals.{In_ok-client}

pub loop-index-init : goal.loop-index-init
loop-index-init c = record { same = refl; first = ready_touched (is_touched c.args.touched) c.args.self.now c.requires.quiet }

-- the call that is tried, at the index among those that were touched
there : (client : ℕ) (o : Option Waiting) → Some client ≡ option_map (λ w. w.client) o → (w : Waiting) × (o ≡ Some w) × (w.client ≡ client)
there client None is = absurd (none-some client (sym is))
there client (Some w) is = (w, refl, sym (same_Some client w.client is))

abbrev at : (c : In_ok-client) → (w : Waiting) × (slice_get (filter (is_touched c.args.touched) c.args.self.now.parked) c.loop-index.index ≡ Some w) × (w.client ≡ c.in_ok-client.client)
at c =
    let i = c.loop-index.index in
    there c.in_ok-client.client (slice_get (filter (is_touched c.args.touched) c.args.self.now.parked) i)
    (c.in_ok-client.ensures ∙ ap (λ (s : State). option_map (λ (w : Waiting). w.client) (slice_get (filter (is_touched c.args.touched) s.parked) i)) (c.self-in-loop-index.view_is ∙ c.loop-index.invariant.same))

abbrev tried : In_ok-client → Waiting
tried c = (at c).0

at_index : (c : In_ok-client) → slice_get (filter (is_touched c.args.touched) c.args.self.now.parked) c.loop-index.index ≡ Some (tried c)
at_index c = (at c).1

-- it is its client's own
is_own : (c : In_ok-client) → waiting_of c.args.self.now c.in_ok-client.client ≡ Some (tried c)
is_own c =
    let s = c.args.self.now in
    let n = c.self-in-loop-index.inside in
    let apart = subst (λ (t : State). AreApart t.parked) (c.self-in-loop-index.view_is ∙ c.loop-index.invariant.same) (apart-parked (length n.clients.items) (waiting n.parked) c.self-in-loop-index.invariant.1) in
    ap (λ client. waiting_of s client) (sym (at c).2) ∙ nth-filtered (is_touched c.args.touched) s.parked c.loop-index.index (tried c) apart (at_index c)

pub try_waiting-requires : goal.try_waiting-requires
try_waiting-requires c =
    let b = (goal.at.try_waiting-requires c).In_ok-client in
    let s = c.args.self.now in
    subst (λ (t : State). is_waiting t c.in_ok-client.client ≡ true) (sym c.loop-index.invariant.same)
    (subst (λ client. is_waiting s client ≡ true) (at b).2 (found-there (λ w. w.client == (tried b).client) s.parked (tried b) (ap (λ client. waiting_of s client) (at b).2 ∙ is_own b)))

none-at : (o : Option Waiting) → None ≡ option_map (λ w. w.client) o → o ≡ None
none-at None is = refl
none-at (Some w) is = absurd (none-some w.client is)

pub returns-in_err-client-clause-first : goal.returns-in_err-client-clause-first
returns-in_err-client-clause-first c =
    let s = c.args.self.now in
    let i = c.loop-index.index in
    let inv = c.loop-index.invariant in
    let past : slice_get (filter (is_touched c.args.touched) s.parked) i ≡ None =
    none-at _ (c.in_err-client.ensures ∙ ap (λ (t : State). option_map (λ (w : Waiting). w.client) (slice_get (filter (is_touched c.args.touched) t.parked) i)) (c.self-in-loop-index.view_is ∙ inv.same)) in
    rw c.from_residual.ensures (ap (option_map (end_waiting s)) (inv.first ∙ find-past (is_ready s) (filter (is_touched c.args.touched) s.parked) i past))

pub returns-in-Some-clause-first : goal.returns-in-Some-clause-first
returns-in-Some-clause-first c =
    let s = c.args.self.now in
    let i = c.loop-index.index in
    let inv = c.loop-index.invariant in
    let b = (goal.at.returns-in-Some-clause-first c).In_ok-client in
    let own = waiting_of s c.in_ok-client.client in
    let moved : Moved = record { state = c.try_waiting.new.self; ended = c.in-Some.completion ∷ [] } in
    let ready = IfSome-at own (tried b) (λ (w : Waiting). true ≡ is_ready s w) (is_own b) (subst (λ (t : State). IfSome (waiting_of t c.in_ok-client.client) (λ w. true ≡ is_ready t w)) inv.same c.in-Some.ensures.ready) in
    let ends = IfSome-at own (tried b) (λ (w : Waiting). end_waiting s w ≡ moved) (is_own b) (subst (λ (t : State). IfSome (waiting_of t c.in_ok-client.client) (λ w. end_waiting t w ≡ moved)) inv.same c.in-Some.ensures.ended) in
    ap (option_map (end_waiting s)) (inv.first ∙ find-here (is_ready s) (filter (is_touched c.args.touched) s.parked) i (tried b) (at_index b) (sym ready)) ∙ ap (λ (m : Moved). Some m) ends

pub loop-index-preserved : goal.loop-index-preserved
loop-index-preserved c =
    let s = c.args.self.now in
    let i = c.loop-index.index in
    let inv = c.loop-index.invariant in
    let b = (goal.at.loop-index-preserved c).In_ok-client in
    let ws = filter (is_touched c.args.touched) s.parked in
    let next : suc i ≡ i + 1 = omega arith in
    let waits = IfSome-at (waiting_of s c.in_ok-client.client) (tried b) (λ (w : Waiting). false ≡ is_ready s w) (is_own b) (subst (λ (t : State). IfSome (waiting_of t c.in_ok-client.client) (λ w. false ≡ is_ready t w)) inv.same c.in_default.ensures.ready) in
    record {
      same = c.in_default.ensures.none ∙ inv.same;
      first = inv.first ∙ find-next (is_ready s) ws i (tried b) (at_index b) (sym waits) ∙ ap (λ n. find (is_ready s) (drop n ws)) next;
    }

pub returns-clause-first : goal.returns-clause-first
returns-clause-first c =
    let s = c.args.self.now in
    let i = c.loop-index.index in
    let inv = c.loop-index.invariant in
    let ws = filter (is_touched c.args.touched) s.parked in
    let past : length ws ≤ i = omega (arith, c.loop-index-test.false, c.len-index-end.ensures, length-waiting c.self.inside.parked, ap (λ (t : State). length t.parked) c.self.view_is, few-filtered (is_touched c.args.touched) s.parked) in
    ap (option_map (end_waiting s)) (inv.first ∙ find-over (is_ready s) ws i past)
