use Rattle.std.proofs.Common.{◌≡◌, ℕ, ◌+◌, ◌≤◌, length, vec_len, ap, subst, arith}
use Rattle.std.specs.Prelude.{OnOk}
use Rattle.ipc_model.specs.Step.{Event}
use Rattle.ipc_model.specs.State.{State}
use Rattle.ipc_history.specs.History.{rows_of, run}
use Rattle.ipc_space.specs.Spaces.{Parts, history_in}
use Rattle.ipc_space.proofs.Entering.{counted_before, event_now, few_before, fresh_before, is_now, known_before, opens_now, quiet_before, room_now, state_before}
use Rattle.ipc_space.proofs.ledger.Ledger.apply_into.Goals as goal

pub enter-requires-clause-known : goal.enter-requires-clause-known
enter-requires-clause-known c =
    let s = c.self.inside in
    known_before s.namespace s.opening.items s.journal.rows s.events c.self.invariant.0 c.args.self.now.history
    (ap (λ (p : Parts). p.history) c.self.view_is) c.args.client c.requires.known

pub enter-requires-clause-fresh : goal.enter-requires-clause-fresh
enter-requires-clause-fresh c =
    let s = c.self.inside in
    fresh_before s.namespace s.opening.items s.journal.rows s.events c.self.invariant.0 c.args.self.now.history
    (ap (λ (p : Parts). p.history) c.self.view_is)

pub enter-requires-clause-quiet : goal.enter-requires-clause-quiet
enter-requires-clause-quiet c =
    let s = c.self.inside in
    quiet_before s.namespace s.opening.items s.journal.rows s.events c.self.invariant.0 c.args.self.now.history
    (ap (λ (p : Parts). p.history) c.self.view_is)

pub enter-requires-clause-counted : goal.enter-requires-clause-counted
enter-requires-clause-counted c =
    let s = c.self.inside in
    counted_before s.namespace s.opening.items s.journal.rows s.events c.self.invariant.0 c.args.self.now.history
    (ap (λ (p : Parts). p.history) c.self.view_is)

pub enter-requires-clause-ended_room : goal.enter-requires-clause-ended_room
enter-requires-clause-ended_room c =
    let s = c.self.inside in
    let few = few_before s.namespace s.opening.items s.journal.rows s.events c.self.invariant.0 c.args.self.now.history
    (ap (λ (p : Parts). p.history) c.self.view_is) in
    omega (arith, few, c.self.invariant.4, s.opening.ok.0)

pub invariant_of-self : goal.invariant_of-self
invariant_of-self c =
    let s = c.self.inside in
    let e : Event = record { client = c.args.client; now = c.args.now; call = c.args.call } in
    let told = c.enter.ensures in (
      is_now s.namespace s.opening.items s.journal.rows s.events c.self.invariant.0 c.args.self.now.history (ap (λ (p : Parts). p.history) c.self.view_is)
          c.enter.result c.enter.new.namespace c.enter.new.journal.rows c.enter.new.events e c.requires.known c.requires.free told.state told.rows told.counted told.err_state told.err_rows told.err_counted,
      told.none,
      c.self.invariant.2,
      opens_now s.namespace s.opening.items s.journal.rows s.events c.self.invariant.0 c.args.self.now.history (ap (λ (p : Parts). p.history) c.self.view_is)
          c.enter.result c.enter.new.namespace c.enter.new.journal.rows c.enter.new.events e c.requires.known c.requires.free told.state told.rows told.counted told.err_state told.err_rows told.err_counted c.self.invariant.3,
      omega (arith, c.self.invariant.4, told.ended_kept),
    )

pub returns-clause-event : goal.returns-clause-event
returns-clause-event c =
    let s = c.self.inside in
    let e : Event = record { client = c.args.client; now = c.args.now; call = c.args.call } in
    let told = c.enter.ensures in
    event_now s.namespace s.opening.items s.journal.rows s.events c.self.invariant.0 c.args.self.now.history (ap (λ (p : Parts). p.history) c.self.view_is)
    c.enter.result c.enter.new.namespace c.enter.new.journal.rows c.enter.new.events e c.requires.known c.requires.free told.state told.rows told.counted told.err_state told.err_rows told.err_counted

pub returns-clause-legal : goal.returns-clause-legal
returns-clause-legal c =
    let s = c.self.inside in
    let e : Event = record { client = c.args.client; now = c.args.now; call = c.args.call } in
    let told = c.enter.ensures in
    (is_now s.namespace s.opening.items s.journal.rows s.events c.self.invariant.0 c.args.self.now.history (ap (λ (p : Parts). p.history) c.self.view_is)
    c.enter.result c.enter.new.namespace c.enter.new.journal.rows c.enter.new.events e c.requires.known c.requires.free told.state told.rows told.counted told.err_state told.err_rows told.err_counted).legal

pub returns-clause-room : goal.returns-clause-room
returns-clause-room c =
    let s = c.self.inside in
    let e : Event = record { client = c.args.client; now = c.args.now; call = c.args.call } in
    let told = c.enter.ensures in
    subst (λ (n : ℕ). OnOk c.enter.result (n + length (rows_of c.args.self.now.history) ≤ c.enter.new.journal.room + length (rows_of (history_in c.enter.new.namespace.limits s.opening.items c.enter.new.journal.rows)))) (ap (λ (p : Parts). p.room) c.self.view_is)
    (room_now s.namespace s.opening.items s.journal.rows s.events c.self.invariant.0 c.args.self.now.history (ap (λ (p : Parts). p.history) c.self.view_is)
    c.enter.result c.enter.new.namespace c.enter.new.journal.rows c.enter.new.events e c.requires.known c.requires.free told.state told.rows told.counted told.err_state told.err_rows told.err_counted s.journal.room c.enter.new.journal.room told.room)

pub returns-clause-few : goal.returns-clause-few
returns-clause-few c =
    let s = c.self.inside in
    let same = state_before s.namespace s.opening.items s.journal.rows s.events c.self.invariant.0 c.args.self.now.history (ap (λ (p : Parts). p.history) c.self.view_is) in
    subst (λ (t : State). OnOk c.enter.result (vec_len c.enter.new.others ≤ vec_len c.args.others.now + length t.parked)) same c.enter.ensures.few

pub returns-clause-cost : goal.returns-clause-cost
returns-clause-cost c =
    let s = c.self.inside in
    let same = state_before s.namespace s.opening.items s.journal.rows s.events c.self.invariant.0 c.args.self.now.history (ap (λ (p : Parts). p.history) c.self.view_is) in
    subst (λ (t : State). OnOk c.enter.result (c.args.self.now.room ≤ c.enter.new.journal.room + (length t.parked + 2))) same
    (subst (λ (n : ℕ). OnOk c.enter.result (n ≤ c.enter.new.journal.room + (length s.namespace.parked + 2))) (ap (λ (p : Parts). p.room) c.self.view_is) c.enter.ensures.cost)
