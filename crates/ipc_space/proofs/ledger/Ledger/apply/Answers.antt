use Rattle.std.proofs.Common.{◌≡◌, ℕ, ◌+◌, ◌≤◌, List, [], ◌∷◌, ◌++◌, length, length-append, ap, sym, ◌∙◌, subst, arith}
use Rattle.ipc_call.specs.declared.replies.JournalRow.{JournalRow}
use Rattle.ipc_call.specs.declared.replies.JournalRow.TheVariants.{Called}
use Rattle.ipc_model.specs.Step.{Event, step}
use Rattle.ipc_history.specs.History.{rows_of}
use Rattle.ipc_space.specs.Spaces.{IsOfHistory, Parts, history_in, other_replies}
use Rattle.ipc_space.specs.Telling.{replies_in}
use Rattle.ipc_space.proofs.Entering.{apart_after, counted_before, event_after, few_before, fresh_before, is_after, known_before, legal_after, opens_after, quiet_before, room_after}
use Rattle.ipc_space.proofs.Served.{others_told, rows_entered}
use Rattle.ipc_space.proofs.ledger.Ledger.apply.Goals as goal

pub take_in-requires-clause-known : goal.take_in-requires-clause-known
take_in-requires-clause-known c =
    let s = c.self.inside in
    known_before s.namespace s.opening.items s.journal.rows s.events c.self.invariant.0 c.args.self.now.history
    (ap (λ (p : Parts). p.history) c.self.view_is) c.args.client c.requires.known

pub take_in-requires-clause-fresh : goal.take_in-requires-clause-fresh
take_in-requires-clause-fresh c =
    let s = c.self.inside in
    fresh_before s.namespace s.opening.items s.journal.rows s.events c.self.invariant.0 c.args.self.now.history
    (ap (λ (p : Parts). p.history) c.self.view_is)

pub take_in-requires-clause-quiet : goal.take_in-requires-clause-quiet
take_in-requires-clause-quiet c =
    let s = c.self.inside in
    quiet_before s.namespace s.opening.items s.journal.rows s.events c.self.invariant.0 c.args.self.now.history
    (ap (λ (p : Parts). p.history) c.self.view_is)

pub take_in-requires-clause-counted : goal.take_in-requires-clause-counted
take_in-requires-clause-counted c =
    let s = c.self.inside in
    counted_before s.namespace s.opening.items s.journal.rows s.events c.self.invariant.0 c.args.self.now.history
    (ap (λ (p : Parts). p.history) c.self.view_is)

pub take_in-requires-clause-ended_room : goal.take_in-requires-clause-ended_room
take_in-requires-clause-ended_room c =
    let s = c.self.inside in
    let few = few_before s.namespace s.opening.items s.journal.rows s.events c.self.invariant.0 c.args.self.now.history
    (ap (λ (p : Parts). p.history) c.self.view_is) in
    omega (arith, few, c.self.invariant.4, s.opening.ok.0)

pub invariant_of-self-2 : goal.invariant_of-self-2
invariant_of-self-2 c =
    let s = c.self.inside in
    let e : Event = record { client = c.args.client; now = c.args.now; call = c.args.call } in
    let told = c.in-Ok.ensures in
    let rows = rows_entered (s.events + 1) c.take_in.new.events told.counted (step s.namespace e) c.in-Ok.outcome told.own c.take_in.new.ended.items told.ended c.args.client c.args.now c.args.call s.journal.rows c.take_in.new.journal.rows c.tell-own.new.journal.rows told.rows c.tell-own.ensures.rows in (
      subst (λ (n : ℕ). IsOfHistory c.take_in.new.namespace s.opening.items c.tell-own.new.journal.rows n) (sym told.counted)
          (is_after s.namespace s.opening.items s.journal.rows s.events c.self.invariant.0 c.args.self.now.history (ap (λ (p : Parts). p.history) c.self.view_is)
          c.take_in.new.namespace c.tell-own.new.journal.rows e c.requires.known c.requires.free told.state rows),
      c.tell-own.ensures.told,
      c.give_away-others.ensures.none,
      opens_after s.namespace s.opening.items s.journal.rows s.events c.self.invariant.0 c.args.self.now.history (ap (λ (p : Parts). p.history) c.self.view_is)
          c.take_in.new.namespace c.tell-own.new.journal.rows e c.requires.known c.requires.free told.state rows c.self.invariant.3,
      omega (arith, c.self.invariant.4, c.take_in.ensures.ended_kept, c.tell-own.ensures.kept),
    )

pub returns-clause-event : goal.returns-clause-event
returns-clause-event c =
    let s = c.self.inside in
    let e : Event = record { client = c.args.client; now = c.args.now; call = c.args.call } in
    let told = c.in-Ok.ensures in
    let rows = rows_entered (s.events + 1) c.take_in.new.events told.counted (step s.namespace e) c.in-Ok.outcome told.own c.take_in.new.ended.items told.ended c.args.client c.args.now c.args.call s.journal.rows c.take_in.new.journal.rows c.tell-own.new.journal.rows told.rows c.tell-own.ensures.rows in
    event_after s.namespace s.opening.items s.journal.rows s.events c.self.invariant.0 c.args.self.now.history (ap (λ (p : Parts). p.history) c.self.view_is)
    c.take_in.new.namespace c.tell-own.new.journal.rows e c.requires.known c.requires.free told.state rows

pub returns-clause-apart : goal.returns-clause-apart
returns-clause-apart c =
    let s = c.self.inside in
    let e : Event = record { client = c.args.client; now = c.args.now; call = c.args.call } in
    let told = c.in-Ok.ensures in
    let rows = rows_entered (s.events + 1) c.take_in.new.events told.counted (step s.namespace e) c.in-Ok.outcome told.own c.take_in.new.ended.items told.ended c.args.client c.args.now c.args.call s.journal.rows c.take_in.new.journal.rows c.tell-own.new.journal.rows told.rows c.tell-own.ensures.rows in
    ap (λ others. replies_in others c.args.client) (c.give_away-others.ensures.all ∙ others_told (s.events + 1) c.take_in.new.events told.counted (step s.namespace e) c.in-Ok.outcome told.own c.take_in.new.ended.items told.ended c.make_room.new.list.items c.tell-own.new.others.items c.tell-own.ensures.others ∙ ap (λ told. told ++ other_replies (s.events + 1) (step s.namespace e).ended) c.make_room.ensures.empty)
    ∙ apart_after s.namespace s.opening.items s.journal.rows s.events c.self.invariant.0 c.args.self.now.history (ap (λ (p : Parts). p.history) c.self.view_is)
    c.take_in.new.namespace c.tell-own.new.journal.rows e c.requires.known c.requires.free told.state rows

pub returns-clause-legal : goal.returns-clause-legal
returns-clause-legal c =
    let s = c.self.inside in
    let e : Event = record { client = c.args.client; now = c.args.now; call = c.args.call } in
    let told = c.in-Ok.ensures in
    let rows = rows_entered (s.events + 1) c.take_in.new.events told.counted (step s.namespace e) c.in-Ok.outcome told.own c.take_in.new.ended.items told.ended c.args.client c.args.now c.args.call s.journal.rows c.take_in.new.journal.rows c.tell-own.new.journal.rows told.rows c.tell-own.ensures.rows in
    legal_after s.namespace s.opening.items s.journal.rows s.events c.self.invariant.0 c.args.self.now.history (ap (λ (p : Parts). p.history) c.self.view_is)
    c.take_in.new.namespace c.tell-own.new.journal.rows e c.requires.known c.requires.free told.state rows

pub returns-clause-room : goal.returns-clause-room
returns-clause-room c =
    let s = c.self.inside in
    let e : Event = record { client = c.args.client; now = c.args.now; call = c.args.call } in
    let told = c.in-Ok.ensures in
    let rows = rows_entered (s.events + 1) c.take_in.new.events told.counted (step s.namespace e) c.in-Ok.outcome told.own c.take_in.new.ended.items told.ended c.args.client c.args.now c.args.call s.journal.rows c.take_in.new.journal.rows c.tell-own.new.journal.rows told.rows c.tell-own.ensures.rows in
    let count : List JournalRow → ℕ = λ rows. length rows in
    let called = ap count told.rows ∙ length-append s.journal.rows (Called c.args.client c.args.now c.args.call ∷ []) in
    subst (λ (n : ℕ). n + length (rows_of c.args.self.now.history) ≤ c.tell-own.new.journal.room + length (rows_of (history_in c.take_in.new.namespace.limits s.opening.items c.tell-own.new.journal.rows))) (ap (λ (p : Parts). p.room) c.self.view_is)
    (room_after s.namespace s.opening.items s.journal.rows s.events c.self.invariant.0 c.args.self.now.history (ap (λ (p : Parts). p.history) c.self.view_is)
    c.take_in.new.namespace c.tell-own.new.journal.rows e c.requires.known c.requires.free told.state rows s.journal.room c.tell-own.new.journal.room (omega (arith, called, told.room, c.tell-own.ensures.journal_kept)))
