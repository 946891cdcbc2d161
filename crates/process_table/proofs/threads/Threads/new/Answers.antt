use Rattle.std.proofs.Common.{◌<◌, ◌+◌, ◌++◌, ◌∙◌, ℕ, false, ap, arith, drop, eqb, length, List, refl, subst, sym}
use Rattle.std.specs.Prelude.{◌||◌}
use Rattle.std.proofs.lemmas.List.{length_push}
use Rattle.ipc_model.specs.State.{Thread, first_threads}
use Rattle.process_table.specs.Index.{IsIndexed}
use Rattle.process_table.specs.Rows.{holds}
use Rattle.process_table.proofs.Beginning.{no-more, one-more}
use Rattle.process_table.proofs.Indexing.{indexed-pushed, new-pushed, room-pushed}
use Rattle.process_table.proofs.threads.Threads.new.Goals as goal
use Rattle.process_table.proofs.threads.Threads.new.Goals.{After-row_of}

abbrev thread : ℕ → Thread
thread n = record { process = n; pid = n + 1; has_ended = false }

room : (c : After-row_of) → c.loop-client.client < c.loop-client.rows.capacity
room c = let within = c.loop-client-test.true in let capacity = c.loop-client.invariant.capacity in omega (arith, within, capacity)

few : (c : After-row_of) → c.loop-client.client < 4096
few c = let within = c.loop-client-test.true in let most = c.requires.few in omega (arith, within, most)

pub add-requires-clause-room : goal.add-requires-clause-room
add-requires-clause-room c =
    let before = (goal.at.add-requires-clause-room c).After-row_of in
    let n = c.loop-client.client in
    room-pushed c.loop-client.items.items c.loop-client.rows c.loop-client.rows n (thread n) c.loop-client.invariant.index c.loop-client.invariant.long (room before) (few before)

pub add-requires-clause-new : goal.add-requires-clause-new
add-requires-clause-new c =
    let before = (goal.at.add-requires-clause-new c).After-row_of in
    let n = c.loop-client.client in
    ap (λ (row : ℕ). holds row c.loop-client.rows.rows) c.row_of.ensures
    ∙ new-pushed c.loop-client.items.items c.loop-client.rows c.loop-client.rows n (thread n) c.loop-client.invariant.index c.loop-client.invariant.long (room before) (few before) (n + 1)

pub loop-client-preserved : goal.loop-client-preserved
loop-client-preserved c =
    let before = (goal.at.loop-client-preserved c).After-row_of in
    let n = c.loop-client.client in
    let inv = c.loop-client.invariant in
    record {
      rest = ap (λ (ts : List Thread). ts ++ first_threads (n + 1) (drop (n + 1) c.args.clients.now)) c.in_ok-push.ensures.items
          ∙ one-more c.loop-client.items.items n c.args.clients.now c.loop-client-test.true ∙ inv.rest;
      index = subst (λ (ts : List Thread). IsIndexed ts c.add.new.self) (sym c.in_ok-push.ensures.items)
          (indexed-pushed c.loop-client.items.items c.loop-client.rows c.add.new.self n (thread n) inv.index inv.long (room before) (few before) refl
          (λ other. c.add.ensures.held other ∙ ap (λ (row : ℕ). eqb row other || holds other c.loop-client.rows.rows) c.row_of.ensures)
          c.add.ensures.length c.add.ensures.capacity);
      long = ap length c.in_ok-push.ensures.items ∙ length_push c.loop-client.items.items (thread n) ∙ ap (λ (k : ℕ). k + 1) inv.long;
      capacity = c.add.ensures.capacity ∙ inv.capacity;
    }

pub returns : goal.returns
returns c =
    let n = c.loop-client.client in
    let past = c.loop-client-test.false in
    sym (no-more c.loop-client.items.items n c.args.clients.now (omega (arith, past))) ∙ c.loop-client.invariant.rest
