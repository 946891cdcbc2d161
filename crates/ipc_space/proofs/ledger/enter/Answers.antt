use Rattle.std.proofs.Common.{ℕ, ◌+◌, List, [], ◌∷◌, length, ap, ◌∙◌, arith, length-append}
use Rattle.ipc_call.specs.declared.replies.JournalRow.{JournalRow}
use Rattle.ipc_call.specs.declared.replies.JournalRow.TheVariants.{Called}
use Rattle.ipc_model.specs.Step.{Event, step}
use Rattle.ipc_space.proofs.Served.{others_told, own_told, rows_entered}
use Rattle.ipc_space.proofs.ledger.enter.Goals as goal

pub returns-clause-own : goal.returns-clause-own
returns-clause-own c =
    let e : Event = record { client = c.args.client; now = c.args.now; call = c.args.call } in
    own_told (c.args.events.now + 1) c.take_in.new.events c.in-Ok.ensures.counted (step c.args.namespace.now e) c.in-Ok.outcome c.in-Ok.ensures.own
    c.tell-own.result c.tell-own.ensures.reply

pub returns-clause-others : goal.returns-clause-others
returns-clause-others c =
    let e : Event = record { client = c.args.client; now = c.args.now; call = c.args.call } in
    others_told (c.args.events.now + 1) c.take_in.new.events c.in-Ok.ensures.counted (step c.args.namespace.now e) c.in-Ok.outcome c.in-Ok.ensures.own
    c.take_in.new.ended.items c.in-Ok.ensures.ended c.args.others.now.items c.tell-own.new.others.items c.tell-own.ensures.others

pub returns-clause-rows : goal.returns-clause-rows
returns-clause-rows c =
    let e : Event = record { client = c.args.client; now = c.args.now; call = c.args.call } in
    rows_entered (c.args.events.now + 1) c.take_in.new.events c.in-Ok.ensures.counted (step c.args.namespace.now e) c.in-Ok.outcome c.in-Ok.ensures.own
    c.take_in.new.ended.items c.in-Ok.ensures.ended c.args.client c.args.now c.args.call c.args.journal.now.rows c.take_in.new.journal.rows c.tell-own.new.journal.rows
    c.in-Ok.ensures.rows c.tell-own.ensures.rows

pub returns-clause-room : goal.returns-clause-room
returns-clause-room c =
    let count : List JournalRow → ℕ = λ rows. length rows in
    let called = ap count c.in-Ok.ensures.rows ∙ length-append c.args.journal.now.rows (Called c.args.client c.args.now c.args.call ∷ []) in
    omega (arith, called, c.in-Ok.ensures.room, c.tell-own.ensures.journal_kept)

pub returns-clause-few : goal.returns-clause-few
returns-clause-few c = omega (arith, c.in-Ok.ensures.few, c.tell-own.ensures.count)

pub returns-clause-cost : goal.returns-clause-cost
returns-clause-cost c = omega (arith, c.in-Ok.ensures.room, c.in-Ok.ensures.few, c.tell-own.ensures.journal_room)
