use Rattle.std.proofs.Common.{◌∙◌, ℤ, List, ap, sym, w64, SFits, rules, slice_set, insert}
use Rattle.std.specs.Option.{is_some}
use Rattle.std.proofs.lemmas.Int.{to_z-of_z}
use Rattle.std.proofs.lemmas.Bool.{true≢false}
use Rattle.msg_queue.specs.declared.types.Row.{Row}
use Rattle.msg_queue.specs.declared.nodes.Ends.{Ends}
use Rattle.msg_queue.specs.Types.{ends_in}
use Rattle.msg_queue.proofs.Rows.{ends_inserted, ends_set, free_from, here_from, none_here, rising_inserted, rising_set, row_of}
use Rattle.msg_queue.proofs.types.Types.put.Goals as goal

pub set_row-requires-clause-rising : goal.set_row-requires-clause-rising
set_row-requires-clause-rising c =
    let rows = c.args.self.now.rows in
    let spot = c.args.spot in
    let fits : SFits w64 spot.mtype = search rules in
    let own = to_z-of_z w64 spot.mtype fits in
    let here = here_from rows spot.mtype spot.at (sym c.requires.spot.is_there ∙ c.if-is_there.true) in
    rw own (rising_set rows spot.mtype spot.at c.args.ends c.requires.spot.rising c.requires.spot.place here)

pub add_row-requires-clause-rising : goal.add_row-requires-clause-rising
add_row-requires-clause-rising c =
    let rows = c.args.self.now.rows in
    let spot = c.args.spot in
    let fits : SFits w64 spot.mtype = search rules in
    let own = to_z-of_z w64 spot.mtype fits in
    let free = free_from rows spot.mtype spot.at (sym c.requires.spot.is_there ∙ c.if-is_there.false) in
    rw own (rising_inserted rows spot.mtype spot.at c.args.ends c.requires.spot.rising c.requires.spot.place free)

pub add_row-requires-clause-room : goal.add_row-requires-clause-room
add_row-requires-clause-room c =
    let spot = c.args.spot in
    c.requires.room (ap (λ (e : Ends). e.first) (none_here c.args.self.now.rows spot.mtype spot.at c.requires.spot.rising c.requires.spot.place (sym c.requires.spot.is_there ∙ c.if-is_there.false)))

pub returns-then-is_there-clause-ends : goal.returns-then-is_there-clause-ends
returns-then-is_there-clause-ends c = λ t.
    let rows = c.args.self.now.rows in
    let spot = c.args.spot in
    let fits : SFits w64 spot.mtype = search rules in
    let own = to_z-of_z w64 spot.mtype fits in
    let here = here_from rows spot.mtype spot.at (sym c.requires.spot.is_there ∙ c.if-is_there.true) in
    ap (λ (xs : List Row). ends_in xs t) c.set_row.ensures.rows
    ∙ ap (λ (x : ℤ). ends_in (slice_set rows spot.at (row_of x c.args.ends)) t) own ∙ ends_set rows spot.mtype spot.at c.args.ends t c.requires.spot.place here

pub returns-else-is_there-clause-ends : goal.returns-else-is_there-clause-ends
returns-else-is_there-clause-ends c = λ t.
    let rows = c.args.self.now.rows in
    let spot = c.args.spot in
    let fits : SFits w64 spot.mtype = search rules in
    let own = to_z-of_z w64 spot.mtype fits in
    ap (λ (xs : List Row). ends_in xs t) c.add_row.ensures.rows
    ∙ ap (λ (x : ℤ). ends_in (insert rows spot.at (row_of x c.args.ends)) t) own ∙ ends_inserted rows spot.mtype spot.at c.args.ends t c.requires.spot.place

pub returns-else-is_there-clause-kept : goal.returns-else-is_there-clause-kept
returns-else-is_there-clause-kept c = λ some.
    let spot = c.args.spot in
    let gone = none_here c.args.self.now.rows spot.mtype spot.at c.requires.spot.rising c.requires.spot.place (sym c.requires.spot.is_there ∙ c.if-is_there.false) in
    absurd (true≢false (sym some ∙ ap (λ (e : Ends). is_some e.first) gone))
