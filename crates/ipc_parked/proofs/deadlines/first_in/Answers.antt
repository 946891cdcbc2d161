use Rattle.std.proofs.Common.{◌+◌, add-one, get_or, subst, sym, take, List, ℕ, Some}
use Rattle.std.proofs.lemmas.Option.{slice_get-get_or}
use Rattle.ipc_parked.specs.declared.deadlines.Due.{Due}
use Rattle.ipc_parked.specs.Deadlines.{IsFirstReached, first_of}
use Rattle.ipc_parked.proofs.Ranks.{first_more, first_stop, take_last}
use Rattle.ipc_parked.proofs.deadlines.first_in.Goals as goal

-- the row that is read past the end
abbrev no_row : Due
no_row = record { deadline = 0; number = 0; client = 0 }

pub returns-then-row-clock : goal.returns-then-row-clock
returns-then-row-clock c =
    let rows = c.args.rows.now in
    let i = c.loop-row.row-index in
    first_stop c.args.clock rows i (get_or rows i no_row) c.loop-row.first c.requires (slice_get-get_or rows i no_row c.loop-row-test.true) c.if-row-clock.true c.loop-row.invariant

pub loop-row-preserved : goal.loop-row-preserved
loop-row-preserved c =
    let rows = c.args.rows.now in
    let i = c.loop-row.row-index in
    let row = get_or rows i no_row in
    let more = first_more c.args.clock (take i rows) c.loop-row.first row c.loop-row.invariant c.if-row-clock.false in
    let taken = subst (λ (rs : List Due). IsFirstReached c.args.clock rs (Some (first_of c.loop-row.first row))) (sym (take_last rows i row (slice_get-get_or rows i no_row c.loop-row-test.true))) more in
    let next = subst (λ (n : ℕ). IsFirstReached c.args.clock (take n rows) (Some (first_of c.loop-row.first row))) (sym (add-one i)) taken in
    subst (λ (r : Due). IsFirstReached c.args.clock (take (i + 1) rows) (Some r)) (sym c.first_of.ensures) next
