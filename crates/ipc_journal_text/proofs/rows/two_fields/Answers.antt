use Rattle.std.proofs.Common.{arith}
use Rattle.ipc_words.proofs.WordLemmas.{some_field}
use Rattle.ipc_journal_text.proofs.rows.two_fields.Goals as goal

-- a field behind the second
pub returns-in_default-Some : goal.returns-in_default-Some
returns-in_default-Some c =
    let separator = c.args.separator in
    let rest = c.in_default-Some.field-0-1.now in
    let fields = rw c.in_ok-rest.was at c.split_field.ensures.fields in
    let others = rw c.in_default-Some.is-1 at c.split_field-2.ensures.fields in
    let more = some_field separator rest in
    rw (fields, others) (λ e. omega (arith, more))
