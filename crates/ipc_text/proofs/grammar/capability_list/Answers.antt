use Rattle.std.proofs.Common.{sym, ap, ◌∙◌}
use Rattle.ipc_text.specs.Grammar.{with_capabilities}
use Rattle.ipc_text.proofs.GrammarLemmas.{fields_left, fields_left-cons, with_capabilities-more}
use Rattle.ipc_text.proofs.grammar.capability_list.Goals as goal

pub loop-rest-preserved : goal.loop-rest-preserved
loop-rest-preserved c =
    let so_far = c.loop-rest.caps.0 in
    let field = c.split_field.result.0.now in
    let others = fields_left c.split_field.result.1 in
    let fields = fields_left-cons c.in-Some.text.now field c.split_field.result.1 c.split_field.ensures.fields in
    let kept = rw c.in-Some.is at c.loop-rest.invariant in
    let more = with_capabilities-more so_far c.in_ok-capability_named.field-0.0 field others c.in_ok-capability_named.ensures in
    rw c.insert.ensures (sym more ∙ ap (with_capabilities so_far) (sym fields) ∙ kept)
