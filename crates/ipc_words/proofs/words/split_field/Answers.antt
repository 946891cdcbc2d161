use Rattle.std.proofs.Common.{◌≡◌, ◌+◌, ◌-◌, length, take, drop, arith, add-one}
use Rattle.std.proofs.lemmas.Grind.{common_steps}
use Rattle.ipc_words.proofs.WordLemmas.{separator_tells}
use Rattle.ipc_words.proofs.words.split_field.Goals as goal

pub returns-in-None-clause-fields : goal.returns-in-None-clause-fields
returns-in-None-clause-fields c = separator_tells c.args.separator c.args.text.now _ c.in-None.ensures.place

pub returns-in-Some-clause-fields : goal.returns-in-Some-clause-fields
returns-in-Some-clause-fields c =
    let text = c.args.text.now in
    let after = c.in-Some.place + 1 in
    let e : take (length text - after) (drop after text) ≡ drop after text = grind (arith, common_steps) in
    rw (e, add-one) (separator_tells c.args.separator text _ c.in-Some.ensures.place)
