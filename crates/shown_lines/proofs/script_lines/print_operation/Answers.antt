use Rattle.std.proofs.Common.{◌≡◌, ◌∷◌, [], rules}
use Rattle.ipc_words.specs.Words.{fields_of}
use Rattle.shown_lines.proofs.WordLemmas.{appended, more_fields, three_fields}
use Rattle.shown_lines.proofs.script_lines.print_operation.Goals as goal

pub returns-in_default-None : goal.returns-in_default-None
returns-in_default-None c =
    let one : fields_of 58 c.args.word.now ≡ c.split_field.result.0.now ∷ fields_of 58 c.in_default-Some.rest.now = search rules in
    let two : fields_of 58 c.in_default-Some.rest.now ≡ c.split_field-2.result.0.now ∷ fields_of 58 c.in_default-Some-split_field.flags.now = search rules in
    let three : fields_of 58 c.in_default-Some-split_field.flags.now ≡ c.split_field-3.result.0.now ∷ [] = search rules in
    rw (three_fields _ _ c.in_default-Some.rest.now _ c.in_default-Some-split_field.flags.now _ one two three) c.print_fields.ensures

pub returns-in_default-Some-split_field-2 : goal.returns-in_default-Some-split_field-2
returns-in_default-Some-split_field-2 c =
    let one : fields_of 58 c.args.word.now ≡ c.split_field.result.0.now ∷ fields_of 58 c.in_default-Some.rest.now = search rules in
    let two : fields_of 58 c.in_default-Some.rest.now ≡ c.split_field-2.result.0.now ∷ fields_of 58 c.in_default-Some-split_field.flags.now = search rules in
    let three : fields_of 58 c.in_default-Some-split_field.flags.now ≡ c.split_field-3.result.0.now ∷ fields_of 58 c.in_default-Some-split_field-2.field-0-1.now = search rules in
    rw (more_fields c.args.word.now c.split_field.result.0.now c.in_default-Some.rest.now c.split_field-2.result.0.now c.in_default-Some-split_field.flags.now c.split_field-3.result.0.now c.in_default-Some-split_field-2.field-0-1.now one two three) (appended c.extend_from_slice-in_default-Some-split_field-2.result _ _ _ c.extend_from_slice-in_default-Some-split_field-2.ensures.items)
