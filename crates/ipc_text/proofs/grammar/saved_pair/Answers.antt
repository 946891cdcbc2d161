use Rattle.std.proofs.Common.{◌≡◌, ◌<◌, ℕ, List, [], ◌∷◌, length, arith, refl, sym}
use Rattle.std.specs.Prelude.{None}
use Rattle.ipc_text.specs.Grammar.{of_two, two_numbers}
use Rattle.ipc_words.specs.Words.{fields_of}
use Rattle.ipc_words.proofs.WordLemmas.{some_field}
use Rattle.ipc_text.proofs.grammar.saved_pair.Goals as goal

-- a field behind the group
three_fields : (user group : List ℕ) (others : List (List ℕ)) → 0 < length others → of_two two_numbers (user ∷ group ∷ others) ≡ None
three_fields user group [] h = absurd (omega arith)
three_fields user group (more ∷ others) h = refl

pub returns-in_default-Some : goal.returns-in_default-Some
returns-in_default-Some c =
    let user = c.split_field.result.0.now in
    let group = c.split_field-2.result.0.now in
    let rest = c.in_default-Some.field-0-1.now in
    let fields = rw c.in_ok-rest.was at c.split_field.ensures.fields in
    let others = rw c.in_default-Some.is-1 at c.split_field-2.ensures.fields in
    rw (fields, others) (sym (three_fields user group (fields_of 58 rest) (some_field 58 rest)))
