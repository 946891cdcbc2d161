use Rattle.std.proofs.Common.{◌≡◌, ◌<◌, ℕ, List, [], ◌∷◌, length, arith, refl, sym}
use Rattle.std.specs.Prelude.{None}
use Rattle.ipc_text.specs.Sets.{oper_flags}
use Rattle.ipc_words.specs.Words.{fields_of}
use Rattle.ipc_words.proofs.WordLemmas.{some_field}
use Rattle.ipc_text.proofs.sets.flags_of.Goals as goal

-- a field behind the flags
two_fields : (flags : List ℕ) (others : List (List ℕ)) → 0 < length others → oper_flags (flags ∷ others) ≡ None
two_fields flags [] h = absurd (omega arith)
two_fields flags (more ∷ others) h = refl

pub returns-in_default-Some : goal.returns-in_default-Some
returns-in_default-Some c =
    let rest = c.in_default-Some.field-0-1.now in
    let fields = rw c.in_default-Some.is-1 at c.split_field.ensures.fields in
    rw fields (sym (two_fields c.split_field.result.0.now (fields_of 58 rest) (some_field 58 rest)))
