use Rattle.std.proofs.Common.{refl, sym}
use Rattle.std.specs.Prelude.{Result, Ok, Err, MatchResult, IsOk}
use Rattle.ipc_words.proofs.NameLemmas.{IsUtf8-is_name}
use Rattle.ipc_words.proofs.names.Name.from_word.Goals as goal

is_ok_if : {T E : Type 0} (r : Result T E) (P : T → Type 0) (Q : E → Type 0) (U : Type 0) → U → MatchResult r P (λ e. (U → ⊥) × Q e) → IsOk r
is_ok_if (Ok x) P Q U u h = refl
is_ok_if (Err e) P Q U u h = absurd (h.0 u)

pub unwrap-text-requires : goal.unwrap-text-requires
unwrap-text-requires c = is_ok_if _ _ _ _ (IsUtf8-is_name c.args.word.now (sym c.if-not-is_name.ensures)) c.from_utf8.ensures.cases
