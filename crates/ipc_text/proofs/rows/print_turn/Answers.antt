use Rattle.std.proofs.Common.{◌≡◌, ◌∷◌, [], arith, rules}
use Rattle.std.proofs.lemmas.Fmt.{decimal_digit}
use Rattle.std.specs.Prelude.{decimal}
use Rattle.ipc_text.proofs.rows.print_turn.Goals as goal

pub returns-then-turn-eq0 : goal.returns-then-turn-eq0
returns-then-turn-eq0 c = let zero : decimal 0 ≡ 48 ∷ [] = decimal_digit 0 (omega arith) in rw (c.if-turn-eq0.true, zero) (search rules)
