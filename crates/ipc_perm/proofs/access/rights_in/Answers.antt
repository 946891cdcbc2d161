-- A permission bit is set exactly where its quotient is odd.
use Rattle.std.proofs.Common.{◌≡◌, ℕ, ◌*◌, ◌<◌, ◌/◌, ◌%◌, bit_and, arith}
use Rattle.std.specs.Prelude.{not, ◌==◌}
use Rattle.std.proofs.lemmas.Bool.Decides.{nat_tests}
use Rattle.std.proofs.lemmas.Nat.Bits.{and_pow, bit_at-lt}
use Rattle.ipc_perm.proofs.access.rights_in.Goals as goal

is_set : (masked bit size : ℕ) → masked ≡ bit * size → bit < 2 → 0 < size → not (masked == 0) ≡ (bit == 1)
is_set masked bit size e small some = grind (arith, nat_tests)

pub returns : goal.returns
returns c =
    let n = c.args.bits in
    λ i. record {
      read = is_set (bit_and n 4) (n / 4 % 2) 4 (and_pow n 2) (bit_at-lt n 2) (omega arith) i;
      alter = is_set (bit_and n 2) (n / 2 % 2) 2 (and_pow n 1) (bit_at-lt n 1) (omega arith) i;
    }
