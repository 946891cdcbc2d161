-- What a denial names: by which of its users or groups the caller is in the class that decides, the bits of that class, and its rule.
use Rattle.std.specs.Prelude.{◌≡◌}
use Rattle.ipc_call.specs.declared.perms.Perm.{Perm}
use Rattle.ipc_creds.specs.Credentials.{Credentials}
use Rattle.ipc_perm.specs.declared.access.Want.{Want}
use Rattle.ipc_perm.specs.Access.{bits_of, class_of, rule_of}
use Rattle.perm_words.specs.Standing.{class_in, standing_of}
use Rattle.call_reasons.specs.declared.denials.Denial.{Denial}

pub record IsDenial (c : Credentials) (p : Perm) (want : Want) (d : Denial) : Type 0 where
  pub standing : d.standing ≡ standing_of c p
  pub class : class_in d.standing ≡ class_of c p
  pub bits : d.bits ≡ bits_of (class_of c p) p.mode
  pub rule : d.rule ≡ rule_of (class_of c p)
  pub asked : d.want ≡ want
