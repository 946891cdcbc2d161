use Rattle.std.proofs.Common.{◌≡◌, vec_len}
use Rattle.test_support.proofs.clients.users.Given as goal

abbrev pub invariant-loop-number : goal.invariant-loop-number
invariant-loop-number l = vec_len l.users ≡ l.number
