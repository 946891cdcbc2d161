use Rattle.std.proofs.Common.{◌≡◌, vec_len}
use Rattle.thread_tests.proofs.refusals.failed_of.Given as goal

abbrev pub invariant-loop-each : goal.invariant-loop-each
invariant-loop-each l = vec_len l.failed ≡ l.each-index
