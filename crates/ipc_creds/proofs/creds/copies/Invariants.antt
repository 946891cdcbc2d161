use Rattle.std.proofs.Common.{◌≡◌, take}
use Rattle.ipc_creds.proofs.creds.copies.Given as goal

abbrev pub invariant-loop-creds : goal.invariant-loop-creds
invariant-loop-creds l = l.copied.items ≡ take l.creds-index l.clients
