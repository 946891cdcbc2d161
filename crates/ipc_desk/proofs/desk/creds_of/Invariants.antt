use Rattle.std.proofs.Common.{◌≡◌, map, take}
use Rattle.call_values.specs.Users.{creds_of_user}
use Rattle.ipc_desk.proofs.desk.creds_of.Given as goal

abbrev pub invariant-loop-user : goal.invariant-loop-user
invariant-loop-user l = l.clients.items ≡ map creds_of_user (take l.user-index l.users)
