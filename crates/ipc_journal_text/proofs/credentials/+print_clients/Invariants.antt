-- how many clients are left
use Rattle.std.proofs.Common.{length}
use Rattle.ipc_journal_text.proofs.credentials.+print_clients.Given as goal

abbrev pub decreases-print_clients : goal.decreases-print_clients
decreases-print_clients l = length l.clients.now
