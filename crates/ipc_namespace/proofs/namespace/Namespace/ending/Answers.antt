use Rattle.ipc_namespace.proofs.Owing.{no-ending}
use Rattle.ipc_namespace.proofs.namespace.Namespace.ending.Goals as goal

pub returns-in_default : goal.returns-in_default
returns-in_default c = no-ending c.args.self.now c.args.client c.args.call.now c.in_default.not-Exit c.in_default.not-Kill
