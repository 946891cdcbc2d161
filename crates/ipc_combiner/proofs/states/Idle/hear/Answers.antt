use Rattle.ipc_combiner.proofs.Learning.{learns_from, idle_still, asking_as_was}
use Rattle.ipc_combiner.proofs.states.Idle.hear.Goals as goal

pub invariant_of-self : goal.invariant_of-self
invariant_of-self c = record { own = idle_still c.args.service.now.list c.args.self.now.joined c.args.other.now.joined c.hear.new.self c.hear.ensures.learns c.args.self.now.own c.hear.ensures.client.0 }

pub invariant_of-other : goal.invariant_of-other
invariant_of-other c = record { own = asking_as_was c.args.service.now.list c.args.other.now.joined c.hear.new.other c.args.other.now.own c.hear.ensures.other.1 }

pub returns-clause-learns : goal.returns-clause-learns
returns-clause-learns c = learns_from c.args.service.now.list c.args.self.now.joined c.args.other.now.joined c.hear.new.self c.hear.ensures.learns c.hear.new.other c.requires c.hear.ensures.client c.hear.ensures.other.0 c.hear.ensures.other.1
