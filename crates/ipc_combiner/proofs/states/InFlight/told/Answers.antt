use Rattle.ipc_combiner.proofs.Learning.{learns_from, asking_still, idle_as_was}
use Rattle.ipc_combiner.proofs.states.InFlight.told.Goals as goal

pub invariant_of-self : goal.invariant_of-self
invariant_of-self c = record { own = asking_still c.args.service.now.list c.args.self.now.joined c.args.other.now.joined c.told.new.self c.told.ensures.learns c.args.self.now.own }

pub invariant_of-other : goal.invariant_of-other
invariant_of-other c = record { own = idle_as_was c.args.service.now.list c.args.other.now.joined c.told.new.other c.args.other.now.own c.told.ensures.other.0 c.told.ensures.other.1 }

pub returns-clause-learns : goal.returns-clause-learns
returns-clause-learns c = learns_from c.args.service.now.list c.args.self.now.joined c.args.other.now.joined c.told.new.self c.told.ensures.learns c.told.new.other c.requires c.told.ensures.client c.told.ensures.other.0 c.told.ensures.other.1
