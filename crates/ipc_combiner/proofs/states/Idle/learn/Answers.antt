use Rattle.ipc_combiner.proofs.Learning.{learns_from, idle_still, idle_as_was}
use Rattle.ipc_combiner.proofs.states.Idle.learn.Goals as goal

pub invariant_of-self : goal.invariant_of-self
invariant_of-self c = record { own = idle_still c.args.service.now.list c.args.self.now.joined c.args.other.now.joined c.learn.new.self c.learn.ensures.learns c.args.self.now.own c.learn.ensures.client.0 }

pub invariant_of-other : goal.invariant_of-other
invariant_of-other c = record { own = idle_as_was c.args.service.now.list c.args.other.now.joined c.learn.new.other c.args.other.now.own c.learn.ensures.other.0 c.learn.ensures.other.1 }

pub returns : goal.returns
returns c = learns_from c.args.service.now.list c.args.self.now.joined c.args.other.now.joined c.learn.new.self c.learn.ensures.learns c.learn.new.other c.requires c.learn.ensures.client c.learn.ensures.other.0 c.learn.ensures.other.1
