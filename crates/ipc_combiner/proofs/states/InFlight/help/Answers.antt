use Rattle.std.proofs.Common.{subst, sym}
use Rattle.pub_list.specs.Clients.{work}
use Rattle.ipc_combiner.specs.Asking.{IsFurther}
use Rattle.ipc_combiner.proofs.Further.{combined}
use Rattle.ipc_combiner.proofs.states.InFlight.help.Goals as goal

pub returns-in-Passed-clause-further : goal.returns-in-Passed-clause-further
returns-in-Passed-clause-further c = subst (λ w. IsFurther (work c.args.self.now.joined) w) (sym c.wake.ensures.work)
    (combined c.args.service.now.list c.args.self.now.joined c.combine.new.self.joined c.combine.result c.combine.ensures.2)

pub returns-in_default-clause-further : goal.returns-in_default-clause-further
returns-in_default-clause-further c =
    combined c.args.service.now.list c.args.self.now.joined c.combine.new.self.joined c.combine.result c.combine.ensures.2
