use Rattle.ipc_combiner.proofs.Learning.{still_of, met_another}
use Rattle.ipc_combiner.proofs.states.InFlight.combine_with.Goals as goal

pub returns-in-Ok-clause-tried : goal.returns-in-Ok-clause-tried
returns-in-Ok-clause-tried g c = let did = c.in-Ok.ensures in
    (still_of c.args.service.now.list c.args.self.now.joined c.combine_with.new.self c.requires did.client did.far.4, did.client.0, (did.passed, did.far, did.marks, did.told, did.legal))

pub returns-in-Err-clause-tried : goal.returns-in-Err-clause-tried
returns-in-Err-clause-tried g c = let did = c.in-Err.ensures in met_another c.args.service.now.list c.args.self.now.joined c.combine_with.new.self c.in-Err.client c.requires did.client did.far.4 did.busy did.told
