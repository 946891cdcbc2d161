use Rattle.std.proofs.Common.{IfSome, subst}
use Rattle.std.proofs.lemmas.List.Elements.{All-pop}
use Rattle.ipc_combiner.specs.States.{IsOf}
use Rattle.thread_tests.proofs.services.one_of.Goals as goal

pub returns-clause-one : goal.returns-clause-one
returns-clause-one g c = let list = c.args.service.now.list in
    subst (λ r. IfSome r (λ i. IsOf list i.joined)) c.in-Some.is (All-pop (λ i. IsOf list i.joined) c.args.idles.now.items c.pop.new.self.items c.pop.result c.pop.ensures.items c.requires).1

pub returns-clause-rest : goal.returns-clause-rest
returns-clause-rest g c = let list = c.args.service.now.list in
    (All-pop (λ i. IsOf list i.joined) c.args.idles.now.items c.pop.new.self.items c.pop.result c.pop.ensures.items c.requires).0
