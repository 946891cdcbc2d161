use Rattle.std.proofs.Common.{All, sym, subst}
use Rattle.std.proofs.lemmas.List.Elements.{All-pop, All-push}
use Rattle.ipc_combiner.specs.States.{IsOf}
use Rattle.thread_tests.proofs.passes.pass.Goals as goal

pub returns : goal.returns
returns c = let list = c.args.service.now.list in
    let rest = (All-pop (λ f. IsOf list f.joined) c.args.flights.now.items c.pop.new.self.items c.pop.result c.pop.ensures.items c.requires).0 in
    subst (All (λ f. IsOf list f.joined)) (sym c.in_ok-push.ensures.items) (All-push (λ f. IsOf list f.joined) _ _ rest c.combine.ensures.0)
