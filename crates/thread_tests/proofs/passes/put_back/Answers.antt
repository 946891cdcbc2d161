use Rattle.std.proofs.Common.{All, sym, subst}
use Rattle.std.proofs.lemmas.List.Elements.{All-push}
use Rattle.ipc_combiner.specs.States.{IsOf}
use Rattle.thread_tests.proofs.passes.put_back.Goals as goal

pub returns : goal.returns
returns c = let list = c.args.service.now.list in
    subst (All (λ i. IsOf list i.joined)) (sym c.in_ok-push.ensures.items) (All-push (λ i. IsOf list i.joined) _ _ c.requires.rest c.requires.one)
