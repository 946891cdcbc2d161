use Rattle.std.proofs.Common.{All, sym, subst}
use Rattle.std.proofs.lemmas.List.Elements.{All-nil, All-push}
use Rattle.ipc_combiner.specs.Closing.{IsClientOf}
use Rattle.thread_tests.proofs.quiet.both.Goals as goal

pub returns-clause-service : goal.returns-clause-service
returns-clause-service c = let list = c.args.service.now.list in
    let none = subst (All (λ x. IsClientOf list x)) (sym c.new-clients.ensures.items) (All-nil (λ x. IsClientOf list x)) in
    let one = subst (All (λ x. IsClientOf list x)) (sym c.in_ok-push.ensures.items) (All-push (λ x. IsClientOf list x) _ _ none c.requires.alice) in
    subst (All (λ x. IsClientOf list x)) (sym c.in_ok-push-2.ensures.items) (All-push (λ x. IsClientOf list x) _ _ one c.requires.bob)
