use Rattle.std.proofs.Common.{All, sym, subst}
use Rattle.std.proofs.lemmas.List.Elements.{All-tail, All-push}
use Rattle.ipc_combiner.specs.States.{IsOf, IsUnjoinedOf}
use Rattle.thread_tests.proofs.services.joined.Goals as goal

pub loop-client-preserved : goal.loop-client-preserved
loop-client-preserved g c = let i = c.loop-client.invariant in let list = c.args.service.now.list in (
  All-tail (λ u. IsUnjoinedOf list u.fresh) c.in-Some.client c.next.new.self.rest.items (subst (All (λ u. IsUnjoinedOf list u.fresh)) c.in-Some.ensures.steps.0 i.0),
  subst (All (λ j. IsOf list j.joined)) (sym c.in_ok-push.ensures.items) (All-push (λ j. IsOf list j.joined) _ _ i.1 c.combine.ensures.0),
)
