use Rattle.std.proofs.Common.{All, sym, subst}
use Rattle.std.proofs.lemmas.List.Elements.{All-nil, All-tail, All-push}
use Rattle.ipc_combiner.specs.States.{IsOf}
use Rattle.thread_tests.proofs.passes.all_posted.Goals as goal

pub loop-idle-init : goal.loop-idle-init
loop-idle-init c = let list = c.args.service.now.list in (
  subst (All (λ j. IsOf list j.joined)) (sym c.into_iter-idle-iterator.ensures.into_iter_gives.0) c.requires,
  subst (All (λ f. IsOf list f.joined)) (sym c.new-flights.ensures.items) (All-nil (λ f. IsOf list f.joined)),
)

pub loop-idle-preserved : goal.loop-idle-preserved
loop-idle-preserved c = let i = c.loop-idle.invariant in let list = c.args.service.now.list in (
  All-tail (λ j. IsOf list j.joined) c.in-Some.idle c.next.new.self.rest.items (subst (All (λ j. IsOf list j.joined)) c.in-Some.ensures.steps.0 i.0),
  subst (All (λ f. IsOf list f.joined)) (sym c.in_ok-push.ensures.items) (All-push (λ f. IsOf list f.joined) _ _ i.1 c.post.ensures.service),
)
