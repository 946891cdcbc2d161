use Rattle.std.proofs.Common.{All, sym, subst}
use Rattle.std.proofs.lemmas.List.Elements.{All-nil, All-tail, All-push}
use Rattle.ipc_combiner.specs.States.{IsOf}
use Rattle.thread_tests.proofs.passes.all_told.Goals as goal

pub loop-flight-init : goal.loop-flight-init
loop-flight-init g c = let list = c.args.service.now.list in (
  subst (All (λ f. IsOf list f.joined)) (sym c.into_iter-flight-iterator.ensures.into_iter_gives.0) c.requires,
  subst (All (λ t. IsOf list t.idle.joined)) (sym c.new-told.ensures.items) (All-nil (λ t. IsOf list t.idle.joined)),
)

pub loop-flight-preserved : goal.loop-flight-preserved
loop-flight-preserved g c = let i = c.loop-flight.invariant in let list = c.args.service.now.list in (
  All-tail (λ f. IsOf list f.joined) c.in-Some.flight c.next.new.self.rest.items (subst (All (λ f. IsOf list f.joined)) c.in-Some.ensures.steps.0 i.0),
  subst (All (λ t. IsOf list t.idle.joined)) (sym c.in_ok-push.ensures.items) (All-push (λ t. IsOf list t.idle.joined) _ _ i.1 c.ended-idle.ensures),
)
