use Rattle.std.proofs.Common.{All, sym, subst}
use Rattle.std.proofs.lemmas.List.Elements.{All-nil, All-head, All-tail, All-push}
use Rattle.ipc_combiner.specs.States.{IsOf}
use Rattle.thread_tests.proofs.still.choose.Goals as goal

pub loop-idle-init : goal.loop-idle-init
loop-idle-init c = let list = c.args.service.now.list in (
  subst (All (λ j. IsOf list j.joined)) (sym c.into_iter-idle-iterator.ensures.into_iter_gives.0) c.requires,
  tt,
  subst (All (λ j. IsOf list j.joined)) (sym c.new-others.ensures.items) (All-nil (λ j. IsOf list j.joined)),
)

pub loop-idle-preserved-then-client-number : goal.loop-idle-preserved-then-client-number
loop-idle-preserved-then-client-number c = let i = c.loop-idle.invariant in let list = c.args.service.now.list in let rest = c.next.new.self.rest.items in
    let left = subst (All (λ j. IsOf list j.joined)) c.in-Some.ensures.steps.0 i.0 in
    (All-tail (λ j. IsOf list j.joined) c.in-Some.idle rest left, All-head (λ j. IsOf list j.joined) c.in-Some.idle rest left, i.2)

pub loop-idle-preserved : goal.loop-idle-preserved
loop-idle-preserved c = let i = c.loop-idle.invariant in let list = c.args.service.now.list in let rest = c.next.new.self.rest.items in
    let left = subst (All (λ j. IsOf list j.joined)) c.in-Some.ensures.steps.0 i.0 in (
      All-tail (λ j. IsOf list j.joined) c.in-Some.idle rest left,
      i.1,
      subst (All (λ j. IsOf list j.joined)) (sym c.in_ok-push.ensures.items) (All-push (λ j. IsOf list j.joined) _ _ i.2 (All-head (λ j. IsOf list j.joined) c.in-Some.idle rest left)),
    )
