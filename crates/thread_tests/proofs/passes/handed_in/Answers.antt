use Rattle.std.proofs.Common.{All, sym, subst}
use Rattle.std.proofs.lemmas.List.Elements.{All-nil, All-head, All-tail, All-push}
use Rattle.ipc_combiner.specs.Closing.{IsClientOf}
use Rattle.ipc_combiner.specs.States.{IsOf}
use Rattle.thread_tests.proofs.passes.handed_in.Goals as goal

pub loop-each-init : goal.loop-each-init
loop-each-init c = let list = c.args.service.now.list in (
  subst (All (λ t. IsOf list t.idle.joined)) (sym c.into_iter-each-iterator.ensures.into_iter_gives.0) c.requires.told,
  subst (All (λ x. IsClientOf list x)) (sym c.new-clients.ensures.items) (All-nil (λ x. IsClientOf list x)),
  c.requires.third,
  c.requires.fourth,
)

pub loop-each-preserved : goal.loop-each-preserved
loop-each-preserved c = let i = c.loop-each.invariant in let list = c.args.service.now.list in let rest = c.next.new.self.rest.items in
    let left = subst (All (λ t. IsOf list t.idle.joined)) c.in-Some.ensures.steps.0 i.0 in (
      All-tail (λ t. IsOf list t.idle.joined) c.in-Some.each rest left,
      subst (All (λ x. IsClientOf list x)) (sym c.in_ok-push.ensures.items) (All-push (λ x. IsClientOf list x) _ _ i.1 (All-head (λ t. IsOf list t.idle.joined) c.in-Some.each rest left)),
      i.2,
      i.3,
    )

pub returns : goal.returns
returns c = let i = c.loop-each.invariant in let list = c.args.service.now.list in
    let third = subst (All (λ x. IsClientOf list x)) (sym c.in_ok-push-2.ensures.items) (All-push (λ x. IsClientOf list x) _ _ i.1 i.2) in
    subst (All (λ x. IsClientOf list x)) (sym c.in_ok-push-3.ensures.items) (All-push (λ x. IsClientOf list x) _ _ third i.3)
