use Rattle.std.proofs.Common.{All, length, sym, ap, subst, arith, ◌∙◌}
use Rattle.std.proofs.lemmas.List.{length_push}
use Rattle.std.proofs.lemmas.List.Elements.{All-nil, All-head, All-tail, All-push}
use Rattle.ipc_combiner.specs.Closing.{IsClientOf}
use Rattle.ipc_combiner.specs.States.{IsOf}
use Rattle.thread_tests.proofs.services.closed.Goals as goal

pub loop-each-init : goal.loop-each-init
loop-each-init g c = let list = c.args.service.list in let gives = c.into_iter-each-iterator.ensures.into_iter_gives.0 in (
  subst (All (λ a. IsOf list a.idle.joined)) (sym gives) c.requires.service,
  subst (All (λ x. IsClientOf list x)) (sym c.new-clients.ensures.items) (All-nil (λ x. IsClientOf list x)),
  let none = ap length c.new-clients.ensures.items in let all = ap length gives in omega (arith, none, all),
)

pub loop-each-preserved : goal.loop-each-preserved
loop-each-preserved g c = let i = c.loop-each.invariant in let list = c.args.service.list in let more = c.in_ok-push.ensures.items in let rest = c.next.new.self.rest.items in
    let left = subst (All (λ a. IsOf list a.idle.joined)) c.in-Some.ensures.steps.0 i.0 in (
      All-tail (λ a. IsOf list a.idle.joined) c.in-Some.each rest left,
      subst (All (λ x. IsClientOf list x)) (sym more) (All-push (λ x. IsClientOf list x) _ _ i.1 (All-head (λ a. IsOf list a.idle.joined) c.in-Some.each rest left)),
      let size = ap length more ∙ length_push _ _ in let gone = ap length c.in-Some.ensures.steps.0 in let was = i.2 in omega (arith, size, gone, was),
    )
