use Rattle.std.proofs.Common.{◌≡◌, ◌++◌, All, map, sym, ap, ◌∙◌, subst}
use Rattle.std.proofs.lemmas.List.Elements.{All-tail, All-push}
use Rattle.std.specs.Arc.{arc_value}
use Rattle.ipc_combiner.specs.States.{IsUnjoinedOf}
use Rattle.ipc_member.specs.Members.{number_of, service_of}
use Rattle.ipc_member.proofs.Numbers.{fresh_number, one_more}
use Rattle.ipc_member.proofs.opening.joined.Goals as goal

pub loop-client-preserved : goal.loop-client-preserved
loop-client-preserved c = let i = c.loop-client.invariant in let service = arc_value c.args.service.now in let rest = c.next.new.self.rest.items in let ms = c.loop-client.members.items in (
  All-tail (λ u. IsUnjoinedOf service.list u.fresh) c.in-Some.client rest (subst (All (λ u. IsUnjoinedOf service.list u.fresh)) c.in-Some.ensures.steps.0 i.0),
  subst (All (λ m. service_of m ≡ service)) (sym c.in_ok-push.ensures.items) (All-push (λ m. service_of m ≡ service) _ _ i.1 c.in_ok-join.ensures.service),
  ap (λ xs. map number_of xs ++ map fresh_number rest) c.in_ok-push.ensures.items ∙ one_more ms c.in_ok-join.field-0 c.in-Some.client rest c.in_ok-join.ensures.client
      ∙ ap (λ xs. map number_of ms ++ map fresh_number xs) (sym c.in-Some.ensures.steps.0) ∙ i.2,
)
