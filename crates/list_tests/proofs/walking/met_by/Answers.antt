use Rattle.std.proofs.Common.{IfSome, ◌∙◌, sym, subst}
use Rattle.pub_rule.specs.Lists.{IsOn}
use Rattle.pub_list.specs.Clients.{seen}
use Rattle.list_tests.proofs.Visits.{next_is_on}
use Rattle.list_tests.proofs.walking.met_by.Goals as goal

pub loop-count-preserved : goal.loop-count-preserved
loop-count-preserved c = let did = c.next-at.ensures in let list = seen c.next-at.new.self in (
  did.client.1.0 ∙ c.loop-count.invariant.0,
  subst (λ at. IfSome at (λ x. IsOn x list)) (sym did.next) (next_is_on c.in-Some.client list),
)
