use Rattle.std.proofs.Common.{ap, ◌∙◌}
use Rattle.std.specs.Arc.{arc_value}
use Rattle.ipc_combiner.specs.States.{keeping, opened}
use Rattle.ipc_member.proofs.Numbers.{if_ok, numbers}
use Rattle.ipc_member.proofs.opening.open_keeping.Goals as goal

pub returns-clause-opening : goal.returns-clause-opening
returns-clause-opening c = let service = arc_value c.in_ok-service-2.service in
    if_ok _ _ c.joined.result (λ ms all. (service, ap (λ s. opened s.list) c.in_ok-service-2.ensures.ok ∙ c.in_ok-service.ensures.opening, all, ap (λ s. keeping s.list) c.in_ok-service-2.ensures.ok ∙ c.in_ok-service.ensures.keeps)) c.joined.ensures.service

pub returns-clause-numbers : goal.returns-clause-numbers
returns-clause-numbers c =
    if_ok _ _ c.joined.result (λ ms same. numbers ms.items c.in_ok-service.unjoined.items same c.in_ok-service.ensures.numbers) c.joined.ensures.numbers
