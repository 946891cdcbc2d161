use Rattle.std.proofs.Common.{arith, ap, sym, ◌∙◌}
use Rattle.pub_rule.proofs.Numbers.{state_within}
use Rattle.pub_list.specs.Closing.{list_of, work_of}
use Rattle.pub_list.proofs.Handing.{give_at}
use Rattle.pub_list.proofs.closing.Closing.add.Goals as goal

pub load-requires : goal.load-requires
load-requires g c = let closing = c.args.self.now in let joined = c.in-Joined.joined in let is = sym c.in-Joined.is in let sized = closing.own.0.0 in let slots = closing.own.0.1 in let word = c.state_word.ensures in let list = ap (λ e. list_of e) is ∙ c.requires.list in
    let free = ap (λ e. (work_of e).holds) is ∙ c.requires.unheld in let at = ap (λ z. z.slots) list in let small = joined.own.small in let within = state_within joined.client closing.clients (omega arith) in
    (list, omega arith, give_at g.S.Served _ _ _ joined.client _ _ _ word joined.own.working free)
