use Rattle.std.proofs.Common.{ℕ, ◌∙◌, sym, ap, arith, nat_eq}
use Rattle.std.proofs.lemmas.Bool.{true≢false}
use Rattle.pub_rule.proofs.Numbers.{state_within}
use Rattle.pub_list.proofs.Working.{is_client}
use Rattle.pub_list.proofs.Taking.{posted_peeks, peeked_dealt, peeked_joined}
use Rattle.pub_list.proofs.joined.Joined.is_posted.Goals as goal

pub load-requires : goal.load-requires
load-requires g c = let self = c.args.self.now in let list = c.args.list.now in let sized = list.sized.0 in let within = state_within c.args.client list.clients c.requires.client in let word = c.state_word.ensures in
    (c.requires.list, omega arith, posted_peeks g.S.Served _ _ _ _ _ self.client c.args.client list.clients word list.sized.2 (is_client self.client _ _ _ self.own.working) c.requires.combines c.requires.client)

pub invariant_of-self : goal.invariant_of-self
invariant_of-self g c = let self = c.args.self.now in let did = c.load.ensures in record { own = peeked_joined self.client c.args.client c.state_word.result c.load.result self.seat c.load.new.seat self.own c.state_word.ensures did.2 did.0 }

pub returns-clause-other : goal.returns-clause-other
returns-clause-other g c = λ other. let self = c.args.self.now in
    peeked_dealt self.client c.args.client c.state_word.result c.load.result self.seat c.load.new.seat self.own c.state_word.ensures c.load.ensures.2 (λ e. true≢false (ap (λ (k : ℕ). nat_eq k 1) (sym e) ∙ other))
