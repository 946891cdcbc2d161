use Rattle.std.proofs.Common.{◌∙◌, ap, arith}
use Rattle.pub_rule.proofs.Numbers.{head_within}
use Rattle.pub_list.proofs.Seats.{head_loads, first_read, client_read}
use Rattle.pub_list.proofs.joined.Joined.first.Goals as goal

pub load-link-requires : goal.load-link-requires
load-link-requires g c = let sized = c.args.list.now.sized.0 in let word = c.head_word.ensures in let within = head_within c.args.list.now.clients in
    (c.requires, omega arith, head_loads g.S.Served _ _ _ _ _ word)

pub invariant_of-self : goal.invariant_of-self
invariant_of-self g c = let did = c.load-link.ensures in let self = c.args.self.now in let list = c.args.list.now in
    let read = first_read self.client list.clients _ self.seat c.load-link.new.seat self.own (ap (λ z. z.slots) c.requires) list.sized.1 did.0 c.head_word.result c.load-link.result did.2 in record { own = read.0 }

pub client_of-requires : goal.client_of-requires
client_of-requires g c = let did = c.load-link.ensures in let self = c.args.self.now in let list = c.args.list.now in let few = list.sized.4 in
    let read = first_read self.client list.clients _ self.seat c.load-link.new.seat self.own (ap (λ z. z.slots) c.requires) list.sized.1 did.0 c.head_word.result c.load-link.result did.2 in let small = read.2 in omega arith

pub returns-clause-seen : goal.returns-clause-seen
returns-clause-seen g c = let did = c.load-link.ensures in let self = c.args.self.now in let list = c.args.list.now in
    let read = first_read self.client list.clients _ self.seat c.load-link.new.seat self.own (ap (λ z. z.slots) c.requires) list.sized.1 did.0 c.head_word.result c.load-link.result did.2 in read.1.0

pub returns-clause-listed : goal.returns-clause-listed
returns-clause-listed g c = let did = c.load-link.ensures in let self = c.args.self.now in let list = c.args.list.now in
    let read = first_read self.client list.clients _ self.seat c.load-link.new.seat self.own (ap (λ z. z.slots) c.requires) list.sized.1 did.0 c.head_word.result c.load-link.result did.2 in read.1.1

pub returns-clause-first : goal.returns-clause-first
returns-clause-first g c = let did = c.load-link.ensures in let self = c.args.self.now in let list = c.args.list.now in
    let read = first_read self.client list.clients _ self.seat c.load-link.new.seat self.own (ap (λ z. z.slots) c.requires) list.sized.1 did.0 c.head_word.result c.load-link.result did.2 in c.client_of.ensures ∙ client_read c.load-link.result _ read.3
