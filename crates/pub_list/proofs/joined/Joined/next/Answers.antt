use Rattle.std.proofs.Common.{◌∙◌, ap, arith}
use Rattle.pub_rule.proofs.Numbers.{next_within}
use Rattle.pub_list.proofs.Seats.{next_loads, next_read, client_read, known_small}
use Rattle.pub_list.proofs.joined.Joined.next.Goals as goal

pub load-link-requires : goal.load-link-requires
load-link-requires g c = let self = c.args.self.now in let list = c.args.list.now in let sized = list.sized.0 in let word = c.next_word.ensures in
    let within = next_within c.args.client list.clients (known_small self.client list.clients _ self.seat self.own (ap (λ z. z.slots) c.requires.list) list.sized.1 c.args.client c.requires.known) in
    (c.requires.list, omega arith, next_loads g.S.Served _ _ _ _ _ c.args.client word c.requires.known)

pub invariant_of-self : goal.invariant_of-self
invariant_of-self g c = let did = c.load-link.ensures in let self = c.args.self.now in let list = c.args.list.now in
    let read = next_read self.client list.clients _ self.seat c.load-link.new.seat self.own (ap (λ z. z.slots) c.requires.list) list.sized.1 did.0 c.next_word.result c.load-link.result c.args.client c.next_word.ensures c.requires.known did.2 in
    record { own = read.0 }

pub client_of-requires : goal.client_of-requires
client_of-requires g c = let did = c.load-link.ensures in let self = c.args.self.now in let list = c.args.list.now in let few = list.sized.4 in
    let read = next_read self.client list.clients _ self.seat c.load-link.new.seat self.own (ap (λ z. z.slots) c.requires.list) list.sized.1 did.0 c.next_word.result c.load-link.result c.args.client c.next_word.ensures c.requires.known did.2 in
    let small = read.2 in omega arith

pub returns-clause-seen : goal.returns-clause-seen
returns-clause-seen g c = let did = c.load-link.ensures in let self = c.args.self.now in let list = c.args.list.now in
    let read = next_read self.client list.clients _ self.seat c.load-link.new.seat self.own (ap (λ z. z.slots) c.requires.list) list.sized.1 did.0 c.next_word.result c.load-link.result c.args.client c.next_word.ensures c.requires.known did.2 in
    read.1.0

pub returns-clause-listed : goal.returns-clause-listed
returns-clause-listed g c = let did = c.load-link.ensures in let self = c.args.self.now in let list = c.args.list.now in
    let read = next_read self.client list.clients _ self.seat c.load-link.new.seat self.own (ap (λ z. z.slots) c.requires.list) list.sized.1 did.0 c.next_word.result c.load-link.result c.args.client c.next_word.ensures c.requires.known did.2 in
    read.1.1

pub returns-clause-next : goal.returns-clause-next
returns-clause-next g c = let did = c.load-link.ensures in let self = c.args.self.now in let list = c.args.list.now in
    let read = next_read self.client list.clients _ self.seat c.load-link.new.seat self.own (ap (λ z. z.slots) c.requires.list) list.sized.1 did.0 c.next_word.result c.load-link.result c.args.client c.next_word.ensures c.requires.known did.2 in
    c.client_of.ensures ∙ client_read c.load-link.result _ read.3
