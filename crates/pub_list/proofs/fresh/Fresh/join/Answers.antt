use Rattle.std.proofs.Common.{ℕ, ◌+◌, ◌≤◌, ◌∙◌, sym, refl, ap, subst, arith}
use Rattle.pub_rule.proofs.Numbers.{head_within, next_within, state_within}
use Rattle.pub_rule.specs.Lists.{link_to, head_of, IsListOf}
use Rattle.pub_rule.specs.declared.walk.Walk.{Walk}
use Rattle.pub_list.proofs.Seats.{head_loads, next_stores, head_exchanges, slot_fetches}
use Rattle.pub_list.proofs.Tries.{fewer, begins, tries_again, wins, walk_still, knows_now, is_joined, knows_itself, few_tries}
use Rattle.pub_list.proofs.fresh.Fresh.join.Goals as goal

pub load-head-requires : goal.load-head-requires
load-head-requires g c = let sized = c.args.list.now.sized.0 in let word = c.head_word.ensures in let within = head_within c.args.list.now.clients in
    (c.requires, omega arith, head_loads g.S.Served _ _ _ _ _ word)

pub loop-head-init : goal.loop-head-init
loop-head-init g c = let did = c.load-head.ensures in let self = c.args.self in let list = c.args.list.now in
    (did.0, begins self.client list.clients _ c.head_word.result c.load-head.result self.seat c.load-head.new.seat self.own (ap (λ z. z.slots) c.requires) list.sized.1 did.2)

pub store-requires : goal.store-requires
store-requires g c = let list = c.args.list.now in let sized = list.sized.0 in let word = c.next_word.ensures in let t = c.loop-head.invariant.1 in let within = next_within c.args.self.client list.clients t.small in
    (c.loop-head.invariant.0 ∙ c.requires, omega arith, next_stores g.S.Served _ _ _ _ _ c.args.self.client _ word t.role)

pub compare_exchange-found-requires : goal.compare_exchange-found-requires
compare_exchange-found-requires g c = let list = c.args.list.now in let sized = list.sized.0 in let word = c.head_word-in-loop-head.ensures in let t = c.loop-head.invariant.1 in let within = head_within list.clients in
    let did = c.store.ensures in let mid = ap (λ m. m.0.walk) did.2 in (
      did.0 ∙ (c.loop-head.invariant.0 ∙ c.requires),
      omega arith,
      head_exchanges g.S.Served _ _ _ _ _ c.args.self.client _ _ word (ap (λ v. v.role) mid ∙ t.role) (ap (λ v. v.stored) mid)
          (ap (λ v. link_to v.list) mid ∙ sym t.link) (ap (λ (x : ℕ). x + 1) c.from-number.ensures),
    )

pub load-requires : goal.load-requires
load-requires g c = let list = c.args.list.now in let did = c.compare_exchange-found.ensures in let put = c.store.ensures in let t = c.loop-head.invariant in
    let w = wins c.args.self.client list.clients _ c.head_word-in-loop-head.result c.loop-head.head (c.from-number.result + 1) c.compare_exchange-found.result c.loop-head.seat c.store.new.seat c.compare_exchange-found.new.seat t.1 list.sized.1 put.2 did.2 c.if-found-head.true (ap (λ z. z.slots) (did.0 ∙ (put.0 ∙ (t.0 ∙ c.requires)))) in let sized = list.sized.0 in let word = c.state_word.ensures in let within = state_within c.args.self.client list.clients t.1.small in
    (did.0 ∙ (put.0 ∙ (t.0 ∙ c.requires)), omega arith, slot_fetches g.S.Served _ _ _ _ _ c.args.self.client word (ap (λ z. z.stage) w.knows))

pub invariant_of-result : goal.invariant_of-result
invariant_of-result g c = let list = c.args.list.now in let did = c.compare_exchange-found.ensures in let put = c.store.ensures in let t = c.loop-head.invariant in
    let w = wins c.args.self.client list.clients _ c.head_word-in-loop-head.result c.loop-head.head (c.from-number.result + 1) c.compare_exchange-found.result c.loop-head.seat c.store.new.seat c.compare_exchange-found.new.seat t.1 list.sized.1 put.2 did.2 c.if-found-head.true (ap (λ z. z.slots) (did.0 ∙ (put.0 ∙ (t.0 ∙ c.requires)))) in let now = c.load.ensures in record { own = is_joined c.args.self.client (list.clients + 1) c.state_word.result c.load.result c.compare_exchange-found.new.seat c.load.new.seat w now.0 now.2 }

pub returns-then-found-head-clause-client : goal.returns-then-found-head-clause-client
returns-then-found-head-clause-client g c = let did = c.compare_exchange-found.ensures in let put = c.store.ensures in let t = c.loop-head.invariant in (refl, c.load.ensures.0 ∙ (did.0 ∙ (put.0 ∙ (t.0 ∙ c.requires))))

pub returns-then-found-head-clause-tries : goal.returns-then-found-head-clause-tries
returns-then-found-head-clause-tries g c = let list = c.args.list.now in let did = c.compare_exchange-found.ensures in let put = c.store.ensures in let t = c.loop-head.invariant in
    let w = wins c.args.self.client list.clients _ c.head_word-in-loop-head.result c.loop-head.head (c.from-number.result + 1) c.compare_exchange-found.result c.loop-head.seat c.store.new.seat c.compare_exchange-found.new.seat t.1 list.sized.1 put.2 did.2 c.if-found-head.true (ap (λ z. z.slots) (did.0 ∙ (put.0 ∙ (t.0 ∙ c.requires)))) in let now = c.load.ensures in subst (λ (v : Walk). (1 ≤ v.tries) × (v.tries ≤ list.clients)) (sym (walk_still c.args.self.client (list.clients + 1) c.state_word.result c.load.result c.compare_exchange-found.new.seat c.load.new.seat w now.0 now.2)) (few_tries c.args.self.client list.clients _ c.head_word-in-loop-head.result c.loop-head.head (c.from-number.result + 1) c.compare_exchange-found.result c.loop-head.seat c.store.new.seat c.compare_exchange-found.new.seat t.1 list.sized.1 put.2 did.2 c.if-found-head.true)

pub returns-then-found-head-clause-seen : goal.returns-then-found-head-clause-seen
returns-then-found-head-clause-seen g c = let list = c.args.list.now in let did = c.compare_exchange-found.ensures in let put = c.store.ensures in let t = c.loop-head.invariant in
    let w = wins c.args.self.client list.clients _ c.head_word-in-loop-head.result c.loop-head.head (c.from-number.result + 1) c.compare_exchange-found.result c.loop-head.seat c.store.new.seat c.compare_exchange-found.new.seat t.1 list.sized.1 put.2 did.2 c.if-found-head.true (ap (λ z. z.slots) (did.0 ∙ (put.0 ∙ (t.0 ∙ c.requires)))) in let now = c.load.ensures in ap (λ (v : Walk). head_of v.list) (walk_still c.args.self.client (list.clients + 1) c.state_word.result c.load.result c.compare_exchange-found.new.seat c.load.new.seat w now.0 now.2) ∙ (knows_itself c.args.self.client list.clients _ c.head_word-in-loop-head.result c.loop-head.head (c.from-number.result + 1) c.compare_exchange-found.result c.loop-head.seat c.store.new.seat c.compare_exchange-found.new.seat t.1 list.sized.1 put.2 did.2 c.if-found-head.true).0

pub returns-then-found-head-clause-listed : goal.returns-then-found-head-clause-listed
returns-then-found-head-clause-listed g c = let list = c.args.list.now in let did = c.compare_exchange-found.ensures in let put = c.store.ensures in let t = c.loop-head.invariant in
    let w = wins c.args.self.client list.clients _ c.head_word-in-loop-head.result c.loop-head.head (c.from-number.result + 1) c.compare_exchange-found.result c.loop-head.seat c.store.new.seat c.compare_exchange-found.new.seat t.1 list.sized.1 put.2 did.2 c.if-found-head.true (ap (λ z. z.slots) (did.0 ∙ (put.0 ∙ (t.0 ∙ c.requires)))) in let now = c.load.ensures in subst (λ (v : Walk). IsListOf list.clients v.list) (sym (walk_still c.args.self.client (list.clients + 1) c.state_word.result c.load.result c.compare_exchange-found.new.seat c.load.new.seat w now.0 now.2)) (knows_itself c.args.self.client list.clients _ c.head_word-in-loop-head.result c.loop-head.head (c.from-number.result + 1) c.compare_exchange-found.result c.loop-head.seat c.store.new.seat c.compare_exchange-found.new.seat t.1 list.sized.1 put.2 did.2 c.if-found-head.true).1

pub returns-then-found-head-clause-told : goal.returns-then-found-head-clause-told
returns-then-found-head-clause-told g c = let list = c.args.list.now in let did = c.compare_exchange-found.ensures in let put = c.store.ensures in let t = c.loop-head.invariant in
    let w = wins c.args.self.client list.clients _ c.head_word-in-loop-head.result c.loop-head.head (c.from-number.result + 1) c.compare_exchange-found.result c.loop-head.seat c.store.new.seat c.compare_exchange-found.new.seat t.1 list.sized.1 put.2 did.2 c.if-found-head.true (ap (λ z. z.slots) (did.0 ∙ (put.0 ∙ (t.0 ∙ c.requires)))) in let now = c.load.ensures in ap (λ (v : Walk). v.known) (walk_still c.args.self.client (list.clients + 1) c.state_word.result c.load.result c.compare_exchange-found.new.seat c.load.new.seat w now.0 now.2) ∙ w.told

pub returns-then-found-head-clause-work : goal.returns-then-found-head-clause-work
returns-then-found-head-clause-work g c = let list = c.args.list.now in let did = c.compare_exchange-found.ensures in let put = c.store.ensures in let t = c.loop-head.invariant in
    let w = wins c.args.self.client list.clients _ c.head_word-in-loop-head.result c.loop-head.head (c.from-number.result + 1) c.compare_exchange-found.result c.loop-head.seat c.store.new.seat c.compare_exchange-found.new.seat t.1 list.sized.1 put.2 did.2 c.if-found-head.true (ap (λ z. z.slots) (did.0 ∙ (put.0 ∙ (t.0 ∙ c.requires)))) in let now = c.load.ensures in knows_now c.args.self.client (list.clients + 1) c.state_word.result c.load.result c.compare_exchange-found.new.seat c.load.new.seat w now.0 now.2

pub loop-head-smaller : goal.loop-head-smaller
loop-head-smaller g c = let list = c.args.list.now in let did = c.compare_exchange-found.ensures in let put = c.store.ensures in let t = c.loop-head.invariant in
    let again = tries_again c.args.self.client list.clients _ c.head_word-in-loop-head.result c.loop-head.head (c.from-number.result + 1) c.compare_exchange-found.result c.loop-head.seat c.store.new.seat c.compare_exchange-found.new.seat t.1 list.sized.1 put.2 did.2 c.if-found-head.false in
    let more = again.1 in let less = fewer _ _ _ _ t.1 in omega arith

pub loop-head-preserved : goal.loop-head-preserved
loop-head-preserved g c = let list = c.args.list.now in let did = c.compare_exchange-found.ensures in let put = c.store.ensures in let t = c.loop-head.invariant in
    let again = tries_again c.args.self.client list.clients _ c.head_word-in-loop-head.result c.loop-head.head (c.from-number.result + 1) c.compare_exchange-found.result c.loop-head.seat c.store.new.seat c.compare_exchange-found.new.seat t.1 list.sized.1 put.2 did.2 c.if-found-head.false in
    (did.0 ∙ (put.0 ∙ t.0), again.0)
