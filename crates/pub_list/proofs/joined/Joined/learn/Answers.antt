use Rattle.std.proofs.Common.{◌∙◌, ap, arith}
use Rattle.pub_rule.proofs.Numbers.{head_within}
use Rattle.pub_rule.proofs.Splitting.{make_token, take_in}
use Rattle.pub_list.proofs.Working.{is_client}
use Rattle.pub_list.proofs.Seats.{is_taught, told_still, told_more, has_learned}
use Rattle.pub_rule.specs.declared.work.Stage.TheVariants.{Token}
use Rattle.pub_list.proofs.joined.Joined.learn.Goals as goal

pub split_seat-token-requires : goal.split_seat-token-requires
split_seat-token-requires g c = let list = c.args.list.now in let sized = list.sized.0 in let within = head_within list.clients in let other = c.args.other.now in
    (c.requires.other, omega arith, make_token g.S.Served _ _ other.client _ other.own.role (is_client other.client _ _ _ other.own.working))

pub invariant_of-other : goal.invariant_of-other
invariant_of-other g c = let did = c.split_seat-token.ensures in let other = c.args.other.now in record { own = told_still other.client other.seat c.split_seat-token.new.seat other.own did.0 did.2 }

pub join_seat-requires : goal.join_seat-requires
join_seat-requires g c = let list = c.args.list.now in let sized = list.sized.0 in let within = head_within list.clients in let did = c.split_seat-token.ensures in (
  c.requires.own,
  did.3 ∙ c.requires.other,
  ap (λ m. m.1) did.4,
  omega arith,
  take_in g.S.Served _ _ c.args.self.now.client _ c.args.other.now.client _ _ (is_client c.args.self.now.client _ _ _ c.args.self.now.own.working)
      (ap (λ m. m.0.walk.role) did.4) (ap (λ m. m.0.work.stage) did.4 ∙ ap (λ q. Token q) c.args.other.now.own.working.own),
)

pub invariant_of-self : goal.invariant_of-self
invariant_of-self g c = let self = c.args.self.now in let other = c.args.other.now in let told = c.split_seat-token.ensures in let did = c.join_seat.ensures in record {
  own = has_learned self.client other.client self.seat c.join_seat.new.seat other.seat c.split_seat-token.result self.own other.own _ c.requires.own c.requires.other did.0 told.4 did.2;
}

pub returns-clause-learns : goal.returns-clause-learns
returns-clause-learns g c = let self = c.args.self.now in let other = c.args.other.now in let told = c.split_seat-token.ensures in let did = c.join_seat.ensures in let look = c.look_own.ensures.own in (
  ap (λ v. v.walk.known) look.4 ∙ told_more self.client other.client self.seat c.join_seat.new.seat other.seat c.split_seat-token.result self.own other.own _ c.requires.own c.requires.other did.0 told.4 did.2,
  ap (λ v. v.walk.list) look.4 ∙ ap (λ m. m.0.walk.list) did.2,
  ap (λ v. v.walk.tries) look.4 ∙ ap (λ m. m.0.walk.tries) did.2,
  is_taught self.client other.client self.seat c.join_seat.new.seat other.seat c.split_seat-token.result self.own other.own _ c.requires.own c.requires.other did.0 told.4 did.2 g.S.Served.legal g.S.Served.own g.S.Served.replies c.look_own.new.self.seat c.look_own.result look,
)
