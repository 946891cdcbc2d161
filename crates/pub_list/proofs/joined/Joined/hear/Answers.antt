use Rattle.std.proofs.Common.{sym, refl, subst, inl}
use Rattle.pub_rule.specs.Work.{IsMarked}
use Rattle.pub_list.specs.Joined.{work}
use Rattle.pub_list.proofs.joined.Joined.hear.Goals as goal

pub returns-clause-heard : goal.returns-clause-heard
returns-clause-heard g c = let other = c.args.other.now in let t = c.learn.ensures.learns.3 in subst (λ v. IsMarked other.client (work other.seat).posts v.work.heard) (sym t.5) (inl (sym other.own.working.own, refl))
