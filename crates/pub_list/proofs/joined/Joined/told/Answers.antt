use Rattle.std.proofs.Common.{◌∙◌, ap}
use Rattle.pub_list.specs.Joined.{work}
use Rattle.pub_list.proofs.Seats.{past_by}
use Rattle.pub_list.proofs.joined.Joined.told.Goals as goal

pub returns-clause-past : goal.returns-clause-past
returns-clause-past g c = λ h. let self = c.args.self.now in let other = c.args.other.now in let t = c.learn.ensures.learns.3 in ap (λ v. v.work.past) t.5 ∙ past_by (work self.seat).past _ self.client (work self.seat).posts (work other.seat).passed self.own.working.own h
