use Rattle.pub_rule.proofs.Clientwork.{post}
use Rattle.pub_rule.proofs.work_laws.post.Goals as goal

pub returns : goal.returns
returns g c = λ n. post g.S.Served n
