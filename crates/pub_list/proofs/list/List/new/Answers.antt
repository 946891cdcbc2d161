use Rattle.std.proofs.Common.{rules, ◌∙◌}
use Rattle.pub_list.proofs.Seats.{opens_at}
use Rattle.pub_list.proofs.list.List.new.Goals as goal

pub new-requires : goal.new-requires
new-requires g c = opens_at g.S.Served c.args.clients c.from.result c.word_count.result _ _ c.args.state c.of.result.value c.of.ensures c.requires.legal c.requires.uncalled c.from.ensures (c.deref.ensures.value ∙ search rules) c.word_count.ensures c.in_ok-slots.ensures
