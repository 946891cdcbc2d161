use Rattle.std.proofs.Common.{◌∙◌, subst}
use Rattle.pub_rule.specs.WorkSteps.{asking}
use Rattle.pub_list.specs.Clients.{work}
use Rattle.pub_list.specs.Records.{number_of}
use Rattle.ipc_combiner.specs.Asking.{HasDone, word_of}
use Rattle.ipc_combiner.proofs.Further.{further, still_further}
use Rattle.ipc_combiner.proofs.states.Idle.call.Goals as goal

pub loop-preserved : goal.loop-preserved
loop-preserved g c = let i = c.loop.invariant in let looked = c.in-Still.ensures in let first = asking c.args.self.joined.client (c.args.now, c.args.call) (work c.args.self.joined) in
    let tried = c.help.new.self.joined in let still = c.in-Still.still.joined in
    let is = further first (work c.loop.flight.joined) (work tried) i.4 c.help.ensures.further in (
      tt,
      tt,
      looked.0,
      looked.1 ∙ c.help.ensures.client ∙ i.3,
      still_further first (work tried) (work still) looked.2.0 (number_of (word_of c.in-Still.seen)) is looked.2.1 looked.2.3,
    )

pub returns-in-Done-clause-done : goal.returns-in-Done-clause-done
returns-in-Done-clause-done g c = let i = c.loop.invariant in let first = asking c.args.self.joined.client (c.args.now, c.args.call) (work c.args.self.joined) in let tried = c.help.new.self.joined in (
  work tried,
  further first (work c.loop.flight.joined) (work tried) i.4 c.help.ensures.further,
  subst (λ q. HasDone q (work tried) (work c.in-Done.idle.joined) c.in-Done.reply) (c.help.ensures.client ∙ i.3) c.in-Done.ensures.2,
)
