use Rattle.std.proofs.Common.{◌∙◌, subst, Ok}
use Rattle.pub_list.specs.Asking.{IsCollected}
use Rattle.pub_list.specs.Clients.{view}
use Rattle.pub_list.specs.declared.asking.Answer.TheVariants as answers_of
use Rattle.pub_list.specs.Records.{number_of}
use Rattle.pub_list.proofs.Marking.{goes_further}
use Rattle.ipc_combiner.specs.Entries.{legal, own, replies}
use Rattle.ipc_combiner.specs.States.{first_entries}
use Rattle.ipc_combiner.proofs.Polling.{done, seen_goes}
use Rattle.ipc_combiner.proofs.states.InFlight.poll.Goals as goal

pub returns-in-Ok-Reply : goal.returns-in-Ok-Reply
returns-in-Ok-Reply c =
    let self = c.args.self.joined in
    let v = view self in
    let u = view c.look.new.self in
    let w = view c.collect.new.self in
    let x = c.in-Ok-Reply.reply in
    let t = c.look.ensures.own c.client-own.ensures in
    let did = subst (λ q. IsCollected legal own replies q u w (Ok (answers_of.Reply x))) c.look.ensures.client.0 (subst (λ a. IsCollected legal own replies c.look.new.self.client u w (Ok a)) c.in-Ok-Reply.field-0-is c.in-Ok-Reply.ensures.collected) in (
      (
        c.collect.ensures.client.1 ∙ c.look.ensures.client.1 ∙ c.requires.0,
        goes_further (first_entries c.args.service.now.list) v.work.seen w.work.seen c.requires.1 (seen_goes self.client v u w x t.0 (number_of c.look.result) t.1 t.4 did),
      ),
      c.collect.ensures.client.0 ∙ c.look.ensures.client.0,
      done self.client v u w x t.0 (number_of c.look.result) t.1 t.4 did,
    )
