use Rattle.std.proofs.Common.{◌∙◌, sym, ap, subst}
use Rattle.pub_rule.specs.Work.{GoesOn}
use Rattle.pub_list.specs.Clients.{view, IsSame}
use Rattle.pub_list.specs.Passing.{HasPassed, HasToldGate, KeepsMarks}
use Rattle.pub_list.proofs.Marking.{goes_further}
use Rattle.ipc_combiner.specs.Entries.{legal}
use Rattle.ipc_combiner.proofs.Learning.{still_of, met_another}
use Rattle.ipc_combiner.proofs.states.Idle.combine_with.Goals as goal

pub returns-in-Ok-clause-tried : goal.returns-in-Ok-clause-tried
returns-in-Ok-clause-tried g c =
    let self = c.args.self.now.joined in
    let v = view self in
    let u = view c.combine_with.new.self in
    let w = view c.look.new.self in
    let t = c.look.ensures.own (c.client-own.ensures ∙ sym c.in-Ok.ensures.client.0) in
    let far = c.in-Ok.ensures.far in
    let did = c.in-Ok.ensures.passed in
    let same : IsSame self c.look.new.self = (c.look.ensures.client.0 ∙ c.in-Ok.ensures.client.0, c.look.ensures.client.1 ∙ c.in-Ok.ensures.client.1) in
    let goes = goes_further v.work.seen u.work.seen w.work.seen far.4 (subst (λ z. GoesOn u.work.seen z.work.seen) (sym t.4) t.1) in (
      still_of c.args.service.now.list self c.look.new.self c.requires same goes,
      same.0,
      (
        subst (λ z. HasPassed c.args.service.now.list.clients self.client v z) (sym t.4) record {
          begun = did.begun;
          met = did.met;
          listed = did.listed;
          visited = did.visited;
          heard = did.heard;
          own = did.own;
        },
        (ap (λ z. z.work.stage) t.4 ∙ far.0, ap (λ z. z.work.posts) t.4 ∙ far.1, ap (λ z. z.work.entered) t.4 ∙ far.2, ap (λ z. z.work.got) t.4 ∙ far.3, goes),
        subst (λ z. KeepsMarks v z) (sym t.4) c.in-Ok.ensures.marks,
        ap (λ z. z.walk.known) t.4 ∙ c.in-Ok.ensures.told,
        subst (λ z. legal z.work.seen) (sym t.4) t.3,
      ),
    )

pub returns-in-Ok-clause-gate : goal.returns-in-Ok-clause-gate
returns-in-Ok-clause-gate g c =
    let t = c.look.ensures.own (c.client-own.ensures ∙ sym c.in-Ok.ensures.client.0) in
    subst (λ z. HasToldGate (g.G.PassGate.was_told c.args.gate.now) c.args.service.now.list.clients z) (sym t.4) c.in-Ok.ensures.gate

pub returns-in-Err-clause-tried : goal.returns-in-Err-clause-tried
returns-in-Err-clause-tried g c = let did = c.in-Err.ensures in met_another c.args.service.now.list c.args.self.now.joined c.combine_with.new.self c.in-Err.client c.requires did.client did.far.4 did.busy did.told
