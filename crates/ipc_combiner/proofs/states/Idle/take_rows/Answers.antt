use Rattle.std.proofs.Common.{◌≡◌, ◌∙◌, ap, sym, subst, inl, refl}
use Rattle.pub_rule.specs.Work.{GoesOn, IsMarked}
use Rattle.pub_rule.specs.WorkSteps.{with_work, holding, released, seeing}
use Rattle.pub_list.specs.Clients.{view, IsSame}
use Rattle.pub_list.specs.Combining.{OwesNothing}
use Rattle.pub_list.specs.Records.{number_of}
use Rattle.pub_list.proofs.Marking.{goes_further}
use Rattle.ipc_combiner.specs.Entries.{replies}
use Rattle.ipc_combiner.specs.Parts.{Takes}
use Rattle.ipc_combiner.specs.Serving.{entries_in, history_of}
use Rattle.ipc_combiner.specs.States.{keeping, opened}
use Rattle.ipc_combiner.proofs.Closed.{saw_opening}
use Rattle.ipc_combiner.proofs.Learning.{still_of}
use Rattle.ipc_combiner.proofs.Taking.{tried}
use Rattle.ipc_combiner.proofs.states.Idle.take_rows.Goals as goal

pub release-requires-clause-state : goal.release-requires-clause-state
release-requires-clause-state c = c.take_rows-taken.ensures.entries ∙ sym (ap (λ z. z.work.seen) c.in-Ok.ensures.seized.2)

pub release-requires-clause-owed : goal.release-requires-clause-owed
release-requires-clause-owed c = let n = c.args.service.now.list.clients in
    subst (λ z. OwesNothing replies n z) (sym c.in-Ok.ensures.seized.2) (λ i lt. inl refl)

pub returns : goal.returns
returns c =
    let list = c.args.service.now.list in
    let self = c.args.self.now.joined in
    let v = view self in
    let x = view c.release.new.self in
    let w = view c.look.new.self in
    let state = c.in-Ok.state in
    let es = entries_in state in
    let seized = c.in-Ok.ensures.seized in
    let is_same : IsSame self c.release.new.self = (c.release.ensures.client.0 ∙ c.in-Ok.ensures.client.0, c.release.ensures.client.1 ∙ c.in-Ok.ensures.client.1) in
    let same : IsSame self c.look.new.self = (c.look.ensures.client.0 ∙ is_same.0, c.look.ensures.client.1 ∙ is_same.1) in
    let t = c.look.ensures.own (c.client-own.ensures ∙ sym is_same.0) in
    let gave : x ≡ with_work (released (holding es v.work)) v = c.release.ensures.released ∙ ap (λ z. with_work (released z.work) z) seized.2 in
    let all : w ≡ with_work (seeing t.0 (number_of c.look.result) (released (holding es v.work))) v =
    t.4 ∙ ap (λ z. with_work (seeing t.0 (number_of c.look.result) z.work) z) gave in
    let later : GoesOn es w.work.seen = subst (λ z. GoesOn es z.work.seen) (sym all) (subst (λ z. GoesOn z.work.seen t.0) gave t.1) in
    let goes = goes_further v.work.seen es w.work.seen seized.0 later in
    let opens = (saw_opening (keeping list) state.keeping (opened list) (history_of state) v.work.seen c.requires.1 seized.0).2 in
    tried list self c.look.new.self c.args.from c.take_rows-taken.result
    (record {
      service = still_of list self c.look.new.self c.requires same goes;
      client = same.0;
      history = es;
      saw = seized.0;
      sees = later;
      is_legal = seized.1;
      takes = subst (λ k. Takes k es c.args.from c.take_rows-taken.result) opens c.take_rows-taken.ensures.takes;
      far = (ap (λ z. z.work.stage) all, ap (λ z. z.work.posts) all, ap (λ z. z.work.entered) all, ap (λ z. z.work.got) all, goes);
      marks = (
        ap (λ z. z.work.heard) all,
        (λ r k m. subst (λ z. IsMarked r k z.work.passed) (sym all) m),
        (λ past. ap (λ z. z.work.past) all ∙ past),
      );
      heard = ap (λ z. z.walk.known) all;
      begun = ap (λ z. z.work.begun) all;
      met = ap (λ z. z.work.met) all;
    })
