use Rattle.pub_list.specs.Clients.{view}
use Rattle.ipc_combiner.proofs.Handing.{is_client, is_lawful, is_replied, may_answer, may_park, replied, replied_far, parked, parked_far, far_then}
use Rattle.ipc_combiner.proofs.serving.SharedServes.serve.Goals as goal

pub apply-requires-clause-known : goal.apply-requires-clause-known
apply-requires-clause-known c = is_client c.args.list.now.clients c.args.client c.args.call.0 c.args.call.1 (view c.args.combiner.now) c.args.state c.requires.taken

pub apply-requires-clause-legal : goal.apply-requires-clause-legal
apply-requires-clause-legal c = is_lawful c.args.list.now.clients c.args.client c.args.call.0 c.args.call.1 (view c.args.combiner.now) c.args.state c.requires.taken

pub apply-requires-clause-free : goal.apply-requires-clause-free
apply-requires-clause-free c = is_replied c.args.list.now.clients c.args.client c.args.call.0 c.args.call.1 (view c.args.combiner.now) c.args.state c.requires.taken

pub answer-entered-requires-clause-answer : goal.answer-entered-requires-clause-answer
answer-entered-requires-clause-answer c =
    may_answer c.args.list.now.clients c.args.client c.args.call.0 c.args.call.1 (view c.args.combiner.now) c.args.state c.requires.taken c.apply.new.self c.in-Ok.effects.own c.in-Ok.effects.others.items c.in-Ok.ensures.ok c.apply.ensures.keeping c.in-Some.reply c.in-Some.is

pub mark_parked-parked-requires-clause-park : goal.mark_parked-parked-requires-clause-park
mark_parked-parked-requires-clause-park c =
    may_park c.args.list.now.clients c.args.client c.args.call.0 c.args.call.1 (view c.args.combiner.now) c.args.state c.requires.taken c.apply.new.self c.in-Ok.effects.own c.in-Ok.effects.others.items c.in-Ok.ensures.ok c.apply.ensures.keeping c.in-None.is

pub hand_out-requires-clause-handing : goal.hand_out-requires-clause-handing
hand_out-requires-clause-handing c =
    replied c.args.list.now.clients c.args.client c.args.call.0 c.args.call.1 (view c.args.combiner.now) c.args.state c.requires.taken c.apply.new.self c.in-Ok.effects.own c.in-Ok.effects.others.items c.in-Ok.ensures.ok c.apply.ensures.keeping c.in-Some.reply c.in-Some.is (view c.answer-entered.new.self) c.answer-entered.result c.answer-entered.ensures.answered c.answer-entered.ensures.state

pub hand_out-requires-in-None-clause-handing : goal.hand_out-requires-in-None-clause-handing
hand_out-requires-in-None-clause-handing c =
    parked c.args.list.now.clients c.args.client c.args.call.0 c.args.call.1 (view c.args.combiner.now) c.args.state c.requires.taken c.apply.new.self c.in-Ok.effects.own c.in-Ok.effects.others.items c.in-Ok.ensures.ok c.apply.ensures.keeping c.in-None.is (view c.mark_parked-parked.new.self) c.mark_parked-parked.result c.mark_parked-parked.ensures.parked c.mark_parked-parked.ensures.state

pub returns-in-Some-clause-far : goal.returns-in-Some-clause-far
returns-in-Some-clause-far c =
    let answered = view c.answer-entered.new.self in
    far_then c.args.client (view c.args.combiner.now) answered (view c.hand_out.new.combiner)
    (replied_far c.args.list.now.clients c.args.client c.args.call.0 c.args.call.1 (view c.args.combiner.now) c.args.state c.requires.taken c.apply.new.self c.in-Ok.effects.own c.in-Ok.effects.others.items c.in-Ok.ensures.ok c.apply.ensures.keeping c.in-Some.reply c.in-Some.is answered c.answer-entered.ensures.answered) c.hand_out.ensures.far

pub returns-in-None-clause-far : goal.returns-in-None-clause-far
returns-in-None-clause-far c =
    let left = view c.mark_parked-parked.new.self in
    far_then c.args.client (view c.args.combiner.now) left (view c.hand_out-in-None.new.combiner)
    (parked_far c.args.list.now.clients c.args.client c.args.call.0 c.args.call.1 (view c.args.combiner.now) c.args.state c.requires.taken c.apply.new.self c.in-Ok.effects.own c.in-Ok.effects.others.items c.in-Ok.ensures.ok c.apply.ensures.keeping c.in-None.is left c.mark_parked-parked.ensures.parked) c.hand_out-in-None.ensures.far
