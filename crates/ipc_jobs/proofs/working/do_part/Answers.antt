use Rattle.std.proofs.Common.{subst}
use Rattle.pub_list.specs.Clients.{work}
use Rattle.ipc_jobs.specs.Working.{HasAsked}
use Rattle.ipc_jobs.proofs.Making.{done_get, done_plain, done_removal}
use Rattle.ipc_jobs.proofs.working.do_part.Goals as goal

pub returns-in-Plain-clause-done : goal.returns-in-Plain-clause-done
returns-in-Plain-clause-done g c = let old = c.args.caller in let new = c.ask.result.0 in
    done_plain c.args.now c.args.part c.in-Plain.call c.ask.result.1 (work old.idle.joined) (work new.idle.joined) old.memory new.memory c.in-Plain.is c.ask.ensures.asked

pub returns-in-Some-clause-done : goal.returns-in-Some-clause-done
returns-in-Some-clause-done g c = let old = c.args.caller in let got = c.ask-caller.result.0 in let new = c.ask-in-Some.result.0 in
    let v = work old.idle.joined in let u = work got.idle.joined in
    done_removal c.args.now c.in-RemoveByKey.key c.in-Some.id c.args.part c.in-RemoveByKey.kind c.get_of.result c.ask-in-Some.result.1 v u (work new.idle.joined) old.memory got.memory new.memory c.in-RemoveByKey.is c.get_of.ensures
    (subst (λ o. HasAsked (c.args.now, c.get_of.result) o v u old.memory got.memory) c.in-Some.is c.ask-caller.ensures.asked) c.ask-in-Some.ensures.asked

pub returns-in-None-clause-done : goal.returns-in-None-clause-done
returns-in-None-clause-done g c = let old = c.args.caller in let got = c.ask-caller.result.0 in
    let v = work old.idle.joined in let u = work got.idle.joined in
    done_get c.args.now c.in-RemoveByKey.key c.args.part c.in-RemoveByKey.kind c.get_of.result v u old.memory got.memory c.in-RemoveByKey.is c.get_of.ensures
    (subst (λ o. HasAsked (c.args.now, c.get_of.result) o v u old.memory got.memory) c.in-None.is c.ask-caller.ensures.asked)
