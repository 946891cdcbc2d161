use Rattle.std.proofs.Common.{◌≡◌, List, [], ◌++◌, map, refl, sym, ap, ◌∙◌, subst, arith, append-nil}
use Rattle.pub_list.specs.Clients.{work}
use Rattle.ipc_jobs.specs.Calls.{AreCallsOf, Replied, timed}
use Rattle.ipc_jobs.proofs.Making.{done_more, made_more, made_none, none_left}
use Rattle.ipc_jobs.proofs.working.do_job.Goals as goal

pub loop-part-init : goal.loop-part-init
loop-part-init g c = (
  c.requires,
  refl,
  [],
  made_none (work c.args.caller.idle.joined) c.args.caller.memory,
  λ more are. subst (λ xs. AreCallsOf more (map (λ part. (c.args.job.now, part)) xs)) (c.into_iter-part-iterator.ensures.into_iter_gives.0 ∙ c.into_vec-part-items.ensures) are,
)

pub loop-part-preserved : goal.loop-part-preserved
loop-part-preserved g c = let i = c.loop-part.invariant in let does = c.do_part-caller.ensures.done in let rest = c.next.new.self.rest.items in (
  c.do_part-caller.ensures.service,
  c.do_part-caller.ensures.client ∙ i.1,
  i.2 ++ does.0,
  made_more i.2 does.0 (work c.args.caller.idle.joined) (work c.loop-part.caller.idle.joined) (work c.do_part-caller.result.idle.joined) c.args.caller.memory c.loop-part.caller.memory c.do_part-caller.result.memory i.3 does.2,
  done_more c.args.job.now c.in-Some.part rest (timed c.args.job) i.2 does.0 (λ more are. i.4 more (subst (λ xs. AreCallsOf more (map (λ part. (c.args.job.now, part)) xs)) (sym c.in-Some.ensures.steps.0) are)) does.1,
)

pub returns-clause-done : goal.returns-clause-done
returns-clause-done g c = let i = c.loop-part.invariant in
    let none : c.loop-part.part-iterator.rest.items ≡ [] = none_left _ (let size = c.loop-part.part-iterator.rest.ok.0 in let gone = c.in-None.ensures.steps.0 in omega arith) in
    (i.2, subst (λ (cs : List Replied). AreCallsOf cs (timed c.args.job)) (append-nil i.2) (i.4 [] (ap (map (λ part. (c.args.job.now, part))) none)), i.3)
