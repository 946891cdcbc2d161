use Rattle.std.proofs.Common.{◌≡◌, ◌+◌, [], length, refl, ap, ◌∙◌, subst, arith}
use Rattle.pub_list.specs.Clients.{work}
use Rattle.ipc_jobs.specs.Working.{Known}
use Rattle.ipc_jobs.proofs.Going.{counted_left, ends, goes_on, starts, stops}
use Rattle.ipc_jobs.proofs.Making.{none_left}
use Rattle.ipc_jobs.proofs.working.work.Goals as goal

pub loop-job-init : goal.loop-job-init
loop-job-init g c = let new = c.join-idle.ensures.new in (
  c.join-idle.ensures.service,
  c.join-idle.ensures.client,
  c.client-own.ensures ∙ c.join-idle.ensures.client,
  starts (g.G.Gate.was_told c.args.gate.now c.args.worker.client.fresh.client) c.args.worker.jobs.items c.into_iter-job-iterator.result.rest.items (work c.join-idle.result.joined) 0 c.into_iter-job-iterator.ensures.into_iter_gives.0
      (ap (λ (w : Known). w.entered) new) (ap (λ (w : Known). w.got) new) (ap (λ (w : Known). w.posts) new) refl,
)

pub loop-job-preserved : goal.loop-job-preserved
loop-job-preserved g c = let i = c.loop-job.invariant in let told = g.G.Gate.was_told c.args.gate.now in (
  c.do_job-caller.ensures.service,
  c.do_job-caller.ensures.client ∙ i.1,
  i.2,
  goes_on (told c.args.worker.client.fresh.client) c.args.worker.jobs.items c.loop-job.job-iterator.rest.items c.next.new.self.rest.items c.in-Some.job c.loop-job.nth (work c.loop-job.caller.idle.joined)
      (work c.do_job-caller.result.idle.joined) c.loop-job.caller.memory c.do_job-caller.result.memory
      c.in-Some.ensures.steps.0 i.3 c.do_job-caller.ensures.done (subst (λ k. told k (c.loop-job.nth + 1)) i.2 c.after.ensures),
)

pub overflow_add-nth : goal.overflow_add-nth
overflow_add-nth g c = let size = c.args.worker.jobs.ok.0 in
    let all = counted_left (g.G.Gate.was_told c.args.gate.now c.args.worker.client.fresh.client) c.args.worker.jobs.items c.loop-job.job-iterator.rest.items c.loop-job.nth (work c.loop-job.caller.idle.joined) c.loop-job.caller.memory c.loop-job.invariant.3 in
    let left = ap length c.in-Some.ensures.steps.0 in let few = c.args.worker.jobs.small in omega (arith, size, all, left)

pub returns-then-not-before : goal.returns-then-not-before
returns-then-not-before g c = let i = c.loop-job.invariant in
    let holds = g.G.Gate.may_hold c.args.gate.now in
    let stopped = stops holds (g.G.Gate.was_told c.args.gate.now) c.args.worker.client.fresh.client c.args.worker.jobs.items c.loop-job.job-iterator.rest.items c.loop-job.nth (work c.loop-job.caller.idle.joined) c.loop-job.caller.memory i.3
    c.in-Some.job c.next.new.self.rest.items c.in-Some.ensures.steps.0 (subst (λ k. holds k (c.loop-job.nth + 1)) i.2 (c.before-in-loop-job.ensures.held c.if-not-before.true)) in
    (i.0, i.1, stopped.0, stopped.1, stopped.2, stopped.3, stopped.4)

pub returns : goal.returns
returns g c = let i = c.loop-job.invariant in
    let none : c.loop-job.job-iterator.rest.items ≡ [] = none_left _ (let size = c.loop-job.job-iterator.rest.ok.0 in let gone = c.in-None.ensures.steps.0 in omega arith) in
    let ended = ends (g.G.Gate.may_hold c.args.gate.now) (g.G.Gate.was_told c.args.gate.now) c.args.worker.client.fresh.client c.args.worker.jobs.items c.loop-job.job-iterator.rest.items c.loop-job.nth (work c.loop-job.caller.idle.joined) c.loop-job.caller.memory i.3 none in
    (i.0, i.1, ended.0, ended.1, ended.2, ended.3, ended.4)
