use Rattle.std.proofs.Common.{◌≡◌, List, length, sym, ap, ◌∙◌, subst, arith, All}
use Rattle.std.specs.Prelude.{count_by, map}
use Rattle.std.proofs.lemmas.List.{length-map}
use Rattle.std.proofs.lemmas.Result.{IfOk-weaker}
use Rattle.ipc_combiner.specs.declared.closing.Client.{Client}
use Rattle.ipc_combiner.specs.declared.entries.Keeping.TheVariants.{Whole}
use Rattle.ipc_combiner.specs.Closing.{IsClientOf, IsTold}
use Rattle.ipc_combiner.specs.Entries.{entries_of}
use Rattle.ipc_combiner.specs.States.{IsUnjoinedOf}
use Rattle.ipc_history.specs.History.{History}
use Rattle.ipc_jobs.specs.Courses.{HaveGone}
use Rattle.ipc_jobs.specs.declared.working.Ended.{Ended}
use Rattle.ipc_jobs.specs.declared.working.Worker.{Worker}
use Rattle.ipc_jobs.specs.Working.{AreEnds, client_of}
use Rattle.ipc_jobs.proofs.Ended.{are_clients, both, end_count, gone, none_joined, numbered, worker_count}
use Rattle.ipc_jobs.proofs.threads.run_threads.Goals as goal

pub work_all-requires-after_bounds : goal.work_all-requires-after_bounds
work_all-requires-after_bounds g c κs within = let list = c.in_ok-service.service.list in let us = c.in_ok-service.clients.items in let js = c.args.jobs.items in
    let alike : length us ≡ length js = (let count = c.in_ok-service.ensures.count in let jobs = c.requires.jobs in let size = c.args.jobs.ok.0 in omega (arith, count, jobs, size)) in
    subst (λ (ws : List Worker). All (λ w. IsUnjoinedOf list w.client.fresh) ws) (sym c.in_ok-workers.ensures) (none_joined list us js alike c.in_ok-service.ensures.service)

pub count_held-held-requires : goal.count_held-held-requires
count_held-held-requires g c = let list = c.in_ok-service.service.list in let us = c.in_ok-service.clients.items in let js = c.args.jobs.items in
    let size = c.args.jobs.ok.0 in let count = c.in_ok-service.ensures.count in let jobs = c.requires.jobs in let few = c.requires.few in
    let workers = ap length c.in_ok-workers.ensures ∙ worker_count us js (omega (arith, count, jobs, size)) in
    let ends = end_count (g.G.Gate.may_hold c.args.gate.now) (g.G.Gate.was_told c.args.gate.now) list c.in_ok-workers.workers.items c.in_ok-ended.ended.items c.in_ok-ended.ensures in
    let same = ap length c.deref.ensures.value in omega (arith, count, few, workers, ends, same)

pub close-space-requires-clause-all : goal.close-space-requires-clause-all
close-space-requires-clause-all g c = let list = c.in_ok-service.service.list in let us = c.in_ok-service.clients.items in let js = c.args.jobs.items in
    let size = c.args.jobs.ok.0 in let count = c.in_ok-service.ensures.count in let jobs = c.requires.jobs in
    let workers = ap length c.in_ok-workers.ensures ∙ worker_count us js (omega (arith, count, jobs, size)) in
    let ends = end_count (g.G.Gate.may_hold c.args.gate.now) (g.G.Gate.was_told c.args.gate.now) list c.in_ok-workers.workers.items c.in_ok-ended.ended.items c.in_ok-ended.ensures in
    let all = ap length c.in_ok-clients_of.ensures ∙ length-map c.in_ok-ended.ended.items client_of in
    let own = c.in_ok-service.service.opened.0 in let opens = ap (λ h. length h.clients) c.in_ok-service.ensures.opening in let creds = c.args.creds.ok.0 in
    omega (arith, count, workers, ends, all, own, opens, creds)

pub close-space-requires-clause-service : goal.close-space-requires-clause-service
close-space-requires-clause-service g c = let list = c.in_ok-service.service.list in
    subst (λ (cs : List Client). All (λ x. IsClientOf list x) cs) (sym c.in_ok-clients_of.ensures)
    (are_clients (g.G.Gate.may_hold c.args.gate.now) (g.G.Gate.was_told c.args.gate.now) list c.in_ok-workers.workers.items c.in_ok-ended.ended.items c.in_ok-ended.ensures)

pub returns-clause-opening : goal.returns-clause-opening
returns-clause-opening g c = let o = c.close-space.ensures.opening in let opening = c.in_ok-service.ensures.opening in
    IfOk-weaker c.counted.result _ _ (λ end same. (ap (λ h. h.limits) same.0 ∙ o.0 ∙ ap (λ h. h.limits) opening, ap (λ h. h.clients) same.0 ∙ o.1 ∙ ap (λ h. h.clients) opening)) c.counted.ensures.same

pub counted-requires : goal.counted-requires
counted-requires g c = let list = c.in_ok-service.service.list in let us = c.in_ok-service.clients.items in let js = c.args.jobs.items in let es = c.in_ok-ended.ended.items in
    let size = c.args.jobs.ok.0 in let count = c.in_ok-service.ensures.count in let jobs = c.requires.jobs in
    let workers = ap length c.in_ok-workers.ensures ∙ worker_count us js (omega (arith, count, jobs, size)) in
    let ends = end_count (g.G.Gate.may_hold c.args.gate.now) (g.G.Gate.was_told c.args.gate.now) list c.in_ok-workers.workers.items es c.in_ok-ended.ensures in
    let told = ap length (c.as_slice.ensures.value ∙ c.in_ok-memory.ensures ∙ ap (map (λ (e : Ended). e.caller.memory)) c.deref-2.ensures.value) ∙ length-map es (λ (e : Ended). e.caller.memory) in
    let same = ap length c.close-space.ensures.opening.1 in let opens = ap (λ (h : History). length h.clients) c.in_ok-service.ensures.opening in let creds = c.args.creds.ok.0 in
    omega (arith, count, workers, ends, told, same, opens, creds)

pub returns-clause-courses : goal.returns-clause-courses
returns-clause-courses g c = let list = c.in_ok-service.service.list in let us = c.in_ok-service.clients.items in let js = c.args.jobs.items in
    let holds = g.G.Gate.may_hold c.args.gate.now in let tells = g.G.Gate.was_told c.args.gate.now in
    let es = c.in_ok-ended.ended.items in let all = c.in_ok-clients_of.field-0.items in let h = c.close-space.result in
    let alike : length us ≡ length js = (let count = c.in_ok-service.ensures.count in let jobs = c.requires.jobs in let size = c.args.jobs.ok.0 in omega (arith, count, jobs, size)) in
    let went = gone holds tells h list all 0 us js es alike (subst (λ (ws : List Worker). AreEnds holds tells list ws es) c.in_ok-workers.ensures c.in_ok-ended.ensures)
    (numbered us c.in_ok-service.ensures.numbers) (subst (λ (cs : List Client). All (λ x. IsTold (entries_of Whole h) all x) cs) c.in_ok-clients_of.ensures c.close-space.ensures.told) in
    let held = c.count_held-held.ensures ∙ ap (count_by (λ (e : Ended). e.held)) c.deref.ensures.value ∙ went.2 in
    let failed = c.as_slice.ensures.value ∙ c.in_ok-memory.ensures ∙ ap (map (λ (e : Ended). e.caller.memory)) c.deref-2.ensures.value ∙ went.3 in
    both c.counted.result _ _ _ c.counted.ensures.same c.counted.ensures.memory
    (λ end same told. subst (λ (x : History). HaveGone holds tells x (map (λ own. own.items) js) end.held end.counts.items) (sym same.0) (went.0, went.1, same.1 ∙ held, told ∙ failed))
