use Rattle.std.proofs.Common.{sym, subst, arith}
use Rattle.std.specs.Prelude.{slice_index_or}
use Rattle.ipc_jobs.specs.declared.working.Worker.{Worker}
use Rattle.ipc_jobs.specs.Working.{IsEndOf}
use Rattle.ipc_jobs.proofs.Ended.{all_ends, both}
use Rattle.ipc_jobs.proofs.threads.work_all.Goals as goal

pub returns : goal.returns
returns g c = let holds = g.G.Gate.may_hold c.args.gate.now in let tells = g.G.Gate.was_told c.args.gate.now in let list = c.args.service.now.list in let ws = c.args.workers.items in
    both c.map_vec.result _ _ _ c.map_vec.ensures.each c.map_vec.ensures.len (λ v each len.
    all_ends holds tells list ws v.items (let size = v.ok.0 in let all = c.args.workers.ok.0 in omega (arith, size, all, len))
    (λ k w e lt. let at = (each k e lt).1 in let m = at.call.met in
    subst (λ (x : Worker). IsEndOf holds tells list x (slice_index_or v.items k e)) (sym (at.job_is w)) (m.0, m.1, m.2, m.3, m.4, m.5, m.6)))
