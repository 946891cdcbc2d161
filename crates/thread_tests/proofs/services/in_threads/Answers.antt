use Rattle.std.proofs.Common.{IfOk, Result, Ok, Err, arith}
use Rattle.thread_tests.proofs.services.in_threads.Goals as goal

both : {X Y : Type 0} (r : Result X Y) (A B C : X → Type 0) → IfOk r A → IfOk r B → ((x : X) → A x → B x → C x) → IfOk r C
both (Ok x) A B C a b f = f x a b
both (Err y) A B C a b f = tt

pub returns-clause-service : goal.returns-clause-service
returns-clause-service g c = both c.map_vec.result _ _ _ c.map_vec.ensures.each c.map_vec.ensures.len (λ v each len k d lt. let size = v.ok.0 in let all = c.args.clients.ok.0 in let e = each k d (omega (arith, size, all, len, lt)) in let m = e.1.call.met in (m.0, m.1))
