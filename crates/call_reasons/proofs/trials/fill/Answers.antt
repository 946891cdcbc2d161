use Rattle.std.proofs.Common.{◌≡◌, arith}
use Rattle.ipc_history.specs.History.{run}
use Rattle.ipc_model.specs.State.{process_at}
use Rattle.sem_set.specs.Trials.{adj_in}
use Rattle.sem_undo.specs.Entries.{adj_of}
use Rattle.call_reasons.proofs.TrialLemmas.{all-at}
use Rattle.call_reasons.proofs.trials.fill.Goals as goal

pub returns-clause-adjs : goal.returns-clause-adjs
returns-clause-adjs c =
    let past = c.loop-oper-test.false in
    all-at (λ o. adj_in c.loop-oper.row o.num ≡ adj_of (run c.args.space.now).sems.undo (process_at (run c.args.space.now) c.args.client) c.args.id o.num) c.args.ops.now (λ k l. c.loop-oper.invariant.adjs k (omega (arith, past, l)))
