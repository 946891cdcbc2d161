use Rattle.std.proofs.Common.{ap, sym, ◌∙◌}
use Rattle.std.specs.Prelude.{filter}
use Rattle.std.specs.List.{range_with_len}
use Rattle.std.proofs.lemmas.Result.{IfOk-weaker}
use Rattle.ipc_history.specs.History.{run}
use Rattle.ipc_model.specs.State.{runs, thread_at}
use Rattle.thread_ends.proofs.Leavings.{clients-same}
use Rattle.thread_ends.proofs.ends.threads_of.Goals as goal

pub returns : goal.returns
returns c =
    let s = run c.args.space.now in
    let count = c.clients.ensures.count ∙ sym (clients-same c.args.space.now) in
    IfOk-weaker c.threads_among.result _ _ (λ threads told. told ∙ ap (λ n. filter (λ client. runs c.args.process (thread_at s client)) (range_with_len 0 n)) count) c.threads_among.ensures
