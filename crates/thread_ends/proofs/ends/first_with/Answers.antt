use Rattle.std.proofs.Common.{ap, sym, ◌∙◌}
use Rattle.std.specs.List.{find, range_with_len}
use Rattle.ipc_history.specs.History.{run}
use Rattle.ipc_model.specs.State.{has_pid, thread_at}
use Rattle.thread_ends.proofs.Leavings.{clients-same}
use Rattle.thread_ends.proofs.ends.first_with.Goals as goal

pub returns : goal.returns
returns c =
    let s = run c.args.space.now in
    let count = c.clients.ensures.count ∙ sym (clients-same c.args.space.now) in
    c.first_among.ensures ∙ ap (λ n. find (λ client. has_pid c.args.pid (thread_at s client)) (range_with_len 0 n)) count
