use Rattle.std.proofs.Common.{◌∙◌}
use Rattle.ipc_history.specs.History.{run}
use Rattle.ipc_model.specs.State.{process_at}
use Rattle.thread_ends.specs.Leaving.{attached_in}
use Rattle.thread_ends.proofs.Leavings.{detached_same}
use Rattle.thread_ends.proofs.ends.detached_of.Goals as goal

pub returns : goal.returns
returns c =
    let s = run c.args.space.now in
    detached_same s c.as_slice.result.now (attached_in s (process_at s c.args.client)) c.detached_with.result
    (c.as_slice.ensures.value ∙ c.in_ok-segments.ensures) c.detached_with.ensures
