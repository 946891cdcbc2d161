use Rattle.std.proofs.Common.{◌≡◌, ◌++◌, drop}
use Rattle.ipc_history.specs.History.{run}
use Rattle.ipc_model.specs.State.{process_at}
use Rattle.thread_ends.specs.Leaving.{semadj_in, undone_from}
use Rattle.thread_ends.proofs.ends.add_set.Given as goal

-- those so far, and those of the semaphores that are left
abbrev pub invariant-loop-num : goal.invariant-loop-num
invariant-loop-num l =
    let adj = semadj_in (run l.space) (process_at (run l.space) l.client) l.set in
    l.undone.items ++ undone_from adj l.set l.num (drop l.num l.values) ≡ l.fn.undone.items ++ undone_from adj l.set 0 l.values
