use Rattle.std.proofs.Common.{◌≡◌, ◌++◌, ℕ, List, drop, map}
use Rattle.std.specs.Global.{Vec}
use Rattle.std.specs.Prelude.{flat_map}
use Rattle.ipc_call.specs.declared.listings.Row.{Row}
use Rattle.ipc_history.specs.History.{run}
use Rattle.ipc_model.specs.State.{process_at}
use Rattle.thread_ends.specs.Leaving.{undone_in, undone_row}
use Rattle.thread_ends.proofs.ends.undone_of.Given as goal

-- those so far, and those of the objects that are left
abbrev pub invariant-loop-line : goal.invariant-loop-line
invariant-loop-line l =
    let state = run l.space in
    let process = process_at state l.client in
    l.undone.items ++ flat_map (λ (line : Row × List ℕ). undone_row state process line.0 line.1) (map (λ (line : Row × Vec ℕ). (line.0, line.1.items)) (drop l.line-index l.line-items)) ≡ undone_in state process
