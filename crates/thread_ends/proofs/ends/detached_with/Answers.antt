use Rattle.std.proofs.Common.{List, ℕ, ap, map, ◌∙◌}
use Rattle.std.specs.Global.{Vec}
use Rattle.std.specs.Prelude.{Option, filter_map}
use Rattle.std.proofs.lemmas.Result.{IfOk-weaker}
use Rattle.ipc_call.specs.declared.listings.Row.{Row}
use Rattle.thread_ends.specs.declared.ends.Detached.{Detached}
use Rattle.thread_ends.specs.Leaving.{detached_row}
use Rattle.thread_ends.proofs.Leavings.{filter_map-map}
use Rattle.thread_ends.proofs.ends.detached_with.Goals as goal

-- what is seen of the lines are the objects of the state
pub returns : goal.returns
returns c =
    let seen : Row × Vec ℕ → Row × List ℕ = λ line. (line.0, line.1.items) in
    let row : Row × List ℕ → Option Detached = λ line. detached_row c.args.segments.now line.0 in
    let lines = ap (map seen) c.as_slice.ensures.value ∙ c.in_ok-lines.ensures in
    IfOk-weaker c.detached_among.result _ _ (λ detached told.
    told ∙ filter_map-map seen row c.as_slice.result.now ∙ ap (filter_map row) lines) c.detached_among.ensures
