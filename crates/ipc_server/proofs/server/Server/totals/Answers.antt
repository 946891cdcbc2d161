use Rattle.std.proofs.Common.{◌≡◌, ℕ, ◌+◌, ◌-◌, ◌<◌, ◌≤◌, ap, arith, sym, ◌∙◌}
use Rattle.std.specs.List.{range_with_len}
use Rattle.ipc_call.specs.declared.limits.Limits.{Limits}
use Rattle.ipc_server.specs.Held.{Held}
use Rattle.ipc_server.specs.Looks.{slots_of, totals_in}
use Rattle.ipc_server.specs.Servers.{state}
use Rattle.ipc_server.proofs.Totals.{totals_end, totals_step}
use Rattle.ipc_server.proofs.server.Server.totals.Goals as goal

pub loop-slot-preserved : goal.loop-slot-preserved
loop-slot-preserved c =
    let s = state c.args.self.now.server in
    let n : ℕ = slots_of c.args.self.now.server.history.limits c.args.kind in
    let end : c.slots_of-slot-end.result ≡ n =
    c.slots_of-slot-end.ensures ∙ ap (λ (l : Limits). slots_of l c.args.kind) (c.limits.ensures ∙ ap (λ (h : Held). h.server.history.limits) c.self.view_is) in
    let below : c.loop-slot.slot < n = omega (arith, c.loop-slot-test.true, end) in
    ap (totals_in s c.args.kind (range_with_len (c.loop-slot.slot + 1) (n - (c.loop-slot.slot + 1)))) c.count_in.ensures
    ∙ sym (totals_step s c.args.kind c.loop-slot.slot n c.loop-slot.totals below) ∙ c.loop-slot.invariant

pub returns : goal.returns
returns c =
    let s = state c.args.self.now.server in
    let n : ℕ = slots_of c.args.self.now.server.history.limits c.args.kind in
    let end : c.slots_of-slot-end.result ≡ n =
    c.slots_of-slot-end.ensures ∙ ap (λ (l : Limits). slots_of l c.args.kind) (c.limits.ensures ∙ ap (λ (h : Held). h.server.history.limits) c.self.view_is) in
    let past : n ≤ c.loop-slot.slot = omega (arith, c.loop-slot-test.false, end) in
    sym (totals_end s c.args.kind c.loop-slot.slot n c.loop-slot.totals past) ∙ c.loop-slot.invariant
