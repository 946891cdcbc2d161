use Rattle.std.proofs.Common.{◌≡◌, List, [], length, None, Option, replicate, sym, subst, arith}
use Rattle.ipc_call.specs.declared.replies.Reply.{Reply}
use Rattle.ipc_history.specs.History.{History}
use Rattle.ipc_desk.specs.Kept.{AreKept}
use Rattle.ipc_desk.proofs.Taking.{AreKept-opening}
use Rattle.ipc_desk.proofs.desk.Desk.open.Goals as goal

pub invariant_of-result : goal.invariant_of-result
invariant_of-result c =
    let count : c.len.result ≡ length c.args.clients.items = omega (arith, c.len.ensures, c.args.clients.ok) in
    subst (λ (h : History). AreKept h c.in_ok-kept.kept.items) (sym c.in_ok-space.ensures)
    (subst (λ (l : List (Option Reply)). AreKept (record { limits = c.args.limits; clients = c.args.clients.items; events = [] }) l) (sym c.in_ok-kept.ensures)
    (AreKept-opening c.args.limits c.args.clients.items c.len.result count))
