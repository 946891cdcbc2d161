use Rattle.std.proofs.Common.{sym, ◌∙◌, subst}
use Rattle.ipc_space.specs.Replays.{AreNoJournal, IsHistoryOf, Replays}
use Rattle.ipc_space.specs.declared.replaying.Replayed.{Replayed}
use Rattle.ipc_space.specs.declared.replaying.Replayed.TheVariants.{Same}
use Rattle.ipc_space.proofs.Copies.{one_history}
use Rattle.ipc_space.proofs.space.Space.copy.Goals as goal

-- the journal that is replayed is that of the history
pub unreachable-requires : goal.unreachable-requires
unreachable-requires c =
    let h = c.self.inside.ledger.history in
    let none : AreNoJournal c.limits.result c.in_ok-clients.clients.items c.rows.result.now c.in-Differs.field-0 =
    subst (λ (r : Replayed). Replays c.limits.result c.in_ok-clients.clients.items c.rows.result.now r) c.in-Differs.is c.in_ok-copy.ensures in
    let own : IsHistoryOf c.limits.result c.in_ok-clients.clients.items h = record {
      limited = sym c.limits.ensures;
      known = sym (c.in_ok-clients.ensures ∙ c.opening.ensures.clients);
      legal = c.rows.ensures.legal;
    } in
    none.none h own (sym (c.rows.ensures.all c.self.invariant))

pub returns : goal.returns
returns c =
    let h = c.self.inside.ledger.history in
    let same : Replays c.limits.result c.in_ok-clients.clients.items c.rows.result.now (Same c.in-Same.copy) =
    subst (λ (r : Replayed). Replays c.limits.result c.in_ok-clients.clients.items c.rows.result.now r) c.in-Same.is c.in_ok-copy.ensures in
    one_history c.in-Same.copy h (same.0.limited ∙ c.limits.ensures) (same.0.known ∙ c.in_ok-clients.ensures ∙ c.opening.ensures.clients) (same.1 ∙ c.rows.ensures.all c.self.invariant) ∙ c.self.view_is
