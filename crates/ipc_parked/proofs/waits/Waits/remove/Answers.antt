use Rattle.std.proofs.Common.{◌≡◌, ◌∙◌, ℕ, cond, eqb, ap, subst, sym, true, List, Some}
use Rattle.ipc_parked.specs.declared.waits.Wait.{Wait}
use Rattle.ipc_parked.specs.Waits.{AreRising, IsFirst, NoneIs, WaitsState, clients_at, without_first}
use Rattle.ipc_parked.proofs.Marked.{marked_removed, none_marked}
use Rattle.ipc_parked.proofs.Rows.{clients_removed, none_removed, rising_removed}
use Rattle.ipc_parked.proofs.waits.Waits.remove.Goals as goal
use Rattle.ipc_parked.proofs.waits.Waits.remove.Goals.{After-remove}

-- the clients on each object after the row went
left : (c : After-remove) (i : ℕ) → clients_at i c.remove.new.self.items ≡ cond (eqb c.args.id i) (without_first c.args.client (clients_at i c.self.inside.rows.items)) (clients_at i c.self.inside.rows.items)
left c i =
    let found : IsFirst c.args.id c.args.client c.self.inside.rows.items (Some c.in-Some.at) = subst (λ (xs : List Wait). IsFirst c.args.id c.args.client xs (Some c.in-Some.at)) c.as_slice.ensures.value c.in-Some.ensures in
    ap (λ (xs : List Wait). clients_at i xs) c.remove.ensures.items ∙ clients_removed c.self.inside.rows.items c.args.id c.in-Some.at c.args.client i found.0 found.1

rising : (c : After-remove) → AreRising c.remove.new.self.items
rising c = rw c.remove.ensures.items (rising_removed c.self.inside.rows.items c.in-Some.at c.self.invariant.0)

pub invariant_of-self : goal.invariant_of-self
invariant_of-self c = (
  rising (goal.at.invariant_of-self c).After-remove,
  none_marked _ c.remove.new.self.items (subst (λ (n : ℕ). eqb n 0 ≡ true) c.remove.new.self.ok.0 (sym c.is_empty.ensures ∙ c.if-is_empty.true)),
)

pub invariant_of-self-else-is_empty : goal.invariant_of-self-else-is_empty
invariant_of-self-else-is_empty c = (
  rising (goal.at.invariant_of-self-else-is_empty c).After-remove,
  rw c.remove.ensures.items (marked_removed c.self.inside.marks c.self.inside.rows.items c.in-Some.at c.self.invariant.1),
)

pub returns-then-is_empty : goal.returns-then-is_empty
returns-then-is_empty c =
    subst (λ (w : WaitsState). (i : ℕ) → clients_at i c.remove.new.self.items ≡ cond (eqb c.args.id i) (without_first c.args.client (clients_at i w.rows)) (clients_at i w.rows)) c.self.view_is
    (left (goal.at.returns-then-is_empty c).After-remove)

pub returns-else-is_empty : goal.returns-else-is_empty
returns-else-is_empty c =
    subst (λ (w : WaitsState). (i : ℕ) → clients_at i c.remove.new.self.items ≡ cond (eqb c.args.id i) (without_first c.args.client (clients_at i w.rows)) (clients_at i w.rows)) c.self.view_is
    (left (goal.at.returns-else-is_empty c).After-remove)

pub returns-in_default : goal.returns-in_default
returns-in_default c =
    let none = subst (λ (xs : List Wait). NoneIs c.args.id c.args.client xs) c.as_slice.ensures.value c.in_default.ensures in
    subst (λ (w : WaitsState). (i : ℕ) → clients_at i w.rows ≡ cond (eqb c.args.id i) (without_first c.args.client (clients_at i w.rows)) (clients_at i w.rows)) c.self.view_is
    (λ i. none_removed c.self.inside.rows.items c.args.id c.args.client i none)
