use Rattle.std.proofs.Common.{◌≡◌, List, false, length, ap, subst, sym, ◌∙◌}
use Rattle.std.specs.Prelude.{◌==◌}
use Rattle.std.specs.List.{list_any}
use Rattle.std.proofs.lemmas.List.{length-set}
use Rattle.ipc_model.specs.State.{State, Thread}
use Rattle.ipc_parked.specs.Parked.{waiting}
use Rattle.process_table.specs.Table.{Table}
use Rattle.ipc_namespace.specs.Namespace.{AreHeld}
use Rattle.ipc_namespace.proofs.Held.{free-others, held-thread}
use Rattle.ipc_namespace.proofs.namespace.Namespace.exit.Goals as goal

pub invariant_of-self : goal.invariant_of-self
invariant_of-self c =
    let n = c.self.inside in
    let client = c.args.client in
    let free : list_any (λ w. w.client == client) (waiting n.parked) ≡ false = ap (λ (s : State). list_any (λ w. w.client == client) s.parked) c.self.view_is ∙ c.requires.free in
    let is = ap (λ (t : Table). t.threads) c.end-runs.ensures.table in (
      (c.self.invariant.0.0, ap length is ∙ length-set n.processes.threads client _ ∙ c.self.invariant.0.1),
      c.self.invariant.1,
      c.self.invariant.2,
      subst (λ (ts : List Thread). AreHeld n.sets ts (waiting n.parked)) (sym is) (held-thread n.sets n.processes.threads client _ (waiting n.parked) (free-others client (waiting n.parked) free) c.self.invariant.3),
    )

pub invariant_of-self-else-not-runs : goal.invariant_of-self-else-not-runs
invariant_of-self-else-not-runs c =
    let n = c.self.inside in
    let client = c.args.client in
    let free : list_any (λ w. w.client == client) (waiting n.parked) ≡ false = ap (λ (s : State). list_any (λ w. w.client == client) s.parked) c.self.view_is ∙ c.requires.free in
    let is = ap (λ (t : Table). t.threads) c.end-runs.ensures.table in (
      (c.self.invariant.0.0, ap length is ∙ length-set n.processes.threads client _ ∙ c.self.invariant.0.1),
      c.self.invariant.1,
      c.self.invariant.2,
      subst (λ (ts : List Thread). AreHeld n.sets ts (waiting n.parked)) (sym is) (held-thread n.sets n.processes.threads client _ (waiting n.parked) (free-others client (waiting n.parked) free) c.self.invariant.3),
    )
