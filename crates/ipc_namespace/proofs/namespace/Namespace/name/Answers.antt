use Rattle.std.proofs.Common.{◌≡◌, ◌∙◌, List, ap, get_or, length, map, subst, sym}
use Rattle.std.proofs.lemmas.List.{length-map}
use Rattle.ipc_model.specs.Processes.{renamed}
use Rattle.ipc_model.specs.State.{Thread, no_thread}
use Rattle.ipc_parked.specs.Parked.{waiting}
use Rattle.process_table.specs.Table.{Table}
use Rattle.ipc_namespace.specs.Namespace.{AreHeld}
use Rattle.ipc_namespace.proofs.Held.{held-renamed}
use Rattle.ipc_namespace.proofs.namespace.Namespace.name.Goals as goal

pub invariant_of-self : goal.invariant_of-self
invariant_of-self c =
    let n = c.self.inside in
    let process = (get_or n.processes.threads c.args.client no_thread).process in
    let is = ap (λ (t : Table). t.threads) c.rename.ensures in (
      (c.self.invariant.0.0, ap length is ∙ length-map n.processes.threads (renamed process c.args.pid) ∙ c.self.invariant.0.1),
      c.self.invariant.1,
      c.self.invariant.2,
      subst (λ (ts : List Thread). AreHeld n.sets ts (waiting n.parked)) (sym is) (held-renamed n.sets n.processes.threads process c.args.pid (waiting n.parked) c.self.invariant.3),
    )
