use Rattle.std.proofs.Common.{◌≡◌, length, sym, ap, ◌∙◌}
use Rattle.ipc_parked.specs.Parked.{waiting}
use Rattle.ipc_namespace.specs.Namespace.{sends_on}
use Rattle.ipc_namespace.proofs.Held.{none_held}
use Rattle.ipc_namespace.proofs.Parked.{none_parked}
use Rattle.ipc_namespace.proofs.Starting.{as-long}
use Rattle.process_table.specs.Table.{Table}
use Rattle.ipc_namespace.proofs.namespace.Namespace.new.Goals as goal

pub invariant_of-result : goal.invariant_of-result
invariant_of-result c =
    let empty = ap waiting c.new-5.ensures in
    let processes = c.in_ok-processes.processes in
    let clients = c.args.clients in (
      (c.requires.few, ap (λ (t : Table). length t.threads) c.in_ok-processes.ensures ∙ as-long 0 c.as_slice.result.now ∙ ap length c.as_slice.ensures.value ∙ sym clients.ok.0),
      none_parked (length clients.items) (waiting c.new-5.result) empty,
      λ id. c.new-2.ensures.room id ∙ sym (ap (λ ws. sends_on id ws) empty),
      none_held c.new-3.result processes.threads (waiting c.new-5.result) empty,
    )
