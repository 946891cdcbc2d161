use Rattle.std.proofs.Common.{sym, ap, ◌∙◌}
use Rattle.std.specs.Prelude.{option_map}
use Rattle.std.specs.FinMap as map
use Rattle.ipc_ids.specs.Table.{Table, find_object}
use Rattle.ipc_objects.specs.declared.object.Object.{Object}
use Rattle.ipc_objects.specs.Objects.{has_key}
use Rattle.ipc_objects.proofs.Keyed.{find-bound, find-unbound}
use Rattle.ipc_objects.proofs.objects.Objects.seek.Goals as goal

pub returns-in_err-id-clause-found : goal.returns-in_err-id-clause-found
returns-in_err-id-clause-found g c =
    ap (option_map _) c.from_residual.ensures ∙ sym (find-unbound c.self.inside.slots c.self.inside.keys c.self.invariant c.args.key (sym c.in_err-id.ensures.id))
    ∙ ap (λ (t : Table (Object g.row.T.Denot)). find_object (has_key c.args.key) t) c.self.view_is

pub returns-clause-found : goal.returns-clause-found
returns-clause-found g c =
    sym (find-bound c.self.inside.slots c.self.inside.keys c.self.invariant c.args.key c.in_ok-id.id c.in_ok-object.object.now (sym c.in_ok-id.ensures.id)
    (ap (λ (t : Table (Object g.row.T.Denot)). map.get t.objects c.in_ok-id.id) c.self.view_is ∙ sym c.in_ok-object.ensures))
    ∙ ap (λ (t : Table (Object g.row.T.Denot)). find_object (has_key c.args.key) t) c.self.view_is
