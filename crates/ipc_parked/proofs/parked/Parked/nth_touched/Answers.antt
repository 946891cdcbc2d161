use Rattle.std.proofs.Common.{sym, ap, ◌∙◌}
use Rattle.ipc_parked.specs.declared.touched.Touched.{Touched}
use Rattle.ipc_parked.specs.Parked.{waiting}
use Rattle.ipc_parked.specs.Touched.{is_touched}
use Rattle.ipc_parked.proofs.Covering.{client-none, client-on, client_at}
use Rattle.ipc_parked.proofs.parked.Parked.nth_touched.Goals as goal

pub returns-in-Nothing : goal.returns-in-Nothing
returns-in-Nothing c =
    let ws = waiting c.args.self.now in
    sym (client-none ws c.args.index) ∙ ap (λ (t : Touched). client_at (is_touched t) ws c.args.index) (sym c.in-Nothing.is)

pub returns-in-Object : goal.returns-in-Object
returns-in-Object c =
    let es = c.args.self.now in
    c.client_on.ensures ∙ sym (client-on c.in-Object.kind c.in-Object.id es c.args.index)
    ∙ ap (λ (t : Touched). client_at (is_touched t) (waiting es) c.args.index) (sym c.in-Object.is)
