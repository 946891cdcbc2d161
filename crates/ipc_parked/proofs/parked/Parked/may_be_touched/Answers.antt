use Rattle.std.proofs.Common.{◌≡◌, [], ◌∙◌, ap, subst, sym, filter}
use Rattle.ipc_parked.specs.declared.touched.Touched.{Touched}
use Rattle.ipc_parked.specs.Parked.{waiting}
use Rattle.ipc_parked.specs.Touched.{is_touched}
use Rattle.ipc_parked.proofs.Covering.{filter-none, waiting-on}
use Rattle.ipc_parked.proofs.parked.Parked.may_be_touched.Goals as goal

pub returns-in-Nothing : goal.returns-in-Nothing
returns-in-Nothing c clear =
    subst (λ (t : Touched). filter (is_touched t) (waiting c.args.self.now) ≡ []) (sym c.in-Nothing.is) (filter-none (waiting c.args.self.now))

pub returns-in-Object : goal.returns-in-Object
returns-in-Object c clear =
    subst (λ (t : Touched). filter (is_touched t) (waiting c.args.self.now) ≡ []) (sym c.in-Object.is)
    (sym (waiting-on c.in-Object.kind c.in-Object.id c.args.self.now) ∙ ap waiting (c.may_wait_on.ensures clear))
