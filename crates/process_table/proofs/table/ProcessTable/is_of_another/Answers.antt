use Rattle.std.proofs.Common.{◌∙◌, ap, eqb, subst, sym}
use Rattle.std.specs.Prelude.{not}
use Rattle.ipc_model.specs.State.{Thread}
use Rattle.ipc_model.specs.Tidy.{AreNumbered, thread_in}
use Rattle.process_table.specs.Table.{Table}
use Rattle.process_table.proofs.Finding.{found-at, other-first, other-none}
use Rattle.process_table.proofs.table.ProcessTable.is_of_another.Goals as goal

pub returns-in-None : goal.returns-in-None
returns-in-None c = sym (other-none c.args.self.now.threads c.args.pid c.args.process c.in-None.ensures.first)

pub returns-in-Some : goal.returns-in-Some
returns-in-Some c =
    let now = c.args.self.now in
    let client = c.in-Some.client in
    ap (λ (t : Thread). not (eqb t.process c.args.process)) (c.get.ensures ∙ ap (λ (t : Table). thread_in t.threads client) c.self.view_is)
    ∙ sym (other-first now.threads c.args.pid now.next c.args.process client (subst (λ (t : Table). AreNumbered t.threads t.next) c.self.view_is c.self.invariant.0)
    (found-at now.threads c.args.pid client c.in-Some.ensures.first))
