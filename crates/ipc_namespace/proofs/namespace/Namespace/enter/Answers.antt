use Rattle.std.proofs.Common.{◌∙◌, true, ap, sym, subst, Option, Vec, Global}
use Rattle.std.specs.Prelude.{IfSome}
use Rattle.ipc_call.specs.declared.replies.Completion.{Completion}
use Rattle.ipc_parked.specs.declared.touched.Touched.{Touched}
use Rattle.ipc_parked.specs.Touched.{is_touched}
use Rattle.ipc_namespace.specs.Touching.{CoversWaiting}
use Rattle.ipc_namespace.proofs.Entering.{after-granted, after-still, quiet-entered}
use Rattle.ipc_namespace.proofs.namespace.Namespace.enter.Goals as goal
use Rattle.ipc_namespace.proofs.namespace.Namespace.enter.Goals.{then-is_granted, else-is_granted}

pub settle-requires-clause-quiet : goal.settle-requires-clause-quiet
settle-requires-clause-quiet c =
    let s = c.args.self.now in
    let e = c.in_ok-own.ensures in
    let touched = c.in-Some.touched in
    let covers = subst (λ (o : Option Touched). IfSome o (λ t. CoversWaiting s c.args.client c.args.call.now (is_touched t))) c.in-Some.is c.touched_by.ensures.covers in
    quiet-entered s c.carry_out.new.self s c.args.client c.args.call.now c.in_ok-own.own c.carry_out.new.ended.items c.carry_out.new.ended.items e.own e.state e.ended (is_touched touched) covers c.requires.quiet c.requires.free (sym c.is_granted.ensures ∙ c.if-is_granted.true)

pub returns-clause-ok : goal.returns-clause-ok
returns-clause-ok c =
    let s = c.args.self.now in
    let u = c.carry_out.new.self in
    let e = c.in_ok-own.ensures in
    let new = c.if-is_granted.self in
    let final = c.if-is_granted.ended.items in
    elim c.if-is_granted.branch [
      | then-is_granted p ↦
          after-granted s u new c.args.client c.args.call.now c.in_ok-own.own c.carry_out.new.ended.items final e.own e.state e.ended (p.self-is ∙ p.settle.ensures.state)
          (ap (λ (v : Vec Completion Global). v.items) p.ended-is ∙ p.settle.ensures.ended)
      | else-is_granted p ↦
          after-still s u new c.args.client c.args.call.now c.in_ok-own.own c.carry_out.new.ended.items final e.own e.state e.ended c.requires.quiet (sym c.is_granted.ensures ∙ p.if-is_granted.false) p.self-is
          (ap (λ (v : Vec Completion Global). v.items) p.ended-is)
    ]
