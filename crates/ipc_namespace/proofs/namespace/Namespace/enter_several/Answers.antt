use Rattle.std.proofs.Common.{◌≡◌, ◌∙◌, ℕ, List, true, ap, sym, subst, Some, Vec, Global}
use Rattle.ipc_call.specs.declared.replies.Completion.{Completion}
use Rattle.ipc_namespace.specs.Namespace.{AreQuietBut}
use Rattle.ipc_namespace.specs.Touching.{ending, is_listed}
use Rattle.ipc_namespace.proofs.Entering.{after-granted, after-still, quiet-entered}
use Rattle.ipc_namespace.proofs.Owing.{covers-ending}
use Rattle.ipc_namespace.proofs.namespace.Namespace.enter_several.Goals as goal
use Rattle.ipc_namespace.proofs.namespace.Namespace.enter_several.Goals.{then-is_granted, else-is_granted}

pub settle_several-requires-clause-quiet : goal.settle_several-requires-clause-quiet
settle_several-requires-clause-quiet c =
    let s = c.args.self.now in
    let e = c.in_ok-own.ensures in
    let u = c.carry_out.new.self in
    let owed = c.list_owed.new.owed in
    let ends : ending s c.args.client c.args.call.now ≡ Some c.unwrap-process.result = sym c.ending.ensures ∙ c.unwrap-process.ensures in
    let covers = covers-ending s c.args.client c.args.call.now c.unwrap-process.result (is_listed owed) ends c.list_owed.ensures.covers in
    subst (λ (ids : List ℕ). AreQuietBut (is_listed ids) u) (sym c.ids.ensures)
    (quiet-entered s u s c.args.client c.args.call.now c.in_ok-own.own c.carry_out.new.ended.items c.carry_out.new.ended.items e.own e.state e.ended (is_listed owed) covers c.requires.quiet c.requires.free (sym c.is_granted.ensures ∙ c.if-is_granted.true))

pub returns-clause-ok : goal.returns-clause-ok
returns-clause-ok c =
    let s = c.args.self.now in
    let u = c.carry_out.new.self in
    let e = c.in_ok-own.ensures in
    let new = c.if-is_granted.self in
    let final = c.if-is_granted.ended.items in
    elim c.if-is_granted.branch [
      | then-is_granted p ↦
          after-granted s u new c.args.client c.args.call.now c.in_ok-own.own c.carry_out.new.ended.items final e.own e.state e.ended (p.self-is ∙ p.settle_several.ensures.state)
          (ap (λ (v : Vec Completion Global). v.items) p.ended-is ∙ p.settle_several.ensures.ended)
      | else-is_granted p ↦
          after-still s u new c.args.client c.args.call.now c.in_ok-own.own c.carry_out.new.ended.items final e.own e.state e.ended c.requires.quiet (sym c.is_granted.ensures ∙ p.if-is_granted.false) p.self-is
          (ap (λ (v : Vec Completion Global). v.items) p.ended-is)
    ]
