use Rattle.std.proofs.Common.{◌≡◌, Option, Some, None, false, refl, sym, ap, ◌∙◌}
use Rattle.std.specs.Prelude.{is_some}
use Rattle.std.proofs.lemmas.Bool.{true≢false}
use Rattle.ipc_namespace.proofs.Expiring.{expire-over, told-none}
use Rattle.ipc_namespace.proofs.namespace.Namespace.expire.Goals as goal

absent : {A : Type 0} (o : Option A) → is_some o ≡ false → None ≡ o
absent None is = refl
absent (Some x) is = absurd (true≢false is)

pub returns-else-is_some-clause-state : goal.returns-else-is_some-clause-state
returns-else-is_some-clause-state c =
    let s = c.args.self.now in
    let none = absent c.first_due.result (sym c.is_some.ensures ∙ c.if-is_some.false) ∙ c.first_due.ensures.first in
    ap (λ ws. record s { parked = ws }) (sym (expire-over s s refl none).0)

pub returns-else-is_some-clause-ended : goal.returns-else-is_some-clause-ended
returns-else-is_some-clause-ended c =
    let s = c.args.self.now in
    let none = absent c.first_due.result (sym c.is_some.ensures ∙ c.if-is_some.false) ∙ c.first_due.ensures.first in
    told-none c.args.ended.now.items (sym (expire-over s s refl none).1)
