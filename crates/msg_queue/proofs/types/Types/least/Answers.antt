use Rattle.std.proofs.Common.{Option, Some, None, IfNone, ◌≡◌, ℤ, List, ap, sym, subst, ◌∙◌, w64, SFits, rules, to_z, of_z}
use Rattle.std.specs.Option.{option_copied}
use Rattle.std.proofs.lemmas.Int.{to_z-of_z}
use Rattle.msg_queue.specs.declared.types.Row.{Row}
use Rattle.msg_queue.specs.Types.{IsLeast, ends_in}
use Rattle.msg_queue.proofs.Rows.{least_found, none_found}
use Rattle.msg_queue.proofs.types.Types.least.Goals as goal

if_none : {A : Type 0} (o : Option A) (P : Type 0) → P → IfNone o P
if_none None P p = p
if_none (Some x) P p = tt

pub returns-in_err-row-clause-none : goal.returns-in_err-row-clause-none
returns-in_err-row-clause-none c =
    if_none _ _ (subst (λ (rows : List Row). (t : ℤ) → (ends_in rows t).first ≡ None) c.live.ensures.rows
    (none_found c.live.result.now (sym c.first_with_messages.ensures ∙ ap option_copied c.in_err-row.was)))

pub returns-clause-least : goal.returns-clause-least
returns-clause-least c =
    let row = c.in_ok-row.row.now in
    let fits : SFits w64 row.mtype = search rules in
    let found = sym c.first_with_messages.ensures ∙ ap option_copied c.in_ok-row.was in
    subst (λ (rows : List Row). IsLeast rows (to_z w64 (of_z w64 row.mtype), row.ends)) c.live.ensures.rows
    (subst (λ (x : ℤ). IsLeast c.live.result.now (x, row.ends)) (sym (to_z-of_z w64 row.mtype fits)) (least_found c.live.result.now row c.live.ensures.rising found))
