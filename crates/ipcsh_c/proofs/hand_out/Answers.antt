use Rattle.std.proofs.Common.{◌++◌, ◌+◌, ◌<◌, ℕ, length, drop, map, slice_set, box_value, ap, sym, ◌∙◌, arith}
use Rattle.ipcsh_c.specs.declared.handed.Handed.{Handed}
use Rattle.ipcsh_c.proofs.Placed.{placed, longer, taken, has_room}
use Rattle.ipcsh_c.proofs.hand_out.Goals as goal

pub loop-seat-preserved : goal.loop-seat-preserved
loop-seat-preserved c =
    let inv = c.loop-seat.invariant in let old = c.args.handles.now in let at = c.loop-seat.at in let h = c.loop-seat.handed in let next = c.in-Some.ensures.steps.0 in
    let left = c.loop-seat.seat-iterator.rest.items in let rest = c.next.new.self.rest.items in let whole = c.args.seats.items in
    let few : length h.seats < length whole = has_room box_value h.seats left c.in-Some.seat rest whole inv.0 next in
    let room : at < length old = omega (arith, few, inv.3, c.requires) in
    let new = sym c.hand.ensures in (
      ap (λ (k : Handed). k.seats ++ map box_value rest) (sym new) ∙ taken box_value h.seats left c.in-Some.seat rest whole c.loosen.result.value inv.0 next c.loosen.ensures,
      ap (λ xs. slice_set xs at c.hand.result) inv.1 ∙ placed h.handles old c.hand.result at inv.2 room ∙ ap (λ (k : Handed). k.handles ++ drop (at + 1) old) new,
      ap (λ (n : ℕ). n + 1) inv.2 ∙ sym (longer h.handles c.hand.result) ∙ ap (λ (k : Handed). length k.handles) new,
      ap (λ (n : ℕ). n + 1) inv.3 ∙ sym (longer h.seats c.loosen.result.value) ∙ ap (λ (k : Handed). length k.seats) new,
      ap (λ (k : Handed). k.code) (sym new) ∙ inv.4,
    )
