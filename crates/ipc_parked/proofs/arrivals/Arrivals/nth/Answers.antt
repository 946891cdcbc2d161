use Rattle.std.proofs.Common.{◌≡◌, ◌∙◌, ℕ, ap, sym, List, Option, Some, None, slice_get}
use Rattle.std.specs.Borrow.{Bor}
use Rattle.std.specs.Prelude.{option_copied}
use Rattle.std.proofs.lemmas.Option.{same_Some}
use Rattle.ipc_parked.specs.declared.arrivals.Stay.{Stay}
use Rattle.ipc_parked.specs.Arrivals.{ArrivalsState, stay_of, stays_in}
use Rattle.ipc_parked.proofs.Line.{nth_held, none_held, shown_some}
use Rattle.ipc_parked.proofs.arrivals.Arrivals.nth.Goals as goal

pub unwrap-requires : goal.unwrap-requires
unwrap-requires c =
    let slots = c.self.inside.slots.items in
    let order = c.self.inside.order.items in
    let client = c.in_ok-client.client in
    let is : slice_get order c.args.index ≡ Some client = ap (λ (cs : List ℕ). slice_get cs c.args.index) (sym c.as_slice.ensures.value) ∙ sym c.in_ok-client.ensures in
    let found = nth_held slots c.self.inside.next (stays_in slots order) order c.args.index client c.self.invariant.1 c.self.invariant.0 is in
    shown_some c.get.result found.0 (c.get.ensures ∙ ap (λ (a : ArrivalsState). stay_of client a.stays) (sym c.self.view_is) ∙ found.1)

pub returns : goal.returns
returns c =
    let slots = c.self.inside.slots.items in
    let order = c.self.inside.order.items in
    let client = c.in_ok-client.client in
    let is : slice_get order c.args.index ≡ Some client = ap (λ (cs : List ℕ). slice_get cs c.args.index) (sym c.as_slice.ensures.value) ∙ sym c.in_ok-client.ensures in
    let found = nth_held slots c.self.inside.next (stays_in slots order) order c.args.index client c.self.invariant.1 c.self.invariant.0 is in
    let shown : Some c.unwrap.result.now ≡ stay_of client c.args.self.now.stays = ap (λ (r : Option (Bor Stay)). option_copied r) (sym c.unwrap.ensures) ∙ c.get.ensures in
    let same = same_Some c.unwrap.result.now found.0 (shown ∙ ap (λ (a : ArrivalsState). stay_of client a.stays) (sym c.self.view_is) ∙ found.1) in
    ap (λ (s : Stay). Some (client, s)) same ∙ sym found.2 ∙ ap (λ (a : ArrivalsState). slice_get a.stays c.args.index) c.self.view_is

pub returns-in_err-client : goal.returns-in_err-client
returns-in_err-client c =
    let slots = c.self.inside.slots.items in
    let order = c.self.inside.order.items in
    let is : slice_get order c.args.index ≡ None = ap (λ (cs : List ℕ). slice_get cs c.args.index) (sym c.as_slice.ensures.value) ∙ sym c.in_err-client.ensures in
    let none = none_held slots (stays_in slots order) order c.args.index c.self.invariant.1 is in
    let shown : None ≡ slice_get c.args.self.now.stays c.args.index = sym none ∙ ap (λ (a : ArrivalsState). slice_get a.stays c.args.index) c.self.view_is in
    rw c.from_residual.ensures shown
