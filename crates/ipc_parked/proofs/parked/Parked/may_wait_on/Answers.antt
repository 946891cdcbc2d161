use Rattle.std.proofs.Common.{◌≡◌, [], ◌∙◌, subst, sym, ℕ, List}
use Rattle.ipc_call.specs.declared.calls.Kind.{Kind}
use Rattle.ipc_call.specs.declared.calls.Kind.TheVariants as kinds
use Rattle.ipc_parked.specs.declared.parked.Arrival.{Arrival}
use Rattle.ipc_parked.specs.Parked.{on_object}
use Rattle.ipc_parked.proofs.Objects.{nobody_on_segment, none_without_clients}
use Rattle.ipc_parked.proofs.parked.Parked.may_wait_on.Goals as goal

pub returns-in-Queue : goal.returns-in-Queue
returns-in-Queue c clear =
    let none = none_without_clients _ (sym (c.self.invariant.2 c.args.id) ∙ c.may_wait.ensures clear) in
    subst (λ (kind : Kind). on_object kind c.args.id c.args.self.now ≡ []) (sym c.in-Queue.is)
    (subst (λ (es : List (ℕ × Arrival)). on_object kinds.Queue c.args.id es ≡ []) c.self.view_is none)

pub returns-in-Sems : goal.returns-in-Sems
returns-in-Sems c clear =
    let none = none_without_clients _ (sym (c.self.invariant.3 c.args.id) ∙ c.may_wait-in-Sems.ensures clear) in
    subst (λ (kind : Kind). on_object kind c.args.id c.args.self.now ≡ []) (sym c.in-Sems.is)
    (subst (λ (es : List (ℕ × Arrival)). on_object kinds.Sems c.args.id es ≡ []) c.self.view_is none)

pub returns-in-Segment : goal.returns-in-Segment
returns-in-Segment c clear =
    subst (λ (kind : Kind). on_object kind c.args.id c.args.self.now ≡ []) (sym c.in-Segment.is)
    (nobody_on_segment c.args.id c.args.self.now)
