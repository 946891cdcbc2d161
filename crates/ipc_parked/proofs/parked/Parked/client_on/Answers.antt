use Rattle.std.proofs.Common.{◌≡◌, None, slice_get, subst, sym}
use Rattle.ipc_call.specs.declared.calls.Kind.{Kind}
use Rattle.ipc_parked.specs.Parked.{clients_on}
use Rattle.ipc_parked.proofs.Objects.{none_on_segment}
use Rattle.ipc_parked.proofs.parked.Parked.client_on.Goals as goal

pub returns-in-Segment : goal.returns-in-Segment
returns-in-Segment c =
    subst (λ (kind : Kind). None ≡ slice_get (clients_on kind c.args.id c.args.self.now) c.args.index) (sym c.in-Segment.is)
    (none_on_segment c.args.id c.args.index c.args.self.now)
