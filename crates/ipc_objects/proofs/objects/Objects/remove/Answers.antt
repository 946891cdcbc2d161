use Rattle.std.proofs.Common.{sym}
use Rattle.ipc_objects.proofs.Keyed.{AreKeyed-gone}
use Rattle.ipc_objects.proofs.objects.Objects.remove.Goals as goal

pub invariant_of-self : goal.invariant_of-self
invariant_of-self g c = rw c.in-Some.ensures.removed (rw c.unbind.ensures
    (AreKeyed-gone c.self.inside.slots c.self.inside.keys c.self.invariant c.args.id c.in-Some.object (sym c.in-Some.ensures.value)))
