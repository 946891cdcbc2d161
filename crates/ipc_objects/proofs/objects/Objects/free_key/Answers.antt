use Rattle.std.proofs.Common.{refl, sym}
use Rattle.ipc_objects.proofs.Keyed.{AreKeyed-freed}
use Rattle.ipc_objects.proofs.objects.Objects.free_key.Goals as goal

pub invariant_of-self : goal.invariant_of-self
invariant_of-self g c = rw c.unbind.ensures
    (AreKeyed-freed c.self.inside.slots c.self.inside.keys c.self.invariant c.args.id c.in-Some.object.now _ (sym c.in-Some.ensures.value) refl)
