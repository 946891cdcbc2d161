use Rattle.std.proofs.Common.{refl, sym}
use Rattle.ipc_objects.proofs.Keyed.{AreKeyed-changed}
use Rattle.ipc_objects.proofs.objects.Objects.set_time.Goals as goal

pub invariant_of-self : goal.invariant_of-self
invariant_of-self g c = AreKeyed-changed c.self.inside.slots c.self.inside.keys c.self.invariant c.args.id c.in-Some.object.now _ (sym c.in-Some.ensures.value) refl
