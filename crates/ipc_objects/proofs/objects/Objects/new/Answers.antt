use Rattle.ipc_objects.proofs.Keyed.{AreKeyed-empty}
use Rattle.ipc_objects.proofs.objects.Objects.new.Goals as goal

pub invariant_of-result : goal.invariant_of-result
invariant_of-result g c = rw c.new.ensures (rw c.new-2.ensures (AreKeyed-empty c.args.slots _ c.requires))
