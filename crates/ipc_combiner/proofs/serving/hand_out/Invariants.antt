use Rattle.pub_list.specs.Clients.{view, IsSame}
use Rattle.pub_list.specs.Passing.{IsAsFar}
use Rattle.ipc_combiner.specs.Serving.{IsHanding, HasKept}
use Rattle.ipc_combiner.proofs.serving.hand_out.Given as goal

abbrev pub invariant-loop-told : goal.invariant-loop-told
invariant-loop-told l = IsSame l.fn.combiner l.combiner × IsHanding l.list.clients (view l.combiner) l.state l.told-iterator.rest.items × IsAsFar (view l.fn.combiner) (view l.combiner) × HasKept (view l.fn.combiner) (view l.combiner)
