use Rattle.std.proofs.Common.{◌≡◌, ◌-◌}
use Rattle.msg_queue.specs.Links.{first_place, other_type, walk}
use Rattle.slab.specs.Slab.{slab_len}
use Rattle.msg_queue.proofs.nodes.first_unlike.Given as goal

abbrev pub invariant-loop : goal.invariant-loop
invariant-loop l =
    first_place (other_type l.other.mtype) (walk (l.end - l.counter) l.nodes l.at) ≡ first_place (other_type l.other.mtype) (walk (slab_len l.nodes) l.nodes l.fn.first)
