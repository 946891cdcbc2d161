-- The kind and the identifier of an object.
use Rattle.std.specs.Prelude.{ℕ}
use Rattle.ipc_call.specs.declared.calls.Kind.{Kind}
use Rattle.ipc_call.specs.declared.calls.Kind.TheVariants as kinds
use Rattle.call_values.specs.declared.ids.Object.{Object}
use Rattle.call_values.specs.declared.ids.Object.TheVariants.{Queue, Set, Segment}

abbrev pub kind_of : Object → Kind
kind_of (Queue queue) = kinds.Queue
kind_of (Set set) = kinds.Sems
kind_of (Segment segment) = kinds.Segment

abbrev pub id_of : Object → ℕ
id_of (Queue queue) = queue.0
id_of (Set set) = set.0
id_of (Segment segment) = segment.0
