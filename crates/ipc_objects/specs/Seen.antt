-- A table of which a part is hidden: permissions and times are seen as they are, and of the contents what a
-- function shows.
use Rattle.ipc_ids.specs.Table.{Table}
use Rattle.ipc_ids.specs.Images.{image}
use Rattle.ipc_objects.specs.declared.object.Object.{Object}

abbrev pub seen : {X Y : Type 0} → (X → Y) → Object X → Object Y
seen f object = record { perm = object.perm; change_time = object.change_time; contents = f object.contents }

abbrev pub all_seen : {X Y : Type 0} → (X → Y) → Table (Object X) → Table (Object Y)
all_seen f t = image (seen f) t
