-- What a list began with.
use Rattle.pub_list.specs.declared.list.List.{List}

-- the state that was handed in
abbrev pub opening_of : {S E C R : Type 0} → List S E C R → S
opening_of list = list.table.shared.key.1.value
