-- What clients may do to an object.
use Rattle.std.specs.Prelude.{List, map}
use Rattle.ipc_live.specs.declared.objects.Object.{Object}
use Rattle.ipc_live.specs.declared.table.Told.{Told}
use Rattle.ipc_live.specs.Told.{told_of}
use Rattle.client_rights.specs.declared.rights.Client.{Client}

abbrev pub told_of_client : Object → Client → Told
told_of_client o c = told_of c.creds o

-- of each client, in order
abbrev pub all_told : Object → List Client → List Told
all_told o clients = map (told_of_client o) clients
