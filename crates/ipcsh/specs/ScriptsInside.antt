-- What the fields of a script between two lines mean.
use Rattle.std.specs.Prelude.{map, string_bytes}
use Rattle.ipcsh.specs.Scripts.{Planned}
use Rattle.ipcsh.specs.declared.scripts.Planning.TheInside.{Inside}

abbrev pub planned_of : Inside → Planned
planned_of a = record {
  session = a.session;
  jobs = map (λ own. own.items) a.jobs.items;
  rows = string_bytes a.rows;
}
