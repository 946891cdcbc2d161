use Rattle.std.proofs.Common.{◌≡◌, ◌++◌, take}
use Rattle.std.specs.Prelude.{string_bytes, flat_map}
use Rattle.ipc_text.specs.Rows.{other_row}
use Rattle.ipcsh.proofs.session.Session.print_others.Given as goal

-- the replies so far are printed
abbrev pub invariant-loop-client : goal.invariant-loop-client
invariant-loop-client l =
    string_bytes l.rows ≡ string_bytes l.fn.rows ++ flat_map (other_row l.self.names) (take l.client-index l.others)
