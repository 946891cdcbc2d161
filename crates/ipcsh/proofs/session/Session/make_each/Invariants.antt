use Rattle.std.proofs.Common.{◌≡◌, ◌++◌, length}
use Rattle.std.specs.Prelude.{string_bytes}
use Rattle.std.specs.Vec.Iter.{into_iter_items, into_iter_len}
use Rattle.ipcsh.specs.Commands.{parts_made}
use Rattle.ipcsh.specs.Leading.{Leads}
use Rattle.ipcsh.proofs.session.Session.make_each.Given as goal

-- the parts so far are made
abbrev pub invariant-loop-part : goal.invariant-loop-part
invariant-loop-part g l = record {
  split : l.yielded ++ into_iter_items l.part-iterator ≡ into_iter_items l.initial.part-iterator;
  count : into_iter_len l.part-iterator ≡ length (into_iter_items l.part-iterator);
  made : Leads (parts_made l.client l.yielded) (λ p. p) l.fn.self l.self (string_bytes l.fn.rows) (string_bytes l.rows);
  names : l.self.names ≡ l.fn.self.names;
  lines : l.self.lines ≡ l.fn.self.lines;
}
