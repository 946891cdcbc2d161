-- What reading comes to where rows were fetched first.
use Rattle.std.proofs.Common.{ℕ, true, List, Result, Ok, Err, inl}
use Rattle.ipc_member.specs.declared.states.Member.{Member}
use Rattle.journal_reader.specs.Reading.{Fetches, Gives, ReadsBy}
use Rattle.journal_reader.specs.declared.states.Reader.{Reader}
use Rattle.journal_reader.specs.declared.states.Unread.{Unread}

pub by-fetch : (v u w : Reader) (m m' : Member) (out out' : List ℕ) (result : Result ℕ Unread) → Fetches v m u m' (Ok tt) → Gives u out w out' result
    → ReadsBy true v m out w m' out' result
by-fetch v u w m m' out out' (Ok n) fetches gives = (u, fetches, gives)
by-fetch v u w m m' out out' (Err e) fetches gives = inl (u, fetches, gives)
