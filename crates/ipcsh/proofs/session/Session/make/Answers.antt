use Rattle.std.specs.Prelude.{string_bytes}
use Rattle.ipcsh.proofs.CommandLemmas.{Leads-found, Leads-not_found, Leads-plain}
use Rattle.ipcsh.proofs.session.Session.make.Goals as goal

pub returns-in_ok-call-in-Plain-clause-does : goal.returns-in_ok-call-in-Plain-clause-does
returns-in_ok-call-in-Plain-clause-does g c =
    rw c.in-Plain.is (Leads-plain c.args.client c.in-Plain.call _ c.args.self.now c.call.new.self (string_bytes c.args.rows.now) (string_bytes c.call.new.rows) c.in_ok-call-in-Plain.ensures.does)

pub returns-in_ok-call-in-RemoveByKey-clause-does : goal.returns-in_ok-call-in-RemoveByKey-clause-does
returns-in_ok-call-in-RemoveByKey-clause-does g c =
    let got = rw (c.get_of.ensures, c.in-Some.is) at c.in_ok-id-in-RemoveByKey.ensures.does in
    rw c.in-RemoveByKey.is (Leads-found c.args.client c.in-RemoveByKey.kind c.in-RemoveByKey.key c.in-Some.id _ c.args.self.now c.call-in-RemoveByKey.new.self c.call-in-Some.new.self (string_bytes c.args.rows.now) (string_bytes c.call-in-RemoveByKey.new.rows) (string_bytes c.call-in-Some.new.rows) got c.in_ok-call-in-RemoveByKey.ensures.does)

pub returns-in_default-clause-does : goal.returns-in_default-clause-does
returns-in_default-clause-does g c =
    let got = rw (c.get_of.ensures, c.in_default.is) at c.in_ok-id-in-RemoveByKey.ensures.does in
    rw c.in-RemoveByKey.is (Leads-not_found c.args.client c.in-RemoveByKey.kind c.in-RemoveByKey.key c.args.self.now c.call-in-RemoveByKey.new.self (string_bytes c.args.rows.now) (string_bytes c.call-in-RemoveByKey.new.rows) got)
