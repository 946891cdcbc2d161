use Rattle.std.proofs.Common.{sym, subst, Ok}
use Rattle.journal_reader.specs.Reading.{Fetches, Gives, ReadsBy}
use Rattle.journal_reader.proofs.Fetched.{by-fetch}
use Rattle.journal_reader.proofs.states.Reader.read.Goals as goal
use Rattle.journal_reader.proofs.states.Reader.read.Goals.{then-is_read+in_ok-fetch, else-is_read}

pub returns : goal.returns
returns c =
    let v = c.args.self.now in let m = c.args.member.now in let out = c.args.out.now in
    let u = c.if-is_read.self in let n = c.if-is_read.member in let on = c.read_on in
    elim c.if-is_read.branch [
      | then-is_read+in_ok-fetch w ↦ subst (λ b. ReadsBy b v m out on.new.self n on.new.out on.result) w.if-is_read.ensures
          (by-fetch v u on.new.self m n out on.new.out on.result
          (subst (λ x. Fetches v m x n (Ok tt)) (sym w.self-is) (subst (λ x. Fetches v m w.fetch.new.self x (Ok tt)) (sym w.member-is) w.in_ok-fetch.ensures)) on.ensures)
      | else-is_read w ↦ subst (λ b. ReadsBy b v m out on.new.self n on.new.out on.result) w.if-is_read.ensures
          (w.member-is, subst (λ x. Gives x out on.new.self on.new.out on.result) w.self-is on.ensures)
    ]
