use Rattle.std.proofs.Common.{Some, option_map, box_value, refl, sym, subst}
use Rattle.std.specs.Box.{with_value}
use Rattle.journal_reader.specs.Reading.{Reads}
use Rattle.ipc_seat.specs.Journals.{journal_of, ReadsIn}
use Rattle.ipc_seat.specs.Seats.{Answered, Idle, state_with}
use Rattle.ipc_seat.specs.declared.seat.Phase.TheVariants as phases
use Rattle.ipc_seat.specs.declared.seat.Seat.{Seat}
use Rattle.ipc_seat.proofs.seat.Seat.read_journal.Goals as goal

pub returns-in-Idle : goal.returns-in-Idle
returns-in-Idle c =
    let v = c.args.self.now in let out = c.args.out.now in let later = c.read.new.out in let m = c.in-Idle.member in
    let w : Seat = record v { phase = phases.Idle c.read.new.member; journal = Some (with_value c.in-Some.reader c.read.new.self) } in
    let reads = subst (λ r. Reads r m out c.read.new.self c.read.new.member later c.read.result) c.deref_mut.ensures.value c.read.ensures in
    subst (λ p. ReadsIn (state_with v.reply p) (journal_of v) v out w later c.told.result) (sym c.in-Idle.is)
    (subst (λ j. ReadsIn (Idle m) (option_map (λ r. box_value r) j) v out w later c.told.result) (sym c.in-Some.is)
    (c.read.new.self, c.read.new.member, c.read.result, reads, refl, refl, c.told.ensures))

pub returns-in-Answered : goal.returns-in-Answered
returns-in-Answered c =
    let read = c.read-in-Answered in let told = c.told-in-Answered in
    let v = c.args.self.now in let out = c.args.out.now in let later = read.new.out in let m = c.in-Answered.member in
    let w : Seat = record v { phase = phases.Answered read.new.member; journal = Some (with_value c.in-Some.reader read.new.self) } in
    let reads = subst (λ r. Reads r m out read.new.self read.new.member later read.result) c.deref_mut-in-Answered.ensures.value read.ensures in
    subst (λ p. ReadsIn (state_with v.reply p) (journal_of v) v out w later told.result) (sym c.in-Answered.is)
    (subst (λ j. ReadsIn (Answered m v.reply) (option_map (λ r. box_value r) j) v out w later told.result) (sym c.in-Some.is)
    (read.new.self, read.new.member, read.result, reads, refl, refl, told.ensures))
