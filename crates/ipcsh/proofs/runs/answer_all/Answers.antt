use Rattle.std.proofs.Common.{ℕ, ◌+◌, ◌≤◌, [], ◌++◌, length, take, arith, ap, ◌∙◌, subst}
use Rattle.std.specs.Prelude.{Err, string_bytes}
use Rattle.std.specs.Io.KnownBytes.{Consumes}
use Rattle.std.proofs.lemmas.List.{length-take, length-append}
use Rattle.std.proofs.lemmas.Result.{err_from_is_err_and}
use Rattle.ipcsh.specs.declared.runs.Fault.{Fault}
use Rattle.ipcsh.specs.declared.runs.Fault.TheVariants as faults
use Rattle.ipcsh.specs.Inputs.{Takes}
use Rattle.ipcsh.specs.Runs.{summary_of}
use Rattle.ipcsh.specs.Session.{Session}
use Rattle.ipcsh.proofs.RunLemmas.{Going-start, Going-on, at_read_error, at_too_much, at_no_memory, at_write_error, at_end, at_end_write_error, stops_at}
use Rattle.ipcsh.proofs.runs.answer_all.Goals as goal

pub pieces-init : goal.pieces-init
pieces-init g c =
    let e = c.requires in
    record {
      going = ([], [], omega arith, Going-start (g.R.Read.remaining c.args.reader.now) (g.W.Write.contents c.args.writer.now) c.args.input.now e.session e.pending e.rows);
      within = omega arith;
      lines = omega (arith, ap (λ (s : Session). s.lines) e.session);
      piece = e.piece;
    }

pub returns-in_err-taken-clause-fault : goal.returns-in_err-taken-clause-fault
returns-in_err-taken-clause-fault g c =
    let p = err_from_is_err_and c.from_residual.result c.from_residual.ensures.1 in
    let h = c.pieces.invariant.going in
    stops_at _ c.from_residual.result faults.Read (p.1 ∙ ap (λ (f : Fault). Err f) (p.2 ∙ c.in_err-taken.ensures.fault)) (at_read_error _ (g.R.Read.remaining c.pieces.reader) _ _ _ h.0 h.1 c.pieces.input h.3 c.in_err-taken.ensures.err)

pub returns-in_err-finish-clause-fault : goal.returns-in_err-finish-clause-fault
returns-in_err-finish-clause-fault g c =
    let p = err_from_is_err_and c.from_residual-in_err-finish.result c.from_residual-in_err-finish.ensures.1 in
    let h = c.pieces.invariant.going in
    let none : Consumes (g.R.Read.remaining c.pieces.reader) (g.R.Read.remaining c.read_piece.new.reader) [] = subst (λ (n : ℕ). Consumes (g.R.Read.remaining c.pieces.reader) (g.R.Read.remaining c.read_piece.new.reader) (take n c.read_piece.new.piece)) c.if-taken-eq0.true c.in_ok-taken.ensures.bytes in
    stops_at _ c.from_residual-in_err-finish.result faults.Memory (p.1 ∙ ap (λ (f : Fault). Err f) p.2) (at_no_memory _ _ _ _ _ h.0 h.1 [] c.pieces.input h.3 (omega (arith, h.3.within)) none)

pub returns-in_err-flush-clause-fault : goal.returns-in_err-flush-clause-fault
returns-in_err-flush-clause-fault g c =
    let p = err_from_is_err_and c.from_residual-in_err-flush.result c.from_residual-in_err-flush.ensures.1 in
    let h = c.pieces.invariant.going in
    let none : Consumes (g.R.Read.remaining c.pieces.reader) (g.R.Read.remaining c.read_piece.new.reader) [] = subst (λ (n : ℕ). Consumes (g.R.Read.remaining c.pieces.reader) (g.R.Read.remaining c.read_piece.new.reader) (take n c.read_piece.new.piece)) c.if-taken-eq0.true c.in_ok-taken.ensures.bytes in
    let e = c.in_err-flush.ensures.err in
    stops_at _ c.from_residual-in_err-flush.result faults.Write (p.1 ∙ ap (λ (f : Fault). Err f) (p.2 ∙ c.in_err-flush.ensures.fault)) (at_end_write_error _ _ _ _ _ _ h.0 h.1 e.0 e.1 c.pieces.input c.finish.new.self h.3 none (c.in_ok-taken.ensures.end c.if-taken-eq0.true) (c.in_ok-finish.ensures h.0 h.1 h.3.held) e.2 e.3)

pub returns-then-taken-eq0-clause-ok : goal.returns-then-taken-eq0-clause-ok
returns-then-taken-eq0-clause-ok g c =
    let h = c.pieces.invariant.going in
    let none : Consumes (g.R.Read.remaining c.pieces.reader) (g.R.Read.remaining c.read_piece.new.reader) [] = subst (λ (n : ℕ). Consumes (g.R.Read.remaining c.pieces.reader) (g.R.Read.remaining c.read_piece.new.reader) (take n c.read_piece.new.piece)) c.if-taken-eq0.true c.in_ok-taken.ensures.bytes in
    at_end _ _ _ _ _ _ h.0 h.1 c.pieces.input c.finish.new.self c.summary.result h.3 none (c.in_ok-taken.ensures.end c.if-taken-eq0.true) (c.in_ok-finish.ensures h.0 h.1 h.3.held) c.in_ok-flush.ensures.ok (c.summary.ensures ∙ ap (λ (s : Session). summary_of s) (c.tell_end.ensures ∙ c.in_ok-flush.ensures.session))

pub returns-then-count-eq-INPUT_MAX-clause-fault : goal.returns-then-count-eq-INPUT_MAX-clause-fault
returns-then-count-eq-INPUT_MAX-clause-fault g c =
    let h = c.pieces.invariant.going in
    let bytes = take c.in_ok-taken.taken c.read_piece.new.piece in
    at_too_much _ _ _ _ _ h.0 h.1 bytes c.pieces.input h.3 (h.2 ∙ c.if-count-eq-INPUT_MAX.true) (omega (arith, length-take c.in_ok-taken.taken c.read_piece.new.piece, c.room_after.ensures.one c.if-count-eq-INPUT_MAX.true, c.in_ok-taken.ensures.bound)) c.in_ok-taken.ensures.bytes

pub returns-in_err-take-clause-fault : goal.returns-in_err-take-clause-fault
returns-in_err-take-clause-fault g c =
    let p = err_from_is_err_and c.from_residual-in_err-take.result c.from_residual-in_err-take.ensures.1 in
    let h = c.pieces.invariant.going in
    let bytes = take c.in_ok-taken.taken c.read_piece.new.piece in
    stops_at _ c.from_residual-in_err-take.result faults.Memory (p.1 ∙ ap (λ (f : Fault). Err f) p.2) (at_no_memory _ _ _ _ _ h.0 h.1 bytes c.pieces.input h.3 (omega (arith, h.2, length-take c.in_ok-taken.taken c.read_piece.new.piece, c.room_after.ensures.within (omega (arith, c.pieces.invariant.within, c.if-count-eq-INPUT_MAX.false)), c.in_ok-taken.ensures.bound)) c.in_ok-taken.ensures.bytes)

pub pieces-preserved : goal.pieces-preserved
pieces-preserved g c =
    let h = c.pieces.invariant.going in
    let bytes = take c.in_ok-taken.taken c.read_piece.new.piece in
    let small : length h.0 + length bytes ≤ 16777216 = omega (arith, h.2, length-take c.in_ok-taken.taken c.read_piece.new.piece, c.room_after.ensures.within (omega (arith, c.pieces.invariant.within, c.if-count-eq-INPUT_MAX.false)), c.in_ok-taken.ensures.bound) in
    let takes : Takes c.pieces.input bytes c.take.new.self = c.in_ok-take.ensures.takes in
    let e = c.in_ok-flush-2.ensures in
    record {
      going = (h.0 ++ bytes, h.1 ++ string_bytes c.take.new.self.rows, omega (arith, h.2, length-append h.0 bytes, length-take c.in_ok-taken.taken c.read_piece.new.piece, c.in_ok-taken.ensures.bound), Going-on _ _ _ _ _ _ h.0 h.1 bytes c.pieces.input c.take.new.self c.flush-in-pieces.new.self h.3 small c.in_ok-taken.ensures.bytes takes e.ok e.session e.pending e.rows);
      within = omega (arith, c.room_after.ensures.within (omega (arith, c.pieces.invariant.within, c.if-count-eq-INPUT_MAX.false)), c.in_ok-taken.ensures.bound);
      lines = omega (arith, ap (λ (s : Session). s.lines) e.session, c.in_ok-take.ensures.lines, c.pieces.invariant.lines, length-take c.in_ok-taken.taken c.read_piece.new.piece);
      piece = c.read_piece.auto.piece ∙ c.pieces.invariant.piece;
    }

pub returns-in_err-flush-2-clause-fault : goal.returns-in_err-flush-2-clause-fault
returns-in_err-flush-2-clause-fault g c =
    let p = err_from_is_err_and c.from_residual-in_err-flush-2.result c.from_residual-in_err-flush-2.ensures.1 in
    let h = c.pieces.invariant.going in
    let bytes = take c.in_ok-taken.taken c.read_piece.new.piece in
    let small : length h.0 + length bytes ≤ 16777216 = omega (arith, h.2, length-take c.in_ok-taken.taken c.read_piece.new.piece, c.room_after.ensures.within (omega (arith, c.pieces.invariant.within, c.if-count-eq-INPUT_MAX.false)), c.in_ok-taken.ensures.bound) in
    let takes : Takes c.pieces.input bytes c.take.new.self = c.in_ok-take.ensures.takes in
    let e = c.in_err-flush-2.ensures.err in
    stops_at _ c.from_residual-in_err-flush-2.result faults.Write (p.1 ∙ ap (λ (f : Fault). Err f) (p.2 ∙ c.in_err-flush-2.ensures.fault)) (at_write_error _ _ _ _ _ _ h.0 h.1 bytes e.0 e.1 c.pieces.input c.take.new.self h.3 small c.in_ok-taken.ensures.bytes takes e.2 e.3)
