use Rattle.std.proofs.Common.{ℕ, ◌≡◌, List, [], length, take, arith, ap, ◌∙◌, sym, subst}
use Rattle.std.specs.Prelude.{Err}
use Rattle.std.specs.Io.KnownBytes.{Consumes}
use Rattle.std.proofs.KnownBytes.{Consumes-nil}
use Rattle.std.proofs.lemmas.List.{length-append, length-take}
use Rattle.std.proofs.lemmas.Result.{err_from_is_err_and}
use Rattle.ipcsh.specs.declared.runs.Fault.{Fault}
use Rattle.ipcsh.specs.declared.runs.Fault.TheVariants as faults
use Rattle.ipcsh.proofs.PieceLemmas.{ends_by, grown, no_memory, read_failed, read_whole, too_much}
use Rattle.ipcsh.proofs.pieces.read_pieces.Goals as goal

pub pieces-init : goal.pieces-init
pieces-init g c =
    let r = g.R.Read.remaining c.args.reader.now in
    record {
      read = subst (λ (bs : List ℕ). Consumes r r bs) (sym c.new-text.ensures.items) (Consumes-nil r);
      within = omega (arith, ap length c.new-text.ensures.items);
      piece = c.requires;
    }

pub returns-in_err-taken-clause-fault : goal.returns-in_err-taken-clause-fault
returns-in_err-taken-clause-fault g c =
    let p = err_from_is_err_and c.from_residual.result c.from_residual.ensures.1 in
    let h = c.pieces.invariant in
    ends_by _ _ c.from_residual.result faults.Read (p.1 ∙ ap (λ (f : Fault). Err f) (p.2 ∙ c.in_err-taken.ensures.fault)) (read_failed _ (g.R.Read.remaining c.pieces.reader) _ c.pieces.text.items h.within h.read c.in_err-taken.ensures.err)

pub returns-then-taken-eq0-clause-ok : goal.returns-then-taken-eq0-clause-ok
returns-then-taken-eq0-clause-ok g c =
    let h = c.pieces.invariant in
    let none : Consumes (g.R.Read.remaining c.pieces.reader) (g.R.Read.remaining c.read_piece.new.reader) [] = subst (λ (n : ℕ). Consumes (g.R.Read.remaining c.pieces.reader) (g.R.Read.remaining c.read_piece.new.reader) (take n c.read_piece.new.piece)) c.if-taken-eq0.true c.in_ok-taken.ensures.bytes in
    read_whole _ (g.R.Read.remaining c.pieces.reader) _ c.pieces.text.items h.within h.read none (c.in_ok-taken.ensures.end c.if-taken-eq0.true)

pub returns-then-len-eq-INPUT_MAX-clause-fault : goal.returns-then-len-eq-INPUT_MAX-clause-fault
returns-then-len-eq-INPUT_MAX-clause-fault g c =
    let h = c.pieces.invariant in
    let bytes = take c.in_ok-taken.taken c.read_piece.new.piece in
    let full : length c.pieces.text.items ≡ 16777216 = omega (arith, c.if-len-eq-INPUT_MAX.true, c.len-in-pieces.ensures) in
    let one : length bytes ≡ 1 = omega (arith, length-take c.in_ok-taken.taken c.read_piece.new.piece, c.room_after.ensures.one (omega (arith, c.if-len-eq-INPUT_MAX.true, c.len-in-pieces.ensures, c.len.ensures)), c.in_ok-taken.ensures.bound, c.if-taken-eq0.false, c.read_piece.auto.piece, h.piece) in
    too_much _ (g.R.Read.remaining c.pieces.reader) _ c.pieces.text.items bytes full one h.read c.in_ok-taken.ensures.bytes

pub pieces-preserved : goal.pieces-preserved
pieces-preserved g c =
    let h = c.pieces.invariant in
    let bytes = take c.in_ok-taken.taken c.read_piece.new.piece in
    let small = c.room_after.ensures.within (omega (arith, h.within, c.if-len-eq-INPUT_MAX.false, c.len-in-pieces.ensures, c.len.ensures)) in
    let e = c.in_ok-extend_from_slice.ensures.items in
    record {
      read = grown _ (g.R.Read.remaining c.pieces.reader) _ c.pieces.text.items bytes c.extend_from_slice.new.self.items h.read c.in_ok-taken.ensures.bytes e;
      within = omega (arith, ap length e, length-append c.pieces.text.items bytes, length-take c.in_ok-taken.taken c.read_piece.new.piece, small, c.len.ensures, c.in_ok-taken.ensures.bound);
      piece = c.read_piece.auto.piece ∙ h.piece;
    }

pub returns-in_err-extend_from_slice-clause-fault : goal.returns-in_err-extend_from_slice-clause-fault
returns-in_err-extend_from_slice-clause-fault g c =
    let p = err_from_is_err_and c.from_residual-in_err-extend_from_slice.result c.from_residual-in_err-extend_from_slice.ensures.1 in
    let h = c.pieces.invariant in
    let bytes = take c.in_ok-taken.taken c.read_piece.new.piece in
    let small = c.room_after.ensures.within (omega (arith, h.within, c.if-len-eq-INPUT_MAX.false, c.len-in-pieces.ensures, c.len.ensures)) in
    ends_by _ _ c.from_residual-in_err-extend_from_slice.result faults.Memory (p.1 ∙ ap (λ (f : Fault). Err f) p.2) (no_memory _ (g.R.Read.remaining c.pieces.reader) _ c.pieces.text.items bytes (omega (arith, length-take c.in_ok-taken.taken c.read_piece.new.piece, small, c.len.ensures, c.in_ok-taken.ensures.bound)) h.read c.in_ok-taken.ensures.bytes)
