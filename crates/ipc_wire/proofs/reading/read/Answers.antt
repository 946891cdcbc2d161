use Rattle.std.proofs.Common.{sym, ◌∙◌, arith}
use Rattle.std.proofs.lemmas.List.{take_rest}
use Rattle.ipc_wire.proofs.Decoded.{err_along, ok_along}
use Rattle.ipc_wire.proofs.reading.read.Goals as goal

pub returns-in-Some-clause-ok : goal.returns-in-Some-clause-ok
returns-in-Some-clause-ok c =
    ok_along c.args.bytes.now _ c.read-words.result c.in-Some.operation c.read_words.result (omega (arith, c.if-bytes-lt-WORDS_LEN.false))
    (take_rest c.args.bytes.now 48) c.read-words.ensures (sym c.from_code.ensures ∙ c.in-Some.is) c.read_words.ensures.ok

pub returns-in-Some-clause-err : goal.returns-in-Some-clause-err
returns-in-Some-clause-err c =
    err_along c.args.bytes.now _ c.read-words.result c.in-Some.operation c.read_words.result (omega (arith, c.if-bytes-lt-WORDS_LEN.false))
    (take_rest c.args.bytes.now 48) c.read-words.ensures (sym c.from_code.ensures ∙ c.in-Some.is) c.read_words.ensures.err
