use Rattle.std.proofs.Common.{◌≡◌, ◌*◌, ◌+◌, ◌<◌, arith, sym, ◌∙◌}
use Rattle.ipc_words.proofs.NumberLemmas.{are_digits_next, too_large_next, value_next}
use Rattle.ipc_words.proofs.numbers.numeral.Goals as goal

pub returns-in_err-checked_mul-clause-value : goal.returns-in_err-checked_mul-clause-value
returns-in_err-checked_mul-clause-value c =
    let no = rw c.from.ensures at c.in_err-checked_mul.ensures in
    let over : c.args.most < c.loop-digit.value * c.args.base + c.in_ok-to_digit.field-0 = omega (arith, no) in
    c.from_residual-in_err-checked_mul.ensures ∙ sym (too_large_next c.args.base c.args.most _ _ c.args.digits.now c.loop-digit.digit-index (omega arith) c.loop-digit-test.true c.loop-digit.invariant.value c.in_ok-to_digit.ensures.value.1 over)

pub returns-in_err-value-clause-value : goal.returns-in_err-value-clause-value
returns-in_err-value-clause-value c =
    let product = rw c.from.ensures at c.in_ok-checked_mul.ensures in
    let over : c.args.most < c.loop-digit.value * c.args.base + c.in_ok-to_digit.field-0 = omega (arith, product, c.in_err-value.ensures) in
    c.from_residual-in_err-value.ensures ∙ sym (too_large_next c.args.base c.args.most _ _ c.args.digits.now c.loop-digit.digit-index (omega arith) c.loop-digit-test.true c.loop-digit.invariant.value c.in_ok-to_digit.ensures.value.1 over)

pub returns-then-value-most-clause-value : goal.returns-then-value-most-clause-value
returns-then-value-most-clause-value c =
    let product = rw c.from.ensures at c.in_ok-checked_mul.ensures in
    let over : c.args.most < c.loop-digit.value * c.args.base + c.in_ok-to_digit.field-0 = omega (arith, product, c.in_ok-value.ensures) in
    sym (too_large_next c.args.base c.args.most _ _ c.args.digits.now c.loop-digit.digit-index (omega arith) c.loop-digit-test.true c.loop-digit.invariant.value c.in_ok-to_digit.ensures.value.1 over)

pub loop-digit-preserved : goal.loop-digit-preserved
loop-digit-preserved c =
    let product = rw c.from.ensures at c.in_ok-checked_mul.ensures in
    let value : c.in_ok-value.value ≡ c.loop-digit.value * c.args.base + c.in_ok-to_digit.field-0 = omega (arith, product, c.in_ok-value.ensures) in
    record {
      digits = are_digits_next c.args.base c.args.digits.now c.loop-digit.digit-index c.loop-digit-test.true c.loop-digit.invariant.digits (grind (arith, c.in_ok-to_digit.ensures.value));
      value = value ∙ value_next c.args.base c.loop-digit.value c.in_ok-to_digit.field-0 c.args.digits.now c.loop-digit.digit-index c.loop-digit-test.true c.loop-digit.invariant.value c.in_ok-to_digit.ensures.value.1;
      small = omega arith;
    }
