-- the value of the digits so far
use Rattle.std.proofs.Common.{◌≡◌, ◌≤◌, true, take}
use Rattle.std.specs.Str.Parse.{digits_value}
use Rattle.ipc_words.proofs.NumberLemmas.{are_digits}
use Rattle.ipc_words.proofs.numbers.numeral.Given as goal

abbrev pub invariant-loop-digit : goal.invariant-loop-digit
invariant-loop-digit l = record {
  digits : are_digits l.base (take l.digit-index l.digits) ≡ true;
  value : l.value ≡ digits_value l.base (take l.digit-index l.digits);
  small : l.value ≤ l.most;
}
