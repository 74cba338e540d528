use Rattle.std.proofs.Common.{◌≡◌, take}
use Rattle.std.specs.Str.Parse.{AllDigits, digits_value}
use Rattle.ak_base.proofs.number.value_of_digits.Given as goal

abbrev pub invariant-loop-digit : goal.invariant-loop-digit
invariant-loop-digit l =
    record {
      digits : AllDigits 10 (take l.digit-index l.b);
      value : l.n ≡ digits_value 10 (take l.digit-index l.b);
    }
