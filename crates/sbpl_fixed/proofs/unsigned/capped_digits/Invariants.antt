use Rattle.std.proofs.Common.{◌≡◌, ◌≤◌, min, drop}
use Rattle.sbpl_fixed.specs.Numbers.{number_after, number_of}
use Rattle.sbpl_fixed.proofs.unsigned.capped_digits.Given as goal

abbrev pub invariant-loop-digit : goal.invariant-loop-digit
invariant-loop-digit l =
    record {
      bound : l.value ≤ l.cap;
      number : min l.cap (number_after l.value (drop l.digit-index l.digits)) ≡ min l.cap (number_of l.digits);
    }
