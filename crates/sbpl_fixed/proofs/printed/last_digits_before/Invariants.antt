use Rattle.std.proofs.Common.{◌≡◌, ◌+◌, ◌-◌, ◌++◌, drop}
use Rattle.sbpl_fixed.specs.Printed.{last_digits}
use Rattle.sbpl_fixed.proofs.printed.last_digits_before.Given as goal

abbrev pub invariant-loop : goal.invariant-loop
invariant-loop l =
    record {
      place : l.begin + l.counter ≡ l.at;
      text : last_digits (l.count - l.counter) l.rest ++ drop l.begin l.buffer
          ≡ last_digits l.count l.n ++ drop l.at l.fn.buffer;
    }
