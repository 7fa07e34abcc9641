use Rattle.std.proofs.Common.{◌≡◌, ◌+◌, ◌-◌, ◌^◌, ◌<◌, ◌≤◌, ◌++◌, drop}
use Rattle.std.specs.Prelude.{decimal}
use Rattle.sbpl_fixed.proofs.printed.decimal_before.Given as goal

abbrev pub invariant-loop-rest : goal.invariant-loop-rest
invariant-loop-rest l =
    record {
      digits : l.rest < 10 ^ (l.begin + 39 - l.at);
      low : l.at < l.begin + 39;
      high : l.begin ≤ l.at;
      small : l.rest < 10 ^ 39;
      text : decimal l.rest ++ drop l.begin l.buffer ≡ decimal l.n ++ drop l.at l.fn.buffer;
    }

abbrev pub decreases-loop-rest : goal.decreases-loop-rest
decreases-loop-rest l = l.rest
