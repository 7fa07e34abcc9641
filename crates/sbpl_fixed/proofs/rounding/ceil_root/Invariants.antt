use Rattle.std.proofs.Common.{◌*◌, ◌-◌, ◌^◌, ◌<◌, ◌≤◌}
use Rattle.sbpl_fixed.proofs.rounding.ceil_root.Given as goal

abbrev pub invariant-loop-low : goal.invariant-loop-low
invariant-loop-low l =
    record {
      apart : l.low < l.high;
      small : l.high ≤ 2 ^ 63;
      too_small : l.low * l.low < l.n;
      enough : l.n ≤ l.high * l.high;
    }

abbrev pub decreases-loop-low : goal.decreases-loop-low
decreases-loop-low l = l.high - l.low
