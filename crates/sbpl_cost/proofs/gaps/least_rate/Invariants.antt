use Rattle.std.proofs.Common.{◌≡◌, ℕ, take}
use Rattle.sbpl_cost.specs.Gaps.{least_floor}
use Rattle.sbpl_cost.specs.Rates.{floor_at}
use Rattle.sbpl_cost.proofs.gaps.least_rate.Given as goal

abbrev pub invariant-loop-i : goal.invariant-loop-i
invariant-loop-i l = (n : ℕ) → floor_at l.least n ≡ least_floor l.env l.way n (take l.i l.prims)
