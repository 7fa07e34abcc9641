use Rattle.std.proofs.Common.{◌≡◌, ℕ, ◌-◌, ◌<◌, ◌≤◌, false}
use Rattle.sbpl_lists.specs.Flags.{is_set}
use Rattle.sbpl_lists.proofs.bits.Bits.none_between.Given as goal

abbrev pub invariant-loop-at : goal.invariant-loop-at
invariant-loop-at l = record {
  begun : l.from ≤ l.at;
  none : (i : ℕ) → l.from ≤ i → i < l.at → is_set l.self i ≡ false;
}

abbrev pub decreases-loop-at : goal.decreases-loop-at
decreases-loop-at l = l.to - l.at
