use Rattle.std.proofs.Common.{◌≡◌, length}
use Rattle.sbpl_live.specs.Reading.{are_pairs}
use Rattle.sbpl_map.specs.Fields.{fields}
use Rattle.sbpl_live.proofs.setting.are_pairs.Given as goal

abbrev pub invariant-loop-word : goal.invariant-loop-word
invariant-loop-word l = are_pairs (fields l.line) ≡ are_pairs (fields l.rest)

abbrev pub decreases-loop-word : goal.decreases-loop-word
decreases-loop-word l = length (fields l.rest)
