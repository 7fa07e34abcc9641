use Rattle.std.proofs.Common.{◌≡◌, length}
use Rattle.sbpl_live.specs.Settings.{given}
use Rattle.sbpl_map.specs.Fields.{fields}
use Rattle.sbpl_live.proofs.setting.given.Given as goal

abbrev pub invariant-loop-name : goal.invariant-loop-name
invariant-loop-name l = given l.word (fields l.line) ≡ given l.word (fields l.rest)

abbrev pub decreases-loop-name : goal.decreases-loop-name
decreases-loop-name l = length (fields l.rest)
