use Rattle.std.proofs.Common.{◌≡◌, ◌-◌, []}
use Rattle.sbpl_fixed.specs.Formats.{reads, turns}
use Rattle.sbpl_terrain.specs.sbpl_cfg.Faults.{told}
use Rattle.sbpl_nav2d.specs.Format.{cost_format}
use Rattle.sbpl_nav2d.proofs.read.costs.Given as goal

-- what is left to read completes all that is to be read
abbrev pub invariant-loop : goal.invariant-loop
invariant-loop l =
    reads told (turns (l.count - l.counter) cost_format l.costs.items) l.reader ≡ reads told
    (turns l.count cost_format []) l.initial.reader
