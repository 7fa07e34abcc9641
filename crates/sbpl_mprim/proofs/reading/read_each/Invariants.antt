use Rattle.std.proofs.Common.{◌≡◌, ◌-◌, []}
use Rattle.sbpl_fixed.specs.Formats.{reads, turns}
use Rattle.sbpl_mprim.specs.Faults.{told}
use Rattle.sbpl_mprim.specs.Reading.{prim_turn}
use Rattle.sbpl_mprim.proofs.reading.read_each.Given as goal

-- what is left to read completes what was to be read
abbrev pub invariant-loop : goal.invariant-loop
invariant-loop l =
    reads told (turns (l.total - l.counter) (prim_turn l.cell l.headings) l.prims) l.reader
    ≡ reads told (turns l.total (prim_turn l.cell l.headings) []) l.initial.reader
