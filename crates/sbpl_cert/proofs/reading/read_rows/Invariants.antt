use Rattle.std.proofs.Common.{◌≡◌, ◌-◌}
use Rattle.sbpl_fixed.specs.Formats.{reads, turns}
use Rattle.sbpl_cert.specs.Faults.{told}
use Rattle.sbpl_cert.specs.Format.{row_turn}
use Rattle.sbpl_cert.proofs.reading.read_rows.Given as goal

-- what is left to read completes what was to be read
abbrev pub invariant-loop : goal.invariant-loop
invariant-loop l =
    reads told (turns (l.count - l.counter) row_turn l.rows.items) l.reader
    ≡ reads told (turns l.count row_turn l.initial.rows.items) l.initial.reader
