use Rattle.std.proofs.Common.{◌≡◌, ◌+◌, ◌≤◌, length}
use Rattle.std.specs.Str.Lines.{lines}
use Rattle.sbpl_map.specs.Reading.{Drafted, kept_of, reads_on, told_by}
use Rattle.sbpl_map.proofs.read.read_lines.Given as goal

-- what is left to read completes all that is to be read
abbrev pub invariant-loop-rest : goal.invariant-loop-rest
invariant-loop-rest l =
    (d : Drafted) × (l.draft ≡ kept_of d)
    × (reads_on l.states l.map l.headings l.number (lines l.rest) d ≡ told_by l.states l.map l.headings l.text)
    × (l.number + length l.rest ≤ length l.text + 1)
    × (length d.done + 1 ≤ l.number)

abbrev pub decreases-loop-rest : goal.decreases-loop-rest
decreases-loop-rest l = length l.rest
