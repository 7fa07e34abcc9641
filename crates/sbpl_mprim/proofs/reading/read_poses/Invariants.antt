use Rattle.std.proofs.Common.{◌≡◌, ◌+◌, ◌-◌, vec_len}
use Rattle.sbpl_fixed.specs.Formats.{reads, turns}
use Rattle.sbpl_mprim.specs.Faults.{told}
use Rattle.sbpl_mprim.specs.Reading.{pose_turn}
use Rattle.sbpl_mprim.proofs.reading.read_poses.Given as goal

-- what is left to read completes what was to be read
abbrev pub invariant-loop : goal.invariant-loop
invariant-loop l = record {
  read : reads told (turns (l.count - l.counter) pose_turn l.poses.items) l.reader
      ≡ reads told (turns l.count pose_turn l.initial.poses.items) l.initial.reader;
  count : vec_len l.poses ≡ vec_len l.initial.poses + l.counter;
}
