use Rattle.std.proofs.Common.{◌≡◌, pos, ◌++◌, take}
use Rattle.std.specs.List.{filter_map}
use Rattle.sbpl_cost.specs.Reading.{end_of_read}
use Rattle.sbpl_cost.proofs.reading.push_ends.Given as goal

abbrev pub invariant-loop-read : goal.invariant-loop-read
invariant-loop-read l =
    l.into.items ≡ l.fn.into.items
    ++ filter_map (end_of_read l.end l.env l.prims.items (pos l.x) (pos l.y)) (take l.read-index l.reads)
