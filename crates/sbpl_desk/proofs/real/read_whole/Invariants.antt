-- What was consumed stands in `into`.
use Rattle.std.proofs.Common.{◌-◌, ◌+◌, ◌^◌, ◌≤◌, vec_len}
use Rattle.std.specs.Io.KnownBytes.{Consumes}
use Rattle.sbpl_desk.proofs.real.read_whole.Given as goal

abbrev pub invariant-loop-piece : goal.invariant-loop-piece
invariant-loop-piece g l =
    Consumes (g.F.Read.remaining l.initial.file) (g.F.Read.remaining l.file) l.into.items
    × (vec_len l.into ≤ 2 ^ 30 + 1)

abbrev pub decreases-loop-piece : goal.decreases-loop-piece
decreases-loop-piece g l = 2 ^ 30 + 1 - vec_len l.into
