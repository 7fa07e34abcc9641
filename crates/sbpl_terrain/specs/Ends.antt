-- The two ends of an arc.
use Rattle.std.specs.Prelude.{ℕ}
use Rattle.sbpl_terrain.specs.declared.arc_end.ArcEnd.{ArcEnd}
use Rattle.sbpl_terrain.specs.declared.arc_end.ArcEnd.TheVariants as end

-- the one or the other of the source and the head of an arc
abbrev pub at_end : ArcEnd → ℕ × ℕ → ℕ
at_end end.Source ends = ends.0
at_end end.Head ends = ends.1

-- the other end
abbrev pub other_end : ArcEnd → ArcEnd
other_end end.Source = end.Head
other_end end.Head = end.Source
