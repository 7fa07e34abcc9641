-- The headings at the two ends of an arc.
use Rattle.std.specs.Prelude.{ℕ}
use Rattle.sbpl_sweep.specs.sbpl_mprim.declared.prim.Primitive.{Primitive}
use Rattle.sbpl_terrain.specs.declared.arc_end.ArcEnd.{ArcEnd}
use Rattle.sbpl_terrain.specs.declared.arc_end.ArcEnd.TheVariants as end

-- the heading at an end of the motion by a primitive
abbrev pub heading_at : ArcEnd → Primitive → ℕ
heading_at end.Source p = p.from
heading_at end.Head p = p.to
