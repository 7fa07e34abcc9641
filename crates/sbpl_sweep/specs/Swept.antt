-- The sweeps of the primitives of a file.
use Rattle.std.specs.Prelude.{◌≡◌, ℕ, ℤ, ◌+◌, ◌^◌, ◌≤◌, List, length}
use Rattle.sbpl_mprim.specs.Primitives.{Primitives}
use Rattle.sbpl_sweep.specs.declared.cell.Cell.{Cell}
use Rattle.sbpl_sweep.specs.declared.reads.Read.{Read}
use Rattle.sbpl_sweep.specs.Reads.{HaveReads}
use Rattle.sbpl_sweep.specs.Tables.{HaveCentres, HaveSwept}

-- for one cell size and one radius in nanometres, the centre cells and the swept cells of each primitive, and the cells
-- that judging the primitives reads
pub record Swept : Type 0 where
  pub cell : ℤ
  pub radius : ℕ
  pub centres : List (List Cell)
  pub swept : List (List Cell)
  pub reads : List Read

-- both tables are for the same primitives, of which there are at most 4096, the radius is at most a kilometre, and there
-- are at most as many reads as cells that all primitives may sweep together, and one more for each primitive
pub record AreForFew (s : Swept) : Type 0 where
  pub same : length s.swept ≡ length s.centres
  pub few : length s.centres ≤ 4096
  pub radius : s.radius ≤ 10 ^ 12
  pub few_reads : length s.reads ≤ 2 ^ 22 + 4096

-- these are the sweeps of these primitives for a radius
pub record AreSweepsOf (prims : Primitives) (radius : ℕ) (s : Swept) : Type 0 where
  pub cell : s.cell ≡ prims.cell
  pub radius_is : s.radius ≡ radius
  pub centres : HaveCentres prims s.centres
  pub swept : HaveSwept prims radius s.swept
  pub reads : HaveReads prims radius s.reads
