-- What a lattice computes once, when it is made.
use Rattle.std.specs.Prelude.{◌≡◌, ℕ, ◌<◌, ◌≤◌, ◌==◌, List, take, map, count_by, slice_get, Some}
use Rattle.sbpl_sweep.specs.sbpl_cfg.Environment.{Environment}
use Rattle.sbpl_sweep.specs.sbpl_mprim.declared.prim.Primitive.{Primitive}
use Rattle.sbpl_sweep.specs.sbpl_mprim.Primitives.{Primitives}
use Rattle.sbpl_sweep.specs.declared.cell.Cell.{Cell}
use Rattle.sbpl_sweep.specs.sbpl_lists.Flags.{Flags}
use Rattle.sbpl_cost.specs.Walls.{AreWalls}
use Rattle.sbpl_cost.specs.declared.strip.Strip.{Strip}
use Rattle.sbpl_cost.specs.declared.gaps.Gaps.{Gaps}
use Rattle.sbpl_cost.specs.declared.reach.Reach.{Reach}
use Rattle.sbpl_cost.specs.declared.fault.LatticeFault.{LatticeFault}
use Rattle.sbpl_cost.specs.declared.fault.LatticeFault.TheVariants.{TooDear, NoMemory}
use Rattle.sbpl_cost.specs.PrimitiveCost.{primitive_cost, most_cost, IsFirstTooDear}
use Rattle.sbpl_cost.specs.Lattices.{leaving, entering}
use Rattle.sbpl_cost.specs.Checked.{HaveAlong, HaveAround}
use Rattle.sbpl_cost.specs.Rates.{AreGaps}
use Rattle.sbpl_cost.specs.Reaches.{HaveReaches}
use Rattle.sbpl_cost.specs.Ends.{heading_at}
use Rattle.sbpl_cost.specs.World.{World, IsWorld}
use Rattle.sbpl_terrain.specs.declared.arc_end.ArcEnd.{ArcEnd}
use Rattle.sbpl_terrain.specs.declared.arc_end.ArcEnd.TheVariants as end

-- each heading has the indices of the primitives that start at it
abbrev pub AreLeaving : Primitives → List (List ℕ) → Type 0
AreLeaving prims table = (t : ℕ) → t < prims.headings → slice_get table t ≡ Some (leaving prims.items t)

-- each heading has the indices of the primitives that end at it
abbrev pub AreEntering : Primitives → List (List ℕ) → Type 0
AreEntering prims table = (t : ℕ) → t < prims.headings → slice_get table t ≡ Some (entering prims.items t)

-- each primitive has its number among those with its heading at this end
abbrev pub AreNumbers : ArcEnd → List Primitive → List ℕ → Type 0
AreNumbers end prims numbers = (i : ℕ) (p : Primitive) → slice_get prims i ≡ Some p → slice_get numbers i ≡ Some (count_by (λ q. heading_at end q == heading_at end p) (take i prims))

-- no primitive is too dear, and each costs something
abbrev pub AreCheap : Environment → List Primitive → Type 0
AreCheap e prims = (i : ℕ) (p : Primitive) → slice_get prims i ≡ Some p → (1 ≤ primitive_cost e p) × (primitive_cost e p ≤ most_cost)

-- why a lattice is not made: the first primitive that is too dear, or out of memory
abbrev pub IsCause : Environment → List Primitive → LatticeFault → Type 0
IsCause e prims (TooDear i) = IsFirstTooDear e prims i
IsCause e prims NoMemory = Unit {0}

-- the tables of a lattice are those of its world
pub record AreTables (w : World) (starting ending : List (List ℕ)) (counted tails prices : List ℕ) (centres : List (List Cell)) (beside : List (List Strip)) (distances : List Reach) (obstacles : Flags) (gaps : Gaps) : Type 0 where
  pub world : IsWorld w
  pub leaving : AreLeaving w.prims starting
  pub entering : AreEntering w.prims ending
  pub numbers : AreNumbers end.Source w.prims.items counted
  pub tail_numbers : AreNumbers end.Head w.prims.items tails
  pub costs : prices ≡ map (primitive_cost w.env) w.prims.items
  pub along : HaveAlong w.prims centres
  pub around : HaveAround w.prims w.sweeps.radius beside
  pub reaches : HaveReaches w.prims beside distances
  pub walls : AreWalls w.env.obsthresh w.map.costs obstacles
  pub fractions : AreGaps w.env w.prims.items gaps
