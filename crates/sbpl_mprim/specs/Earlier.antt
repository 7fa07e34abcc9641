-- What is kept of the primitives read so far.
use Rattle.std.specs.Prelude.{◌≡◌, ℕ, ◌≤◌, List, sum_by}
use Rattle.std.specs.BTreeSet.{BTreeSet, contains}
use Rattle.std.specs.Ordering.{nat_cmp, ordering_then}
use Rattle.std.specs.declared.cmp.Ordering.{Ordering}
use Rattle.sbpl_mprim.specs.declared.prim.Primitive.{Primitive}
use Rattle.sbpl_mprim.specs.Judging.{has_id}
use Rattle.sbpl_mprim.specs.Primitives.{pose_count}

-- pairs of a start heading and an id, by the heading first
abbrev pub id_cmp : ℕ × ℕ → ℕ × ℕ → Ordering
id_cmp x y = ordering_then (nat_cmp x.0 y.0) (nat_cmp x.1 y.1)

-- the set has the pairs of a start heading and an id that are taken, and the poses are counted
pub record IsKept (prims : List Primitive) (set : BTreeSet (ℕ × ℕ)) (count : ℕ) : Type 0 where
  pub ids : (from id : ℕ) → contains id_cmp set (from, id) ≡ has_id prims from id
  pub poses : count ≡ sum_by pose_count prims
  pub few : count ≤ 200000
